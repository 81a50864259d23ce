-- The text of the tokens of a value.
use Rattle.std.proofs.Common.{◌≡◌, List, [], false, sym, ap, ◌∙◌}
use Rattle.json.specs.Token.{Token}
use Rattle.json.specs.Lex.{tokens}
use Rattle.json.specs.Print.{print}
use Rattle.serde_json.specs.Data.{Data}
use Rattle.serde_json.specs.Written.{WritesValue, has_float, compact_text}
use Rattle.serde_json.proofs.Texts.{tokens_from_order, print-outline}

-- without a float, it is the compact text of the value
pub print_is_compact : (d : Data) (ts : List Token) → WritesValue d [] ts → tokens (print ts) ≡ ts → has_float d ≡ false → print ts ≡ compact_text d
print_is_compact d ts w same bare = ap print (sym same ∙ tokens_from_order (print ts) d (w.0, same ∙ w.1, w.4) bare) ∙ print-outline d
