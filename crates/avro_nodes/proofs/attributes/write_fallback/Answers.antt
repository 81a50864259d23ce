use Rattle.std.proofs.Common.{ℕ, List, Option, Some, String, Global, string_bytes, option_map, sym, ap, ◌∙◌}
use Rattle.std.specs.Prelude.{codes}
use Rattle.std.proofs.lemmas.Result.{on_ok_weaker}
use Rattle.serde_json.specs.Data.{string}
use Rattle.serde_json.specs.View.{members_view}
use Rattle.avro_nodes.proofs.Written.{attribute_is}
use Rattle.avro_nodes.proofs.attributes.write_fallback.Goals as goal

pub returns-in-Some : goal.returns-in-Some
returns-in-Some c =
    let is = ap (λ (o : Option (String Global)). option_map string (option_map string_bytes o)) c.in-Some.is ∙ ap (λ (s : List ℕ). Some (string s)) (sym c.as_str.ensures.value) in
    on_ok_weaker c.write_text.result (λ w.
    attribute_is (codes "default") (option_map string (option_map string_bytes c.args.fallback.now)) (Some (string c.as_str.result.now)) (members_view c.args.others.now) (members_view c.write_text.new.others) c.args.out.now c.write_text.new.out is w) c.write_text.ensures
