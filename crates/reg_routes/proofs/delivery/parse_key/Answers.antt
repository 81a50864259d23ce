use Rattle.std.proofs.Common.{◌≡◌, ℕ, Bool, true, false, List, refl, sym, ap, ◌∙◌}
use Rattle.std.specs.Prelude.{Option, Some, None, SomeIff, cond}
use Rattle.reg_core.specs.Keys.{IsKey}
use Rattle.reg_routes.specs.Keys.{is_key}
use Rattle.reg_routes.proofs.Keys.{is_key-true, is_key-from, IsKey-utf8}
use Rattle.reg_routes.proofs.delivery.parse_key.Goals as goal

parsed : (text : List ℕ) (o : Option (List ℕ)) → SomeIff o (IsKey text) text → o ≡ cond (is_key text) (Some text) None
parsed text None h = by (is_key text) refl
  where
    by : (b : Bool) → is_key text ≡ b → None ≡ cond b (Some text) None
    by true e = absurd (h (is_key-true text e))
    by false e = refl
parsed text (Some key) h = ap Some h.1 ∙ ap (λ b. cond b (Some text) None) (sym (is_key-from text h.0))

pub returns-in-Ok : goal.returns-in-Ok
returns-in-Ok c =
    parsed c.in-Ok.text.now c.parse.result c.parse.ensures ∙ ap (λ text. cond (is_key text) (Some text) None) c.in-Ok.ensures.cases.0

pub returns-in-Err : goal.returns-in-Err
returns-in-Err c = parsed c.args.text.now None (λ k. c.in-Err.ensures.cases.0 (IsKey-utf8 c.args.text.now k))
