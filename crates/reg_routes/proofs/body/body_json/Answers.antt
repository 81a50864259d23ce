use Rattle.std.proofs.Common.{◌≡◌, ℕ, Bool, true, false, List, refl, sym, ap, ◌∙◌, true≢false}
use Rattle.std.specs.Prelude.{Some, None, cond}
use Rattle.std.specs.Str.{IsUtf8, is_utf8}
use Rattle.std.proofs.lemmas.Str.{IsUtf8-from_is_utf8, is_utf8-from_IsUtf8}
use Rattle.serde_json.specs.Data.{Data}
use Rattle.serde_json.specs.Read.{read}
use Rattle.reg_routes.specs.Bodies.{body_json}
use Rattle.reg_routes.proofs.body.body_json.Goals as goal

found : (body : List ℕ) (d : Data) → IsUtf8 body → read body ≡ Some d → Some d ≡ body_json body
unfolding body_json
found body d u e = sym (ap (λ b. cond b (read body) None) (is_utf8-from_IsUtf8 body u) ∙ e)

unread : (body : List ℕ) → (IsUtf8 body → read body ≡ None) → None ≡ body_json body
unfolding body_json
unread body h = by (is_utf8 body) refl
  where
    by : (b : Bool) → is_utf8 body ≡ b → None ≡ cond b (read body) None
    by true e = sym (h (IsUtf8-from_is_utf8 body e))
    by false e = refl

pub returns-in-Ok : goal.returns-in-Ok
returns-in-Ok c = found c.args.body.now _ c.in-Ok.ensures.ok.0 c.in-Ok.ensures.ok.1

pub returns-else-is_memory : goal.returns-else-is_memory
returns-else-is_memory c = unread c.args.body.now (λ u. c.in-Err.ensures.err (λ m. true≢false (sym (c.is_memory.ensures.1 m) ∙ c.if-is_memory.false)) u)
