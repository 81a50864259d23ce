use Rattle.std.proofs.Common.{◌≡◌, ◌≢◌, refl, ℕ, Bool, true, false, List, ◌||◌, sym, ap, ◌∙◌, codes}
use Rattle.std.specs.Prelude.{◌==◌}
use Rattle.std.proofs.lemmas.Bool.Decides.{Decides-eqb}
use Rattle.http1.specs.Fields.{known_fields, has_option, elements_named}
use Rattle.reg_messages.specs.Fields.{HeaderField}
use Rattle.reg_messages.specs.BorrowedRequests.{fields_in}
use Rattle.reg_messages.specs.Closing.{closes_by}
use Rattle.reg_messages.proofs.request.Request.closes.Goals as goal

is_0 : (minor : ℕ) → minor ≡ 0 → minor == 0 ≡ true
is_0 minor e = (Decides-eqb minor 0).1 e

is_not_0 : (minor : ℕ) → minor ≢ 0 → minor == 0 ≡ false
is_not_0 minor h = by (minor == 0) (Decides-eqb minor 0)
  where
    by : (b : Bool) → ((b ≡ true → minor ≡ 0) × (minor ≡ 0 → b ≡ true)) → b ≡ false
    by true d = absurd (h (d.0 refl))
    by false d = refl

old_version : (minor : ℕ) (fields : List HeaderField) → minor == 0 ≡ true → minor == 0 ≡ closes_by minor fields
unfolding closes_by
old_version minor fields e = e ∙ sym (ap (λ b. b || has_option (codes "close") (elements_named (codes "connection") fields)) e)

listed : (minor : ℕ) (fields : List HeaderField) → minor == 0 ≡ false → (known_fields fields).close ≡ closes_by minor fields
unfolding closes_by known_fields
listed minor fields e = sym (ap (λ b. b || has_option (codes "close") (elements_named (codes "connection") fields)) e)

pub returns-then-self-eq0 : goal.returns-then-self-eq0
returns-then-self-eq0 c = old_version c.args.self.now.minor (fields_in c.args.self.now) (is_0 c.args.self.now.minor c.if-self-eq0.true)

pub returns-else-self-eq0 : goal.returns-else-self-eq0
returns-else-self-eq0 c =
    ap (λ k. k.close) c.from_spans.ensures ∙ listed c.args.self.now.minor (fields_in c.args.self.now) (is_not_0 c.args.self.now.minor c.if-self-eq0.false)
