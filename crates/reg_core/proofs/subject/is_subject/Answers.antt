use Rattle.std.proofs.Common.{◌≡◌, ℕ, ◌<◌, ◌≤◌, ◌⊎◌, ◌&&◌, Bool, true, false, not, length, ap, ◌∙◌, arith}
use Rattle.std.specs.Prelude.{nat_lt, nat_le}
use Rattle.std.specs.List.{list_any}
use Rattle.std.specs.Str.{chars, is_utf8}
use Rattle.std.proofs.lemmas.Bool.Decides.{nat_tests}
use Rattle.std.proofs.lemmas.Str.{is_utf8-from_IsUtf8}
use Rattle.reg_core.specs.Subjects.{is_control, is_subject}
use Rattle.reg_core.proofs.subject.is_subject.Goals as goal

within : (utf8 : Bool) (n : ℕ) (b : Bool) → utf8 ≡ true → 0 < n → n ≤ 255 → not b ≡ utf8 && nat_lt 0 n && nat_le n 255 && not b
within utf8 n b u l h = grind (arith, nat_tests)

outside : (utf8 : Bool) (n : ℕ) (b : Bool) → (n ≡ 0) ⊎ (255 < n) → false ≡ utf8 && nat_lt 0 n && nat_le n 255 && not b
outside utf8 n b h = grind (arith, nat_tests)

pub returns-then-is_empty : goal.returns-then-is_empty
unfolding is_subject
returns-then-is_empty c =
    let text = c.args.text.now in
    let off : (length text ≡ 0) ⊎ (255 < length text) = grind (arith, nat_tests) in
    outside (is_utf8 text) (length text) (list_any is_control (chars text)) off

pub returns : goal.returns
unfolding is_subject
returns c =
    let text = c.args.text.now in
    let some : 0 < length text = grind (arith, nat_tests) in
    ap not c.has_control.ensures
    ∙ within (is_utf8 text) (length text) (list_any is_control (chars text)) (is_utf8-from_IsUtf8 text c.utf8.text) some (omega arith)
