use Rattle.std.proofs.Common.{rules, ◌≡◌, ℕ, true, ◌&&◌, get_or, sym, ◌∙◌, arith}
use Rattle.std.specs.Char.{is_ascii_digit}
use Rattle.std.proofs.lemmas.Int.Digits.{digits_value_more}
use Rattle.std.proofs.lemmas.List.Folds.{list_all_more}
use Rattle.std.proofs.lemmas.Str.{digit_value_digit}
use Rattle.std.specs.Int.{IsInRange, is_in_range}
use Rattle.reg_messages.proofs.framing.parse_length.Goals as goal

in_range : (a b x : ℕ) → is_in_range a b x ≡ true → IsInRange a b x
in_range a b x e = search (rules, arith)

pub loop-b-preserved : goal.loop-b-preserved
loop-b-preserved c =
    let lt = c.loop-b-test.true in
    let more = digits_value_more 10 c.args.text.now c.loop-b.b-index lt in
    let all = list_all_more is_ascii_digit c.args.text.now c.loop-b.b-index 0 lt in
    let i = c.loop-b.invariant in
    let yes : is_ascii_digit (get_or c.args.text.now c.loop-b.b-index 0) ≡ true = sym c.if-not-is_ascii_digit.ensures.value in
    let value = digit_value_digit (get_or c.args.text.now c.loop-b.b-index 0) (in_range 48 57 _ yes) in
    record {
      value = omega (arith, more, value, i.value, c.min-n.ensures, c.from.ensures);
      digits = all ∙ (λ j. i.digits j && yes j);
    }
