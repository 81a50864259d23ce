use Rattle.std.proofs.Common.{◌≡◌, ◌-◌, pos, true≢false, refl, sym, arith, rules, get_or}
use Rattle.reg_store.proofs.Distinct.{distinct_if_sorted, twins_if_same}
use Rattle.reg_store.proofs.rowids.are_distinct.Goals as goal

pub returns-then-numbers-i : goal.returns-then-numbers-i
returns-then-numbers-i c =
    let ys = c.sort_unstable.new.self in
    let i = c.loop-i.i in
    let twins : get_or ys (i - 1) (pos 0) ≡ get_or ys i (pos 0) = search rules in
    (λ h. absurd (true≢false (sym h)), λ distinct. absurd (twins_if_same c.args.numbers.now ys c.sort_unstable.ensures.permutation (i - 1) i (omega arith) (omega arith) twins distinct))

pub returns : goal.returns
returns c = (λ h. distinct_if_sorted c.args.numbers.now c.sort_unstable.new.self c.sort_unstable.ensures.permutation c.sort_unstable.ensures.sorted (λ k lt. c.loop-i.invariant k (omega arith)), λ h. refl)
