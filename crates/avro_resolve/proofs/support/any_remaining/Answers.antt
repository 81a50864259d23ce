use Rattle.std.proofs.Common.{◌≡◌, ◌<◌, ℕ, false, get_or, length, subst, sym, ◌∙◌, inl, inr, arith}
use Rattle.std.proofs.lemmas.Bool.{cases_lt}
use Rattle.avro_resolve.specs.Inside.Remaining.{remains}
use Rattle.avro_resolve.proofs.ListLemmas.{get_or_any}
use Rattle.avro_resolve.proofs.support.any_remaining.Goals as goal

pub loop-at-preserved : goal.loop-at-preserved
loop-at-preserved c = λ k d lo hi le.
    let ps = c.args.places.now in let at = c.loop-at.at in
    let within : at < length ps = c.loop-at-test.true in
    let none = λ (p : ℕ). remains c.args.table.now c.args.i p ≡ false in
    elim (cases_lt k at) [
      | inl g ↦ c.loop-at.invariant k d lo g le
      | inr g ↦ (let e : at ≡ k = omega arith in subst (λ (x : ℕ). none (get_or ps x d)) e (subst none (get_or_any ps at 0 d within) (sym c.has.ensures ∙ c.if-has.false)))
    ]
