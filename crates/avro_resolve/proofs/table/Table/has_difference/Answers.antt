use Rattle.std.proofs.Common.{◌≡◌, ◌<◌, ℕ, Bool, false, true, ◌&&◌, ◌||◌, not, refl, sym, subst, ◌∙◌, inl, inr, arith, true≢false}
use Rattle.std.specs.Prelude.{IsTrue}
use Rattle.std.proofs.lemmas.Bool.{cases_lt}
use Rattle.avro_resolve.specs.Inside.Remaining.{remains}
use Rattle.avro_resolve.proofs.Flags.{flag_is}
use Rattle.avro_resolve.proofs.table.Table.has_difference.Goals as goal

neither : (x y : Bool) → (x || y) ≡ false → (x ≡ false) × (y ≡ false)
neither false y e = (refl, e)
neither true y e = absurd (true≢false e)

both : (x y : Bool) → (x && not y) ≡ false → x ≡ true → y ≡ true
both true true e h = refl
both true false e h = absurd (true≢false e)
both false y e h = absurd (true≢false (sym h))

pub loop-at-preserved : goal.loop-at-preserved
loop-at-preserved c e j lo hi =
    let t = c.args.self.now in let i = c.args.i in let k = c.args.k in let at = c.loop-at.at in
    let x = c.index.result.now in let y = c.index-in-loop-at.result.now in
    let none = neither c.loop-at.apart (x && not y) e in
    let within : at < t.readers = (let l = c.loop-at-test.true in let m = c.requires.to_in in omega arith) in
    let here : IsTrue (remains t i at) → IsTrue (remains t k at) = λ h.
    flag_is t k at y c.requires.k_in within c.index-in-loop-at.ensures ∙ both x y none.1 (sym (flag_is t i at x c.requires.i_in within c.index.ensures) ∙ h) in
    elim (cases_lt j at) [
      | inl g ↦ c.loop-at.invariant none.0 j lo g
      | inr g ↦ (let same : at ≡ j = omega arith in subst (λ (z : ℕ). IsTrue (remains t i z) → IsTrue (remains t k z)) same here)
    ]
