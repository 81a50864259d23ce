use Rattle.std.proofs.Common.{◌≡◌, ◌<◌, ◌∙◌, ℕ, sym, subst, inl, inr, arith, true≢false}
use Rattle.std.specs.Prelude.{IsTrue}
use Rattle.std.proofs.lemmas.Bool.{cases_lt}
use Rattle.avro_resolve.specs.Inside.Remaining.{remains}
use Rattle.avro_resolve.proofs.Flags.{flag_is}
use Rattle.avro_resolve.proofs.table.Table.next_difference.Goals.{else-index-via-then-index+else-not-index, else-index-via-else-index}
use Rattle.avro_resolve.proofs.table.Table.next_difference.Goals as goal

pub loop-at-init : goal.loop-at-init
loop-at-init c = c.loop-start.invariant.before

pub loop-at-preserved : goal.loop-at-preserved
loop-at-preserved c = λ j lo hi.
    let t = c.args.self.now in let i = c.args.i in let k = c.args.k in let at = c.loop-at.at in
    let within : at < t.readers = (let l = c.loop-at-test.true in let m = c.min.ensures in let n = c.loop-start-test.true in omega arith) in
    let here : IsTrue (remains t i at) → IsTrue (remains t k at) = λ h. elim c.else-index.branch [
      | else-index-via-then-index+else-not-index w ↦ flag_is t k at w.index-then-index.result.now c.requires.k_in within w.index-then-index.ensures ∙ w.if-not-index.false
      | else-index-via-else-index w ↦ absurd (true≢false (sym h ∙ flag_is t i at c.index.result.now c.requires.i_in within c.index.ensures ∙ w.if-index.false))
    ] in
    elim (cases_lt j at) [
      | inl g ↦ c.loop-at.invariant j lo g
      | inr g ↦ (let e : at ≡ j = omega arith in subst (λ (x : ℕ). IsTrue (remains t i x) → IsTrue (remains t k x)) e here)
    ]

pub loop-start-preserved : goal.loop-start-preserved
loop-start-preserved c =
    let t = c.args.self.now in let start = c.loop-start.start in let inv = c.loop-start.invariant in
    let least = c.min.ensures in let test = c.loop-start-test.true in let on = inv.on in
    record {
      on = omega arith;
      within = omega arith;
      before = λ j lo hi. elim (cases_lt j start) [
        | inl g ↦ inv.before j lo g
        | inr g ↦ c.has_difference.ensures c.if-has_difference.false j g hi
      ];
    }

pub returns-then-not-index-clause-at : goal.returns-then-not-index-clause-at
returns-then-not-index-clause-at c l = flag_is c.args.self.now c.args.k c.loop-at.at c.index-then-index.result.now c.requires.k_in l c.index-then-index.ensures ∙ c.if-not-index.true
