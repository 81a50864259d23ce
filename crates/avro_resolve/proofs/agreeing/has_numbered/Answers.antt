use Rattle.std.proofs.Common.{◌≡◌, ◌+◌, ◌<◌, ◌≤◌, ℕ, ◌-◌, List, get_or, length, lt-ltb, ltb-true, take, take_all, ap, refl, subst, sym, true, ◌∙◌, arith, inl, inr}
use Rattle.std.specs.Prelude.{All, Contains}
use Rattle.std.proofs.lemmas.Bool.{cases_lt}
use Rattle.std.proofs.lemmas.Bool.Decides.{Decides-eqb}
use Rattle.std.proofs.lemmas.Slice.Eq.{slice_eq-Decides}
use Rattle.std.proofs.lemmas.List.Elements.{All-contains_itself, All-more, Contains-get_or}
use Rattle.std.proofs.lemmas.List.Kept.{AllPairs-from_increasing}
use Rattle.avro_resolve.proofs.Merges.{not_there, passed, rises}
use Rattle.avro_resolve.proofs.agreeing.has_numbered.Goals as goal
use Rattle.avro_resolve.proofs.agreeing.has_numbered.Goals.{then-slots-known, else-slots-known}

pub returns-then-eq : goal.returns-then-eq
returns-then-eq c =
    let list = c.args.list.now in
    let same = (slice_eq-Decides Decides-eqb list c.args.symbols.now true c.if-eq.ensures).0 refl in
    ((λ _. subst (λ (xs : List ℕ). All (Contains list) xs) same (All-contains_itself list)), (λ _. refl))

pub loop-known-preserved : goal.loop-known-preserved
loop-known-preserved c =
    let list = c.args.list.now in let symbols = c.args.symbols.now in let slots = c.args.slots.now in let i = c.loop-known.known-index in let next = c.loop-known.next in let matched_count = next - 1 in
    let inv = c.loop-known.invariant in let one : next ≡ matched_count + 1 = (let b = inv.begun in omega arith) in let here = get_or list i 0 in
    elim c.if-slots-known.branch [
      | then-slots-known w ↦ (
          let at = c.requires.numbered.only here matched_count (w.if-slots-known.true ∙ one) in
          let within : matched_count < length symbols = at.1 in
          let same : get_or symbols matched_count 0 ≡ here = at.2 in
          rw w.next-is (record {
            begun = omega arith;
            within = omega (arith, within, one);
            seen = subst (λ (n : ℕ). All (Contains list) (take n symbols)) (let n : matched_count + 1 ≡ (next + 1) - 1 = omega (arith, one) in n) (All-more (Contains list) symbols matched_count 0 within inv.seen (subst (λ (n : ℕ). Contains list n) (sym same) (Contains-get_or list i 0 c.loop-known-test.true)));
            before = λ all k m lk later lm. passed list symbols i matched_count (inv.before all) (matched_count + 1) (omega arith) (λ m later lm. let b = AllPairs-from_increasing symbols c.requires.rise matched_count m 0 (omega arith) lm in omega (arith, same, b)) k m lk (omega (arith, later, one)) lm;
          }))
      | else-slots-known w ↦ rw w.next-is (record {
        begun = inv.begun;
        within = inv.within;
        seen = inv.seen;
        before = λ all. passed list symbols i matched_count (inv.before all) matched_count (omega arith) (λ m later lm.
            (let within : matched_count < length symbols = omega (arith, later, lm) in
            let one_if = rises symbols c.requires.rise matched_count m later lm in
            let other : get_or symbols matched_count 0 ≡ here → ⊥ = λ e. w.if-slots-known.false (ap (λ (x : ℕ). get_or slots x 0) (sym e) ∙ c.requires.numbered.each matched_count (omega arith) within ∙ sym one) in
            elim (cases_lt here (get_or symbols matched_count 0)) [
              | inl g ↦ omega (arith, g, one_if)
              | inr g ↦ elim (cases_lt (get_or symbols matched_count 0) here) [
                | inl less ↦ absurd (not_there list symbols i matched_count (inv.before all) c.requires.list within (λ _. less) (all matched_count 0 within))
                | inr more ↦ (let e : get_or symbols matched_count 0 ≡ here = omega (arith, g, more) in absurd (other e))
              ]
            ]));
      })
    ]

pub returns : goal.returns
returns c =
    let list = c.args.list.now in let symbols = c.args.symbols.now in let next = c.loop-known.next in let matched_count = next - 1 in let inv = c.loop-known.invariant in
    let one : next ≡ matched_count + 1 = (let b = inv.begun in omega arith) in (
      (λ h. let t = ltb-true (length symbols) next h in let l : length symbols ≤ matched_count = omega (arith, t, one) in subst (λ (xs : List ℕ). All (Contains list) xs) (take_all matched_count symbols l) inv.seen),
      (λ all. elim (cases_lt matched_count (length symbols)) [
        | inl g ↦ absurd (not_there list symbols c.loop-known.known-index matched_count (inv.before all) c.requires.list g (λ l. absurd (omega (arith, l, c.loop-known-test.false))) (all matched_count 0 g))
        | inr g ↦ lt-ltb (length symbols) next (omega (arith, g, one))
      ]),
    )
