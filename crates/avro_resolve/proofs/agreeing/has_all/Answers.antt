use Rattle.std.proofs.Common.{◌≡◌, ◌+◌, ◌<◌, ◌≤◌, ℕ, List, get_or, length, take_all, subst, sym, arith, inl, inr, true, true≢false, refl}
use Rattle.std.specs.Prelude.{◌==◌, ◌↔◌, All, Contains, IsTrue}
use Rattle.std.proofs.lemmas.Bool.{cases_lt}
use Rattle.std.proofs.lemmas.Bool.Decides.{Decides-eqb, nat_tests}
use Rattle.std.proofs.lemmas.Slice.Eq.{slice_eq-Decides}
use Rattle.std.proofs.lemmas.List.Elements.{All-contains_itself, All-more, Contains-get_or}
use Rattle.std.proofs.lemmas.List.Kept.{AllPairs-from_increasing}
use Rattle.avro_resolve.proofs.Merges.{not_there, passed, rises}
use Rattle.avro_resolve.proofs.agreeing.has_all.Goals as goal
use Rattle.avro_resolve.proofs.agreeing.has_all.Goals.{then-numbers-matched_count-2, else-numbers-matched_count-2}

pub returns-then-eq : goal.returns-then-eq
returns-then-eq c =
    let list = c.args.list.now in
    let same = (slice_eq-Decides Decides-eqb list c.args.numbers.now true c.if-eq.ensures).0 refl in
    ((λ _. subst (λ (xs : List ℕ). All (Contains list) xs) same (All-contains_itself list)), (λ _. refl))

pub returns-then-matched_count-numbers : goal.returns-then-matched_count-numbers
returns-then-matched_count-numbers c =
    let l : length c.args.numbers.now ≤ c.loop-known.matched_count = omega (arith, c.if-matched_count-numbers.true) in
    ((λ _. subst (λ (xs : List ℕ). All (Contains c.args.list.now) xs) (take_all c.loop-known.matched_count c.args.numbers.now l) c.loop-known.invariant.seen), (λ _. refl))

pub returns-then-numbers-matched_count : goal.returns-then-numbers-matched_count
returns-then-numbers-matched_count c =
    let list = c.args.list.now in let numbers = c.args.numbers.now in let matched_count = c.loop-known.matched_count in
    let within : matched_count < length numbers = omega (arith, c.loop-known.invariant.within, c.if-matched_count-numbers.false) in
    ((λ h. absurd (true≢false (sym h))), (λ all. absurd (not_there list numbers c.loop-known.known-index matched_count c.loop-known.invariant.before c.requires.list within (λ _. c.if-numbers-matched_count.true) (all matched_count 0 within))))

pub loop-known-preserved : goal.loop-known-preserved
loop-known-preserved c =
    let list = c.args.list.now in let numbers = c.args.numbers.now in let i = c.loop-known.known-index in let matched_count = c.loop-known.matched_count in
    let within : matched_count < length numbers = omega (arith, c.loop-known.invariant.within, c.if-matched_count-numbers.false) in
    elim c.if-numbers-matched_count-2.branch [
      | then-numbers-matched_count-2 w ↦ (
          let same : get_or numbers matched_count 0 ≡ get_or list i 0 = w.if-numbers-matched_count-2.true in
          rw w.matched_count-is (record {
            within = omega (arith, within);
            seen = All-more (Contains list) numbers matched_count 0 within c.loop-known.invariant.seen (subst (λ (n : ℕ). Contains list n) (sym same) (Contains-get_or list i 0 c.loop-known-test.true));
            before = passed list numbers i matched_count c.loop-known.invariant.before (matched_count + 1) (omega arith) (λ m later lm. let b = AllPairs-from_increasing numbers c.requires.numbers matched_count m 0 (omega arith) lm in omega (arith, same, b));
          }))
      | else-numbers-matched_count-2 w ↦ rw w.matched_count-is (record {
        within = c.loop-known.invariant.within;
        seen = c.loop-known.invariant.seen;
        before = passed list numbers i matched_count c.loop-known.invariant.before matched_count (omega arith) (λ m later lm. let b = rises numbers c.requires.numbers matched_count m later lm in omega (arith, b, c.if-numbers-matched_count.false, w.if-numbers-matched_count-2.false));
      })
    ]

told : (m n : ℕ) (A : Type 0) → (m ≡ n → A) → (A → m ≡ n) → IsTrue (m == n) ↔ A
told m n A f g = ((λ h. f (let e : m ≡ n = grind (arith, nat_tests) in e)), (λ a. let e : m ≡ n = g a in let t : (m == n) ≡ true = grind (arith, nat_tests) in t))

pub returns : goal.returns
returns c =
    let list = c.args.list.now in let numbers = c.args.numbers.now in let matched_count = c.loop-known.matched_count in
    told matched_count (length numbers) (All (Contains list) numbers)
    (λ e. let l : length numbers ≤ matched_count = omega (arith, e) in subst (λ (xs : List ℕ). All (Contains list) xs) (take_all matched_count numbers l) c.loop-known.invariant.seen)
    (λ all. elim (cases_lt matched_count (length numbers)) [
      | inl g ↦ absurd (not_there list numbers c.loop-known.known-index matched_count c.loop-known.invariant.before c.requires.list g (λ l. absurd (omega (arith, l, c.loop-known-test.false))) (all matched_count 0 g))
      | inr g ↦ omega (arith, g, c.loop-known.invariant.within)
    ])
