-- All pairs of places below two numbers, and the members of a set among them.
use Rattle.std.proofs.Common.{◌≡◌, ℕ, zero, suc, ◌+◌, ◌*◌, ◌<◌, ◌≤◌, List, [], ◌∷◌, ◌++◌, Bool, true, false, cond, length, refl, sym, ap, subst, arith, true≢false, inl, inr, length-append}
use Rattle.std.specs.Prelude.{All, IsTrue, filter, ◌==◌, ◌&&◌, ◌⊎◌}
use Rattle.std.proofs.lemmas.Bool.{cases_lt}
use Rattle.std.proofs.lemmas.List.Elements.{filter_passes}
use Rattle.std.proofs.lemmas.List.Folds.{Any-from_list_any}
use Rattle.std.proofs.lemmas.List.Sums.{length-filter, count_by-le-length}
use Rattle.avro_resolve.specs.Resolution.{Pairs}
use Rattle.avro_resolve.specs.Witnesses.{Pair, member}
use Rattle.avro_resolve.specs.Verdicts.{row_below, pairs_below}
use Rattle.avro_resolve.proofs.PairLists.{test_same, member_head, member_tail, member_cases, member_front}

-- the pairs of a list that are in a set
abbrev pub those : Pairs → List Pair → List Pair
those R ps = filter (λ p. R p.0 p.1) ps

-- ---- all pairs

in_row : (i m j : ℕ) → j < m → member (row_below i m) i j ≡ true
in_row i zero j l = absurd (omega arith)
in_row i (suc m) j l = elim (cases_lt j m) [
  | inl g ↦ member_tail (i, m) (row_below i m) i j (in_row i m j g)
  | inr g ↦ (let e : m ≡ j = omega arith in subst (λ (x : ℕ). member (row_below i (suc m)) i x ≡ true) e (member_head (i, m) (row_below i m)))
]

pub member_after : (ps qs : List Pair) (i j : ℕ) → member qs i j ≡ true → member (ps ++ qs) i j ≡ true
member_after [] qs i j h = h
member_after (p ∷ ps) qs i j h = member_tail p (ps ++ qs) i j (member_after ps qs i j h)

pub member_back : (ps qs : List Pair) (i j : ℕ) → member (ps ++ qs) i j ≡ true → (member ps i j ≡ true) ⊎ (member qs i j ≡ true)
member_back [] qs i j h = inr h
member_back (p ∷ ps) qs i j h = elim (member_cases p (ps ++ qs) i j h) [
  | inl e ↦ inl (subst (λ (x : ℕ). member (p ∷ ps) x j ≡ true) (sym e.0) (subst (λ (y : ℕ). member (p ∷ ps) p.0 y ≡ true) (sym e.1) (member_head p ps)))
  | inr g ↦ elim (member_back ps qs i j g) [ inl l ↦ inl (member_tail p ps i j l) | inr l ↦ inr l ]
]

pub in_pairs : (n m i j : ℕ) → i < n → j < m → member (pairs_below n m) i j ≡ true
unfolding pairs_below
in_pairs zero m i j li lj = absurd (omega arith)
in_pairs (suc n) m i j li lj = elim (cases_lt i n) [
  | inl g ↦ member_after (row_below n m) (pairs_below n m) i j (in_pairs n m i j g lj)
  | inr g ↦ (let e : n ≡ i = omega arith in subst (λ (x : ℕ). member (row_below n m ++ pairs_below n m) x j ≡ true) e (member_front (row_below n m) (pairs_below n m) n j (in_row n m j lj)))
]

length-row_below : (i m : ℕ) → length (row_below i m) ≡ m
length-row_below i zero = refl
length-row_below i (suc m) = ap suc (length-row_below i m)

pub length-pairs_below : (n m : ℕ) → length (pairs_below n m) ≡ n * m
unfolding pairs_below
length-pairs_below zero m = omega arith
length-pairs_below (suc n) m =
    let a = length-row_below n m in let b = length-pairs_below n m in
    let l : length (row_below n m ++ pairs_below n m) ≡ length (row_below n m) + length (pairs_below n m) = length-append (row_below n m) (pairs_below n m) in
    let e : suc n * m ≡ n * m + m = omega arith in omega arith

-- ---- a set's pairs

-- a property of each element is one of each member
pub each_pair : (Q : Pairs) (ps : List Pair) → All (λ p. IsTrue (Q p.0 p.1)) ps → (i j : ℕ) → member ps i j ≡ true → Q i j ≡ true
unfolding member
each_pair Q ps h i j m =
    let (k, p, l, e, s) = Any-from_list_any (λ (q : Pair). q.0 == i && q.1 == j) ps m in
    let at = test_same p.0 p.1 i j s in
    let here : Q p.0 p.1 ≡ true = subst (λ (q : Pair). Q q.0 q.1 ≡ true) e (h k p l) in
    subst (λ (x : ℕ). Q x j ≡ true) (sym at.0) (subst (λ (y : ℕ). Q p.0 y ≡ true) (sym at.1) here)

pub those_hold : (R : Pairs) (ps : List Pair) (i j : ℕ) → member (those R ps) i j ≡ true → R i j ≡ true
those_hold R ps i j m = each_pair R (those R ps) (filter_passes (λ p. R p.0 p.1) ps) i j m

pub in_those : (R : Pairs) (ps : List Pair) (i j : ℕ) → R i j ≡ true → member ps i j ≡ true → member (those R ps) i j ≡ true
in_those R [] i j e h = h
in_those R (p ∷ ps) i j e h = elim (member_cases p ps i j h) [
  | inl s ↦ (let here : R p.0 p.1 ≡ true = subst (λ (x : ℕ). R x p.1 ≡ true) s.0 (subst (λ (y : ℕ). R i y ≡ true) s.1 e) in
      subst (λ (x : ℕ). member (those R (p ∷ ps)) x j ≡ true) (sym s.0) (subst (λ (y : ℕ). member (those R (p ∷ ps)) p.0 y ≡ true) (sym s.1) (first (R p.0 p.1) here)))
  | inr g ↦ later (R p.0 p.1) (in_those R ps i j e g)
]
  where
    first : (b : Bool) → b ≡ true → member (cond b (p ∷ those R ps) (those R ps)) p.0 p.1 ≡ true
    first true here = member_head p (those R ps)
    first false here = absurd (true≢false (sym here))

    later : (b : Bool) → member (those R ps) i j ≡ true → member (cond b (p ∷ those R ps) (those R ps)) i j ≡ true
    later true g = member_tail p (those R ps) i j g
    later false g = g

-- the members of a set among all pairs, as a list and as a set

pub few_those : (R : Pairs) (n m : ℕ) → length (those R (pairs_below n m)) ≤ n * m
few_those R n m =
    let a = length-filter (λ (p : Pair). R p.0 p.1) (pairs_below n m) in
    let b = count_by-le-length (λ (p : Pair). R p.0 p.1) (pairs_below n m) in
    let c = length-pairs_below n m in omega arith

pub in_those_below : (R : Pairs) (n m i j : ℕ) → i < n → j < m → R i j ≡ true → member (those R (pairs_below n m)) i j ≡ true
in_those_below R n m i j li lj h = in_those R (pairs_below n m) i j h (in_pairs n m i j li lj)
