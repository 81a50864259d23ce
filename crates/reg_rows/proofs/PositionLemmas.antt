-- Binary search among positions, and when the positions are 1 to their number.
use Rattle.std.proofs.Common.{◌≡◌, ◌≢◌, ℕ, zero, suc, ◌-◌, ◌<◌, ◌≤◌, List, [], ◌∷◌, length, map, get_or, nat_cmp, refl, sym, ap, ◌∙◌, subst, inl, inr, arith}
use Rattle.std.specs.Prelude.{◌⊎◌, ◌↔◌, Any, Contains, IfOk, IsSorted, IsTrue, Result, Ok, Err, is_ok}
use Rattle.std.specs.Borrow.{Bor}
use Rattle.std.specs.Cmp.{IsTotalOrder}
use Rattle.std.specs.Cmp.Lexicographic.{slice_cmp}
use Rattle.std.specs.List.{AllByRecursion, HoldsAt}
use Rattle.std.specs.Ordering.{is_eq, is_lt}
use Rattle.std.specs.declared.cmp.Ordering.{Ordering}
use Rattle.std.specs.declared.cmp.Ordering.TheVariants.{Less, Equal, Greater}
use Rattle.std.specs.List.Sorted.{IsBinarySearchResult, IsPermutation, IsSearchInRange}
use Rattle.std.proofs.lemmas.Bool.{cases_lt, true≢false}
use Rattle.std.proofs.lemmas.Cmp.{nat_cmp_total, nat_list_cmp_total, on_total, then_total, tied_itself}
use Rattle.std.proofs.lemmas.List.{get_or-map, length-map}
use Rattle.std.proofs.lemmas.List.Elements.{All-contains, All-map, All-from_recursion, Contains-get_or, recursion_from_All}
use Rattle.std.proofs.lemmas.List.Sorted.{Contains-permutation, IsPermutation-map, IsPermutation-sym, searchable_from_sorted}
use Rattle.std.proofs.lemmas.Map.Lookups.{exact_bytes, exact_unsigned, exact_pairs}
use Rattle.reg_core.specs.Registry.{RowKey}
use Rattle.reg_rows.specs.Positions.{PositionKey, IsContiguousFor, AreContiguous, HaveEvidence, version_view, position_view}
use Rattle.reg_rows.specs.Inside.Search.{version_order, position_order, HasVersion, HasPredecessor, HasPredecessorIn}

-- ---- a search

less_not_equal : (a : Ordering) → a ≡ Less → a ≡ Equal → ⊥
less_not_equal a e f = true≢false (sym (ap is_lt e) ∙ ap is_lt f)

greater_not_equal : (a : Ordering) → a ≡ Greater → a ≡ Equal → ⊥
greater_not_equal a e f = true≢false (sym (ap is_eq f) ∙ ap is_eq e)

module _ {K : Type 0} (R : K → K → Ordering) (order : IsTotalOrder R) (xs : List K) (x : K) (sorted : IsSorted R xs) where
  -- a search succeeds exactly if the list has an equal key
  pub searched : (r : Result ℕ ℕ) → IsSearchInRange r (length xs) → IfOk r (HoldsAt (λ y. R y x ≡ Equal) xs) → IsBinarySearchResult (λ y. R y x) xs r → IsTrue (is_ok r) ↔ Any (λ y. R y x ≡ Equal) xs
  searched (Ok i) within equal found = (
    λ h. (let there = Contains-get_or xs i x within in (there.0, get_or xs i x, there.1, there.2, equal x)),
    λ h. refl,
  )
  searched (Err i) within equal found = (
    λ h. absurd (true≢false (sym h)),
    λ h. absurd (
        let parts = found (searchable_from_sorted order (λ (y : K). y) xs x sorted) in
        elim (cases_lt h.0 i) [
          | inl less ↦ less_not_equal (R h.1 x) (subst (λ (y : K). R y x ≡ Less) h.3 (parts.0 h.0 h.1 (omega arith) less)) h.4
          | inr more ↦ greater_not_equal (R h.1 x) (subst (λ (y : K). R y x ≡ Greater) h.3 (parts.1 h.0 h.1 more h.2)) h.4
        ]),
  )

module _ {X Y : Type 0} (f : X → Y) (R : Y → Y → Ordering) (order : IsTotalOrder R) (exact : (x y : Y) → R x y ≡ Equal → x ≡ y) (xs : List X) (x : X) where
  -- items that the order ties have equal views
  pub contains_tied : Any (λ y. R (f y) (f x) ≡ Equal) xs → Contains (map f xs) (f x)
  contains_tied h = (h.0, rw length-map h.2, get_or-map f xs h.0 h.1 (f x) h.2 ∙ ap f h.3 ∙ exact (f h.1) (f x) h.4)

  pub tied_contained : Contains (map f xs) (f x) → Any (λ y. R (f y) (f x) ≡ Equal) xs
  tied_contained h =
      let within : h.0 < length xs = rw length-map at h.1 in
      let y = get_or xs h.0 x in
      let there = Contains-get_or xs h.0 x within in
      let alike : f y ≡ f x = sym (get_or-map f xs h.0 x (f x) within) ∙ h.2 in
      (there.0, y, there.1, there.2, subst (λ (z : Y). R z (f x) ≡ Equal) (sym alike) (tied_itself order (f x)))

version_total : IsTotalOrder version_order
version_total = then_total (on_total (λ (v : RowKey). v.0) nat_list_cmp_total) (on_total (λ (v : RowKey). v.1) nat_cmp_total)

version_exact : (x y : RowKey) → version_order x y ≡ Equal → x ≡ y
version_exact = exact_pairs (slice_cmp nat_cmp) nat_cmp exact_bytes exact_unsigned

position_total : IsTotalOrder position_order
position_total = then_total (on_total (λ (p : PositionKey). p.0) version_total) (on_total (λ (p : PositionKey). p.1) nat_cmp_total)

position_exact : (x y : PositionKey) → position_order x y ≡ Equal → x ≡ y
position_exact = exact_pairs version_order nat_cmp version_exact exact_unsigned

pub version_search : (sorted : List (Bor (List ℕ) × ℕ)) (key : Bor (List ℕ) × ℕ) → Any (λ y. version_order (version_view y) (version_view key) ≡ Equal) sorted ↔ Contains (map version_view sorted) (version_view key)
version_search sorted key = (contains_tied version_view version_order version_total version_exact sorted key, tied_contained version_view version_order version_total version_exact sorted key)

pub position_search : (sorted : List (Bor (List ℕ) × ℕ × ℕ)) (key : Bor (List ℕ) × ℕ × ℕ) → Any (λ y. position_order (position_view y) (position_view key) ≡ Equal) sorted ↔ Contains (map position_view sorted) (position_view key)
position_search sorted key = (contains_tied position_view position_order position_total position_exact sorted key, tied_contained position_view position_order position_total position_exact sorted key)

same_or_not : {K : Type 0} (R : K → K → Ordering) → IsTotalOrder R → ((x y : K) → R x y ≡ Equal → x ≡ y) → (x y : K) → (x ≡ y) ⊎ (x ≡ y → ⊥)
same_or_not {K = K} R order exact x y = go (R x y) refl
  where
    other : R x y ≢ Equal → x ≡ y → ⊥
    other not_tied e = not_tied (subst (λ (z : K). R x z ≡ Equal) e (tied_itself order x))

    go : (o : Ordering) → R x y ≡ o → (x ≡ y) ⊎ (x ≡ y → ⊥)
    go Less e = inr (other (less_not_equal (R x y) e))
    go Equal e = inl (exact x y e)
    go Greater e = inr (other (greater_not_equal (R x y) e))

-- ---- members of lists

pub cons_cases : {X : Type 0} (y : X) (ys : List X) (x : X) → Contains (y ∷ ys) x → (y ≡ x) ⊎ Contains ys x
cons_cases y ys x (zero, l, e) = inl e
cons_cases y ys x (suc k, l, e) = inr (k, omega arith, e)

here : {X : Type 0} (y : X) (ys : List X) (x : X) → y ≡ x → Contains (y ∷ ys) x
here y ys x e = (0, omega arith, e)

later : {X : Type 0} (y : X) (ys : List X) (x : X) → Contains ys x → Contains (y ∷ ys) x
later y ys x (k, l, e) = (suc k, omega arith, e)

-- A property of each item's view is a property of each member of the list of views.
module _ {X Y : Type 0} (f : X → Y) (P : Y → Type 0) (xs : List X) where
  each_shown : AllByRecursion (λ x. P (f x)) xs → (y : Y) → Contains (map f xs) y → P y
  each_shown all y h = All-contains P (map f xs) y (All-map P f xs (All-from_recursion (λ x. P (f x)) xs all)) h

  all_shown : ((y : Y) → Contains (map f xs) y → P y) → AllByRecursion (λ x. P (f x)) xs
  all_shown each = recursion_from_All (λ x. P (f x)) xs (λ k d l. each (f (get_or xs k d)) (maps_contained (get_or xs k d) (Contains-get_or xs k d l)))
    where
      maps_contained : (x : X) → Contains xs x → Contains (map f xs) (f x)
      maps_contained x (k, l, e) = (k, rw length-map l, get_or-map f xs k x (f x) l ∙ ap f e)

permuted : {X Y : Type 0} (f : X → Y) (xs ys : List X) (y : Y) → IsPermutation xs ys → Contains (map f xs) y → Contains (map f ys) y
permuted f xs ys y same = Contains-permutation (map f xs) (map f ys) y (IsPermutation-map f xs ys same)

permuted_back : {X Y : Type 0} (f : X → Y) (xs ys : List X) (y : Y) → IsPermutation xs ys → Contains (map f ys) y → Contains (map f xs) y
permuted_back f xs ys y same = permuted f ys xs y (IsPermutation-sym xs ys same)

-- ---- positions

-- the greatest position of a version, or 0 if it has none
record Greatest (version : RowKey) (positions : List PositionKey) : Type 0 where
  at : ℕ
  above : (position : ℕ) → Contains positions (version, position) → position ≤ at
  there : (at ≡ 0) ⊎ Contains positions (version, at)

module _ (version : RowKey) (position : PositionKey) (positions : List PositionKey) (rest : Greatest version positions) where
  after_other : (position.0 ≡ version → ⊥) → Greatest version (position ∷ positions)
  after_other other = record {
    at = rest.at;
    above = λ p h. elim (cons_cases position positions (version, p) h) [ inl e ↦ absurd (other (ap (λ (q : PositionKey). q.0) e)) | inr h ↦ rest.above p h ];
    there = elim (rest.there) [ inl none ↦ inl none | inr h ↦ inr (later position positions (version, rest.at) h) ];
  }

  after_own : position.0 ≡ version → Greatest version (position ∷ positions)
  after_own own = elim (cases_lt rest.at position.1) [
    | inl less ↦ record {
      at = position.1;
      above = λ p h. elim (cons_cases position positions (version, p) h) [ inl e ↦ (let same : position.1 ≡ p = ap (λ (q : PositionKey). q.1) e in omega arith) | inr h ↦ (let low = rest.above p h in omega arith) ];
      there = inr (here position positions (version, position.1) (ap (λ (v : RowKey). (v, position.1)) own));
    }
    | inr more ↦ record {
      at = rest.at;
      above = λ p h. elim (cons_cases position positions (version, p) h) [ inl e ↦ (let same : position.1 ≡ p = ap (λ (q : PositionKey). q.1) e in omega arith) | inr h ↦ rest.above p h ];
      there = elim (rest.there) [ inl none ↦ inl none | inr h ↦ inr (later position positions (version, rest.at) h) ];
    }
  ]

greatest : (version : RowKey) (positions : List PositionKey) → Greatest version positions
greatest version [] = record { at = 0; above = λ p h. absurd (omega (arith, h.1)); there = inl refl }
greatest version (position ∷ positions) = elim (same_or_not version_order version_total version_exact position.0 version) [
  | inl own ↦ after_own version position positions (greatest version positions) own
  | inr other ↦ after_other version position positions (greatest version positions) other
]

module _ (positions : List PositionKey) (follow : (position : PositionKey) → Contains positions position → HasPredecessor positions position) (version : RowKey) where
  -- if the list has a position of the version, it has all smaller ones
  below : (n : ℕ) → Contains positions (version, n) → (p : ℕ) → 0 < p → p ≤ n → Contains positions (version, p)
  below zero h p low high = absurd (omega arith)
  below (suc n) h p low high = elim (cases_lt p (suc n)) [
    | inl less ↦ elim ((follow (version, suc n) h).1) [
      | inl one ↦ absurd (omega arith)
      | inr before ↦ below n (subst (λ (q : ℕ). Contains positions (version, q)) (omega arith) before) p low (omega arith)
    ]
    | inr same ↦ subst (λ (q : ℕ). Contains positions (version, q)) (omega arith) h
  ]

  counted : IsContiguousFor positions version
  counted = let top = greatest version positions in record {
    count = top.at;
    positions = λ p. (
      λ h. ((follow (version, p) h).0, top.above p h),
      λ within. elim (top.there) [ inl none ↦ absurd (omega arith) | inr h ↦ below top.at h p within.0 within.1 ],
    );
  }

follows : (positions : List PositionKey) → AreContiguous positions → (position : PositionKey) → Contains positions position → HasPredecessor positions position
follows positions are position h =
    let c = are position.0 in
    let within = (c.positions position.1).0 h in
    (within.0, elim (cases_lt 1 position.1) [ inl more ↦ inr ((c.positions (position.1 - 1)).1 (omega arith, omega arith)) | inr one ↦ inl (omega arith) ])

-- ---- sorted

-- sorting keeps the members
module _ (evidence sorted : List (Bor (List ℕ) × ℕ)) (positions : List (Bor (List ℕ) × ℕ × ℕ)) (same : IsPermutation evidence sorted) where
  abbrev HasOwn : PositionKey → Type 0
  HasOwn position = Contains (map version_view sorted) position.0

  pub evidence_sorted : AllByRecursion (HasVersion sorted) positions ↔ HaveEvidence (map version_view evidence) (map position_view positions)
  evidence_sorted = (
    λ all position h. permuted_back version_view evidence sorted position.0 same (each_shown position_view HasOwn positions all position h),
    λ have. all_shown position_view HasOwn positions (λ position h. permuted version_view evidence sorted position.0 same (have position h)),
  )

module _ (positions sorted : List (Bor (List ℕ) × ℕ × ℕ)) (same : IsPermutation positions sorted) where
  to_sorted : (position : PositionKey) → HasPredecessor (map position_view positions) position → HasPredecessor (map position_view sorted) position
  to_sorted position f = (f.0, elim (f.1) [ inl one ↦ inl one | inr before ↦ inr (permuted position_view positions sorted (position.0, position.1 - 1) same before) ])

  from_sorted : (position : PositionKey) → HasPredecessor (map position_view sorted) position → HasPredecessor (map position_view positions) position
  from_sorted position f = (f.0, elim (f.1) [ inl one ↦ inl one | inr before ↦ inr (permuted_back position_view positions sorted (position.0, position.1 - 1) same before) ])

  -- each position is 1 or has its predecessor, exactly if the positions are 1 to their number
  pub positions_sorted : AllByRecursion (HasPredecessorIn sorted) sorted ↔ AreContiguous (map position_view positions)
  positions_sorted = (
    λ all version. counted (map position_view positions) (λ position h. from_sorted position (each_shown position_view (HasPredecessor (map position_view sorted)) sorted all position (permuted position_view positions sorted position same h))) version,
    λ are. all_shown position_view (HasPredecessor (map position_view sorted)) sorted (λ position h. to_sorted position (follows (map position_view positions) are position (permuted_back position_view positions sorted position same h))),
  )
