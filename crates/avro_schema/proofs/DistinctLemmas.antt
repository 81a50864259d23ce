-- Whether a list is free of duplicates can be read off the sorted list.
use Rattle.std.proofs.Common.{◌≡◌, ℕ, ◌+◌, ◌<◌, List, [], ◌∷◌, length, map, get_or, Bool, true, false, not, cond, ◌||◌, nat_cmp, is_eq, is_lt, bytes_eq, string_bytes, refl, sym, ap, ◌∙◌, arith}
use Rattle.std.proofs.Math.Path.{fun_ext}
use Rattle.std.proofs.lemmas.Bool.{false≢true, and_parts}
use Rattle.std.proofs.lemmas.Bool.Decides.{nat_tests}
use Rattle.std.proofs.lemmas.List.{get_or-map, length-map}
use Rattle.std.proofs.lemmas.List.Sorted.{IsPermutation-map, IsPermutation-sym}
use Rattle.std.proofs.lemmas.Map.Keys.{IsDistinct-from_sorted, IsDistinct-IsPermutation, apart_from_distinct, sorted_from_all_adjacent, IsDistinct-head, IsDistinct-tail}
use Rattle.std.proofs.lemmas.Map.Text.{is_eq-slice_cmp}
use Rattle.std.proofs.lemmas.Slice.Eq.{bytes_eq-Decides}
use Rattle.std.specs.Cmp.{IsTotalOrder}
use Rattle.std.specs.Cmp.Lexicographic.{slice_cmp}
use Rattle.std.specs.Ordering.{eq_by_cmp, ordering_reverse}
use Rattle.std.specs.List.{list_any, AllByRecursion, IsDistinct, IsAllAdjacentAnswer}
use Rattle.std.specs.List.Sorted.{IsPermutation, IsSorted}
use Rattle.std.specs.Prelude.{◌==◌}
use Rattle.std.specs.declared.cmp.Ordering.{Ordering}
use Rattle.std.specs.declared.cmp.Ordering.TheVariants.{Less, Equal, Greater}
use Rattle.avro_nodes.specs.declared.node.Field.{Field}
use Rattle.avro_nodes.specs.Nodes.{field_view}
use Rattle.avro_schema.specs.Inside.Distinct.{all_new, all_distinct, text_hash}

-- ---- one element at a time, and each pair

module _ {X : Type 0} (same : X → X → Bool) where
  -- neither seen before nor equal to x
  seen_more : (seen : X → Bool) (x : X) (xs : List X) → AllByRecursion (λ y. same x y ≡ false) xs → AllByRecursion (λ y. seen y ≡ false) xs → AllByRecursion (λ y. cond (same x y) true (seen y) ≡ false) xs
  seen_more seen x [] apart new = tt
  seen_more seen x (y ∷ ys) apart new = (rw (apart.0) (new.0), seen_more seen x ys apart.1 new.1)

  not_same : (a b : Bool) → cond a true b ≡ false → (a ≡ false) × (b ≡ false)
  not_same true b e = absurd (false≢true (sym e))
  not_same false b e = (refl, e)

  seen_less : (seen : X → Bool) (x : X) (xs : List X) → AllByRecursion (λ y. cond (same x y) true (seen y) ≡ false) xs → AllByRecursion (λ y. same x y ≡ false) xs × AllByRecursion (λ y. seen y ≡ false) xs
  seen_less seen x [] h = (tt, tt)
  seen_less seen x (y ∷ ys) h =
      let here = not_same (same x y) (seen y) h.0 in
      let rest = seen_less seen x ys h.1 in
      ((here.0, rest.0), (here.1, rest.1))

  new_if_distinct : (seen : X → Bool) (xs : List X) → IsDistinct same xs → AllByRecursion (λ y. seen y ≡ false) xs → all_new same seen xs ≡ true
  unfolding all_new
  new_if_distinct seen [] d new = refl
  new_if_distinct seen (x ∷ xs) d new = rw (new.0) (new_if_distinct (λ y. cond (same x y) true (seen y)) xs (IsDistinct-tail same x xs d) (seen_more seen x xs (IsDistinct-head same x xs d) new.1))

  not_true : (b : Bool) → not b ≡ true → b ≡ false
  not_true true e = absurd (false≢true e)
  not_true false e = refl

  distinct_if_new : (seen : X → Bool) (xs : List X) → all_new same seen xs ≡ true → IsDistinct same xs × AllByRecursion (λ y. seen y ≡ false) xs
  unfolding all_new IsDistinct
  distinct_if_new seen [] e = (tt, tt)
  distinct_if_new seen (x ∷ xs) e =
      let h = and_parts (not (seen x)) (all_new same (λ y. cond (same x y) true (seen y)) xs) e in
      let rest = distinct_if_new (λ y. cond (same x y) true (seen y)) xs h.1 in
      let apart = seen_less seen x xs rest.1 in
      ((apart.0, rest.0), (not_true (seen x) h.0, apart.1))

  none_seen : (xs : List X) → AllByRecursion (λ _. false ≡ false) xs
  none_seen [] = tt
  none_seen (x ∷ xs) = (refl, none_seen xs)

  differ_if_distinct : (xs : List X) → IsDistinct same xs → all_distinct same xs ≡ true
  differ_if_distinct xs d = new_if_distinct (λ _. false) xs d (none_seen xs)

  distinct_if_differ : (xs : List X) → all_distinct same xs ≡ true → IsDistinct same xs
  distinct_if_differ xs e = (distinct_if_new (λ _. false) xs e).0

-- ---- sorted lists

-- if neither of two items is less, they compare equal
level : (a b : Ordering) → a ≡ ordering_reverse b → is_lt a ≡ false → is_lt b ≡ false → is_eq a ≡ true
level a Less e f g = absurd (false≢true (sym g))
level a Equal e f g = rw e refl
level a Greater e f g = absurd (false≢true (sym f ∙ ap is_lt e))

is_less : (a : Ordering) → true ≡ is_lt a → a ≡ Less
is_less Less e = refl
is_less Equal e = absurd (false≢true (sym e))
is_less Greater e = absurd (false≢true (sym e))

-- items compared by f in the order R, in which only equal ones compare equal
module _ {A K : Type 0} (R : K → K → Ordering) (o : IsTotalOrder R) (same : K → K → Bool) (level_is : eq_by_cmp R ≡ same) (f : A → K) (d : A) where
  at_place : (ys : List A) (k : ℕ) → k < length ys → get_or (map f ys) k (f d) ≡ f (get_or ys k d)
  at_place ys k h = get_or-map f ys k d (f d) h

  flips : (x y : K) → is_eq (R x y) ≡ is_eq (R y x)
  flips x y = reversed (R y x) (R x y) (o.antisymm x y)
    where
      reversed : (b a : Ordering) → a ≡ ordering_reverse b → is_eq a ≡ is_eq b
      reversed Less a e = rw e refl
      reversed Equal a e = rw e refl
      reversed Greater a e = rw e refl

  sorted_distinct : (xs ys : List A) → IsPermutation xs ys → ((k : ℕ) (e : A) → k + 1 < length ys → true ≡ is_lt (R (f (get_or ys k e)) (f (get_or ys (k + 1) e)))) → IsDistinct (eq_by_cmp R) (map f xs)
  sorted_distinct xs ys moved rise =
      IsDistinct-IsPermutation (eq_by_cmp R) flips (map f ys) (map f xs) (IsPermutation-sym (map f xs) (map f ys) (IsPermutation-map f xs ys moved))
      (IsDistinct-from_sorted R (map f ys)
      (sorted_from_all_adjacent o (map f ys) (f d)
      (λ k h. let within : k + 1 < length ys = omega (arith, length-map ys f) in
      let before : k < length ys = omega arith in
      rw (at_place ys k before, at_place ys (k + 1) within) (is_less (R (f (get_or ys k d)) (f (get_or ys (k + 1) d))) (rise k d within)))))

  twice : (xs ys : List A) (k : ℕ) → IsPermutation xs ys → IsSorted (λ x y. R (f x) (f y)) ys → k + 1 < length ys → false ≡ is_lt (R (f (get_or ys k d)) (f (get_or ys (k + 1) d))) → IsDistinct (eq_by_cmp R) (map f xs) → ⊥
  twice xs ys k moved sorted within falls distinct =
      let before : k < length ys = omega arith in
      let there : k + 1 < length (map f ys) = omega (arith, length-map ys f) in
      let next : k < k + 1 = omega arith in
      let apart = apart_from_distinct (eq_by_cmp R) (map f ys) k (k + 1) (f d) (IsDistinct-IsPermutation (eq_by_cmp R) flips (map f xs) (map f ys) (IsPermutation-map f xs ys moved) distinct) next there in
      let alike = level (R (f (get_or ys k d)) (f (get_or ys (k + 1) d))) (R (f (get_or ys (k + 1) d)) (f (get_or ys k d))) (o.antisymm (f (get_or ys k d)) (f (get_or ys (k + 1) d))) (sym falls) (sorted k d (omega arith) within) in
      false≢true (sym (rw (at_place ys k before, at_place ys (k + 1) within) at apart) ∙ alike)

  no_differ : (xs : List A) (b : Bool) → all_distinct same (map f xs) ≡ b → (IsDistinct (eq_by_cmp R) (map f xs) → ⊥) → false ≡ b
  no_differ xs true e refuted = absurd (refuted (rw level_is (distinct_if_differ same (map f xs) e)))
  no_differ xs false e refuted = refl

  -- comparing the neighbours in the sorted list decides whether the list is distinct
  pub rise_differ : (xs ys : List A) (b : Bool) → IsPermutation xs ys → IsSorted (λ x y. R (f x) (f y)) ys → IsAllAdjacentAnswer (λ x y r. r ≡ is_lt (R (f x) (f y))) ys b → b ≡ all_distinct same (map f xs)
  rise_differ xs ys true moved sorted rise = sym (differ_if_distinct same (map f xs) (rw level_is at (sorted_distinct xs ys moved rise)))
  rise_differ xs ys false moved sorted falls = no_differ xs (all_distinct same (map f xs)) refl (λ distinct. twice xs ys falls.0 moved sorted falls.1 (falls.2 d) distinct)

-- texts with different hashes are different
self_equal : (n : ℕ) → (n == n) ≡ true
self_equal n = grind (arith, nat_tests)

same_hash : (t u : List ℕ) → bytes_eq t u ≡ true → (text_hash t == text_hash u) ≡ true
same_hash t u e = rw ((bytes_eq-Decides t u).0 e) (self_equal (text_hash u))

module _ {A : Type 0} (text_of : A → List ℕ) where
  apart_by_hash : (x : A) (xs : List A) → AllByRecursion (λ n. (text_hash (text_of x) == n) ≡ false) (map (λ y. text_hash (text_of y)) xs) → AllByRecursion (λ t. bytes_eq (text_of x) t ≡ false) (map text_of xs)
  apart_by_hash x [] h = tt
  apart_by_hash x (y ∷ ys) h = (other (bytes_eq (text_of x) (text_of y)) refl, apart_by_hash x ys h.1)
    where
      other : (b : Bool) → bytes_eq (text_of x) (text_of y) ≡ b → b ≡ false
      other true e = absurd (false≢true (sym h.0 ∙ same_hash (text_of x) (text_of y) e))
      other false e = refl

  distinct_by_hash : (xs : List A) → IsDistinct (λ a b. a == b) (map (λ y. text_hash (text_of y)) xs) → IsDistinct bytes_eq (map text_of xs)
  unfolding IsDistinct
  distinct_by_hash [] d = tt
  distinct_by_hash (x ∷ xs) d = (apart_by_hash x xs d.0, distinct_by_hash xs d.1)

  pub differ_by_hash : (xs : List A) → all_distinct (λ a b. a == b) (map (λ y. text_hash (text_of y)) xs) ≡ true → all_distinct bytes_eq (map text_of xs) ≡ true
  differ_by_hash xs e = differ_if_distinct bytes_eq (map text_of xs) (distinct_by_hash xs (distinct_if_differ (λ a b. a == b) (map (λ y. text_hash (text_of y)) xs) e))

pub texts_level : eq_by_cmp (slice_cmp nat_cmp) ≡ bytes_eq
texts_level = fun_ext (λ x. fun_ext (λ y. is_eq-slice_cmp x y))

is_eq-nat_cmp : (x y : ℕ) → is_eq (nat_cmp x y) ≡ (x == y)
is_eq-nat_cmp x y = grind (arith, nat_tests)

pub numbers_level : eq_by_cmp nat_cmp ≡ (λ a b. a == b)
numbers_level = fun_ext (λ x. fun_ext (λ y. is_eq-nat_cmp x y))

-- p accepts an element of the mapped list exactly if it accepts f of an item
pub any-map : {A B : Type 0} (p : B → Bool) (f : A → B) (xs : List A) → list_any p (map f xs) ≡ list_any (λ x. p (f x)) xs
any-map p f [] = refl
any-map p f (x ∷ xs) = ap (λ b. p (f x) || b) (any-map p f xs)

pub field_names : (fields : List Field) → map (λ x. x.name) (map field_view fields) ≡ map (λ f. string_bytes f.name) fields
field_names [] = refl
field_names (f ∷ fields) = ap (λ (names : List (List ℕ)). string_bytes f.name ∷ names) (field_names fields)
