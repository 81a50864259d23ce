-- The next item after a key in an ascending list.
use Rattle.std.proofs.Common.{◌≡◌, inl, inr, ◌&&◌, ℕ, zero, suc, ◌+◌, List, [], ◌∷◌, take, find, Bool, true, false, cond, Option, None, Some, slice_get, Ordering, Less, Equal, Greater, refl, sym, ap, subst, ◌∙◌, add-one}
use Rattle.std.specs.Prelude.{bytes_eq, option_map}
use Rattle.std.specs.Cmp.{IsTotalOrder}
use Rattle.std.specs.List.{AllByRecursion, dedup, dedup_from, last_or}
use Rattle.std.specs.Ordering.{is_gt, nat_cmp, ordering_reverse, ordering_then}
use Rattle.std.specs.Cmp.Lexicographic.{slice_cmp}
use Rattle.std.specs.FinMap.{slice_cmp-IsAntisymmetric, nat_cmp-IsAntisymmetric}
use Rattle.std.proofs.lemmas.Bool.{cases_Bool, both_ways}
use Rattle.std.proofs.lemmas.Cmp.{nat_list_cmp_total, tied_itself}
use Rattle.std.proofs.lemmas.Option.{none-some, same_Some}
use Rattle.std.proofs.lemmas.Slice.Eq.{bytes_eq-Decides}
use Rattle.sqlite.specs.Tree.{IsAscending}
use Rattle.sqlite_trees.proofs.ListLemmas.{all_weaker}
use Rattle.reg_store.specs.NextLines.{is_after}

-- ---- after the last of the first items

module _ {X K : Type 0} (cmp : K → K → Ordering) (total : IsTotalOrder cmp) (key : X → K) where
  abbrev pub KeysRise : List X → Type 0
  KeysRise = IsAscending (λ a b. cmp (key a) (key b) ≡ Less)

  abbrev key_of : Option X → Option K
  key_of = option_map key

  not_above : (a b : K) → cmp a b ≡ Less → is_gt (cmp a b) ≡ false
  not_above a b h = ap is_gt h

  above : (a b : K) → cmp a b ≡ Less → is_gt (cmp b a) ≡ true
  above a b h = ap is_gt (total.antisymm b a ∙ ap ordering_reverse h)

  -- no item comes after itself or after a later item
  not_after : (x y : X) (n : ℕ) (xs : List X) → is_gt (cmp (key x) (key y)) ≡ false → AllByRecursion (λ z. is_gt (cmp (key x) (key z)) ≡ false) xs → is_after cmp (key_of (last_or (Some y) (take n xs))) (key x) ≡ false
  not_after x y zero xs here all = here
  not_after x y (suc n) [] here all = here
  not_after x y (suc n) (z ∷ xs) here all = not_after x z n xs all.0 all.1

  abbrev IsBelow : Option X → List X → Type 0
  IsBelow o xs = AllByRecursion (λ x. is_after cmp (key_of o) (key x) ≡ true) xs

  next_after : (o : Option X) (n : ℕ) (xs : List X) → KeysRise xs → IsBelow o xs → find (λ x. is_after cmp (key_of (last_or o (take n xs))) (key x)) xs ≡ slice_get xs n
  next_after o zero [] up below = refl
  next_after o zero (x ∷ xs) up below = ap (λ b. cond b (Some x) (find (λ y. is_after cmp (key_of o) (key y)) xs)) below.0
  next_after o (suc n) [] up below = refl
  next_after o (suc n) (x ∷ xs) up below =
      let passed : is_after cmp (key_of (last_or (Some x) (take n xs))) (key x) ≡ false =
      not_after x x n xs (ap is_gt (tied_itself total (key x))) (all_weaker (λ z. cmp (key x) (key z) ≡ Less) (λ z. is_gt (cmp (key x) (key z)) ≡ false) (λ z. not_above (key x) (key z)) xs up.0) in
      ap (λ b. cond b (Some x) (find (λ y. is_after cmp (key_of (last_or (Some x) (take n xs))) (key y)) xs)) passed
      ∙ next_after (Some x) n xs up.1 (all_weaker (λ z. cmp (key x) (key z) ≡ Less) (λ z. is_gt (cmp (key z) (key x)) ≡ true) (λ z. above (key x) (key z)) xs up.0)

  all_after : (xs : List X) → IsBelow None xs
  all_after [] = tt
  all_after (x ∷ xs) = (refl, all_after xs)

  -- the first item after the last of the first `n` is the next one
  pub next_of : (n : ℕ) (xs : List X) → KeysRise xs → find (λ x. is_after cmp (key_of (last_or None (take n xs))) (key x)) xs ≡ slice_get xs n
  next_of n xs up = next_after None n xs up (all_after xs)

pub last_taken : {X : Type 0} (o : Option X) (n : ℕ) (xs : List X) (x : X) → slice_get xs n ≡ Some x → last_or o (take (n + 1) xs) ≡ Some x
last_taken o n xs x h = subst (λ m. last_or o (take m xs) ≡ Some x) (sym (add-one n)) (go o n xs h)
  where
    go : (o : Option _) (n : ℕ) (xs : List _) → slice_get xs n ≡ Some x → last_or o (take (suc n) xs) ≡ Some x
    go o n [] h = absurd (none-some x h)
    go o zero (y ∷ xs) h = h
    go o (suc n) (y ∷ xs) h = go (Some y) n xs h

-- ---- by two keys

-- the next item with the same first key, or else the first with a greater one
module _ {X : Type 0} (first : X → List ℕ) (second : X → ℕ) (a : List ℕ) (b : ℕ) where
  abbrev text_cmp : List ℕ → List ℕ → Ordering
  text_cmp = slice_cmp nat_cmp

  abbrev cmp_to : X → Ordering
  cmp_to x = ordering_then (text_cmp (first x) a) (nat_cmp (second x) b)

  abbrev is_same : X → Bool
  is_same x = bytes_eq (first x) a && is_gt (nat_cmp (second x) b)

  abbrev is_later : X → Bool
  is_later x = is_gt (text_cmp (first x) a)

  tied : (x : X) → bytes_eq (first x) a ≡ true → text_cmp (first x) a ≡ Equal
  tied x same = ap (λ t. text_cmp t a) ((bytes_eq-Decides (first x) a).0 same) ∙ tied_itself nat_list_cmp_total a

  untied : (x : X) → bytes_eq (first x) a ≡ false → is_gt (cmp_to x) ≡ is_later x
  untied x other = go (text_cmp (first x) a) refl
    where
      go : (o : Ordering) → text_cmp (first x) a ≡ o → is_gt (ordering_then o (nat_cmp (second x) b)) ≡ is_gt o
      go Less is = refl
      go Equal is = absurd (both_ways _ other ((bytes_eq-Decides (first x) a).1 (slice_cmp-IsAntisymmetric nat_cmp-IsAntisymmetric (first x) a is)))
      go Greater is = refl

  -- an item with another first key comes after `(a, b)` only by its first key
  by_later : (x : X) → is_same x ≡ false → is_gt (cmp_to x) ≡ is_later x
  by_later x none = elim (cases_Bool (bytes_eq (first x) a)) [
    | inl same ↦ (let no : is_gt (nat_cmp (second x) b) ≡ false = sym (ap (λ t. t && is_gt (nat_cmp (second x) b)) same) ∙ none in ap (λ o. is_gt (ordering_then o (nat_cmp (second x) b))) (tied x same) ∙ no ∙ sym (ap is_gt (tied x same)))
    | inr other ↦ untied x other
  ]

  pub none_same : (xs : List X) → find is_same xs ≡ None → find (λ x. is_gt (cmp_to x)) xs ≡ find is_later xs
  none_same [] h = refl
  none_same (x ∷ xs) h = go (is_same x) refl h (none_same xs)
    where
      go : (c : Bool) → is_same x ≡ c → cond c (Some x) (find is_same xs) ≡ None → (find is_same xs ≡ None → find (λ y. is_gt (cmp_to y)) xs ≡ find is_later xs) → cond (is_gt (cmp_to x)) (Some x) (find (λ y. is_gt (cmp_to y)) xs) ≡ cond (is_later x) (Some x) (find is_later xs)
      go true is h rest = absurd (none-some x (sym h))
      go false is h rest = λ i. cond (by_later x is i) (Some x) (rest h i)

  abbrev PairsRise : List X → Type 0
  PairsRise = IsAscending (λ x y. ordering_then (text_cmp (first x) (first y)) (nat_cmp (second x) (second y)) ≡ Less)

  two_of : (p q : Bool) → (p && q) ≡ true → (p ≡ true) × (q ≡ true)
  two_of true q h = (refl, h)
  two_of false q h = absurd (cc)

  no_later : (x y : X) → is_same y ≡ true → ordering_then (text_cmp (first x) (first y)) (nat_cmp (second x) (second y)) ≡ Less → is_later x ≡ false
  no_later x y same below =
      let its : first y ≡ a = (bytes_eq-Decides (first y) a).0 (two_of _ _ same).0 in
      go (text_cmp (first x) a) (subst (λ t. ordering_then (text_cmp (first x) t) (nat_cmp (second x) (second y)) ≡ Less) its below)
    where
      go : (o : Ordering) → ordering_then o (nat_cmp (second x) (second y)) ≡ Less → is_gt o ≡ false
      go Less h = refl
      go Equal h = refl
      go Greater h = absurd (cc)

  one_of : (xs : List X) (y : X) (P : X → Type 0) → find is_same xs ≡ Some y → AllByRecursion P xs → P y × (is_same y ≡ true)
  one_of [] y P h all = absurd (none-some y h)
  one_of (x ∷ xs) y P h all = go (is_same x) refl h (λ more. one_of xs y P more all.1)
    where
      go : (c : Bool) → is_same x ≡ c → cond c (Some x) (find is_same xs) ≡ Some y → (find is_same xs ≡ Some y → P y × (is_same y ≡ true)) → P y × (is_same y ≡ true)
      go true is h rest = let e = same_Some x y h in (subst P e all.0, ap is_same (sym e) ∙ is)
      go false is h rest = rest h

  pub some_same : (xs : List X) (y : X) → PairsRise xs → find is_same xs ≡ Some y → find (λ x. is_gt (cmp_to x)) xs ≡ Some y
  some_same [] y up h = h
  some_same (x ∷ xs) y up h = go (is_same x) refl h (some_same xs y up.1)
    where
      go : (c : Bool) → is_same x ≡ c → cond c (Some x) (find is_same xs) ≡ Some y → (find is_same xs ≡ Some y → find (λ z. is_gt (cmp_to z)) xs ≡ Some y)
          → cond (is_gt (cmp_to x)) (Some x) (find (λ z. is_gt (cmp_to z)) xs) ≡ Some y
      go true is h rest =
          let both = two_of _ _ is in
          ap (λ c. cond c (Some x) (find (λ z. is_gt (cmp_to z)) xs)) (ap (λ o. is_gt (ordering_then o (nat_cmp (second x) b))) (tied x both.0) ∙ both.1) ∙ h
      go false is h rest =
          let it = one_of xs y (λ z. ordering_then (text_cmp (first x) (first z)) (nat_cmp (second x) (second z)) ≡ Less) h up.0 in
          ap (λ c. cond c (Some x) (find (λ z. is_gt (cmp_to z)) xs)) (by_later x is ∙ no_later x y it.1 it.0) ∙ rest h

-- ---- duplicates

module _ (p : List ℕ → Bool) where
  find-dedup_from : (k : List ℕ) (xs : List (List ℕ)) → find p (dedup_from bytes_eq k xs) ≡ find p (k ∷ xs)
  find-dedup_from k [] = refl
  find-dedup_from k (x ∷ xs) = go (bytes_eq x k) refl (find-dedup_from k xs) (find-dedup_from x xs)
    where
      go : (c : Bool) → bytes_eq x k ≡ c → find p (dedup_from bytes_eq k xs) ≡ find p (k ∷ xs) → find p (dedup_from bytes_eq x xs) ≡ find p (x ∷ xs) → find p (cond c (dedup_from bytes_eq k xs) (k ∷ dedup_from bytes_eq x xs)) ≡ find p (k ∷ x ∷ xs)
      go true is here there =
          let same : x ≡ k = (bytes_eq-Decides x k).0 is in
          here ∙ twice (p k) ∙ ap (λ z. cond (p k) (Some k) (cond (p z) (Some z) (find p xs))) (sym same)
        where
          twice : (b : Bool) → cond b (Some k) (find p xs) ≡ cond b (Some k) (cond b (Some k) (find p xs))
          twice true = refl
          twice false = refl
      go false is here there = ap (λ o. cond (p k) (Some k) o) there

  pub find-dedup : (xs : List (List ℕ)) → find p (dedup bytes_eq xs) ≡ find p xs
  find-dedup [] = refl
  find-dedup (x ∷ xs) = find-dedup_from x xs

-- non-decreasing texts without duplicates are ascending
abbrev pub NeverFalls : List (List ℕ) → Type 0
NeverFalls = IsAscending (λ a b. is_gt (slice_cmp nat_cmp a b) ≡ false)

abbrev cmp : List ℕ → List ℕ → Ordering
cmp = slice_cmp nat_cmp

no_less : (k : List ℕ) (x : List ℕ) (xs : List (List ℕ)) → is_gt (cmp k x) ≡ false → AllByRecursion (λ y. is_gt (cmp k y) ≡ false) xs → AllByRecursion (λ y. is_gt (cmp k y) ≡ false) (dedup_from bytes_eq x xs)
no_less k x [] here all = (here, tt)
no_less k x (y ∷ xs) here all = elim (bytes_eq y x) as (λ c. AllByRecursion (λ z. is_gt (cmp k z) ≡ false) (cond c (dedup_from bytes_eq x xs) (x ∷ dedup_from bytes_eq y xs))) [
  | true ↦ no_less k x xs here all.1
  | false ↦ (here, no_less k y xs all.0 all.1)
]

less : (a b : List ℕ) → is_gt (cmp a b) ≡ false → bytes_eq b a ≡ false → cmp a b ≡ Less
less a b low other = go (cmp a b) refl low
  where
    go : (o : Ordering) → cmp a b ≡ o → is_gt o ≡ false → o ≡ Less
    go Less is h = refl
    go Equal is h = absurd (both_ways _ other ((bytes_eq-Decides b a).1 (sym (slice_cmp-IsAntisymmetric nat_cmp-IsAntisymmetric a b is))))
    go Greater is h = absurd (cc)

below_all_from : (k x : List ℕ) (xs : List (List ℕ)) → cmp k x ≡ Less → AllByRecursion (λ y. is_gt (cmp x y) ≡ false) (dedup_from bytes_eq x xs) → AllByRecursion (λ y. cmp k y ≡ Less) (dedup_from bytes_eq x xs)
below_all_from k x xs below all = all_weaker (λ y. is_gt (cmp x y) ≡ false) (λ y. cmp k y ≡ Less) (λ y low. not_less k x y below low) (dedup_from bytes_eq x xs) all
  where
    not_less : (k x y : List ℕ) → cmp k x ≡ Less → is_gt (cmp x y) ≡ false → cmp k y ≡ Less
    not_less k x y below low = go (cmp x y) refl low
      where
        go : (o : Ordering) → cmp x y ≡ o → is_gt o ≡ false → cmp k y ≡ Less
        go Less is h = nat_list_cmp_total.trans k x y below is
        go Equal is h = subst (λ z. cmp k z ≡ Less) (slice_cmp-IsAntisymmetric nat_cmp-IsAntisymmetric x y is) below
        go Greater is h = absurd (cc)

rises_from : (k : List ℕ) (xs : List (List ℕ)) → AllByRecursion (λ y. is_gt (cmp k y) ≡ false) xs → NeverFalls xs → IsAscending (λ a b. cmp a b ≡ Less) (dedup_from bytes_eq k xs)
rises_from k [] above up = (tt, tt)
rises_from k (x ∷ xs) above up = go (bytes_eq x k) refl (rises_from k xs above.1 up.1) (rises_from x xs up.0 up.1)
  where
    go : (c : Bool) → bytes_eq x k ≡ c → IsAscending (λ a b. cmp a b ≡ Less) (dedup_from bytes_eq k xs) → IsAscending (λ a b. cmp a b ≡ Less) (dedup_from bytes_eq x xs) → IsAscending (λ a b. cmp a b ≡ Less) (cond c (dedup_from bytes_eq k xs) (k ∷ dedup_from bytes_eq x xs))
    go true is here there = here
    go false is here there = (below_all_from k x xs (less k x above.0 is) (no_less x x xs (ap is_gt (tied_itself nat_list_cmp_total x)) up.0), there)

pub dedup_rises : (xs : List (List ℕ)) → NeverFalls xs → IsAscending (λ a b. cmp a b ≡ Less) (dedup bytes_eq xs)
dedup_rises [] up = tt
dedup_rises (x ∷ xs) up = rises_from x xs up.0 up.1
