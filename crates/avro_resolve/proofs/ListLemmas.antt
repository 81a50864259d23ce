-- A list for each place.
use Rattle.std.proofs.Common.{◌≡◌, ℕ, zero, suc, ◌+◌, ◌<◌, ◌≤◌, List, [], ◌∷◌, ◌++◌, Bool, true, false, length, get_or, refl, sym, ap, subst, ◌∙◌, arith, inl, inr}
use Rattle.std.proofs.Math.ListN.{set}
use Rattle.std.specs.Prelude.{◌==◌, ◌⊎◌, Contains, Vec}
use Rattle.std.proofs.lemmas.Bool.{cases_lt}
use Rattle.std.specs.declared.alloc.Global.{Global}
use Rattle.std.proofs.lemmas.List.{length-set}
use Rattle.std.proofs.lemmas.Bool.Decides.{nat_tests}
use Rattle.avro_resolve.specs.Inside.Lists.{list_at, IsListedAt, OnlyAdds}

pub nothing_stands : {X : Type 0} (x : X) → Contains [] x → ⊥
nothing_stands x h = let l = h.1 in absurd (omega arith)

module _ {X : Type 0} where
  pub empty_push : (xs : List (Vec X Global)) (v : Vec X Global) → v.items ≡ [] → ((p : ℕ) → list_at xs p ≡ []) → (p : ℕ) → list_at (xs ++ v ∷ []) p ≡ []
  unfolding list_at
  empty_push [] v e h zero = e
  empty_push [] v e h (suc p) = refl
  empty_push (x ∷ xs) v e h zero = h zero
  empty_push (x ∷ xs) v e h (suc p) = empty_push xs v e (λ q. h (suc q)) p

  pub list_past : (xs : List (Vec X Global)) (p : ℕ) → length xs ≤ p → list_at xs p ≡ []
  unfolding list_at
  list_past [] p l = refl
  list_past (x ∷ xs) zero l = absurd (omega arith)
  list_past (x ∷ xs) (suc p) l = list_past xs p (omega arith)

  pub list_in : (xs : List (Vec X Global)) (p : ℕ) (d : Vec X Global) → p < length xs → list_at xs p ≡ (get_or xs p d).items
  unfolding list_at
  list_in [] p d l = absurd (omega arith)
  list_in (x ∷ xs) zero d l = refl
  list_in (x ∷ xs) (suc p) d l = list_in xs p d (omega arith)

  pub list_set : (xs : List (Vec X Global)) (k : ℕ) (v : Vec X Global) → k < length xs → list_at (set xs k v) k ≡ v.items
  unfolding list_at
  list_set [] k v l = absurd (omega arith)
  list_set (x ∷ xs) zero v l = refl
  list_set (x ∷ xs) (suc k) v l = list_set xs k v (omega arith)

  pub list_set_other : (xs : List (Vec X Global)) (k p : ℕ) (v : Vec X Global) → (p ≡ k → ⊥) → list_at (set xs k v) p ≡ list_at xs p
  unfolding list_at
  list_set_other [] k p v n = refl
  list_set_other (x ∷ xs) zero zero v n = absurd (n refl)
  list_set_other (x ∷ xs) zero (suc p) v n = refl
  list_set_other (x ∷ xs) (suc k) zero v n = refl
  list_set_other (x ∷ xs) (suc k) (suc p) v n = list_set_other xs k p v (λ e. n (ap suc e))

pub same_place : (x i : ℕ) → (x ≡ i) ⊎ (x ≡ i → ⊥)
same_place x i = by (x == i) refl
  where
    by : (b : Bool) → (x == i) ≡ b → (x ≡ i) ⊎ (x ≡ i → ⊥)
    by true e = inl (grind (arith, nat_tests))
    by false e = inr (λ (h : x ≡ i). grind (arith, nat_tests))

-- one of the lists changes
module _ {X : Type 0} (xs : List (Vec X Global)) (k : ℕ) (v : Vec X Global) (l : k < length xs) where
  pub keeps : ((x : X) → Contains (list_at xs k) x → Contains v.items x) → (x : X) (p : ℕ) → IsListedAt xs x p → IsListedAt (set xs k v) x p
  keeps kept x p h = elim (same_place p k) [
    | inl e ↦ subst (λ (q : ℕ). IsListedAt (set xs k v) x q) (sym e) (subst (λ (ys : List X). Contains ys x) (sym (list_set xs k v l)) (kept x (subst (λ (q : ℕ). IsListedAt xs x q) e h)))
    | inr n ↦ subst (λ (ys : List X). Contains ys x) (sym (list_set_other xs k p v n)) h
  ]

  pub onlys : (Such : X → ℕ → Type 0) → ((x : X) → Contains v.items x → Contains (list_at xs k) x ⊎ Such x k) → (x : X) (p : ℕ) → IsListedAt (set xs k v) x p → IsListedAt xs x p ⊎ Such x p
  onlys Such only x p h = elim (same_place p k) [
    | inl e ↦ elim (only x (subst (λ (ys : List X). Contains ys x) (list_set xs k v l) (subst (λ (q : ℕ). IsListedAt (set xs k v) x q) e h))) [
      | inl g ↦ inl (subst (λ (q : ℕ). IsListedAt xs x q) (sym e) g)
      | inr g ↦ inr (subst (Such x) (sym e) g)
    ]
    | inr n ↦ inl (subst (λ (ys : List X). Contains ys x) (list_set_other xs k p v n) h)
  ]

  pub adds_one : (Such : X → ℕ → Type 0) → ((x : X) → Contains (list_at xs k) x → Contains v.items x) → ((x : X) → Contains v.items x → Contains (list_at xs k) x ⊎ Such x k) → OnlyAdds Such xs (set xs k v)
  adds_one Such kept only = record { long = length-set xs k v; kept = keeps kept; only = onlys Such only }

module _ {X : Type 0} (Such : X → ℕ → Type 0) where
  pub adds_none : (xs : List (Vec X Global)) → OnlyAdds Such xs xs
  adds_none xs = record { long = refl; kept = λ x p h. h; only = λ x p h. inl h }

  pub adds_such : (This : X → ℕ → Type 0) → ((x : X) (p : ℕ) → This x p → Such x p) → (xs ys : List (Vec X Global)) → OnlyAdds This xs ys → OnlyAdds Such xs ys
  adds_such This this xs ys h = record {
    long = h.long;
    kept = h.kept;
    only = λ x p l. elim (h.only x p l) [ inl m ↦ inl m | inr e ↦ inr (this x p e) ];
  }

  pub adds_then : (This That : X → ℕ → Type 0) → ((x : X) (p : ℕ) → This x p → Such x p) → ((x : X) (p : ℕ) → That x p → Such x p) → (xs ys zs : List (Vec X Global)) → OnlyAdds This xs ys → OnlyAdds That ys zs → OnlyAdds Such xs zs
  adds_then This That this that xs ys zs g h = record {
    long = h.long ∙ g.long;
    kept = λ x p l. h.kept x p (g.kept x p l);
    only = λ x p l. elim (h.only x p l) [ inl m ↦ elim (g.only x p m) [ inl n ↦ inl n | inr e ↦ inr (this x p e) ] | inr e ↦ inr (that x p e) ];
  }

pub get_or_any : {X : Type 0} (xs : List X) (k : ℕ) (d e : X) → k < length xs → get_or xs k d ≡ get_or xs k e
get_or_any [] k d e l = absurd (omega arith)
get_or_any (x ∷ xs) zero d e l = refl
get_or_any (x ∷ xs) (suc k) d e l = get_or_any xs k d e (omega arith)

-- a property of the elements before index n and of element n is one of the elements before n + 1
pub each_more : {X : Type 0} (P : X → Type 0) (xs : List X) (n : ℕ) (e : X) → n < length xs → ((k : ℕ) (d : X) → k < n → P (get_or xs k d)) → P (get_or xs n e) → (k : ℕ) (d : X) → k < n + 1 → P (get_or xs k d)
each_more P xs n e within before here k d l = elim (cases_lt k n) [
  | inl g ↦ before k d g
  | inr g ↦ (let same : n ≡ k = omega arith in subst (λ (x : ℕ). P (get_or xs x d)) same (subst P (get_or_any xs n e d within) here))
]
