-- A loop that tests each item of a list.
use Rattle.std.proofs.Common.{◌≡◌, ℕ, ◌+◌, ◌<◌, ◌≤◌, List, ◌∷◌, length, drop, get_or, sym, subst, add-one, drop-cons}
use Rattle.std.proofs.lemmas.List.{drop_all}
use Rattle.std.specs.List.{AllByRecursion}

drop_from : {A : Type 0} (xs : List A) (i : ℕ) (x : A) → i < length xs → drop i xs ≡ get_or xs i x ∷ drop (i + 1) xs
drop_from xs i x h = rw (add-one, drop-cons xs i x)

module _ {X : Type 0} (P : X → Type 0) (xs : List X) where
  -- all items pass exactly if those from `i` on do
  abbrev pub Left : ℕ → Type 0
  Left i = (AllByRecursion P (drop i xs) → AllByRecursion P xs) × (AllByRecursion P xs → AllByRecursion P (drop i xs))

  pub at_start : Left 0
  at_start = (λ h. h, λ h. h)

  from_here : (i : ℕ) (x d : X) → i < length xs → x ≡ get_or xs i d → drop i xs ≡ x ∷ drop (i + 1) xs
  from_here i x d h is = rw is (drop_from xs i d h)

  pub passes : (i : ℕ) (x d : X) → i < length xs → x ≡ get_or xs i d → P x → Left i → Left (i + 1)
  passes i x d h is p l =
      let e = from_here i x d h is in (
        λ (rest : AllByRecursion P (drop (i + 1) xs)). l.0 (subst (AllByRecursion P) (sym e) (p, rest)),
        λ (all : AllByRecursion P xs). (subst (AllByRecursion P) e (l.1 all)).1,
      )

  pub fails : (i : ℕ) (x d : X) → i < length xs → x ≡ get_or xs i d → (P x → ⊥) → Left i → AllByRecursion P xs → ⊥
  fails i x d h is other l all = other (subst (AllByRecursion P) (from_here i x d h is) (l.1 all)).0

  pub over : (i : ℕ) → length xs ≤ i → Left i → AllByRecursion P xs
  over i h l = l.0 (rw (drop_all i xs h) tt)
