-- A finite map after an insertion, a removal or a replacement, key by key.
use Rattle.std.proofs.Common.{◌≡◌, ◌≢◌, ◌⊎◌, inl, inr, Option, Some, None, option_map, true, false, cond, Ordering, Less, Equal, Greater, refl, sym, ap, ◌∙◌}
use Rattle.reg_tables.proofs.Kit.{unwrap_or, is_eq, FinMap, get, remove, get-insert, get-remove, same_map, tied_itself, cases_Bool, both_ways, false_from_ne_true}
use Rattle.std.specs.FinMap.{insert}
use Rattle.reg_tables.specs.Changes.{altered}
use Rattle.reg_tables.specs.Inside.KeyedLaws.{IsKeyOrder}

pub equal_of : (o : Ordering) → is_eq o ≡ true → o ≡ Equal
equal_of Less h = absurd (cc)
equal_of Equal h = refl
equal_of Greater h = absurd (cc)

module _ {K : Type 0} (R : K → K → Ordering) (order : IsKeyOrder R) where
  pub same_key : (q k : K) → is_eq (R q k) ≡ true → q ≡ k
  same_key q k h = order.antisymmetric q k (equal_of (R q k) h)

  pub tied_key : (q k : K) → q ≡ k → is_eq (R q k) ≡ true
  tied_key q k e = ap (λ t. is_eq (R t k)) e ∙ ap is_eq (tied_itself order.total k)

  pub other_key : (q k : K) → q ≢ k → is_eq (R q k) ≡ false
  other_key q k other = false_from_ne_true _ (λ h. other (same_key q k h))

  pub same_or_not : (q k : K) → (q ≡ k) ⊎ (q ≢ k)
  same_or_not q k = elim (cases_Bool (is_eq (R q k))) [ inl h ↦ inl (same_key q k h) | inr h ↦ inr (λ e. both_ways _ h (tied_key q k e)) ]

  module _ {V : Type 0} (m : FinMap R V) (k : K) where
    pub get-insert-same : (v : V) → get (insert m k v) k ≡ Some v
    get-insert-same v = get-insert order.total m k v k ∙ ap (λ b. cond b (Some v) (get m k)) (tied_key k k refl)

    pub get-insert-other : (v : V) (q : K) → q ≢ k → get (insert m k v) q ≡ get m q
    get-insert-other v q other = get-insert order.total m k v q ∙ ap (λ b. cond b (Some v) (get m q)) (other_key q k other)

    pub get-altered-same : (change : V → V) → get (altered m k change) k ≡ option_map change (get m k)
    get-altered-same change = go (get m k) refl
      where
        go : (o : Option V) → get m k ≡ o → get (unwrap_or (option_map (λ v. insert m k (change v)) o) m) k ≡ option_map change o
        go None is = is
        go (Some v) is = get-insert-same (change v)

    pub get-altered-other : (change : V → V) (q : K) → q ≢ k → get (altered m k change) q ≡ get m q
    get-altered-other change q other = go (get m k)
      where
        go : (o : Option V) → get (unwrap_or (option_map (λ v. insert m k (change v)) o) m) q ≡ get m q
        go None = refl
        go (Some v) = get-insert-other (change v) q other

    pub get-remove-same : get (remove m k) k ≡ None
    get-remove-same = get-remove order.total m k k ∙ ap (λ b. cond b None (get m k)) (tied_key k k refl)

    pub get-remove-other : (q : K) → q ≢ k → get (remove m k) q ≡ get m q
    get-remove-other q other = get-remove order.total m k q ∙ ap (λ b. cond b None (get m q)) (other_key q k other)

  -- removing a key and then inserting a value under it is the same as inserting the value
  pub insert-remove : {V : Type 0} (m : FinMap R V) (k : K) (v : V) → insert (remove m k) k v ≡ insert m k v
  insert-remove m k v = same_map order.total order.antisymmetric _ _ (λ q. elim (same_or_not q k) [
    | inl e ↦ ap (get (insert (remove m k) k v)) e ∙ get-insert-same (remove m k) k v ∙ sym (get-insert-same m k v) ∙ ap (get (insert m k v)) (sym e)
    | inr other ↦ get-insert-other (remove m k) k v q other ∙ get-remove-other m k q other ∙ sym (get-insert-other m k v q other)
  ])
