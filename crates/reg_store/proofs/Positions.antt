-- The positions of a version while its ids are added.
use Rattle.std.proofs.Common.{◌≡◌, ◌≢◌, ◌+◌, ◌<◌, ◌≤◌, arith, ℕ, zero, suc, List, [], ◌∷◌, ◌++◌, length, take, get_or, None, refl, sym, ap, subst, ◌∙◌}
use Rattle.std.specs.Prelude.{slice_get, IsSome}
use Rattle.std.proofs.lemmas.List.{take_more, length-take-le}
use Rattle.std.proofs.lemmas.Option.{slice_get_past}
use Rattle.std.specs.FinMap.{get}
use Rattle.reg_core.specs.Registry.{RowKey}
use Rattle.reg_tables.specs.Contents.{PositionKey, position_cmp, Contents}
use Rattle.reg_tables.specs.Changes.{with_against}
use Rattle.reg_tables.proofs.MapLemmas.{get-insert-same, get-insert-other}
use Rattle.reg_tables.proofs.Keys.{position_order}
use Rattle.reg_store.specs.Inside.Applying.{with_ids, HasNoPositions, HasTexts}

module _ (key : RowKey) where
  -- no other table changes
  pub ids_beside : (n : ℕ) (ids : List ℕ) (contents : Contents) → with_ids key n ids contents ≡ record contents { against = (with_ids key n ids contents).against }
  ids_beside n [] contents = refl
  ids_beside n (id ∷ ids) contents = ids_beside (n + 1) ids (with_against (key, n) id contents)

  pub ids_append : (n : ℕ) (ids : List ℕ) (id : ℕ) (contents : Contents) → with_ids key n (ids ++ id ∷ []) contents ≡ with_against (key, n + length ids) id (with_ids key n ids contents)
  ids_append n [] id contents = ap (λ (p : ℕ). with_against (key, p) id contents) (omega arith)
  ids_append n (x ∷ ids) id contents = ids_append (n + 1) ids id (with_against (key, n) x contents) ∙ ap (λ (p : ℕ). with_against (key, p) id (with_ids key (n + 1) ids (with_against (key, n) x contents))) (omega arith)

  -- the positions of other versions stay
  pub ids_elsewhere : (n : ℕ) (ids : List ℕ) (contents : Contents) (position : PositionKey) → position.0 ≢ key → get (with_ids key n ids contents).against position ≡ get contents.against position
  ids_elsewhere n [] contents position other = refl
  ids_elsewhere n (id ∷ ids) contents position other =
      ids_elsewhere (n + 1) ids (with_against (key, n) id contents) position other ∙ get-insert-other position_cmp position_order contents.against (key, n) id position (λ e. other (ap (λ (p : PositionKey). p.0) e))

  another : (position n : ℕ) → (position ≡ n → ⊥) → ◌≢◌ {A = PositionKey} (key, position) (key, n)
  another position n apart e = apart (ap (λ (p : PositionKey). p.1) e)

  -- the positions before the first id stay too
  ids_before : (n : ℕ) (ids : List ℕ) (contents : Contents) (position : ℕ) → position < n → get (with_ids key n ids contents).against (key, position) ≡ get contents.against (key, position)
  ids_before n [] contents position low = refl
  ids_before n (id ∷ ids) contents position low =
      ids_before (n + 1) ids (with_against (key, n) id contents) position (omega (arith, low)) ∙ get-insert-other position_cmp position_order contents.against (key, n) id (key, position) (another position n (λ e. omega (arith, low, e)))

  -- free positions get the ids in their order, and nothing else
  ids_since : (n : ℕ) (ids : List ℕ) (contents : Contents) → ((position : ℕ) → n ≤ position → get contents.against (key, position) ≡ None) → (k : ℕ) → get (with_ids key n ids contents).against (key, n + k) ≡ slice_get ids k
  ids_since n [] contents free k = free (n + k) (omega arith)
  ids_since n (id ∷ ids) contents free zero =
      let here : n + 0 ≡ n = omega arith in
      ap (λ (p : ℕ). get (with_ids key n (id ∷ ids) contents).against (key, p)) here
      ∙ ids_before (n + 1) ids (with_against (key, n) id contents) n (omega arith)
      ∙ get-insert-same position_cmp position_order contents.against (key, n) id
  ids_since n (id ∷ ids) contents free (suc k) =
      let there : n + suc k ≡ n + 1 + k = omega arith in
      ap (λ (p : ℕ). get (with_ids key n (id ∷ ids) contents).against (key, p)) there
      ∙ ids_since (n + 1) ids (with_against (key, n) id contents) (λ p up. get-insert-other position_cmp position_order contents.against (key, n) id (key, p) (another p n (λ e. omega (arith, up, e))) ∙ free p (omega (arith, up))) k

  module _ (ids : List ℕ) (contents : Contents) (free : HasNoPositions contents key) where
    pub at_zero : get (with_ids key 1 ids contents).against (key, 0) ≡ None
    at_zero = ids_before 1 ids contents 0 (omega arith) ∙ free 0

    pub at_next : (k : ℕ) → get (with_ids key 1 ids contents).against (key, suc k) ≡ slice_get ids k
    at_next k =
        let next : suc k ≡ 1 + k = omega arith in
        ap (λ (p : ℕ). get (with_ids key 1 ids contents).against (key, p)) next ∙ ids_since 1 ids contents (λ position up. free position) k

  module _ (ids : List ℕ) (contents : Contents) (i position : ℕ) (within : i < length ids) (next : position ≡ i + 1) where
    -- after the first ids, the next position is free
    pub next_is_free : HasNoPositions contents key → get (with_ids key 1 (take i ids) contents).against (key, position) ≡ None
    next_is_free free =
        let there : position ≡ suc i = next ∙ omega arith in
        ap (λ (p : ℕ). get (with_ids key 1 (take i ids) contents).against (key, p)) there
        ∙ at_next (take i ids) contents free i
        ∙ slice_get_past (take i ids) i (let short = length-take-le i ids (omega (arith, within)) in omega (arith, short))

    pub next_is_put : with_against (key, position) (get_or ids i 0) (with_ids key 1 (take i ids) contents) ≡ with_ids key 1 (take (i + 1) ids) contents
    next_is_put =
        let short = length-take-le i ids (omega (arith, within)) in
        let there : position ≡ 1 + length (take i ids) = omega (arith, next, short) in
        ap (λ (p : ℕ). with_against (key, p) (get_or ids i 0) (with_ids key 1 (take i ids) contents)) there
        ∙ sym (ids_append 1 (take i ids) (get_or ids i 0) contents)
        ∙ sym (ap (λ (l : List ℕ). with_ids key 1 l contents) (take_more ids i 0 within))

    pub has_still : HasTexts contents key ids → IsSome (get (with_ids key 1 (take i ids) contents).versions key) × IsSome (get (with_ids key 1 (take i ids) contents).texts (get_or ids i 0))
    has_still has = subst (λ (c : Contents). IsSome (get c.versions key) × IsSome (get c.texts (get_or ids i 0))) (sym (ids_beside 1 (take i ids) contents)) (has.version, has.texts i 0 within)
