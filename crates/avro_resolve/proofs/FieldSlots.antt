-- Fields are indexed by name rank in slots, and removed again.
use Rattle.std.proofs.Common.{◌≡◌, ◌⊎◌, ℕ, zero, suc, ◌+◌, ◌<◌, ◌≤◌, List, length, get_or, [], ◌∷◌, Some, refl, sym, ap, ◌∙◌, subst, inl, inr, arith}
use Rattle.std.specs.Prelude.{◌≢◌, Option, None, is_some, slice_get}
use Rattle.std.proofs.lemmas.Bool.{cases_lt, true≢false}
use Rattle.std.proofs.lemmas.Option.{same_Some, slice_get_within}
use Rattle.avro_resolve.specs.Inside.FieldSlots.{HasRank, NoField, AreInSlots, IsClear, IsSource, slot}
use Rattle.avro_resolve.specs.Inside.RankMaps.{mapped_rank}

equal_or : (x y : ℕ) → (x ≡ y) ⊎ (x ≢ y)
equal_or x y = elim (cases_lt x y) [
  | inl g ↦ inr (λ e. absurd (omega (arith, e)))
  | inr g ↦ elim (cases_lt y x) [
    | inl f ↦ inr (λ e. absurd (omega (arith, e)))
    | inr f ↦ inl (omega arith)
  ]
]

none_some : (x : ℕ) → None ≡ Some x → ⊥
none_some x e = true≢false (sym (ap is_some e))

module _ (rank_map : List (Option ℕ)) (names : List ℕ) where
  named : (k rank name : ℕ) (o : Option ℕ) → HasRank rank_map names k rank → slice_get names k ≡ Some name → mapped_rank rank_map name ≡ o → o ≡ Some rank
  named k rank name o h ek eo =
      let e : name ≡ h.0 = same_Some name h.0 (sym ek ∙ h.1) in
      sym eo ∙ ap (λ (n : ℕ). mapped_rank rank_map n) e ∙ h.2

  pub none_laid : (slots : List (Option ℕ)) (n : ℕ) → length names ≤ n → IsClear slots → AreInSlots rank_map names n slots
  none_laid slots n l clear = record {
    found = λ rank k e. absurd (clear rank k e);
    none = λ rank k lk e le h. (let within = slice_get_within names k h.0 h.1 in absurd (omega arith));
  }

  module _ (n k name : ℕ) (next : n ≡ k + 1) (ek : slice_get names k ≡ Some name) where
    unmet : mapped_rank rank_map name ≡ None → (j rank : ℕ) → j ≡ k → HasRank rank_map names j rank → ⊥
    unmet em j rank e h = none_some rank (named k rank name None (subst (λ (i : ℕ). HasRank rank_map names i rank) e h) ek em)

    met_as : (r0 : ℕ) → mapped_rank rank_map name ≡ Some r0 → (j rank : ℕ) → j ≡ k → HasRank rank_map names j rank → rank ≡ r0
    met_as r0 em j rank e h = sym (same_Some r0 rank (named k rank name (Some r0) (subst (λ (i : ℕ). HasRank rank_map names i rank) e h) ek em))

    -- no field from index n on has the rank, and the field before them hasn't either
    earlier : (rank m : ℕ) → (HasRank rank_map names k rank → ⊥) → ((j : ℕ) → n ≤ j → j < m → HasRank rank_map names j rank → ⊥) → (j : ℕ) → k ≤ j → j < m → HasRank rank_map names j rank → ⊥
    earlier rank m here later j lo hi own = elim (cases_lt k j) [
      | inl g ↦ later j (omega arith) hi own
      | inr g ↦ (let e : j ≡ k = omega arith in here (subst (λ (i : ℕ). HasRank rank_map names i rank) e own))
    ]

    pub laid_past : (slots : List (Option ℕ)) → mapped_rank rank_map name ≡ None → AreInSlots rank_map names n slots → AreInSlots rank_map names k slots
    laid_past slots em h = record {
      found = λ rank j e. (let f = h.found rank j e in (omega (arith, f.0, next), (f.1.0, earlier rank j (λ own. unmet em k rank refl own) f.1.1)));
      none = λ rank j l e lj own. elim (cases_lt k j) [ inl g ↦ h.none rank j l e (omega arith) own | inr g ↦ unmet em j rank (omega arith) own ];
    }

    module _ (r0 : ℕ) (em : mapped_rank rank_map name ≡ Some r0) (slots after : List (Option ℕ)) (long : length after ≡ length slots) (others : (other : ℕ) → other ≢ r0 → slot after other ≡ slot slots other) where
      pub laid_more : slot after r0 ≡ Some k → AreInSlots rank_map names n slots → AreInSlots rank_map names k after
      laid_more there h = record {
        found = λ rank j e. elim (equal_or rank r0) [
          | inl same ↦ (
              let is : j ≡ k = same_Some j k (sym e ∙ ap (λ (i : ℕ). slot after i) same ∙ there) in
              let own : HasRank rank_map names j rank = (name, ap (λ (i : ℕ). slice_get names i) is ∙ ek, em ∙ ap (λ (i : ℕ). Some i) (sym same)) in
              (omega (arith, is), (own, (λ i lo hi other. absurd (omega (arith, is))))))
          | inr other ↦ (
              let f = h.found rank j (sym (others rank other) ∙ e) in
              (omega (arith, f.0, next), (f.1.0, earlier rank j (λ own. other (met_as r0 em k rank refl own)) f.1.1)))
        ];
        none = λ rank j l e lj own. elim (equal_or rank r0) [
          | inl same ↦ none_some k (sym e ∙ ap (λ (i : ℕ). slot after i) same ∙ there)
          | inr other ↦ elim (cases_lt k j) [
            | inl g ↦ h.none rank j (omega (arith, long)) (sym (others rank other) ∙ e) (omega arith) own
            | inr g ↦ other (met_as r0 em j rank (omega arith) own)
          ]
        ];
      }

  -- ---- clearing the slots

  -- the slots have only fields from the index on
  abbrev pub AreLeft : ℕ → List (Option ℕ) → Type 0
  AreLeft n slots = (rank j : ℕ) → slot slots rank ≡ Some j → (n ≤ j) × HasRank rank_map names j rank

  module _ (k name : ℕ) (ek : slice_get names k ≡ Some name) where
    off_unmet : mapped_rank rank_map name ≡ None → (j rank : ℕ) → j ≡ k → HasRank rank_map names j rank → ⊥
    off_unmet em j rank e h = none_some rank (named k rank name None (subst (λ (i : ℕ). HasRank rank_map names i rank) e h) ek em)

    off_met_as : (r0 : ℕ) → mapped_rank rank_map name ≡ Some r0 → (j rank : ℕ) → j ≡ k → HasRank rank_map names j rank → rank ≡ r0
    off_met_as r0 em j rank e h = sym (same_Some r0 rank (named k rank name (Some r0) (subst (λ (i : ℕ). HasRank rank_map names i rank) e h) ek em))

    pub left_past : (slots : List (Option ℕ)) → mapped_rank rank_map name ≡ None → AreLeft k slots → AreLeft (k + 1) slots
    left_past slots em h rank j e =
        let f = h rank j e in
        elim (cases_lt k j) [ inl g ↦ (omega arith, f.1) | inr g ↦ absurd (off_unmet em j rank (omega (arith, f.0)) f.1) ]

    pub left_less : (r0 : ℕ) → mapped_rank rank_map name ≡ Some r0 → (slots after : List (Option ℕ)) → ((other : ℕ) → other ≢ r0 → slot after other ≡ slot slots other) → slot after r0 ≡ None → AreLeft k slots → AreLeft (k + 1) after
    left_less r0 em slots after others there h rank j e = elim (equal_or rank r0) [
      | inl same ↦ absurd (none_some j (sym there ∙ ap (λ (i : ℕ). slot after i) (sym same) ∙ e))
      | inr other ↦ (
          let f = h rank j (sym (others rank other) ∙ e) in
          elim (cases_lt k j) [ inl g ↦ (omega arith, f.1) | inr g ↦ absurd (other (off_met_as r0 em j rank (omega (arith, f.0)) f.1)) ])
    ]

  pub none_left : (slots : List (Option ℕ)) (n : ℕ) → length names ≤ n → AreLeft n slots → IsClear slots
  none_left slots n l h rank j e = let f = h rank j e in let within = slice_get_within names j f.1.0 f.1.1 in absurd (omega (arith, f.0, within))

  -- ---- the slot of a name

  module _ (slots : List (Option ℕ)) (h : AreInSlots rank_map names 0 slots) where
    pub nobody : (rank : ℕ) → rank < length slots → slot slots rank ≡ None → NoField rank_map names rank
    nobody rank l e k own = h.none rank k l e (omega arith) own

    pub source_none : (ranks : List ℕ) (i : ℕ) → length ranks ≤ i → ((k : ℕ) → k < i → k < length ranks → NoField rank_map names (get_or ranks k 0)) → IsSource rank_map names ranks None
    source_none [] i l none = refl
    source_none (rank ∷ ranks) zero l none = absurd (omega arith)
    source_none (rank ∷ ranks) (suc i) l none = inr (none 0 (omega arith) (omega arith), source_none ranks i (omega arith) (λ k m n. none (suc k) (omega arith) (omega arith)))

    pub source_here : (ranks : List ℕ) (i k : ℕ) → i < length ranks → slot slots (get_or ranks i 0) ≡ Some k → ((m : ℕ) → m < i → m < length ranks → NoField rank_map names (get_or ranks m 0)) → IsSource rank_map names ranks (Some k)
    source_here [] i k l e none = absurd (omega arith)
    source_here (rank ∷ ranks) zero k l e none = inl ((h.found rank k e).1, (λ f. none_some k (sym f)))
    source_here (rank ∷ ranks) (suc i) k l e none = inr (none 0 (omega arith) (omega arith), source_here ranks i k (omega arith) e (λ m a b. none (suc m) (omega arith) (omega arith)))
