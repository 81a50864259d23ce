-- The evidence that rows of `evidence` and `against` spell, and the converse.
use Rattle.std.proofs.Common.{◌≡◌, zero, suc, lit≤, ℕ, ◌+◌, ◌<◌, ◌≤◌, inl, inr, List, [], ◌∷◌, map, length, Option, Some, None, cond, refl, sym, ap, subst, ◌∙◌, arith}
use Rattle.std.specs.Prelude.{IsSome, IsTrue, is_some, option_map, option_and_then, slice_get, unwrap_or}
use Rattle.std.specs.FinMap.{FinMap, get, entries, find, from_entries, get-from_entries, get-entries}
use Rattle.std.proofs.lemmas.Option.{slice_get_within, slice_get_cases}
use Rattle.reg_core.specs.declared.level.Level.TheVariants.{Backward}
use Rattle.reg_core.specs.Evidence.{Evidence, EvidenceMap}
use Rattle.reg_core.specs.Levels.{level_text, level_of}
use Rattle.reg_core.specs.Registry.{RowKey}
use Rattle.reg_tables.specs.Contents.{version_cmp, PositionKey, position_cmp, Contents}
use Rattle.reg_tables.proofs.KeyedTables.{version_order}
use Rattle.reg_tables.proofs.MapLemmas.{same_or_not, tied_key, other_key}
use Rattle.reg_store.specs.Spells.{id_at, IsSpelledEvidence}
use Rattle.reg_store.specs.Inside.Evidence.{HasContiguousPositions, IsEvidence}
use Rattle.reg_store.proofs.Bridge.{spelt}
use Rattle.reg_store.proofs.EvidenceRows.{none_is, the_value}
use Rattle.reg_store.proofs.ReadBack.{level_of-level_text}
use Rattle.reg_store.proofs.Texts.{was_written}

is_none : {X : Type 0} (o : Option X) → ((x : X) → o ≡ Some x → ⊥) → o ≡ None
is_none None f = refl
is_none (Some x) f = absurd (f x refl)

-- ---- the ids of a version

-- the ids at this number of positions from the first one on
abbrev ids_from : FinMap position_cmp ℕ → RowKey → ℕ → ℕ → List ℕ
ids_from against key first zero = []
ids_from against key first (suc n) = unwrap_or (get against (key, first)) 0 ∷ ids_from against key (suc first) n

module _ (against : FinMap position_cmp ℕ) (key : RowKey) where
  many : (first n : ℕ) → length (ids_from against key first n) ≡ n
  many first zero = refl
  many first (suc n) = ap suc (many (suc first) n)

  id_found : (first n i : ℕ) → i < n → ((j : ℕ) → first ≤ j → j < first + n → IsSome (get against (key, j))) → slice_get (ids_from against key first n) i ≡ get against (key, first + i)
  id_found first zero i low there = absurd (omega (arith, low))
  id_found first (suc n) zero low there =
      let it = the_value (get against (key, first)) (there first (omega arith) (omega arith)) in
      let same : first ≡ first + 0 = omega arith in
      ap (λ o. Some (unwrap_or o 0)) it.1 ∙ sym it.1 ∙ ap (λ j. get against (key, j)) same
  id_found first (suc n) (suc i) low there =
      let same : suc first + i ≡ first + suc i = omega arith in
      id_found (suc first) n i (omega (arith, low)) (λ j from to. there j (omega (arith, from)) (omega (arith, to))) ∙ ap (λ j. get against (key, j)) same

-- ---- valid rows spell evidence

-- a map whose values are encoded, depending on their keys
find-keyed : {V W : Type 0} (write : RowKey → V → W) (key : RowKey) (es : List (RowKey × V)) → find version_cmp key (map (λ (e : RowKey × V). (e.0, write e.0 e.1)) es) ≡ option_map (write key) (find version_cmp key es)
find-keyed write key [] = refl
find-keyed {V} {W} write key (e ∷ es) =
    let rest = find version_cmp key (map (λ (x : RowKey × V). (x.0, write x.0 x.1)) es) in
    elim (same_or_not version_cmp version_order key e.0) [
      | inl is ↦
          let tied = tied_key version_cmp version_order key e.0 is in
          ap (λ b. cond b (Some (write e.0 e.1)) rest) tied ∙ ap (λ k. Some (write k e.1)) (sym is) ∙ sym (ap (λ b. option_map (write key) (cond b (Some e.1) (find version_cmp key es))) tied)
      | inr apart ↦
          let other = other_key version_cmp version_order key e.0 apart in
          ap (λ b. cond b (Some (write e.0 e.1)) rest) other ∙ find-keyed write key es ∙ sym (ap (λ b. option_map (write key) (cond b (Some e.1) (find version_cmp key es))) other)
    ]

module _ (contents : Contents) (rows : IsEvidence contents) where
  -- the evidence of a version whose row has this level
  abbrev one_at : RowKey → List ℕ → Evidence
  one_at key text = record { level = unwrap_or (level_of text) Backward; against = ids_from contents.against key 1 (rows.positions key).count }

  evidence_in : EvidenceMap
  evidence_in = from_entries (map (λ (e : RowKey × List ℕ). (e.0, one_at e.0 e.1)) (entries contents.evidence))

  found : (key : RowKey) → get evidence_in key ≡ option_map (one_at key) (get contents.evidence key)
  unfolding evidence_in
  found key = get-from_entries version_order.total _ key ∙ find-keyed one_at key (entries contents.evidence) ∙ ap (option_map (one_at key)) (sym (get-entries contents.evidence key))

  level_back : (key : RowKey) (o : Option (List ℕ)) → ((text : List ℕ) → o ≡ Some text → IsTrue (is_some (level_of text))) → o ≡ option_map (λ (one : Evidence). level_text one.level) (option_map (one_at key) o)
  level_back key None is = refl
  level_back key (Some text) is =
      let it = the_value (level_of text) (is text refl) in
      ap Some (spelt text it.0 it.1 ∙ ap (λ o. level_text (unwrap_or o Backward)) (sym it.1))

  ids_back : (key : RowKey) (position : ℕ) (o : Option (List ℕ)) → get contents.evidence key ≡ o → get contents.against (key, position) ≡ option_and_then (id_at position) (option_map (one_at key) o)
  ids_back key position None none = is_none (get contents.against (key, position)) (λ id there. none_is (get contents.evidence key) none (rows.owners (key, position) id there))
  ids_back key zero (Some text) there = is_none (get contents.against (key, 0)) (λ id here. let low = (((rows.positions key).each 0).0 (subst IsSome (sym here) refl)).0 in absurd (omega (arith, low)))
  ids_back key (suc n) (Some text) there =
      let order = rows.positions key in
      let ids = ids_from contents.against key 1 order.count in
      let long = many contents.against key 1 order.count in
      elim (slice_get_cases ids n).1 [
        | inl it ↦
            let within = it.1 in
            let same : 1 + n ≡ suc n = omega arith in
            sym (id_found contents.against key 1 order.count n (omega (arith, within, long)) (λ j from to. (order.each j).1 (omega (arith, from), omega (arith, to))) ∙ ap (λ j. get contents.against (key, j)) same)
        | inr it ↦
            let past = it.0 in
            is_none (get contents.against (key, suc n)) (λ id here. let high = ((order.each (suc n)).0 (subst IsSome (sym here) refl)).1 in absurd (omega (arith, high, past, long))) ∙ sym it.1
      ]

  pub spelled_if_evidence : (evidence : EvidenceMap) × IsSpelledEvidence contents evidence
  spelled_if_evidence = (
    evidence_in,
    record {
      levels = λ key. level_back key (get contents.evidence key) (λ text there. rows.levels key text there) ∙ ap (option_map (λ (one : Evidence). level_text one.level)) (sym (found key));
      ids = λ position. ids_back position.0 position.1 (get contents.evidence position.0) refl ∙ ap (option_and_then (id_at position.1)) (sym (found position.0));
      few = λ key one there.
          let it = was_written (one_at key) (get contents.evidence key) one (sym (found key) ∙ there) in
          let same = ap (λ (x : Evidence). length x.against) it.2 in
          let long = many contents.against key 1 (rows.positions key).count in
          let few = (rows.positions key).few in
          omega (arith, same, long, few);
    },
  )

-- ---- rows that spell evidence are valid

stands : (one : Evidence) (position : ℕ) → IsSome (id_at position one) → (0 < position) × (position ≤ length one.against)
stands one zero some = absurd (cc)
stands one (suc n) some =
    let it = the_value (slice_get one.against n) some in
    let within = slice_get_within one.against n it.0 it.1 in
    (omega arith, omega (arith, within))

stood : (one : Evidence) (position : ℕ) → (0 < position) × (position ≤ length one.against) → IsSome (id_at position one)
stood one zero within = absurd (let low = within.0 in omega (arith, low))
stood one (suc n) within = elim (slice_get_cases one.against n).1 [
  | inl it ↦ subst IsSome (sym it.2) refl
  | inr it ↦ absurd (let high = within.1 in let past = it.0 in omega (arith, high, past))
]

module _ (contents : Contents) (evidence : EvidenceMap) (s : IsSpelledEvidence contents evidence) where
  in_order : (key : RowKey) (o : Option Evidence) → get evidence key ≡ o → HasContiguousPositions contents.against key
  in_order key None none = record {
    count = 0;
    few = lit≤ tt;
    each = λ position. (
      λ some. absurd (none_is (get contents.against (key, position)) (s.ids (key, position) ∙ ap (option_and_then (id_at position)) none) some),
      λ within. absurd (let low = within.0 in let high = within.1 in omega (arith, low, high)),
    );
  }
  in_order key (Some one) there = record {
    count = length one.against;
    few = s.few key one there;
    each = λ position.
        (let is = s.ids (key, position) ∙ ap (option_and_then (id_at position)) there in
        (λ some. stands one position (subst IsSome is some), λ within. subst IsSome (sym is) (stood one position within)));
  }

  owned : (position : PositionKey) (id : ℕ) (o : Option Evidence) → get evidence position.0 ≡ o → get contents.against position ≡ Some id → IsSome (get contents.evidence position.0)
  owned position id None none there = absurd (let gone = sym (s.ids position ∙ ap (option_and_then (id_at position.1)) none) ∙ there in cc)
  owned position id (Some one) has there = subst IsSome (sym (s.levels position.0 ∙ ap (option_map (λ (x : Evidence). level_text x.level)) has)) refl

  pub evidence_if_spelled : IsEvidence contents
  evidence_if_spelled = record {
    levels = λ key text there.
        (let it = was_written (λ (one : Evidence). level_text one.level) (get evidence key) text (sym (s.levels key) ∙ there) in
        ap (λ v. is_some (level_of v)) it.2 ∙ ap is_some (level_of-level_text it.0.level));
    owners = λ position id there. owned position id (get evidence position.0) refl there;
    positions = λ key. in_order key (get evidence key) refl;
  }
