-- What adding a version with its evidence, or removing one, does to the evidence.
use Rattle.std.proofs.Common.{◌≡◌, ◌≢◌, ◌<◌, ◌^◌, inl, inr, ℕ, zero, suc, List, length, Option, Some, None, cond, refl, sym, ap, subst, ◌∙◌}
use Rattle.std.specs.Prelude.{not, option_map, option_and_then}
use Rattle.std.specs.Ordering.{is_eq}
use Rattle.std.specs.FinMap.{get, insert, remove, empty, get-empty, get-retain_keys}
use Rattle.std.proofs.lemmas.Option.{same_Some}
use Rattle.reg_core.specs.Evidence.{Evidence, EvidenceMap}
use Rattle.reg_core.specs.Levels.{level_text}
use Rattle.reg_core.specs.Registry.{RowKey, row_cmp}
use Rattle.reg_tables.specs.Contents.{version_cmp, Contents, PositionKey, position_cmp}
use Rattle.reg_tables.specs.Changes.{with_evidence, without_positions, without_version}
use Rattle.reg_tables.proofs.MapLemmas.{get-insert-same, get-insert-other, get-remove-same, get-remove-other, same_or_not, tied_key, other_key}
use Rattle.reg_tables.proofs.KeyedTables.{version_order}
use Rattle.reg_tables.proofs.Keys.{position_order}
use Rattle.reg_store.specs.Inside.Applying.{with_level_and_ids, HasNoPositions}
use Rattle.reg_store.specs.Spells.{id_at, IsSpelledEvidence}
use Rattle.reg_store.proofs.Maps.{insert_each, remove_each}
use Rattle.reg_store.proofs.Positions.{ids_beside, ids_elsewhere, at_zero, at_next}

abbrev level_of_one : Evidence → List ℕ
level_of_one one = level_text one.level

no_value : {A B : Type 0} (f : A → B) (o : Option A) → option_map f o ≡ None → o ≡ None
no_value f None e = refl
no_value f (Some a) e = absurd (cc)

module _ (contents : Contents) (evidence : EvidenceMap) (s : IsSpelledEvidence contents evidence) where
  -- a version without a level has no evidence and no positions
  pub has_none : (key : RowKey) → get contents.evidence key ≡ None → get evidence key ≡ None
  has_none key none = no_value level_of_one (get evidence key) (sym (s.levels key) ∙ none)

  pub has_no_position : (key : RowKey) → get contents.evidence key ≡ None → HasNoPositions contents key
  has_no_position key none position = s.ids (key, position) ∙ ap (option_and_then (id_at position)) (has_none key none)

  -- other tables don't matter
  pub evidence_beside : (now : Contents) → now.evidence ≡ contents.evidence → now.against ≡ contents.against → IsSpelledEvidence now evidence
  evidence_beside now levels ids = record { levels = λ key. ap (λ m. get m key) levels ∙ s.levels key; ids = λ position. ap (λ m. get m position) ids ∙ s.ids position; few = s.few }

  -- ---- a new version with its evidence

  module _ (key : RowKey) (own : Evidence) (few : length own.against < 2 ^ 32) (free : HasNoPositions contents key) where
    own_ids : (position : ℕ) → get (with_level_and_ids key own contents).against (key, position) ≡ id_at position own
    own_ids zero = at_zero key own.against (with_evidence key (level_text own.level) contents) free
    own_ids (suc k) = at_next key own.against (with_evidence key (level_text own.level) contents) free k

    few_each : (q : RowKey) (one : Evidence) → get (insert evidence key own) q ≡ Some one → length one.against < 2 ^ 32
    few_each q one there = elim (same_or_not row_cmp version_order q key) [
      | inl e ↦ subst (λ (x : Evidence). length x.against < 2 ^ 32) (same_Some own one (sym (ap (get (insert evidence key own)) e ∙ get-insert-same row_cmp version_order evidence key own) ∙ there)) few
      | inr other ↦ s.few q one (sym (get-insert-other row_cmp version_order evidence key own q other) ∙ there)
    ]

    pub evidence_more : IsSpelledEvidence (with_level_and_ids key own contents) (insert evidence key own)
    evidence_more = record {
      levels = λ q. ap (λ (c : Contents). get c.evidence q) (ids_beside key 1 own.against (with_evidence key (level_text own.level) contents)) ∙ insert_each version_order level_of_one contents.evidence evidence s.levels key own q;
      ids = λ position. elim (same_or_not version_cmp version_order position.0 key) [
        | inl is ↦
            ap (λ (q : RowKey). get (with_level_and_ids key own contents).against (q, position.1)) is ∙ own_ids position.1
            ∙ sym (ap (option_and_then (id_at position.1)) (ap (get (insert evidence key own)) is ∙ get-insert-same row_cmp version_order evidence key own))
        | inr other ↦
            ids_elsewhere key 1 own.against (with_evidence key (level_text own.level) contents) position other ∙ s.ids position
            ∙ sym (ap (option_and_then (id_at position.1)) (get-insert-other row_cmp version_order evidence key own position.0 other))
      ];
      few = few_each;
    }

  -- ---- a removed version

  module _ (key : RowKey) where
    positions : (position : PositionKey) → get (without_positions contents.against key) position ≡ cond (not (is_eq (version_cmp position.0 key))) (get contents.against position) None
    positions position = get-retain_keys contents.against (λ q. not (is_eq (version_cmp q.0 key))) position (λ x tie. ap (λ (p : PositionKey). not (is_eq (version_cmp p.0 key))) (sym (position_order.antisymmetric position x tie)))

    position_stays : (position : PositionKey) → position.0 ≢ key → get (without_positions contents.against key) position ≡ get contents.against position
    position_stays position other = positions position ∙ ap (λ b. cond (not b) (get contents.against position) None) (other_key version_cmp version_order position.0 key other)

    position_goes : (position : PositionKey) → position.0 ≡ key → get (without_positions contents.against key) position ≡ None
    position_goes position is = positions position ∙ ap (λ b. cond (not b) (get contents.against position) None) (tied_key version_cmp version_order position.0 key is)

    was_there : (q : RowKey) (one : Evidence) → get (remove evidence key) q ≡ Some one → get evidence q ≡ Some one
    was_there q one there = elim (same_or_not row_cmp version_order q key) [
      | inl e ↦ absurd (let none = sym (ap (get (remove evidence key)) e ∙ get-remove-same row_cmp version_order evidence key) ∙ there in cc)
      | inr other ↦ sym (get-remove-other row_cmp version_order evidence key q other) ∙ there
    ]

    pub evidence_left : IsSpelledEvidence (without_version key contents) (remove evidence key)
    evidence_left = record {
      levels = remove_each version_order level_of_one contents.evidence evidence s.levels key;
      ids = λ position. elim (same_or_not version_cmp version_order position.0 key) [
        | inl is ↦ position_goes position is ∙ sym (ap (option_and_then (id_at position.1)) (ap (get (remove evidence key)) is ∙ get-remove-same row_cmp version_order evidence key))
        | inr other ↦ position_stays position other ∙ s.ids position ∙ sym (ap (option_and_then (id_at position.1)) (get-remove-other row_cmp version_order evidence key position.0 other))
      ];
      few = λ q one there. s.few q one (was_there q one there);
    }

pub no_evidence : (contents : Contents) → contents.evidence ≡ empty → contents.against ≡ empty → IsSpelledEvidence contents empty
no_evidence contents none no_position = record {
  levels = λ q. ap (λ m. get m q) none ∙ get-empty version_cmp q ∙ sym (ap (option_map level_of_one) (get-empty row_cmp q));
  ids = λ position. ap (λ m. get m position) no_position ∙ get-empty position_cmp position ∙ sym (ap (option_and_then (id_at position.1)) (get-empty row_cmp position.0));
  few = λ q one there. absurd (let none = sym (get-empty row_cmp q) ∙ there in cc);
}
