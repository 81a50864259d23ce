-- Valid rows of `evidence` and `against` are those of the evidence of versions, and the converse.
use Rattle.std.proofs.Common.{◌≡◌, zero, suc, lit≤, ℕ, ℤ, ◌<◌, ◌≤◌, ◌^◌, List, map, Option, Some, None, refl, sym, ap, subst, ◌∙◌, arith}
use Rattle.std.specs.Prelude.{IsSome, Contains, string_bytes}
use Rattle.std.specs.List.{AllByRecursion}
use Rattle.std.specs.FinMap.{FinMap, get, from_entries, get-from_entries}
use Rattle.sqlite_rules.specs.Lists.{Has}
use Rattle.sqlite_rules.proofs.ListLemmas.{all_has, all_from, has_contained, contains_had}
use Rattle.reg_core.specs.Registry.{RowKey}
use Rattle.reg_tables.specs.declared.evidence.RawEvidence.{RawEvidence}
use Rattle.reg_tables.specs.declared.evidence.RawAgainst.{RawAgainst}
use Rattle.reg_tables.specs.Contents.{version_cmp, PositionKey, position_cmp, Contents}
use Rattle.reg_tables.specs.Listings.{HasNoDuplicates, without_rowid, evidence_entry, against_entry}
use Rattle.reg_tables.proofs.KeyedTables.{version_order}
use Rattle.reg_tables.proofs.ListMembers.{has_mapped, maps_had}
use Rattle.reg_tables.proofs.ListingLemmas.{found_first, find_had}
use Rattle.reg_tables.proofs.Keys.{position_order}
use Rattle.reg_rows.specs.Spelling.{IsLevelName}
use Rattle.reg_store.specs.Inside.Evidence.{IsEvidence}
use Rattle.reg_store.specs.Inside.TableChecks.{evidence_fits, against_fits, version_at, position_at, AreInSequence}

pub none_is : {X : Type 0} (o : Option X) → o ≡ None → IsSome o → ⊥
none_is None e there = absurd (cc)
none_is (Some x) e there = absurd (cc)

pub the_value : {X : Type 0} (o : Option X) → IsSome o → (x : X) × (o ≡ Some x)
the_value None there = absurd (cc)
the_value (Some x) there = (x, refl)

module _ (evidence : List RawEvidence) (against : List RawAgainst) (versions_apart : HasNoDuplicates version_cmp (map evidence_entry evidence)) (positions_apart : HasNoDuplicates position_cmp (map against_entry against)) where
  abbrev evidence_in : FinMap version_cmp (List ℕ)
  evidence_in = from_entries (map without_rowid (map evidence_entry evidence))

  abbrev against_in : FinMap position_cmp ℕ
  against_in = from_entries (map without_rowid (map against_entry against))

  -- ---- from rows to maps

  level_there : (line : RawEvidence) → Has evidence line → get evidence_in (version_at line) ≡ Some (string_bytes line.level)
  level_there line there =
      let es = map evidence_entry evidence in
      get-from_entries version_order.total (map without_rowid es) (version_at line) ∙ found_first version_cmp version_order es (evidence_entry line) versions_apart.keys (maps_had evidence_entry evidence line there)

  id_there : (line : RawAgainst) → Has against line → get against_in (position_at line) ≡ Some line.id
  id_there line there =
      let es = map against_entry against in
      get-from_entries position_order.total (map without_rowid es) (position_at line) ∙ found_first position_cmp position_order es (against_entry line) positions_apart.keys (maps_had against_entry against line there)

  -- ---- from maps to rows

  level_line : (key : RowKey) (level : List ℕ) → get evidence_in key ≡ Some level → (line : RawEvidence) × Has evidence line × (version_at line ≡ key) × (string_bytes line.level ≡ level)
  level_line key level there =
      let es = map evidence_entry evidence in
      let e = find_had version_cmp version_order es key level (sym (get-from_entries version_order.total (map without_rowid es) key) ∙ there) in
      let l = has_mapped evidence_entry evidence e.0 e.1 in
      (l.0, l.1, ap (λ (y : ℤ × RowKey × List ℕ). y.1) (sym l.2) ∙ e.2, ap (λ (y : ℤ × RowKey × List ℕ). y.2) (sym l.2) ∙ e.3)

  id_line : (position : PositionKey) (id : ℕ) → get against_in position ≡ Some id → (line : RawAgainst) × Has against line × (position_at line ≡ position)
  id_line position id there =
      let es = map against_entry against in
      let e = find_had position_cmp position_order es position id (sym (get-from_entries position_order.total (map without_rowid es) position) ∙ there) in
      let l = has_mapped against_entry against e.0 e.1 in
      (l.0, l.1, ap (λ (y : ℤ × PositionKey × ℕ). y.1) (sym l.2) ∙ e.2)

  -- ---- keys

  version_told : (key : RowKey) → Contains (map version_at evidence) key → IsSome (get evidence_in key)
  version_told key h =
      let l = has_mapped version_at evidence key (has_contained (map version_at evidence) key h) in
      subst (λ k. IsSome (get evidence_in k)) (sym l.2) (subst IsSome (sym (level_there l.0 l.1)) refl)

  pub version_listed : (key : RowKey) → IsSome (get evidence_in key) → Contains (map version_at evidence) key
  version_listed key h =
      let it = the_value (get evidence_in key) h in
      let l = level_line key it.0 it.1 in
      subst (Contains (map version_at evidence)) l.2 (contains_had (map version_at evidence) (version_at l.0) (maps_had version_at evidence l.0 l.1))

  position_told : (position : PositionKey) → Contains (map position_at against) position → IsSome (get against_in position)
  position_told position h =
      let l = has_mapped position_at against position (has_contained (map position_at against) position h) in
      subst (λ k. IsSome (get against_in k)) (sym l.2) (subst IsSome (sym (id_there l.0 l.1)) refl)

  position_listed : (position : PositionKey) → IsSome (get against_in position) → Contains (map position_at against) position
  position_listed position h =
      let it = the_value (get against_in position) h in
      let l = id_line position it.0 it.1 in
      subst (Contains (map position_at against)) l.2 (contains_had (map position_at against) (position_at l.0) (maps_had position_at against l.0 l.1))

  -- ---- both ways

  module _ (contents : Contents) (same_evidence : contents.evidence ≡ evidence_in) (same_against : contents.against ≡ against_in) where
    few_positions : AllByRecursion against_fits against → (key : RowKey) (count : ℕ) → ((position : ℕ) → (0 < position) × (position ≤ count) → Contains (map position_at against) (key, position)) → count < 2 ^ 32
    few_positions fits key zero all = lit≤ tt
    few_positions fits key (suc n) all =
        let l = has_mapped position_at against (key, suc n) (has_contained (map position_at against) (key, suc n) (all (suc n) (omega arith, omega arith))) in
        let low = all_has against_fits against l.0 fits l.1 in
        let is : suc n ≡ l.0.position = ap (λ (p : PositionKey). p.1) l.2 in
        omega (arith, low, is)

    pub evidence_if_fits : AllByRecursion evidence_fits evidence → AllByRecursion against_fits against → AreInSequence evidence against → IsEvidence contents
    evidence_if_fits fits positions_fit placed = record {
      levels = λ key level there.
          let l = level_line key level (ap (λ m. get m key) (sym same_evidence) ∙ there) in
          subst IsLevelName l.3 (all_has evidence_fits evidence l.0 fits l.1);
      owners = λ position id there.
          let l = id_line position id (ap (λ m. get m position) (sym same_against) ∙ there) in
          let here = contains_had (map position_at against) (position_at l.0) (maps_had position_at against l.0 l.1) in
          let told = version_told position.0 (placed.0 position (subst (Contains (map position_at against)) l.2 here)) in
          subst (λ m. IsSome (get m position.0)) (sym same_evidence) told;
      positions = λ key.
          let it = placed.1 key in
          record {
            count = it.count;
            few = few_positions positions_fit key it.count (λ position within. (it.positions position).1 within);
            each = λ position. (
              λ some. (it.positions position).0 (position_listed (key, position) (subst (λ m. IsSome (get m (key, position))) same_against some)),
              λ within. subst (λ m. IsSome (get m (key, position))) (sym same_against) (position_told (key, position) ((it.positions position).1 within)),
            );
          };
    }

    module _ (it : IsEvidence contents) where
      pub level_fits : AllByRecursion evidence_fits evidence
      level_fits = all_from evidence_fits evidence (λ line there. it.levels (version_at line) (string_bytes line.level) (ap (λ m. get m (version_at line)) same_evidence ∙ level_there line there))

      pub positions_fit : AllByRecursion against_fits against
      positions_fit = all_from against_fits against (λ line there.
          let order = it.positions (string_bytes line.subject, line.version) in
          let some = subst (λ m. IsSome (get m (position_at line))) (sym same_against) (subst IsSome (sym (id_there line there)) refl) in
          let high = ((order.each line.position).0 some).1 in
          let few = order.few in
          omega (arith, high, few))

      pub in_sequence : AreInSequence evidence against
      in_sequence = (
        λ position h.
            (let it_there = the_value (get against_in position) (position_told position h) in
            version_listed position.0 (subst (λ m. IsSome (get m position.0)) same_evidence (it.owners position it_there.0 (ap (λ m. get m position) same_against ∙ it_there.1)))),
        λ key. let order = it.positions key in record {
          count = order.count;
          positions = λ position. (
            λ h. (order.each position).0 (subst (λ m. IsSome (get m (key, position))) (sym same_against) (position_told (key, position) h)),
            λ within. position_listed (key, position) (subst (λ m. IsSome (get m (key, position))) same_against ((order.each position).1 within)),
          );
        },
      )
