-- The tables that take rows: those of layout 2, and `meta` of layout 1 while it is made.
use Rattle.std.proofs.Common.{◌≡◌, ◌≤◌, ◌+◌, inl, inr, ℕ, pos, List, [], ◌∷◌, ◌&&◌, ◌==◌, length, Bool, true, false, cond, Option, None, Some, refl, sym, ap, subst, subst₂, arith, lit≤, ◌∙◌}
use Rattle.reg_tables.proofs.Kit.{String, string_bytes, IsSome, is_some, Global, get, AllByRecursion, nat_cmp, and_parts, or_right, Text, Int, Row, Trees, Schema, All, NoAction, Index, agree, Refers, plain, Has, some_from}
use Rattle.sqlite.specs.Order.{column}
use Rattle.sqlite_schema.specs.Names.{same_name}
use Rattle.sqlite_value.specs.Keys.{joined, first_key}
use Rattle.reg_tables.specs.declared.kept.KeptReply.{KeptReply}
use Rattle.reg_tables.specs.declared.versions.VersionEntry.{VersionEntry}
use Rattle.reg_tables.specs.Layout.{five_tables_then, layout_one, meta, added_tables, IsIndexedLayoutTwo, TakesMeta}
use Rattle.reg_tables.specs.Contents.{text_cells, number_cells, version_key_cells, position_key_cells, VersionEntryView, version_cells, KeptReplyView, kept_cells, against_form, PositionKey, TableName, Versions, Levels, Kept, Meta, Modes, Evidence, Against}
use Rattle.reg_tables.specs.KeptReplyViews.{kept_reply_view}
use Rattle.reg_tables.specs.Entries.{version_entry_view}
use Rattle.reg_tables.specs.Inside.KeyedLaws.{IsKeyed, InsertKeepsReferences, KeepsOthers, IsTableAt, HasNoForeignKeyAction}
use Rattle.reg_tables.proofs.KeyedTables.{by_id_test, number_order}
use Rattle.reg_tables.proofs.Keys.{distinct_version_rows, distinct_kept_rows, keys_agree, one_key}
use Rattle.reg_tables.proofs.MapLemmas.{tied_key}
use Rattle.reg_tables.proofs.ForeignKeys.{has_text_at, has_version, more_versions, refer_if, refers_if, kept_refers, beside_refers}
use Rattle.reg_tables.proofs.WellDeclared.{IsWellDeclared, in_layout_two, keyed_if, all_keys, are_apart, is_apart_from, apart_if}

pub value_of : {X : Type 0} (o : Option X) → IsSome o → (x : X) × (o ≡ Some x)
value_of None h = absurd (cc)
value_of (Some x) h = (x, refl)

-- the row with the version's key is the parent
pub version_there : (parents : List Row) (s row : Row) (key : List ℕ × ℕ) → Has parents s → column s 1 ∷ column s 2 ∷ [] ≡ version_key_cells key → column row 1 ∷ column row 2 ∷ [] ≡ version_key_cells key → has_version parents row ≡ true
version_there parents s row key there is its = or_right _ _ (some_from (λ parent. agree plain (1 ∷ 2 ∷ []) parent (1 ∷ 2 ∷ []) row) parents s there (keys_agree Versions s row key is its))

-- the text with the id is the parent of a row with that id
pub text_there : (place : ℕ) (texts : List Row) (text row : Row) (id : ℕ) → Has texts text → column text 0 ∷ [] ≡ number_cells id → column row place ≡ Int (pos id) → has_text_at place texts row ≡ true
unfolding first_key
text_there place texts text row id there is its =
    let same : agree plain (0 ∷ []) text (place ∷ []) row ≡ true = rw its (by_id_test text id id is ∙ tied_key nat_cmp number_order id id refl) in
    or_right _ _ (some_from (λ parent. agree plain (0 ∷ []) parent (place ∷ []) row) texts text there same)

pub place_version : (row : Row) (key : PositionKey) → against_form.key_of row ≡ position_key_cells key → column row 1 ∷ column row 2 ∷ [] ≡ version_key_cells key.0
place_version row key is =
    let subject : column row 1 ≡ Text key.0.0 = cc in
    let number : column row 2 ≡ Int (pos key.0.1) = cc in
    λ i. subject i ∷ number i ∷ []

-- ---- layout 2

module _ (first : ℕ) (indexes : List Index) (high : 10 ≤ first) where
  abbrev here : Schema
  here = five_tables_then (added_tables first) indexes

  -- a version refers to its text
  versions_refer : InsertKeepsReferences here Versions
  versions_refer db contents h key version refers row is next others came stays =
      let known = value_of (get contents.texts version.id) refers in
      let its = (h.shows TableName.Texts).complete version.id known.0 known.1 in
      let id : column row 3 ≡ Int (pos version.id) = (let cells = is.1 in cc) in
      let same : next 0 ≡ db.trees 0 = others.0 (λ e. omega (arith, e)) in
      kept_refers first indexes 2 high (lit≤ tt) db.trees next others (λ place r had. subst (λ l. has_text_at place l r ≡ true) (sym same) had)
      (λ r had. more_versions (db.trees 2) (next 2) r (λ parent was agrees. (parent, stays parent was, agrees)) had)
      (λ had r there. subst (λ l. has_text_at 3 l r ≡ true) (sym same) (elim (came r there) [
        | inl same ↦ text_there 3 (db.trees 0) its.0 r version.id its.1 its.2.0 (ap (λ (x : Row). column x 3) same ∙ id)
        | inr was ↦ had r was
      ]))

  evidence_refers : InsertKeepsReferences here Evidence
  evidence_refers db contents h key level refers row is next others came stays held =
      let had = refer_if first indexes db.trees held in
      let texts : next 0 ≡ db.trees 0 = others.0 (λ e. omega (arith, e, high)) in
      let versions : next 2 ≡ db.trees 2 = others.1.0 (λ e. omega (arith, e, high)) in
      let against : next (first + 4) ≡ db.trees (first + 4) = others.1.1.1.1.1.1.1.0 (λ e. omega (arith, e)) in
      let known = value_of (get contents.versions key) refers in
      let its = (h.shows Versions).complete key known.0 known.1 in
      refers_if first indexes next (record {
        versions = λ r there. subst (λ l. has_text_at 3 l r ≡ true) (sym texts) (had.versions r (subst (λ l. Has l r) versions there));
        evidence = λ r there. subst (λ l. has_version l r ≡ true) (sym versions) (elim (came r there) [
          | inl same ↦ version_there (db.trees 2) its.0 r key its.1 its.2.0 (ap (λ (x : Row). column x 1 ∷ column x 2 ∷ []) same ∙ is.0)
          | inr was ↦ had.evidence r was
        ]);
        places = λ r there. subst (λ l. has_version l r ≡ true) (sym versions) (had.places r (subst (λ l. Has l r) against there));
        seen = λ r there. subst (λ l. has_text_at 4 l r ≡ true) (sym texts) (had.seen r (subst (λ l. Has l r) against there));
      })

  against_refers : InsertKeepsReferences here Against
  against_refers db contents h key id refers row is next others came stays held =
      let had = refer_if first indexes db.trees held in
      let texts : next 0 ≡ db.trees 0 = others.0 (λ e. omega (arith, e, high)) in
      let versions : next 2 ≡ db.trees 2 = others.1.0 (λ e. omega (arith, e, high)) in
      let evidence : next (first + 2) ≡ db.trees (first + 2) = others.1.1.1.1.1.1.0 (λ e. omega (arith, e)) in
      let both = and_parts (is_some (get contents.versions key.0)) (is_some (get contents.texts id)) refers in
      let known = value_of (get contents.versions key.0) both.0 in
      let its = (h.shows Versions).complete key.0 known.0 known.1 in
      let text = value_of (get contents.texts id) both.1 in
      let its_text = (h.shows TableName.Texts).complete id text.0 text.1 in
      let named : column row 4 ≡ Int (pos id) = (let cells = is.1 in cc) in
      refers_if first indexes next (record {
        versions = λ r there. subst (λ l. has_text_at 3 l r ≡ true) (sym texts) (had.versions r (subst (λ l. Has l r) versions there));
        evidence = λ r there. subst (λ l. has_version l r ≡ true) (sym versions) (had.evidence r (subst (λ l. Has l r) evidence there));
        places = λ r there. subst (λ l. has_version l r ≡ true) (sym versions) (elim (came r there) [
          | inl same ↦ version_there (db.trees 2) its.0 r key.0 its.1 its.2.0 (ap (λ (x : Row). column x 1 ∷ column x 2 ∷ []) same ∙ place_version row key is.0)
          | inr was ↦ had.places r was
        ]);
        seen = λ r there. subst (λ l. has_text_at 4 l r ≡ true) (sym texts) (elim (came r there) [
          | inl same ↦ text_there 4 (db.trees 0) its_text.0 r id its_text.1 its_text.2.0 (ap (λ (x : Row). column x 4) same ∙ named)
          | inr was ↦ had.seen r was
        ]);
      })

  module _ (s : IsWellDeclared here) where
    versions_in : IsKeyed here Versions
    versions_in = keyed_if here s Versions refl refl refl versions_refer

    levels_in : IsKeyed here Levels
    levels_in = keyed_if here s Levels refl refl refl (λ db contents h key value refers row is next others came stays. beside_refers first indexes 4 (λ e. omega (arith, e)) (λ e. omega (arith, e)) (λ e. omega (arith, e, high)) (λ e. omega (arith, e, high)) db.trees next others)

    kept_in : IsKeyed here Kept
    kept_in = keyed_if here s Kept refl refl refl (λ db contents h key value refers row is next others came stays. beside_refers first indexes 6 (λ e. omega (arith, e)) (λ e. omega (arith, e)) (λ e. omega (arith, e, high)) (λ e. omega (arith, e, high)) db.trees next others)

    meta_in : IsKeyed here Meta
    meta_in = keyed_if here s Meta refl refl refl (λ db contents h key value refers row is next others came stays. beside_refers first indexes 8 (λ e. omega (arith, e)) (λ e. omega (arith, e)) (λ e. omega (arith, e, high)) (λ e. omega (arith, e, high)) db.trees next others)

    modes_in : IsKeyed here Modes
    modes_in = keyed_if here s Modes refl refl refl (λ db contents h key value refers row is next others came stays. beside_refers first indexes first (λ e. omega (arith, e, high)) (λ e. omega (arith, e, high)) (λ e. omega (arith, e)) (λ e. omega (arith, e)) db.trees next others)

    evidence_in : IsKeyed here Evidence
    evidence_in = keyed_if here s Evidence refl refl refl evidence_refers

    against_in : IsKeyed here Against
    against_in = keyed_if here s Against refl refl refl against_refers

pub versions_keyed : (schema : Schema) → IsIndexedLayoutTwo schema → IsKeyed schema Versions
versions_keyed = in_layout_two (λ schema. IsKeyed schema Versions) versions_in

pub levels_keyed : (schema : Schema) → IsIndexedLayoutTwo schema → IsKeyed schema Levels
levels_keyed = in_layout_two (λ schema. IsKeyed schema Levels) levels_in

pub kept_keyed : (schema : Schema) → IsIndexedLayoutTwo schema → IsKeyed schema Kept
kept_keyed = in_layout_two (λ schema. IsKeyed schema Kept) kept_in

pub modes_keyed : (schema : Schema) → IsIndexedLayoutTwo schema → IsKeyed schema Modes
modes_keyed = in_layout_two (λ schema. IsKeyed schema Modes) modes_in

pub evidence_keyed : (schema : Schema) → IsIndexedLayoutTwo schema → IsKeyed schema Evidence
evidence_keyed = in_layout_two (λ schema. IsKeyed schema Evidence) evidence_in

pub against_keyed : (schema : Schema) → IsIndexedLayoutTwo schema → IsKeyed schema Against
against_keyed = in_layout_two (λ schema. IsKeyed schema Against) against_in

-- ---- `meta` in both layouts

abbrev VersionsRefer : List Row → List Row → Type 0
VersionsRefer texts rows = AllByRecursion (λ row. (has_text_at 3 texts row && true) ≡ true) rows

-- a write to `meta` breaks no reference
pub one_refers : (old new : Trees) → KeepsOthers layout_one meta.tree old new → Refers All layout_one old → Refers All layout_one new
unfolding same_name joined
one_refers old new others h =
    let texts : new 0 ≡ old 0 = others.0 (λ e. omega (arith, e)) in
    let versions : new 2 ≡ old 2 = others.1.0 (λ e. omega (arith, e)) in
    let had : VersionsRefer (old 0) (old 2) = h.1.0 in
    let has : VersionsRefer (new 0) (new 2) = subst₂ VersionsRefer (sym texts) (sym versions) had in
    (each (new 0), (has, (each (new 4), (each (new 6), (each (new 8), tt)))))
  where
    each : (rows : List Row) → AllByRecursion (λ (row : Row). true ≡ true) rows
    each [] = tt
    each (row ∷ rows) = (refl, each rows)

first_at : IsTableAt layout_one 4 meta
unfolding same_name joined
first_at = record { there = refl; keys = all_keys layout_one meta refl refl refl refl }

one_keyed : IsKeyed layout_one Meta
unfolding are_apart is_apart_from
one_keyed = record {
  apart = apart_if layout_one.tables refl;
  is_at = first_at;
  uncounted = refl;
  guarded = refl;
  agrees = one_key Meta;
  put_refers = λ db contents h key value refers row is next others came stays. one_refers db.trees next others;
}

pub one_no_action : (tree : ℕ) → HasNoForeignKeyAction layout_one tree
one_no_action tree olds news = rw (no_action (length news == 0)) refl
  where
    no_action : (b : Bool) → cond b NoAction NoAction ≡ NoAction
    no_action true = refl
    no_action false = refl

pub in_both : (P : Schema → Type 0) → P layout_one → ((first : ℕ) (indexes : List Index) → 10 ≤ first → IsWellDeclared (five_tables_then (added_tables first) indexes) → P (five_tables_then (added_tables first) indexes)) → (schema : Schema) → TakesMeta schema → P schema
in_both P first each schema (inl is) = subst P (sym is) first
in_both P first each schema (inr second) = in_layout_two P each schema second

pub meta_keyed : (schema : Schema) → TakesMeta schema → IsKeyed schema Meta
meta_keyed = in_both (λ schema. IsKeyed schema Meta) one_keyed meta_in

-- ---- the values that are read from a row

pub text_is_read : (found : String Global) (value : List ℕ) → column (text_cells value) 0 ∷ [] ≡ text_cells (string_bytes found) → string_bytes found ≡ value
text_is_read found value is = let same : Text value ≡ Text (string_bytes found) = cc in cc

pub reply_is_read : (found : KeptReply) (value : KeptReplyView) → kept_cells value ≡ kept_cells (kept_reply_view found) → kept_reply_view found ≡ value
reply_is_read found value is = sym (distinct_kept_rows value (kept_reply_view found) is)

pub entry_is_read : (found : VersionEntry) (value : VersionEntryView) → version_cells value ≡ version_cells (version_entry_view found) → version_entry_view found ≡ value
entry_is_read found value is = sym (distinct_version_rows value (version_entry_view found) is)
