-- Why the statement that marks a version as deleted fails.
use Rattle.std.proofs.Common.{arith, ◌≡◌, ◌⊎◌, ◌≤◌, Equal, Some, inl, inr, ℕ, ℤ, pos, drop, length, map, List, [], ◌∷◌, lit≤, Bool, true, false, Err, refl, sym, ap, subst, ◌∙◌}
use Rattle.reg_tables.proofs.Kit.{list_all, get, is_eq, both_ways, cases_Bool, and_from, not_from_false, false_from_ne_true, length-map, Value, Null, Int, Text, Row, value_cmp, Trees, rowid, with_tree, cast_row, Edit, edit_of, id_in, is_taken, are_fresh, without_all, Applies, IsRefused, Given, col, eval_all, Update, Answers, edit_error, State, ExecutesInside, Error, statement_of, Enforced, All, Datatype, NotNull, Check, PrimaryKey, Unique, ForeignKey, Schema, plain, Index, Program, agree, differ, Keeps, Obeys, Refers, Refusal, Violates, Mismatch, NoRowid, BadReference, TooDeep, ids_of, Has, all_has, has_got, test_from, some_has, int_is, without_all_has, put_all_has, put_all_adds, put_all_keeps}
use Rattle.sqlite.specs.Order.{column}
use Rattle.sqlite.specs.Edit.{edited}
use Rattle.sqlite.specs.Listing.{understood}
use Rattle.sqlite_tied.specs.Compute.{everything}
use Rattle.reg_tables.specs.Layout.{five_tables_then, added_tables, versions}
use Rattle.reg_tables.specs.Contents.{Contents, HoldsContents, version_cmp, VersionEntryView, version_form, TableName}
use Rattle.reg_tables.specs.TableMaps.{IsEntry}
use Rattle.reg_tables.specs.FailedCalls.{IsInsertFault}
use Rattle.reg_tables.specs.Inside.Statements.{plain_query, by_version}
use Rattle.reg_tables.proofs.ListMembers.{has_mapped, maps_had}
use Rattle.reg_tables.proofs.MapLemmas.{equal_of, tied_key}
use Rattle.reg_tables.proofs.RowLemmas.{left_fails, fails_left, same_if_tied}
use Rattle.reg_tables.proofs.Queries.{passes}
use Rattle.reg_tables.proofs.KeyedTables.{version_order, by_version_test, cast-Int, given_as_is, FindsOne, own_row, finds_one}
use Rattle.reg_tables.proofs.Statements.{with_flag, mark_version, mark_version_is}
use Rattle.reg_tables.proofs.UniqueLemmas.{on_columns, with_tree_there, with_tree_elsewhere, stays_unique}
use Rattle.reg_tables.proofs.WriteFaults.{refused_by, update_refused}
use Rattle.reg_tables.proofs.ForeignKeys.{has_text_at, more_versions, kept_refers}
use Rattle.reg_tables.proofs.WellDeclared.{IsWellDeclared, steady}
use Rattle.reg_tables.proofs.TableFaults.{obeys as obeyed, differ_itself, plain_fits}
use Rattle.reg_tables.proofs.FailedVersions.{version_keys, flag_passes}

-- at most one row, at a free rowid
fresh_if : (rows news : List Row) → length news ≤ 1 → ((x : Row) → Has news x → is_taken rows x ≡ true → ⊥) → are_fresh rows news ≡ true
fresh_if rows [] few free = refl
fresh_if rows (x ∷ []) few free = and_from _ _ (not_from_false _ (false_from_ne_true _ (free x (inl refl)))) refl
fresh_if rows (x ∷ y ∷ more) few free = absurd (omega arith)

-- versions with the same id have the same text
same_text : (texts : List Row) (a b : Row) → column a 3 ≡ column b 3 → has_text_at 3 texts a ≡ has_text_at 3 texts b
same_text texts a b same = let with_id : Value → Bool = λ v. has_text_at 3 texts (Null ∷ Null ∷ Null ∷ v ∷ []) in ap with_id same

-- rows with the same key agree with the same rows on it
same_agreement : (r a b : Row) → column a 1 ≡ column b 1 → column a 2 ≡ column b 2 → agree plain (1 ∷ 2 ∷ []) a (1 ∷ 2 ∷ []) r ≡ agree plain (1 ∷ 2 ∷ []) b (1 ∷ 2 ∷ []) r
same_agreement r a b subject number = let of_key : Value → Value → Bool = λ v w. agree plain (1 ∷ 2 ∷ []) (Null ∷ v ∷ w ∷ []) (1 ∷ 2 ∷ []) r in λ i. of_key (subject i) (number i)

-- the new row that the UPDATE writes for a version
abbrev marked_row : ℤ → List ℕ × ℕ → ℕ → Row
marked_row place key id = Int place ∷ Text key.0 ∷ Int (pos key.1) ∷ Int (pos id) ∷ Int (pos 1) ∷ []

module _ (first : ℕ) (indexes : List Index) (high : 10 ≤ first) (s : IsWellDeclared (five_tables_then (added_tables first) indexes)) (old new : State) (contents : Contents) (h : HoldsContents (five_tables_then (added_tables first) indexes) old.now contents) (e : Error) (key : List ℕ × ℕ) where
  abbrev layout : Schema
  layout = five_tables_then (added_tables first) indexes

  abbrev db : Trees
  db = old.now.trees

  abbrev params : Row
  params = Text key.0 ∷ Int (pos key.1) ∷ []

  abbrev named : Row → Bool
  named = passes by_version params

  abbrev rest : Row → Row
  rest row = eval_all with_flag (params ∷ row ∷ [])

  abbrev marking : Program
  marking = record { lets = []; body = plain_query 2 by_version (col 1 0 ∷ with_flag) }

  obeys : Obeys layout db
  obeys = obeyed layout old.now h.declared h.sound

  -- a row that passes the tests is the version's
  its_version : (r : Row) → Has (db 2) r → named r ≡ true → (v : VersionEntryView) × (get contents.versions key ≡ Some v) × IsEntry version_form r key v
  its_version = own_row version_form version_cmp version_order db 2 contents.versions (h.shows TableName.Versions) key by_version params (λ row q is. by_version_test row key q is)

  -- the rows found are the version's row, or none
  abbrev IsFound : List Row → Type 0
  IsFound found = FindsOne named rest (db 2) found

  found_as : (found : List Row) → Answers (record { schema = layout; trees = db }) marking params found → IsFound found
  found_as found it = finds_one version_form version_cmp version_order db 2 contents.versions (h.shows TableName.Versions) key by_version params (λ row q is. by_version_test row key q is) with_flag found (it.answer Null)

  module _ (found : List Row) (f : IsFound found) where
    abbrev edit : Edit
    edit = edit_of db versions (ids_of found) Given 1 found

    abbrev left : List Row
    left = without_all (db 2) (ids_of found)

    abbrev after : Trees
    after = with_tree db 2 (edited db edit)

    abbrev source : Row → Row
    source s = cast_row versions (drop 1 s)

    -- a new row is the version's, marked as deleted
    record IsNew (x : Row) : Type 0 where
      was : Row
      there : Has (db 2) was
      passing : named was ≡ true
      version : VersionEntryView
      known : get contents.versions key ≡ Some version
      entry : IsEntry version_form was key version
      is : x ≡ marked_row (id_in (rowid was)) key version.id

    is_new : (x : Row) → Has edit.news x → IsNew x
    is_new x new =
        let s = has_mapped source found x (subst (λ l. Has l x) (given_as_is left (map source found)) new) in
        let r = f.finds.sound s.0 s.1 in
        let its = its_version r.0 r.1 r.2 in
        let place : rowid r.0 ≡ Int (id_in (rowid r.0)) = int_is (rowid r.0) (all_has _ (db 2) r.0 (h.shows TableName.Versions).rowids.1 r.1) in
        let subject : column r.0 1 ≡ Text key.0 = (let k = its.2.0 in cc) in
        let number : column r.0 2 ≡ Int (pos key.1) = (let k = its.2.0 in cc) in
        let id : column r.0 3 ≡ Int (pos its.0.id) = (let v = its.2.1 in cc) in
        let made : source (rowid r.0 ∷ rest r.0) ≡ marked_row (id_in (rowid r.0)) key its.0.id =
        rw (place, subject, number, id, cast-Int (id_in (rowid r.0)), cast-Int (pos key.1), cast-Int (pos its.0.id), cast-Int (pos 1)) refl in
        record { was = r.0; there = r.1; passing = r.2; version = its.0; known = its.1; entry = its.2; is = s.2 ∙ ap source r.3 ∙ made }

    each : (p : Row → Bool) → ((place : ℤ) (id : ℕ) → p (marked_row place key id) ≡ true) → list_all p edit.news ≡ false → ⊥
    each p good fails = both_ways _ fails (test_from p edit.news (λ x new. let it = is_new x new in ap p it.is ∙ good (id_in (rowid it.was)) it.version.id))

    same_rowid : (x : Row) (it : IsNew x) → rowid x ≡ rowid it.was
    same_rowid x it = ap (λ (r : Row). rowid r) it.is ∙ sym (int_is (rowid it.was) (all_has _ (db 2) it.was (h.shows TableName.Versions).rowids.1 it.there))

    untaken : (x : Row) → Has edit.news x → is_taken left x ≡ true → ⊥
    untaken x new taken =
        let it = is_new x new in
        let r = some_has (λ y. is_eq (value_cmp (rowid y) (rowid x))) left taken in
        let stood = left_fails named rest (db 2) found (h.shows TableName.Versions).rowids f.finds r.0 r.1 in
        let tie = subst (λ v. value_cmp (rowid r.0) v ≡ Equal) (same_rowid x it) (equal_of _ r.2) in
        let same : r.0 ≡ it.was = same_if_tied (db 2) r.0 it.was (h.shows TableName.Versions).rowids stood.0 it.there tie in
        both_ways _ stood.1 (ap named same ∙ it.passing)

    fresh : are_fresh left edit.news ≡ true
    fresh =
        let as_given = given_as_is left (map source found) in
        let count : length edit.news ≡ length found = ap length as_given ∙ length-map found source in
        let few = f.few in
        fresh_if left edit.news (omega arith) untaken

    -- a new row has the key of the row that it replaces
    came : (r : Row) → Has (after 2) r → Has edit.news r ⊎ Has left r
    came r there = put_all_has edit.news left r (subst (λ l. Has l r) (with_tree_there db 2 (edited db edit)) there)

    apart : (r fresh : Row) → Has (after 2) r → Has edit.news fresh → agree (record { digits = 0 }) (1 ∷ 2 ∷ []) r (1 ∷ 2 ∷ []) fresh ≡ true → differ (rowid r) (rowid fresh) ≡ true → ⊥
    apart r fresh there new agrees differs =
        let it = is_new fresh new in
        elim (came r there) [
          | inl also ↦
              let that = is_new r also in
              let same : that.was ≡ it.was = (h.shows TableName.Versions).once that.was it.was that.there it.there (that.entry.0 ∙ sym it.entry.0) in
              let place : rowid r ≡ rowid fresh = same_rowid r that ∙ ap (λ (x : Row). rowid x) same ∙ sym (same_rowid fresh it) in
              both_ways _ (differ_itself (rowid fresh)) (subst (λ v. differ v (rowid fresh) ≡ true) place differs)
          | inr stays ↦
              let stood = left_fails named rest (db 2) found (h.shows TableName.Versions).rowids f.finds r stays in
              let entry = (h.shows TableName.Versions).sound r stood.0 in
              let same : entry.0 ≡ key =
              version_keys (Int (id_in (rowid it.was))) (Int (pos it.version.id) ∷ Int (pos 1) ∷ []) r entry.0 key entry.3.0
              (subst (λ x. agree (record { digits = 0 }) (1 ∷ 2 ∷ []) r (1 ∷ 2 ∷ []) x ≡ true) it.is agrees) in
              both_ways _ stood.1 (by_version_test r key entry.0 entry.3.0 ∙ tied_key version_cmp version_order entry.0 key same)
        ]

    unique : Keeps Unique layout after
    unique =
        stays_unique layout db after versions edit.news s.apart (has_got layout.tables 1 versions refl) (λ t known other. with_tree_elsewhere db 2 (edited db edit) t.tree other)
        (λ r there. elim (came r there) [ inl new ↦ inl new | inr stays ↦ inr (without_all_has (ids_of found) (db 2) r stays) ])
        (λ i known on r fresh there new agrees differs. apart r fresh there new (on_columns indexes versions (1 ∷ 2 ∷ []) (s.on TableName.Versions) i known on r fresh agrees) differs)
        (obeys.rules Unique)

    -- each stored version still has a row with its key
    marks : (was : Row) → Has (db 2) was → named was ≡ true → (x : Row) × Has edit.news x
    marks was there is = (source (rowid was ∷ rest was), subst (λ l. Has l (source (rowid was ∷ rest was))) (sym (given_as_is left (map source found))) (maps_had source found (rowid was ∷ rest was) (f.finds.complete was there is)))

    still : (next : Trees) → Applies layout Enforced db edit next → (r was : Row) → Has (db 2) was → agree plain (1 ∷ 2 ∷ []) was (1 ∷ 2 ∷ []) r ≡ true → (t : Row) × Has (next 2) t × (agree plain (1 ∷ 2 ∷ []) t (1 ∷ 2 ∷ []) r ≡ true)
    still next applies r was there agrees = elim (cases_Bool (named was)) [
      | inl gone ↦
          let x = marks was there gone in
          let it = is_new x.0 x.1 in
          let its = its_version was there gone in
          let subject : column was 1 ≡ Text key.0 = (let k = its.2.0 in cc) in
          let number : column was 2 ≡ Int (pos key.1) = (let k = its.2.0 in cc) in (
            x.0,
            subst (λ l. Has l x.0) (sym applies.rows) (put_all_adds edit.news left x.0 fresh x.1),
            same_agreement r x.0 was (ap (λ (y : Row). column y 1) it.is ∙ sym subject) (ap (λ (y : Row). column y 2) it.is ∙ sym number) ∙ agrees,
          )
      | inr other ↦ (was, subst (λ l. Has l was) (sym applies.rows) (put_all_keeps edit.news left was fresh (fails_left named rest (db 2) found (h.shows TableName.Versions).rowids f.finds was there other)), agrees)
    ]

    -- the row keeps its id and its key, so its own reference and those of its evidence stay valid
    refers : (next : Trees) → Applies layout Enforced db edit next → Refers All layout next
    refers next applies =
        let texts_same : next 0 ≡ db 0 = applies.tables.0 (λ e. omega (arith, e)) in
        kept_refers first indexes versions.tree high (lit≤ tt) db next applies.tables (λ place row had. subst (λ l. has_text_at place l row ≡ true) (sym texts_same) had) (λ row had. more_versions (db 2) (next 2) row (still next applies row) had)
        (λ had row there. subst (λ l. has_text_at 3 l row ≡ true) (sym texts_same) (elim (put_all_has edit.news left row (subst (λ l. Has l row) applies.rows there)) [
          | inl new ↦
              let it = is_new row new in
              let id : column it.was 3 ≡ Int (pos it.version.id) = (let v = it.entry.1 in cc) in
              let same : column it.was 3 ≡ column row 3 = id ∙ sym (ap (λ (x : Row). column x 3) it.is) in
              sym (same_text (db 0) it.was row same) ∙ had it.was it.there
          | inr stays ↦ had row (without_all_has (ids_of found) (db 2) row stays)
        ])) (obeys.rules ForeignKey)

    -- the row may be marked if its rowid is valid
    allowed : (why : Refusal) → IsRefused layout Enforced db edit why → why ≡ NoRowid
    allowed (Violates Datatype) r = absurd (each _ (λ place id. refl) r)
    allowed (Violates NotNull) r = absurd (each _ (λ place id. refl) r)
    allowed (Violates Check) r = absurd (each _ (λ place id. flag_passes true) r)
    allowed (Violates PrimaryKey) r = absurd (both_ways _ r fresh)
    allowed (Violates Unique) r = absurd (r unique)
    allowed (Violates ForeignKey) r = absurd r
    allowed Mismatch r = absurd (each _ (λ place id. refl) r)
    allowed NoRowid r = refl
    allowed BadReference r = absurd (both_ways _ r ((s.at TableName.Versions).keys _ _))
    allowed TooDeep r = absurd r

  pub mark_version_fails : ExecutesInside 0 mark_version params old new (Err e) → IsInsertFault old new e
  unfolding understood everything
  mark_version_fails ran =
      elim (refused_by mark_version params old new layout h.declared (Update 1 marking) (mark_version_is (added_tables first) indexes) (lit≤ tt, refl) (record { silent = refl; stays = refl }) e ran) [
        | inl fault ↦ inl (inl (inl fault))
        | inr rest ↦ elim rest [
          | inl large ↦ inl (inr large.0)
          | inr does ↦ elim (update_refused layout 1 versions refl old new (statement_of mark_version (understood layout mark_version)) params e marking refl (plain_fits db params 2 by_version (col 1 0 ∷ with_flag))
              (steady first indexes db) (λ found next asked applies. refers found (found_as found asked) next applies) does) [
                | inl fault ↦ inl (inl (inl fault))
                | inr r ↦ inr (inl (r.4 ∙ ap edit_error (allowed r.0 (found_as r.0 r.2) r.1 r.3)))
              ]
        ]
      ]
