-- How the statements that insert a text and mark a version as deleted change the contents.
use Rattle.std.proofs.Common.{◌≡◌, ℕ, pos, List, [], ◌∷◌, None, Ok, refl}
use Rattle.reg_tables.proofs.Kit.{nat_cmp, get, Null, Int, Text, Row, rowid, Schema, cast_row, State, Executes, Index}
use Rattle.std.specs.FinMap.{insert}
use Rattle.sqlite.specs.Order.{column}
use Rattle.reg_tables.specs.Layout.{five_tables_then, texts, versions, added_tables}
use Rattle.reg_tables.specs.Contents.{version_cmp, VersionEntryView, Contents, text_form, version_form, HoldsContents, TableName}
use Rattle.reg_tables.specs.TableMaps.{IsEntry}
use Rattle.reg_tables.specs.Changes.{altered, as_deleted, marking_deleted, with_text}
use Rattle.reg_tables.specs.Inside.Statements.{by_version}
use Rattle.reg_tables.proofs.Statements.{text_terms, put_text, put_text_is, with_flag, mark_version, mark_version_is}
use Rattle.reg_tables.proofs.WellDeclared.{IsWellDeclared, steady}
use Rattle.reg_tables.proofs.Tables.{turned}
use Rattle.reg_tables.proofs.KeyedTables.{number_order, distinct_numbers, version_order, distinct_versions, by_version_test, cast-Null, cast-Int, inserts, alters}

-- ---- texts and versions

-- a version's row with the flag set is that of the version as deleted
marked_entry : (row : Row) (key : List ℕ × ℕ) (version : VersionEntryView) → IsEntry version_form row key version → IsEntry version_form (cast_row versions (rowid row ∷ column row 1 ∷ column row 2 ∷ column row 3 ∷ Int (pos 1) ∷ [])) key (as_deleted version)
marked_entry row key version is =
    let subject : column row 1 ≡ Text key.0 = cc in
    let number : column row 2 ≡ Int (pos key.1) = cc in
    let id : column row 3 ≡ Int (pos version.id) = cc in
    (rw (subject, number, cast-Int (pos key.1)) refl, rw (id, cast-Int (pos version.id), cast-Int (pos 1)) refl)

module _ (first : ℕ) (indexes : List Index) (s : IsWellDeclared (five_tables_then (added_tables first) indexes)) (old new : State) (count : ℕ) (contents : Contents) (h : HoldsContents (five_tables_then (added_tables first) indexes) old.now contents) where
  abbrev here : Schema
  here = five_tables_then (added_tables first) indexes

  pub puts_text : (id : ℕ) (text : List ℕ) → get contents.texts id ≡ None → Executes put_text (Int (pos id) ∷ Text text ∷ []) old new (Ok count) → HoldsContents here new.now (with_text id text contents)
  puts_text id text free ran = turned here s.apart TableName.Texts texts refl old.now new.now contents h (insert contents.texts id text)
      (inserts here text_form nat_cmp number_order distinct_numbers 0 texts refl old new h.declared contents.texts (h.shows TableName.Texts) id put_text (Int (pos id) ∷ Text text ∷ []) count text_terms 3
      (Int (pos id) ∷ Null ∷ Text text ∷ []) text refl (put_text_is (added_tables first) indexes) (rw (cast-Null, cast-Int (pos id))) (record { has_id = refl; has_key = refl; has_value = refl }) free ran)

  pub marks_version : (key : List ℕ × ℕ) → Executes mark_version (Text key.0 ∷ Int (pos key.1) ∷ []) old new (Ok count) → HoldsContents here new.now (marking_deleted key contents)
  marks_version key ran = turned here s.apart TableName.Versions versions refl old.now new.now contents h (altered contents.versions key as_deleted)
      (alters here version_form version_cmp version_order distinct_versions 1 versions refl old new h.declared contents.versions (h.shows TableName.Versions) key mark_version (Text key.0 ∷ Int (pos key.1) ∷ []) count (steady first indexes) by_version with_flag as_deleted (mark_version_is (added_tables first) indexes)
      (λ row q is. by_version_test row key q is) (λ row version is. marked_entry row key version is) ran)
