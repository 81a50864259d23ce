-- The tables after CREATE INDEX, and why it fails.
use Rattle.std.proofs.Common.{◌≡◌, inl, inr, ℕ, pos, ◌+◌, ◌<◌, ◌^◌, List, [], ◌∷◌, ◌++◌, ◌&&◌, not, length, lit<, lit≤, codes, Some, None, Ok, Err, Option, false, true, refl, sym, ap, subst, subst₂, ◌∙◌, arith}
use Rattle.reg_tables.proofs.Kit.{IsUtf8, IsTrue, both_ways, Value, Null, Int, Real, Text, Blob, Row, Trees, rowid, Table, Schema, is_used, is_reserved, next_tree, indexed, KeepsRows, index_defined_by, Tally, Does, Database, IsDatabase, State, Executes, ExecutesInside, Writes, mode_of, Error, runs_as, statement_of, Unique, Index, table_reals, index_reals, guards, clashes, Keeps, entry_of, is_fit, RefusesIndex, Invalid, NameTaken, BadName, TooBig, BadKey, BadText, Has, all_has, test_push, keeps_at, keeps_from, IsStorable}
use Rattle.sqlite.specs.Order.{column, value_cmp}
use Rattle.sqlite.specs.Command.TheVariants.{CreateIndex}
use Rattle.sqlite.specs.Does.{MakesIndex as MakesOne}
use Rattle.sqlite.specs.Listing.{understood}
use Rattle.sqlite_schema.specs.Names.{same_name}
use Rattle.sqlite_catalog.specs.declared.error.Refusal.{Refusal}
use Rattle.sqlite_catalog.specs.declared.error.Refusal.TheVariants.{Violates}
use Rattle.sqlite_trees.specs.View.{is_int}
use Rattle.sqlite_trees.specs.Sound.{same_name as same_word, begins as begins_with, is_free_name, fits_kind}
use Rattle.sqlite_tied.specs.Compute.{everything}
use Rattle.reg_tables.specs.Layout.{five_tables_then, layout_one_unindexed, versions, versions_of_id, added_tables, layout_two_unindexed, GetsIndex}
use Rattle.reg_tables.specs.Contents.{Contents, HoldsContents, TableName}
use Rattle.reg_tables.specs.FailedCalls.{IsFault}
use Rattle.reg_tables.specs.Inside.Statements.{IsCommand, IsOneStatement}
use Rattle.reg_tables.proofs.Tables.{all_still}
use Rattle.reg_tables.proofs.StoredRows.{storable}
use Rattle.reg_tables.proofs.WriteFaults.{refused_by}
use Rattle.reg_tables.proofs.Writes.{went, same_value}

abbrev pub make_versions_of_id : List ℕ
make_versions_of_id = codes "CREATE INDEX versions_of_id ON versions (id)"

abbrev in_tree : ℕ → Index
in_tree tree = record versions_of_id { tree = tree }

index_defined : index_defined_by versions make_versions_of_id ≡ Ok (in_tree 0)
unfolding everything
index_defined = refl

its_index : (i : Index) → index_defined_by versions make_versions_of_id ≡ Ok i → i ≡ in_tree 0
its_index i is = let both : ◌≡◌ {A = _} (Ok i) (Ok (in_tree 0)) = sym is ∙ index_defined in cc

-- how CREATE INDEX changes a schema that begins with the five tables, and those of SQLite's conditions that depend on the schema
record MakesIndex (tables : List Table) (indexes : List Index) (tree : ℕ) : Type 0 where
  command : IsCommand (five_tables_then tables indexes) make_versions_of_id (CreateIndex 1)
  text : statement_of make_versions_of_id (understood (five_tables_then tables indexes) make_versions_of_id) ≡ make_versions_of_id
  is : indexed (five_tables_then tables indexes) versions (in_tree 0) ≡ five_tables_then tables (indexes ++ in_tree tree ∷ [])
  whole : IsOneStatement make_versions_of_id 0 (understood (five_tables_then tables indexes) make_versions_of_id)
  room : next_tree (five_tables_then tables indexes) < 65536
  unused : is_used (five_tables_then tables indexes) versions_of_id.name ≡ false

first_makes : MakesIndex [] layout_one_unindexed.indexes 10
unfolding understood everything same_name same_word begins_with
first_makes = record { command = record { is = refl; plain = (refl, refl) }; text = refl; is = refl; whole = (lit≤ tt, refl); room = lit< tt; unused = refl }

two_makes : MakesIndex (added_tables 10) layout_two_unindexed.indexes 16
unfolding understood everything same_name same_word begins_with
two_makes = record { command = record { is = refl; plain = (refl, refl) }; text = refl; is = refl; whole = (lit≤ tt, refl); room = lit< tt; unused = refl }

-- SQLite's conditions that don't depend on the schema
record CanBeIndexed : Type 0 where
  text : IsUtf8 make_versions_of_id
  named : IsUtf8 versions_of_id.name
  owner : IsUtf8 versions.name
  unreserved : is_reserved versions_of_id.name ≡ false
  fits : is_fit (Text (codes "index")) (Text versions_of_id.name) (Text versions.name) (Text make_versions_of_id) ≡ true

versions_can_be_indexed : CanBeIndexed
unfolding understood everything same_name same_word begins_with is_free_name fits_kind value_cmp lib.Utf8.encode lib.Ieee.is_nan lib.Ieee.lt
versions_can_be_indexed = record {
  text = (make_versions_of_id, (refl, refl));
  named = (codes "versions_of_id", (refl, refl));
  owner = (codes "versions", (refl, refl));
  unreserved = refl;
  fits = refl;
}

-- each entry of the index can be stored
abbrev AreStorable : Trees → Type 0
AreStorable db = (row : Row) → Has (db versions.tree) row → IsStorable (index_reals (table_reals versions) (3 ∷ [])) (entry_of (3 ∷ []) row)

two_numbers : (id rowid : Value) → is_int id ≡ true → is_int rowid ≡ true → IsStorable 0 (id ∷ rowid ∷ [])
two_numbers (Int id) (Int rowid) first second = storable (Int id ∷ Int rowid ∷ []) (tt, (tt, tt)) (lit< tt) (lit≤ tt) (lit≤ tt)
two_numbers (Int id) Null first second = absurd (cc)
two_numbers (Int id) (Real x) first second = absurd (cc)
two_numbers (Int id) (Text x) first second = absurd (cc)
two_numbers (Int id) (Blob x) first second = absurd (cc)
two_numbers Null b first second = absurd (cc)
two_numbers (Real x) b first second = absurd (cc)
two_numbers (Text x) b first second = absurd (cc)
two_numbers (Blob x) b first second = absurd (cc)

-- the ids and the rowids of versions are integers
storable_if_held : (tables : List Table) (indexes : List Index) (db : Database) (contents : Contents) → HoldsContents (five_tables_then tables indexes) db contents → AreStorable db.trees
storable_if_held tables indexes db contents holds = λ row there.
    let it = (holds.shows TableName.Versions).sound row there in
    let id : column row 3 ≡ Int (pos it.1.id) = (let v = it.3.1 in cc) in
    two_numbers (column row 3) (rowid row) (ap is_int id) (all_has (λ r. IsTrue (is_int (rowid r))) (db.trees versions.tree) row (holds.shows TableName.Versions).rowids.1 there)

-- the schema has the index too, and each table keeps its rows
record IsIndexed (tables : List Table) (indexes : List Index) (tree : ℕ) (old new : Database) : Type 0 where
  declared : new.schema ≡ five_tables_then tables (indexes ++ in_tree tree ∷ [])
  sound : IsDatabase new
  rows : KeepsRows (five_tables_then tables indexes).tables old.trees new.trees

module _ (tables : List Table) (indexes : List Index) (tree : ℕ) (m : MakesIndex tables indexes tree) where
  abbrev before : Schema
  before = five_tables_then tables indexes

  abbrev after : Schema
  after = five_tables_then tables (indexes ++ in_tree tree ∷ [])

  is_indexed : (old new : State) (count : ℕ) → old.now.schema ≡ before → Executes make_versions_of_id [] old new (Ok count) → IsIndexed tables indexes tree old.now new.now
  is_indexed old new count declared h =
      let w = subst (λ t. Writes old new None (CreateIndex 1) t [] count) m.text (runs_as make_versions_of_id [] old new before declared (CreateIndex 1) m.command.is m.command.plain count h) in
      let done = subst (λ s. Does old.step_limit (mode_of old) [] (record old.now { schema = s }) make_versions_of_id None (CreateIndex 1) (Ok (w.tally, new.now))) declared w.changed in
      let all = went done in
      let made = all.1 in
      let now : new.now ≡ all.0 = ap (λ (p : Tally × Database). p.1) (same_value all.2) in
      record {
        declared = ap (λ (d : Database). d.schema) now ∙ made.is ∙ ap (indexed before versions) (its_index made.index made.defined) ∙ m.is;
        sound = w.sound;
        rows = subst (λ (d : Database). KeepsRows before.tables old.now.trees d.trees) (sym now) made.rows;
      }

  -- the tables keep their contents
  holds_indexed : (old new : State) (count : ℕ) (contents : Contents) → HoldsContents before old.now contents → Executes make_versions_of_id [] old new (Ok count) → HoldsContents after new.now contents
  holds_indexed old new count contents holds ran =
      let it = is_indexed old new count holds.declared ran in
      record { declared = it.declared; sound = it.sound; shows = all_still before.tables old.now.trees new.now.trees contents it.rows holds.shows }

  -- a non-unique index puts no condition on the rows
  unique_with_index : (db : Trees) → Keeps Unique before db → Keeps Unique after db
  unique_with_index db keeps =
      keeps_from Unique after db (λ t row listed there. test_push (λ i. not (guards i t && clashes i.order i.columns (db t.tree) row)) indexes (in_tree tree) (keeps_at Unique before db t row keeps listed there) refl)

  module _ (old new : State) (declared : old.now.schema ≡ before) (unique : Keeps Unique after old.now.trees) (storable : AreStorable old.now.trees) (e : Error) where
    unrefused_index : (why : Refusal) → RefusesIndex before old.now.trees versions make_versions_of_id why → ⊥
    unrefused_index (Invalid e) h = absurd (let clash = sym h ∙ index_defined in cc)
    unrefused_index NameTaken h = both_ways _ m.unused (ap (λ (i : Index). is_used before i.name) (sym (its_index h.0 h.1)) ∙ h.2)
    unrefused_index BadName h = elim h.2 [
      | inl bad ↦ elim bad [
        | inl odd ↦ odd (subst (λ (i : Index). IsUtf8 i.name) (sym (its_index h.0 h.1)) versions_can_be_indexed.named)
        | inr own ↦ both_ways _ versions_can_be_indexed.unreserved (ap (λ (i : Index). is_reserved i.name) (sym (its_index h.0 h.1)) ∙ own.0)
      ]
      | inr odd ↦ odd versions_can_be_indexed.owner
    ]
    unrefused_index TooBig h = elim h.2 [
      | inl many ↦ let low = m.room in omega arith
      | inr wide ↦ elim wide [
        | inl table_wide ↦ let low : table_reals versions < 2 ^ 64 = lit< tt in omega arith
        | inr key_wide ↦ let low = subst (λ (i : Index). index_reals (table_reals versions) i.columns < 2 ^ 64) (sym (its_index h.0 h.1)) (lit< tt) in omega arith
      ]
    ]
    unrefused_index BadKey h = h
    unrefused_index BadText h =
        both_ways _ (ap (λ (i : Index). is_fit (Text (codes "index")) (Text i.name) (Text versions.name) (Text make_versions_of_id)) (sym (its_index h.0 h.1)) ∙ h.2) versions_can_be_indexed.fits
    unrefused_index (Violates rule) h = h.3 (subst (λ s. Keeps Unique s old.now.trees) (sym (ap (indexed before versions) (its_index h.0 h.1) ∙ m.is)) unique)

    index_fails : ExecutesInside 0 make_versions_of_id [] old new (Err e) → IsFault old new e
    index_fails h =
        elim (refused_by make_versions_of_id [] old new before declared (CreateIndex 1) m.command m.whole (record { silent = refl; stays = refl }) e h) [
          | inl fault ↦ fault
          | inr rest ↦ absurd (elim rest [
            | inl large ↦ too_large (subst (λ t. Does old.step_limit (mode_of old) [] (record old.now { schema = before }) t None (CreateIndex 1) (Err None)) m.text large.1)
            | inr does ↦ refused (subst (λ t. Does old.step_limit (mode_of old) [] (record old.now { schema = before }) t None (CreateIndex 1) (Err (Some e))) m.text does)
          ])
        ]
      where
        not_large : (stop : Option Error) → stop ≡ None → MakesOne make_versions_of_id (record old.now { schema = before }) versions (Err stop) → ⊥
        not_large (Some x) is h = cc
        not_large None is h = elim h.2 [
          | inl long ↦ let low = subst (λ (i : Index). length i.name + length versions.name + length make_versions_of_id + 200 < 10 ^ 9) (sym (its_index h.0 h.1)) (lit< tt) in omega arith
          | inr row ↦ row.2 (subst (λ (i : Index). IsStorable (index_reals (table_reals versions) i.columns) (entry_of i.columns row.0)) (sym (its_index h.0 h.1)) (storable row.0 row.1))
        ]

        too_large : Does old.step_limit (mode_of old) [] (record old.now { schema = before }) make_versions_of_id None (CreateIndex 1) (Err None) → ⊥
        too_large (inl stopped) = not_large stopped.0 (let same = stopped.2 in cc) stopped.1
        too_large (inr done) = let e = done.2 in cc

        made : (stop : Option Error) → stop ≡ Some e → MakesOne make_versions_of_id (record old.now { schema = before }) versions (Err stop) → ⊥
        made None is h = cc
        made (Some x) is (inl odd) = odd.0 versions_can_be_indexed.text
        made (Some x) is (inr why) = unrefused_index why.0 why.1

        refused : Does old.step_limit (mode_of old) [] (record old.now { schema = before }) make_versions_of_id None (CreateIndex 1) (Err (Some e)) → ⊥
        refused (inl stopped) = made stopped.0 (let same = stopped.2 in cc) stopped.1
        refused (inr done) = let e = done.2 in cc

  -- over a database with contents, CREATE INDEX fails only with a fault
  fails_if_sound : (old new : State) (contents : Contents) → HoldsContents before old.now contents → (e : Error) → ExecutesInside 0 make_versions_of_id [] old new (Err e) → IsFault old new e
  fails_if_sound old new contents holds e =
      let obeys = (subst (λ s. IsDatabase (record { schema = s; trees = old.now.trees })) holds.declared holds.sound).obeys in
      index_fails old new holds.declared (unique_with_index old.now.trees (obeys.rules Unique)) (storable_if_held tables indexes old.now contents holds) e

-- ---- the layouts

-- the schemas before and after the index is made
record IsUnindexed (before after : Schema) : Type 0 where
  tables : List Table
  indexes : List Index
  tree : ℕ
  makes : MakesIndex tables indexes tree
  was : before ≡ five_tables_then tables indexes
  is : after ≡ five_tables_then tables (indexes ++ in_tree tree ∷ [])

is_unindexed_one : (before after : Schema) → GetsIndex before after → IsUnindexed before after
is_unindexed_one _ _ (inl first) = record { tables = []; indexes = layout_one_unindexed.indexes; tree = 10; makes = first_makes; was = first.0; is = first.1 }
is_unindexed_one _ _ (inr second) = record { tables = added_tables 10; indexes = layout_two_unindexed.indexes; tree = 16; makes = two_makes; was = second.0; is = second.1 }

pub indexes_versions : (old new : State) (count : ℕ) → Executes make_versions_of_id [] old new (Ok count) → (before after : Schema) → GetsIndex before after → (contents : Contents) → HoldsContents before old.now contents → HoldsContents after new.now contents
indexes_versions old new count ran before after known contents =
    let it = is_unindexed_one before after known in
    subst₂ (λ b a. HoldsContents b old.now contents → HoldsContents a new.now contents) (sym it.was) (sym it.is) (λ holds. holds_indexed it.tables it.indexes it.tree it.makes old new count contents holds ran)

pub index_versions_fails : (old new : State) (e : Error) → ExecutesInside 0 make_versions_of_id [] old new (Err e) → (before after : Schema) → GetsIndex before after → (contents : Contents) → HoldsContents before old.now contents → IsFault old new e
index_versions_fails old new e ran before after known contents =
    let it = is_unindexed_one before after known in
    subst (λ b. HoldsContents b old.now contents → IsFault old new e) (sym it.was) (λ holds. fails_if_sound it.tables it.indexes it.tree it.makes old new contents holds e ran)
