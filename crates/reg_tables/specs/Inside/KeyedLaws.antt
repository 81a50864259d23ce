-- What the statements on a table with one row for each key need.
use Rattle.std.specs.Prelude.{◌≡◌, ◌≢◌, ◌⊎◌, ◌/◌, ◌&&◌, ◌||◌, ◌==◌, not, bytes_eq, ℕ, ℤ, Bool, IsTrue, Option, Some, slice_get, length, drop, List, [], ◌∷◌, true, false}
use Rattle.std.specs.List.{AllByRecursion, list_all}
use Rattle.std.specs.FinMap.{IsAntisymmetric}
use Rattle.std.specs.declared.cmp.Ordering.{Ordering}
use Rattle.std.specs.Cmp.{IsTotalOrder}
use Rattle.sqlite.specs.declared.types.Value.TheVariants.{Int}
use Rattle.sqlite.specs.Order.{Row}
use Rattle.sqlite.specs.Term.{Term, col, eval_all}
use Rattle.sqlite.specs.Tree.{Trees, IsAscending}
use Rattle.sqlite.specs.Table.{Table}
use Rattle.sqlite.specs.Schema.{Schema}
use Rattle.sqlite.specs.Command.TheVariants.{Insert, Delete}
use Rattle.sqlite.specs.Source.TheVariants.{Values}
use Rattle.sqlite.specs.Rows.{stamped}
use Rattle.sqlite.specs.Rowids.TheVariants.{Chosen, Given}
use Rattle.sqlite.specs.Edit.{edit_of, taken_by, next_rowid}
use Rattle.sqlite.specs.Effect.{Database, IsDatabase, value_rows}
use Rattle.sqlite.specs.Listing.{understood}
use Rattle.sqlite_schema.specs.declared.schema.Among.TheVariants.{All}
use Rattle.sqlite_schema.specs.declared.schema.Keys.TheVariants.{Enforced}
use Rattle.sqlite_schema.specs.declared.program.Program.{Program}
use Rattle.sqlite_schema.specs.Rules.{agree, guards, are_typed, has_computed, are_present, passes_checks, Refers, references_fit}
use Rattle.sqlite_schema.specs.declared.schema.Index.{Index}
use Rattle.sqlite_rules.specs.Action.{works}
use Rattle.sqlite_rules.specs.Calls.{ids_of}
use Rattle.sqlite_rules.specs.Lists.{Has}
use Rattle.sqlite_typing.specs.Types.{accepts_program, accepts_terms}
use Rattle.reg_tables.specs.TableMaps.{IsEntry, ShowsMap, RowForm}
use Rattle.reg_tables.specs.Contents.{TableName, ordinal_of, table_in, KeyOf, ValueOf, form_of, Contents, HoldsContents}
use Rattle.reg_tables.specs.Inside.Keyed.{tests_of, refers_to, cells_of}
use Rattle.reg_tables.specs.Inside.Statements.{IsCommand, IsOneStatement, TableQuery, IsQuery, Takes, no_limit, plain_query}

-- a total order in which only equal keys tie
pub record IsKeyOrder {K : Type 0} (R : K → K → Ordering) : Type 0 where
  pub total : IsTotalOrder R
  pub antisymmetric : IsAntisymmetric R

-- no two tables have the same tree
abbrev pub HaveOwnTrees : Schema → Type 0
HaveOwnTrees schema = IsAscending (λ (a : Table) (b : Table). a.tree ≡ b.tree → ⊥) schema.tables

-- deleting or updating rows of this tree triggers no foreign-key action
abbrev pub HasNoForeignKeyAction : Schema → ℕ → Type 0
HasNoForeignKeyAction schema tree = (olds news : List Row) → works schema Enforced 0 tree olds news ≡ []

-- an UPDATE that replaces the rows it found triggers no foreign-key action
abbrev pub HasNoUpdateAction : Schema → Table → Type 0
HasNoUpdateAction schema table = (db : Trees) (found : List Row) → works schema Enforced 0 table.tree (taken_by db (edit_of db table (ids_of found) Given 1 found)) (edit_of db table (ids_of found) Given 1 found).news ≡ []

-- all tables except one keep their rows
abbrev pub KeepsOthers : Schema → ℕ → Trees → Trees → Type 0
KeepsOthers schema tree old new = AllByRecursion (λ t. t.tree ≢ tree → new t.tree ≡ old t.tree) schema.tables

-- one table shows another map, and nothing else has changed
pub record ReplacesMap {K V : Type 0} (schema : Schema) (form : RowForm K V) (tree : ℕ) (old new : Database) (value_at : K → Option V) : Type 0 where
  pub declared : new.schema ≡ schema
  pub sound : IsDatabase new
  pub rows : ShowsMap form (new.trees tree) value_at
  pub others : KeepsOthers schema tree old.trees new.trees

-- the table's references, and those to it, refer to keys
abbrev pub HasKeys : Schema → Table → Type 0
HasKeys schema table = (adds removes : Bool) → references_fit schema table adds removes ≡ true

-- the schema has this table at this index; the table's references, and those to it, refer to keys
pub record IsTableAt (schema : Schema) (at : ℕ) (table : Table) : Type 0 where
  pub there : slice_get schema.tables at ≡ Some table
  pub keys : HasKeys schema table

-- the row that is inserted for an entry after these rows
abbrev pub new_row : (name : TableName) → List Row → KeyOf name → ValueOf name → Row
new_row name rows key value = Int (next_rowid rows) ∷ cells_of name key value

-- the row has the table's types, has no NULL in a NOT NULL column, and passes the checks
pub record PassesConstraints (table : Table) (row : Row) : Type 0 where
  pub typed : (are_typed table.key 0 table.columns (drop 1 row) && has_computed table row) ≡ true
  pub present : are_present table.key 0 table.columns row ≡ true
  pub checked : passes_checks table row ≡ true

-- an index on these columns, all ascending
abbrev pub is_on : List ℕ → Index → Bool
is_on columns i = (i.order.digits == 0) && bytes_eq i.columns columns

-- each unique index of the table is on these columns
abbrev pub IndexesGuardOnly : List ℕ → Table → List Index → Type 0
IndexesGuardOnly columns table indexes = list_all (λ i. not (guards i table) || is_on columns i) indexes ≡ true

-- the SQL text is an INSERT of one row
pub record PutsRow (schema : Schema) (name : TableName) (sql : List ℕ) : Type 0 where
  pub terms : List Term
  pub width : ℕ
  pub is : IsCommand schema sql (Insert (ordinal_of name) (Values terms width))
  pub whole : (key : KeyOf name) (value : ValueOf name) → IsOneStatement sql (length (cells_of name key value)) (understood schema sql)
  pub typed : (key : KeyOf name) (value : ValueOf name) → accepts_terms terms (stamped (table_in schema name) (cells_of name key value)) ≡ true
  pub row : (trees : Trees) (key : KeyOf name) (value : ValueOf name)
      → (edit_of trees (table_in schema name) [] Chosen 0 (value_rows (stamped (table_in schema name) (cells_of name key value)) width (length terms / width) terms)).news ≡ new_row name (trees (table_in schema name).tree) key value ∷ []
  pub entry : (id : ℤ) (key : KeyOf name) (value : ValueOf name) → IsEntry (form_of name) (Int id ∷ cells_of name key value) key value
  pub stands : (id : ℤ) (key : KeyOf name) (value : ValueOf name) → PassesConstraints (table_in schema name) (Int id ∷ cells_of name key value)

-- the query in a DELETE: the rowids of the rows that pass the tests
abbrev pub deleting : Table → List Term → Program
deleting table tests = record { lets = []; body = plain_query table.tree tests (col 1 0 ∷ []) }

-- the SQL text is a DELETE of the row with a key; it triggers no foreign-key action, and no other row refers to the deleted row
pub record DropsRow (schema : Schema) (name : TableName) (sql : List ℕ) : Type 0 where
  pub no_action : HasNoForeignKeyAction schema (table_in schema name).tree
  pub refers : (old new : Trees) → KeepsOthers schema (table_in schema name).tree old new → Refers All schema old → Refers All schema new
  pub is : IsCommand schema sql (Delete (ordinal_of name) (deleting (table_in schema name) (tests_of name)))
  pub whole : (key : KeyOf name) → IsOneStatement sql (length ((form_of name).key_cells key)) (understood schema sql)
  pub typed : (key : KeyOf name) → accepts_program schema [] (plain_query (table_in schema name).tree (tests_of name) (col 1 0 ∷ [])) ((form_of name).key_cells key) ≡ true

-- inserting a row whose references have parents breaks no reference
abbrev pub InsertKeepsReferences : Schema → TableName → Type 0
InsertKeepsReferences schema name = (db : Database) (contents : Contents) → HoldsContents schema db contents → (key : KeyOf name) (value : ValueOf name) → IsTrue (refers_to name contents key value) → (row : Row) → IsEntry (form_of name) row key value
    → (next : Trees) → KeepsOthers schema (table_in schema name).tree db.trees next → ((r : Row) → Has (next (table_in schema name).tree) r → (r ≡ row) ⊎ Has (db.trees (table_in schema name).tree) r)
    → ((r : Row) → Has (db.trees (table_in schema name).tree) r → Has (next (table_in schema name).tree) r) → Refers All schema db.trees → Refers All schema next

-- the table takes rows: a new row breaks no rule if its key is free and its references have parents
pub record IsKeyed (schema : Schema) (name : TableName) : Type 0 where
  pub apart : HaveOwnTrees schema
  pub is_at : IsTableAt schema (ordinal_of name) (table_in schema name)
  pub uncounted : (table_in schema name).is_counted ≡ false
  -- the unique indexes are on the key
  pub guarded : IndexesGuardOnly (table_in schema name).primary (table_in schema name) schema.indexes
  pub agrees : (a b : Row) (q k : KeyOf name) → (form_of name).key_of a ≡ (form_of name).key_cells q → (form_of name).key_of b ≡ (form_of name).key_cells k
      → agree (record { digits = 0 }) (table_in schema name).primary a (table_in schema name).primary b ≡ true → q ≡ k
  pub put_refers : InsertKeepsReferences schema name

-- the query of the value under a key
abbrev pub find_query : Table → List Term → List Term → List (List ℕ) → List ℕ → TableQuery
find_query table tests shown names sql = record { sql = sql; tree = table.tree; tests = tests; shown = shown; names = names; order = []; limit = no_limit }

-- in this schema the SQL text is a SELECT of the value under a key
pub record FindsRow (schema : Schema) (name : TableName) (sql : List ℕ) : Type 0 where
  pub shown : List Term
  pub names : List (List ℕ)
  pub is : IsQuery (find_query (table_in schema name) (tests_of name) shown names sql) schema
  pub takes : (key : KeyOf name) → Takes (find_query (table_in schema name) (tests_of name) shown names sql) ((form_of name).key_cells key) schema
  pub whole : (row : Row) (key : KeyOf name) → eval_all shown ((form_of name).key_cells key ∷ row ∷ []) ≡ (form_of name).value_of row
