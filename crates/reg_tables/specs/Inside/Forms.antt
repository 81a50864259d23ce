-- The column, the table, the index and the schema that a form declares.
use Rattle.std.specs.Prelude.{[], ◌∷◌, List, Bool, true, false, map}
use Rattle.sqlite.specs.Table.{Table}
use Rattle.sqlite.specs.Schema.{Schema}
use Rattle.sqlite.specs.Term.{Term}
use Rattle.sqlite_schema.specs.declared.schema.Column.{Column}
use Rattle.sqlite_schema.specs.declared.schema.Index.{Index}
use Rattle.sqlite_schema.specs.declared.schema.Reference.{Reference}
use Rattle.reg_tables.specs.declared.declared.forms.ColumnForm.{ColumnForm}
use Rattle.reg_tables.specs.declared.declared.forms.ColumnForm.TheVariants.{Nullable, Required}
use Rattle.reg_tables.specs.declared.declared.forms.ReferenceForm.{ReferenceForm}
use Rattle.reg_tables.specs.declared.declared.forms.ReferenceForm.TheVariants.{ToText, ToVersion}
use Rattle.reg_tables.specs.declared.declared.forms.TableForm.{TableForm}
use Rattle.reg_tables.specs.declared.declared.schemas.TableInTree.{TableInTree}
use Rattle.reg_tables.specs.declared.declared.schemas.IndexForm.{IndexForm}
use Rattle.reg_tables.specs.declared.declared.schemas.IndexForm.TheVariants.{OfKey, OfIds}
use Rattle.reg_tables.specs.declared.declared.schemas.SchemaForm.{SchemaForm}
use Rattle.reg_tables.specs.Layout.{column, required, keyed_table, to_texts, to_versions, versions, versions_of_id, automatic_index}

abbrev pub column_of : ColumnForm → Column
column_of (Nullable name kind) = column name.now kind
column_of (Required name kind) = required name.now kind

abbrev pub reference_of : ReferenceForm → Reference
reference_of (ToText place) = record to_texts { columns = place ∷ [] }
reference_of ToVersion = to_versions

-- the check of a table with a flag is that of `versions`
abbrev pub checks_of : Bool → List Term
checks_of true = versions.checks
checks_of false = []

-- the table of this form, with 0 for its tree
abbrev pub table_without_tree : TableForm → Table
table_without_tree form = record (keyed_table form.name.now 0 form.primary.now (map column_of form.columns.now)) {
  key = form.key;
  uniques = form.unique.now ∷ [];
  checks = checks_of form.has_flag;
  references = map reference_of form.references.now;
}

abbrev pub table_of : TableInTree → Table
table_of placed = record (table_without_tree placed.form.now) { tree = placed.tree }

-- the index that SQLite makes for the table's key
abbrev pub key_index_of : TableInTree → Index
key_index_of placed = automatic_index placed.form.now.index.now placed.tree placed.form.now.unique.now

abbrev pub index_of : IndexForm → Index
index_of (OfKey placed) = key_index_of placed
index_of (OfIds tree) = record versions_of_id { tree = tree }

abbrev pub schema_of : SchemaForm → Schema
schema_of form = record { tables = map table_of form.tables.now; indexes = map index_of form.indexes.now; views = [] }
