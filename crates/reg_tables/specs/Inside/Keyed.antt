-- Tables with one row for each key: how a row is found by its key, and what its references need.
use Rattle.std.specs.Prelude.{◌≡◌, List, ◌++◌, None, Bool, true, is_some, ◌&&◌}
use Rattle.std.specs.FinMap.{get, insert, remove}
use Rattle.sqlite.specs.Order.{Row}
use Rattle.sqlite.specs.Term.{Term}
use Rattle.reg_tables.specs.Contents.{TableName, Texts, Versions, Levels, Kept, Meta, Modes, Evidence, Against, KeyOf, ValueOf, form_of, Contents, map_of, with_map}
use Rattle.reg_tables.specs.Inside.Statements.{by_first_column, by_version, by_position, by_id}

-- the tests that find the row of a key; their parameters are the key's cells
abbrev pub tests_of : TableName → List Term
tests_of Texts = by_id
tests_of Versions = by_version
tests_of Levels = by_first_column
tests_of Kept = by_first_column
tests_of Meta = by_first_column
tests_of Modes = by_first_column
tests_of Evidence = by_version
tests_of Against = by_position

-- the contents have what the entry refers to
abbrev pub refers_to : (name : TableName) → Contents → KeyOf name → ValueOf name → Bool
refers_to Texts contents id text = true
refers_to Versions contents key version = is_some (get contents.texts version.id)
refers_to Levels contents subject level = true
refers_to Kept contents key reply = true
refers_to Meta contents name value = true
refers_to Modes contents subject mode = true
refers_to Evidence contents key level = is_some (get contents.versions key)
refers_to Against contents key id = is_some (get contents.versions key.0) && is_some (get contents.texts id)

-- the cells of a row after its rowid
abbrev pub cells_of : (name : TableName) → KeyOf name → ValueOf name → Row
cells_of name key value = (form_of name).key_cells key ++ (form_of name).value_cells value

abbrev pub with_entry : (name : TableName) → KeyOf name → ValueOf name → Contents → Contents
with_entry name key value contents = with_map name (insert (map_of name contents) key value) contents

abbrev pub without_entry : (name : TableName) → KeyOf name → Contents → Contents
without_entry name key contents = with_map name (remove (map_of name contents) key) contents

-- the table has no row with this key
abbrev pub IsFreeKey : (name : TableName) → KeyOf name → Contents → Type 0
IsFreeKey name key contents = get (map_of name contents) key ≡ None
