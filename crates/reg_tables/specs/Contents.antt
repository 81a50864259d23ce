-- The contents of the tables, as finite maps. Texts are lists of bytes.
use Rattle.std.specs.Prelude.{◌≡◌, ℕ, ◌<◌, ◌^◌, pos, Bool, if◌then◌else◌, List, [], ◌∷◌, Option, None, Some, slice_get, IsUtf8}
use Rattle.std.specs.declared.cmp.Ordering.{Ordering}
use Rattle.std.specs.Ordering.{nat_cmp, on, then_cmp}
use Rattle.std.specs.Cmp.Lexicographic.{slice_cmp}
use Rattle.std.specs.FinMap.{FinMap, get, empty}
use Rattle.sqlite.specs.declared.types.Value.{Value}
use Rattle.sqlite.specs.declared.types.Value.TheVariants.{Int, Text}
use Rattle.sqlite.specs.Order.{Row, column}
use Rattle.sqlite.specs.Table.{Table}
use Rattle.sqlite.specs.Schema.{Schema}
use Rattle.sqlite.specs.Tree.{Trees}
use Rattle.sqlite.specs.Effect.{Database, IsDatabase}
use Rattle.reg_tables.specs.Layout.{layout_one, table_at, HasFiveTables, HasEightTables}
use Rattle.reg_tables.specs.TableMaps.{RowForm, ShowsMap}

abbrev pub text_cmp : List ℕ → List ℕ → Ordering
text_cmp = slice_cmp nat_cmp

-- the key of a version is its subject and its number
abbrev pub version_cmp : List ℕ × ℕ → List ℕ × ℕ → Ordering
version_cmp = then_cmp (on (λ (key : List ℕ × ℕ). key.0) text_cmp) (on (λ (key : List ℕ × ℕ). key.1) nat_cmp)

-- the key of a row of `against`: a version, and a position among the ids that it was checked against
abbrev pub PositionKey : Type 0
PositionKey = (List ℕ × ℕ) × ℕ

abbrev pub position_cmp : PositionKey → PositionKey → Ordering
position_cmp = then_cmp (on (λ (key : PositionKey). key.0) version_cmp) (on (λ (key : PositionKey). key.1) nat_cmp)

-- a finite map whose keys are texts
abbrev pub TextMap : Type 0 → Type 0
TextMap V = FinMap text_cmp V

-- the columns of `versions` after its key
pub record VersionEntryView : Type 0 where
  pub id : ℕ
  pub deleted : Bool

-- the columns of `kept` after its key
pub record KeptReplyView : Type 0 where
  pub command : List ℕ
  pub status : ℕ
  pub body : List ℕ

pub record Contents : Type 0 where
  pub texts : FinMap nat_cmp (List ℕ)
  pub versions : FinMap version_cmp VersionEntryView
  -- the own level of each subject that has one
  pub levels : TextMap (List ℕ)
  -- the kept reply of each retry key
  pub kept : TextMap KeptReplyView
  pub meta : TextMap (List ℕ)
  -- the own mode of each subject that has one
  pub modes : TextMap (List ℕ)
  -- the level of each version that has evidence
  pub evidence : FinMap version_cmp (List ℕ)
  -- the ids that a version was checked against, by position
  pub against : FinMap position_cmp ℕ

-- ---- the rows

abbrev pub text_cells : List ℕ → Row
text_cells text = Text text ∷ []

abbrev pub number_cells : ℕ → Row
number_cells number = Int (pos number) ∷ []

abbrev pub flag_cell : Bool → Value
flag_cell flag = Int (if flag then pos 1 else pos 0)

abbrev pub version_key_cells : List ℕ × ℕ → Row
version_key_cells key = Text key.0 ∷ Int (pos key.1) ∷ []

abbrev pub version_cells : VersionEntryView → Row
version_cells version = Int (pos version.id) ∷ flag_cell version.deleted ∷ []

abbrev pub kept_cells : KeptReplyView → Row
kept_cells reply = Text reply.command ∷ Int (pos reply.status) ∷ Text reply.body ∷ []

abbrev pub position_key_cells : PositionKey → Row
position_key_cells key = Text key.0.0 ∷ Int (pos key.0.1) ∷ Int (pos key.1) ∷ []

-- the id is the rowid; its column is stored as NULL
abbrev pub text_form : RowForm ℕ (List ℕ)
text_form = record { key_of = λ row. column row 0 ∷ []; value_of = λ row. column row 2 ∷ []; key_cells = number_cells; value_cells = text_cells }

abbrev pub version_form : RowForm (List ℕ × ℕ) VersionEntryView
version_form = record {
  key_of = λ row. column row 1 ∷ column row 2 ∷ [];
  value_of = λ row. column row 3 ∷ column row 4 ∷ [];
  key_cells = version_key_cells;
  value_cells = version_cells;
}

-- the form of a table whose key is the text in its first column
abbrev pub keyed_by_text : {V : Type 0} → (Row → Row) → (V → Row) → RowForm (List ℕ) V
keyed_by_text value_of value_cells = record { key_of = λ row. column row 1 ∷ []; value_of = value_of; key_cells = text_cells; value_cells = value_cells }

-- the form of `levels`, `meta` and `modes`
abbrev pub pair_form : RowForm (List ℕ) (List ℕ)
pair_form = keyed_by_text (λ row. column row 2 ∷ []) text_cells

abbrev pub kept_form : RowForm (List ℕ) KeptReplyView
kept_form = keyed_by_text (λ row. column row 2 ∷ column row 3 ∷ column row 4 ∷ []) kept_cells

abbrev pub evidence_form : RowForm (List ℕ × ℕ) (List ℕ)
evidence_form = record {
  key_of = λ row. column row 1 ∷ column row 2 ∷ [];
  value_of = λ row. column row 3 ∷ [];
  key_cells = version_key_cells;
  value_cells = text_cells;
}

abbrev pub against_form : RowForm PositionKey ℕ
against_form = record {
  key_of = λ row. column row 1 ∷ column row 2 ∷ column row 3 ∷ [];
  value_of = λ row. column row 4 ∷ [];
  key_cells = position_key_cells;
  value_cells = number_cells;
}

-- ---- the tables, by name

pub data TableName : Type 0 where
  Texts Versions Levels Kept Meta Modes Evidence Against : TableName

-- the index of the table in a schema's list of tables
abbrev pub ordinal_of : TableName → ℕ
ordinal_of Texts = 0
ordinal_of Versions = 1
ordinal_of Levels = 2
ordinal_of Kept = 3
ordinal_of Meta = 4
ordinal_of Modes = 5
ordinal_of Evidence = 6
ordinal_of Against = 7

-- the table at the index of this name; its own name isn't compared
abbrev pub table_in : Schema → TableName → Table
table_in schema name = table_at schema (ordinal_of name)

-- the schema has this table at its index: it begins with the five tables, or has exactly the eight if layout 2 adds this one; it has no view
abbrev pub HasTable : TableName → Schema → Type 0
HasTable Texts = HasFiveTables
HasTable Versions = HasFiveTables
HasTable Levels = HasFiveTables
HasTable Kept = HasFiveTables
HasTable Meta = HasFiveTables
HasTable Modes = HasEightTables
HasTable Evidence = HasEightTables
HasTable Against = HasEightTables

abbrev pub KeyOf : TableName → Type 0
KeyOf Texts = ℕ
KeyOf Versions = List ℕ × ℕ
KeyOf Levels = List ℕ
KeyOf Kept = List ℕ
KeyOf Meta = List ℕ
KeyOf Modes = List ℕ
KeyOf Evidence = List ℕ × ℕ
KeyOf Against = PositionKey

abbrev pub ValueOf : TableName → Type 0
ValueOf Texts = List ℕ
ValueOf Versions = VersionEntryView
ValueOf Levels = List ℕ
ValueOf Kept = KeptReplyView
ValueOf Meta = List ℕ
ValueOf Modes = List ℕ
ValueOf Evidence = List ℕ
ValueOf Against = ℕ

abbrev pub cmp_of : (name : TableName) → KeyOf name → KeyOf name → Ordering
cmp_of Texts = nat_cmp
cmp_of Versions = version_cmp
cmp_of Levels = text_cmp
cmp_of Kept = text_cmp
cmp_of Meta = text_cmp
cmp_of Modes = text_cmp
cmp_of Evidence = version_cmp
cmp_of Against = position_cmp

abbrev pub form_of : (name : TableName) → RowForm (KeyOf name) (ValueOf name)
form_of Texts = text_form
form_of Versions = version_form
form_of Levels = pair_form
form_of Kept = kept_form
form_of Meta = pair_form
form_of Modes = pair_form
form_of Evidence = evidence_form
form_of Against = against_form

abbrev pub MapOf : TableName → Type 0
MapOf name = FinMap (cmp_of name) (ValueOf name)

abbrev pub map_of : (name : TableName) → Contents → MapOf name
map_of Texts contents = contents.texts
map_of Versions contents = contents.versions
map_of Levels contents = contents.levels
map_of Kept contents = contents.kept
map_of Meta contents = contents.meta
map_of Modes contents = contents.modes
map_of Evidence contents = contents.evidence
map_of Against contents = contents.against

-- the contents with another map for this table
abbrev pub with_map : (name : TableName) → MapOf name → Contents → Contents
with_map Texts map contents = record contents { texts = map }
with_map Versions map contents = record contents { versions = map }
with_map Levels map contents = record contents { levels = map }
with_map Kept map contents = record contents { kept = map }
with_map Meta map contents = record contents { meta = map }
with_map Modes map contents = record contents { modes = map }
with_map Evidence map contents = record contents { evidence = map }
with_map Against map contents = record contents { against = map }

-- ---- a database and its contents

-- the table shows the map, or there is no table and the map is empty
abbrev pub ShowsIn : {K V : Type 0} {R : K → K → Ordering} → RowForm K V → Trees → Option Table → FinMap R V → Type 0
ShowsIn form trees (Some table) map = ShowsMap form (trees table.tree) (get map)
ShowsIn form trees None map = map ≡ empty

-- each table of the schema shows its map; the map of a table that the schema lacks is empty
abbrev pub ShowsAll : Schema → Trees → Contents → Type 0
ShowsAll schema trees contents = (name : TableName) → ShowsIn (form_of name) trees (slice_get schema.tables (ordinal_of name)) (map_of name contents)

-- the database has this schema and these contents
pub record HoldsContents (schema : Schema) (db : Database) (contents : Contents) : Type 0 where
  pub declared : db.schema ≡ schema
  -- `sqlite_schema` lists the schema, each row of its tables passes their constraints, and each index has one entry for each row of its table
  pub sound : IsDatabase db
  pub shows : ShowsAll schema db.trees contents

-- the database has layout 1 with its index and these contents
abbrev pub HoldsLayoutOne : Database → Contents → Type 0
HoldsLayoutOne = HoldsContents layout_one

-- the texts are UTF-8, and the status is below 2^32
pub record IsReadableReply (reply : KeptReplyView) : Type 0 where
  pub command : IsUtf8 reply.command
  pub status : reply.status < 2 ^ 32
  pub body : IsUtf8 reply.body

-- each text is UTF-8 and each number is below 2^32, so that a `String` or a `u32` can represent it
pub record AreReadable (contents : Contents) : Type 0 where
  pub texts : (id : ℕ) (text : List ℕ) → get contents.texts id ≡ Some text → (id < 2 ^ 32) × IsUtf8 text
  pub versions : (key : List ℕ × ℕ) (version : VersionEntryView) → get contents.versions key ≡ Some version → IsUtf8 key.0 × (key.1 < 2 ^ 32) × (version.id < 2 ^ 32)
  pub levels : (subject level : List ℕ) → get contents.levels subject ≡ Some level → IsUtf8 subject × IsUtf8 level
  pub kept : (key : List ℕ) (reply : KeptReplyView) → get contents.kept key ≡ Some reply → IsUtf8 key × IsReadableReply reply
  pub meta : (name value : List ℕ) → get contents.meta name ≡ Some value → IsUtf8 name × IsUtf8 value
  pub modes : (subject mode : List ℕ) → get contents.modes subject ≡ Some mode → IsUtf8 subject × IsUtf8 mode
  pub evidence : (key : List ℕ × ℕ) (level : List ℕ) → get contents.evidence key ≡ Some level → IsUtf8 key.0 × (key.1 < 2 ^ 32) × IsUtf8 level
  pub against : (key : PositionKey) (id : ℕ) → get contents.against key ≡ Some id → IsUtf8 key.0.0 × (key.0.1 < 2 ^ 32) × (key.1 < 2 ^ 32) × (id < 2 ^ 32)
