-- The table of defined names, by namespace. Each namespace has a number (this project's choice).
use Rattle.std.specs.Prelude.{◌≡◌, ℕ, List, [], ◌∷◌, Option, Some, None, String, slice_get}
use Rattle.std.specs.BTreeMap.{BTreeMap, get_by_text}
use Rattle.std.specs.declared.alloc.Global.{Global}
use Rattle.avro_nodes.specs.Names.{namespace_of, last_part}
use Rattle.avro_schema.specs.declared.name_table.NameTable.{NameTable}
use Rattle.avro_schema.specs.declared.name_table.Namespace.{Namespace}
use Rattle.avro_schema.specs.Names.{Known}

-- a full name without its namespace `space`
abbrev pub without_namespace : List ℕ → List ℕ → List ℕ
without_namespace [] full = full
without_namespace (c ∷ space) full = last_part full

-- the place of a name in a table, or `None`
abbrev pub in_table : Option (BTreeMap (String Global) ℕ) → List ℕ → Option ℕ
in_table None name = None
in_table (Some table) name = get_by_text table name

-- the place of a name in the table with this number, or `None`
abbrev pub place_at : List (BTreeMap (String Global) ℕ) → Option ℕ → List ℕ → Option ℕ
place_at tables None name = None
place_at tables (Some n) name = in_table (slice_get tables n) name

-- the number of a namespace
abbrev pub namespace_number : NameTable → List ℕ → Option ℕ
namespace_number known space = get_by_text known.numbers space

-- the place of a name in a namespace
abbrev pub place_in : NameTable → List ℕ → List ℕ → Option ℕ
place_in known space name = place_at known.tables.items (namespace_number known space) name

-- the defined names as a function of full names
abbrev pub known_in : NameTable → Known
known_in known = λ full. place_in known (namespace_of full) (without_namespace (namespace_of full) full)

-- the table has this number for the namespace
abbrev pub HasNumber : NameTable → Namespace → Type 0
HasNumber known space = namespace_number known space.text.now ≡ Some space.number

-- every namespace keeps its number
unfoldable pub KeepsNumbers : NameTable → NameTable → Type 0
KeepsNumbers old new = (space : List ℕ) (n : ℕ) → namespace_number old space ≡ Some n → namespace_number new space ≡ Some n
