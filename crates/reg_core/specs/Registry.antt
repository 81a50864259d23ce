-- The contents of a registry.
use Rattle.std.specs.Prelude.{◌≡◌, ℕ, zero, suc, ◌-◌, ◌<◌, ◌≤◌, ◌^◌, Bool, List, [], length, slice_get, All, Option, None, Some, bytes_eq, if◌then◌else◌}
use Rattle.std.specs.declared.cmp.Ordering.{Ordering}
use Rattle.std.specs.Ordering.{nat_cmp, on, then_cmp}
use Rattle.std.specs.Cmp.Lexicographic.{slice_cmp}
use Rattle.std.specs.FinMap.{FinMap, get, empty}
use Rattle.avro_nodes.specs.Nodes.{NodeView}
use Rattle.avro_nodes.specs.Identity.{identity}
use Rattle.avro_schema.specs.Texts.{IsSchema}
use Rattle.reg_core.specs.declared.level.Level.{Level}
use Rattle.reg_core.specs.declared.level.Level.TheVariants.{Backward}
use Rattle.reg_core.specs.declared.mode.Mode.{Mode}
use Rattle.reg_core.specs.declared.mode.Mode.TheVariants.{Readwrite}

-- ---- own values of subjects

-- Schema Registry API reference, Config and Mode: the subjects' own values, by subject; `None` for a subject that has none
abbrev pub Own : Type 0 → Type 0
Own A = List ℕ → Option A

-- Schema Registry API reference, Config and Mode: no subject has a value of its own
abbrev pub no_own : {A : Type 0} → Own A
no_own subject = None

-- Schema Registry API reference, PUT /config/{subject} and PUT /mode/{subject}: the subject's own value becomes this one; other subjects keep theirs
abbrev pub own_with : {A : Type 0} → Own A → List ℕ → A → Own A
own_with own subject value other = if bytes_eq subject other then Some value else own other

-- Schema Registry API reference, DELETE /subjects/{subject}: the subject loses its own value; other subjects keep theirs
abbrev pub own_without : {A : Type 0} → Own A → List ℕ → Own A
own_without own subject other = if bytes_eq subject other then None else own other

-- Schema Registry API reference, Config: a function from a subject to its own level, or to `None` if it has none
abbrev pub OwnLevels : Type 0
OwnLevels = Own Level

-- Schema Registry API reference, Mode: a function from a subject to its own mode, or to `None` if it has none
abbrev pub OwnModes : Type 0
OwnModes = Own Mode

-- ---- schemas

-- this project's choice: the greatest id and the greatest version number; both begin at 1
abbrev pub max_number : ℕ
max_number = 2 ^ 31 - 1

-- Schema Registry API reference, Schemas: the schemas, in the order of their ids
abbrev pub Schemas : Type 0
Schemas = List (List NodeView)

-- this project's choice: the schema with this id, or `None`; an id is a position in the list, counted from 1
abbrev pub schema_at : Schemas → ℕ → Option (List NodeView)
schema_at schemas zero = None
schema_at schemas (suc n) = slice_get schemas n

-- ---- versions

-- Schema Registry API reference, Subjects: a version's key: its subject and its number
abbrev pub RowKey : Type 0
RowKey = List ℕ × ℕ

-- this project's choice: versions are ordered by the bytes of their subjects, then by number
abbrev pub row_cmp : RowKey → RowKey → Ordering
row_cmp = then_cmp (on (λ (key : RowKey). key.0) (slice_cmp nat_cmp)) (on (λ (key : RowKey). key.1) nat_cmp)

-- Schema Registry API reference, Subjects: the id of a version's schema, and whether the version is soft-deleted
pub record Version : Type 0 where
  pub id : ℕ
  pub deleted : Bool

-- a version with its key
abbrev pub Row : Type 0
Row = RowKey × Version

-- Schema Registry API reference, Subjects: the versions of all subjects, soft-deleted ones included
abbrev pub Rows : Type 0
Rows = FinMap row_cmp Version

-- ---- the registry

-- Schema Registry API reference, Schemas, Subjects, Config and Mode: the schemas, the versions of all subjects, the global level, the
-- subjects' own levels, the global mode, and the subjects' own modes
pub record Registry : Type 0 where
  pub schemas : Schemas
  pub rows : Rows
  pub global : Level
  pub own : OwnLevels
  pub global_mode : Mode
  pub own_modes : OwnModes

-- Schema Registry API reference, Config and Mode: a new registry has no schemas and no versions; its level is BACKWARD and its mode READWRITE,
-- and no subject has a level or mode of its own
abbrev pub new_registry : Registry
new_registry = record { schemas = []; rows = empty; global = Backward; own = no_own; global_mode = Readwrite; own_modes = no_own }

-- this project's choice: a version's number is 1 to `max_number`, and its id is that of a schema
pub record IsRow (schemas : Schemas) (key : RowKey) (version : Version) : Type 0 where
  pub within : (0 < key.1) × (key.1 ≤ max_number)
  pub has_schema : (0 < version.id) × (version.id ≤ length schemas)

-- This project's choice: a text denotes each schema, no two schemas have the same identity text, there are at most `max_number` schemas, and each
-- version is valid (`IsRow`). (It doesn't limit the names of subjects: requests and the stored tables do.)
pub record IsRegistry (g : Registry) : Type 0 where
  pub schemas : All IsSchema g.schemas
  pub few : length g.schemas ≤ max_number
  pub apart : (i j : ℕ) (one other : List NodeView) → schema_at g.schemas i ≡ Some one → schema_at g.schemas j ≡ Some other → identity one ≡ identity other → i ≡ j
  pub rows : (key : RowKey) (version : Version) → get g.rows key ≡ Some version → IsRow g.schemas key version
