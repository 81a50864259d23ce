-- A command adds a version only if the subject's level admits its schema.
use Rattle.std.specs.Prelude.{◌≡◌, ◌⊎◌, ℕ, Bool, true, false, List, None, Some}
use Rattle.std.specs.FinMap.{get}
use Rattle.std.specs.List.{AllZip}
use Rattle.avro_nodes.specs.Nodes.{NodeView}
use Rattle.avro_schema.specs.Texts.{TextDenotes}
use Rattle.reg_core.specs.declared.command.Command.{Command}
use Rattle.reg_core.specs.declared.command.Command.TheVariants.{Register}
use Rattle.reg_core.specs.Compatibility.{Admits}
use Rattle.reg_core.specs.Registry.{Registry, RowKey, Rows, Version, schema_at}
use Rattle.reg_core.specs.Rows.{rows_of, live_rows, next_number}
use Rattle.reg_core.specs.RegisterCommands.{level_in}
use Rattle.reg_core.specs.Machine.{step}

-- Schema Evolution and Compatibility, Compatibility Types: in `g`, the registry before the command, the text denotes `new`; the subject's
-- live versions, in order of number, have the schemas `live`; and the level in force (the subject's own, else the global one) admits
-- `new` after them
pub record IsAdmissible (g : Registry) (subject text : List ℕ) : Type 0 where
  pub new : List NodeView
  pub denotes : TextDenotes text new
  pub live : List (List NodeView)
  pub are : AllZip (λ row nodes. schema_at g.schemas row.1.id ≡ Some nodes) (live_rows (rows_of g subject)) live
  pub admits : Admits (level_in g subject) live new

-- Schema Registry API reference, POST /subjects/{subject}/versions: the command added this version: it registered a schema that the level
-- admits. The version has the subject's next number; the registry had no version with this key. In the registry after the command it has this schema, and
-- isn't soft-deleted.
pub record IsAddition (g : Registry) (command : Command) (after : Registry) (key : RowKey) (version : Version) : Type 0 where
  pub subject : List ℕ
  pub text : List ℕ
  pub supported : Bool
  pub command_is : command ≡ Register subject text supported
  pub admitted : IsAdmissible g subject text
  pub next : key ≡ (subject, next_number (rows_of g subject))
  pub absent : get g.rows key ≡ None
  pub has_schema : schema_at after.schemas version.id ≡ Some admitted.new
  pub live : version.deleted ≡ false

-- Schema Registry API reference, Subjects: `rows` already had a version with this key and this id; if that was soft-deleted, so is this one
pub record IsRetained (rows : Rows) (key : RowKey) (version : Version) : Type 0 where
  pub old : Version
  pub there : get rows key ≡ Some old
  pub same : version.id ≡ old.id
  pub stays_deleted : old.deleted ≡ true → version.deleted ≡ true

-- Schema Registry API reference, POST /subjects/{subject}/versions: each version of the second registry was in the first, or the command added it
abbrev pub EachRetainedOrAdded : Registry → Command → Registry → Type 0
EachRetainedOrAdded g command after = (key : RowKey) (version : Version) → get after.rows key ≡ Some version → IsRetained g.rows key version ⊎ IsAddition g command after key version

-- each version after the command was there before, with the same key and schema id (`IsRetained`), or the command registered it and the
-- subject's level admits its schema (`IsAddition`)
abbrev pub AddsOnlyAdmitted : Registry → Command → Type 0
AddsOnlyAdmitted g command = EachRetainedOrAdded g command (step g command).0
