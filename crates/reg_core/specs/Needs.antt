-- The parts of the registry that a command needs.
use Rattle.std.specs.Prelude.{◌≡◌, ⊤, ℕ, Bool, true, false, List, [], map, Option, None, Some}
use Rattle.std.specs.FinMap.{entries}
use Rattle.reg_core.specs.declared.level.Level.{Level}
use Rattle.reg_core.specs.declared.command.Command.{Command}
use Rattle.reg_core.specs.declared.command.Command.TheVariants.{SetGlobal, SetLevel, Register, DeleteVersion, DeleteSubject, Global, LevelOf, Lookup, Subjects, Versions, Version, Text, ById, VersionsOfId, Check, CheckAll, GlobalMode, ModeOf}
use Rattle.reg_core.specs.declared.needs.RowsNeeded.{RowsNeeded}
use Rattle.reg_core.specs.declared.needs.RowsNeeded.TheVariants.{Nothing, Everything, OfId, OneOfId, OfSubject}
use Rattle.reg_core.specs.declared.needs.SubjectRows.{SubjectRows}
use Rattle.reg_core.specs.declared.needs.SubjectRows.TheVariants.{Every, ToChoose, ToDelete, ToLookUp, ToCompare, ToRegister}
use Rattle.reg_core.specs.Compatibility.{latest, named_versions}
use Rattle.reg_core.specs.DeletionCommands.{row_to_delete}
use Rattle.reg_core.specs.Numbers.{parse_id, parse_choice}
use Rattle.reg_core.specs.ReadCommands.{found_row, lookup_row, rows_with_id}
use Rattle.reg_core.specs.RegisterCommands.{is_among}
use Rattle.reg_core.specs.Registry.{Registry, Row}
use Rattle.reg_core.specs.Rows.{rows_of, visible_rows, live_rows, next_number}

-- Schema Registry API reference: which versions a command reads, and for those of its subject, the purpose
abbrev pub row_needs : Command → RowsNeeded
row_needs (Register subject text supported) = OfSubject ToRegister
row_needs (DeleteVersion subject version permanent) = OfSubject (ToDelete (parse_choice version) permanent)
row_needs (DeleteSubject subject permanent) = OfSubject Every
row_needs (Lookup subject text supported deleted) = OfSubject (ToLookUp deleted)
row_needs (Subjects deleted) = Everything
row_needs (Versions subject deleted) = OfSubject Every
row_needs (Version subject version deleted) = OfSubject (ToChoose (parse_choice version) deleted)
row_needs (Text subject version deleted) = OfSubject (ToChoose (parse_choice version) deleted)
row_needs (ById id) = OneOfId (parse_id id)
row_needs (VersionsOfId id deleted) = OfId (parse_id id)
row_needs (Check subject version text supported) = OfSubject (ToChoose (parse_choice version) false)
row_needs (CheckAll subject text supported) = OfSubject ToCompare
row_needs _ = Nothing

-- the versions of the subject, soft-deleted ones included; none if there is no subject
abbrev pub rows_of_any : Registry → Option (List ℕ) → List Row
rows_of_any g None = []
rows_of_any g (Some subject) = rows_of g subject

-- Schema Registry API reference: the needed versions, soft-deleted ones included: those of all subjects, of the id, or of the subject
abbrev pub rows_needed : Registry → Option (List ℕ) → RowsNeeded → List Row
rows_needed g subject Nothing = []
rows_needed g subject Everything = entries g.rows
rows_needed g subject (OfId id) = rows_with_id id (entries g.rows)
rows_needed g subject (OneOfId id) = rows_with_id id (entries g.rows)
rows_needed g subject (OfSubject purpose) = rows_of_any g subject

-- This project's choice: to register a schema whose id is `known` (`None` for a new one), `seen` gives the result that `all` gives. Both agree
-- whether a live version has the id; if none has it, also on the next number and on the live versions that the level compares with.
pub record SufficeToRegister (level : Level) (known : Option ℕ) (seen all : List Row) : Type 0 where
  pub among : is_among known (live_rows seen) ≡ is_among known (live_rows all)
  pub next : is_among known (live_rows all) ≡ false → next_number seen ≡ next_number all
  pub named : is_among known (live_rows all) ≡ false → named_versions level (live_rows seen) ≡ named_versions level (live_rows all)

-- This project's choice: for this purpose and under this level, `seen` gives the result that `all` gives, for a sent schema whose id is `known`. If a
-- few versions suffice, `seen` may omit the others.
abbrev pub SufficeForSubject : Level → Option ℕ → SubjectRows → List Row → List Row → Type 0
SufficeForSubject level known Every seen all = seen ≡ all
SufficeForSubject level known (ToChoose choice deleted) seen all = found_row choice (visible_rows deleted seen) ≡ found_row choice (visible_rows deleted all)
SufficeForSubject level known (ToDelete choice permanent) seen all = row_to_delete permanent choice seen ≡ row_to_delete permanent choice all
SufficeForSubject level known (ToLookUp deleted) seen all = lookup_row known (visible_rows deleted seen) ≡ lookup_row known (visible_rows deleted all)
SufficeForSubject level known ToCompare seen all = named_versions level (live_rows seen) ≡ named_versions level (live_rows all)
SufficeForSubject level known ToRegister seen all = SufficeToRegister level known seen all

-- This project's choice: for these needs, `seen` gives the reply and the changes that `all` gives
abbrev pub SufficeFor : Level → Option ℕ → RowsNeeded → List Row → List Row → Type 0
SufficeFor level known Nothing seen all = ⊤
SufficeFor level known Everything seen all = seen ≡ all
SufficeFor level known (OfId id) seen all = seen ≡ all
SufficeFor level known (OneOfId id) seen all = map (λ (row : Row). row.1.id) (latest seen) ≡ map (λ (row : Row). row.1.id) (latest all)
SufficeFor level known (OfSubject purpose) seen all = SufficeForSubject level known purpose seen all

-- Schema Registry API reference, Config and Compatibility: whether a command reads levels
abbrev pub needs_levels : Command → Bool
needs_levels (Register subject text supported) = true
needs_levels Global = true
needs_levels (LevelOf subject default_to_global) = true
needs_levels (Check subject version text supported) = true
needs_levels (CheckAll subject text supported) = true
needs_levels _ = false

-- Schema Registry API reference, Mode: whether a command reads modes: it shows one, or a mode may forbid it
abbrev pub needs_modes : Command → Bool
needs_modes (SetGlobal level) = true
needs_modes (SetLevel subject level) = true
needs_modes (Register subject text supported) = true
needs_modes (DeleteVersion subject version permanent) = true
needs_modes (DeleteSubject subject permanent) = true
needs_modes GlobalMode = true
needs_modes (ModeOf subject default_to_global) = true
needs_modes _ = false

-- Schema Registry API reference, Schemas: whether a command reads the number of schemas; the next id is 1 more
abbrev pub needs_count : Command → Bool
needs_count (Register subject text supported) = true
needs_count _ = false
