-- The view that a decision reads, and the changes that it makes.
use Rattle.std.specs.Prelude.{◌≡◌, ◌≢◌, ◌≤◌, ◌+◌, ⊤, ℕ, false, IsTrue, All, List, [], ◌∷◌, ◌++◌, length, string_bytes, if◌then◌else◌, unwrap_or, Option, None, Some, option_map, option_and_then, option_to_list, Result, Ok, Err}
use Rattle.std.specs.BTreeMap as tree
use Rattle.std.specs.Ordering.{nat_cmp}
use Rattle.std.specs.FinMap.{get, insert, remove}
use Rattle.avro_nodes.specs.Nodes.{NodeView}
use Rattle.avro_nodes.specs.Identity.{identity}
use Rattle.avro_schema.specs.Texts.{IsSchema}
use Rattle.avro_schema.specs.DenotedNodes.{denoted_nodes}
use Rattle.reg_core.specs.declared.level.Level.{Level}
use Rattle.reg_core.specs.declared.mode.Mode.{Mode}
use Rattle.reg_core.specs.declared.command.Command.{Command}
use Rattle.reg_core.specs.declared.command.Command.TheVariants.{Register, Lookup, Version, Text, ById, Check, CheckAll}
use Rattle.reg_core.specs.declared.decision.View.{View}
use Rattle.reg_core.specs.declared.decision.Decision.{Decision}
use Rattle.reg_core.specs.declared.decision.Change.{Change}
use Rattle.reg_core.specs.declared.decision.Change.TheVariants as change
use Rattle.reg_core.specs.Numbers.{parse_choice}
use Rattle.reg_core.specs.Registry.{Registry, IsRegistry, Row, RowKey, Rows, IsRow, Schemas, max_number, schema_at, own_with, own_without}
use Rattle.reg_core.specs.Registry as registry
use Rattle.reg_core.specs.DeletionCommands.{as_deleted}
use Rattle.reg_core.specs.Rows.{visible_rows, live_rows, known_id, id_of, text_at}
use Rattle.reg_core.specs.ReadCommands.{found_row, lookup_row}
use Rattle.reg_core.specs.RegisterCommands.{is_among}
use Rattle.reg_core.specs.Replies.{IsCommandReply}
use Rattle.reg_core.specs.Compatibility.{latest, named_versions}
use Rattle.reg_core.specs.Needs.{row_needs, rows_needed, needs_levels, needs_modes, needs_count, SufficeFor}
use Rattle.reg_core.specs.Evidence.{Evidence, EvidenceMap, HasOnlyVersions, IsEvidenceAfter, IsTrueForSchema, next_evidence}
use Rattle.reg_core.specs.Machine.{is_write, subject_of, sends_supported_schema, command_schema, governing_mode, step}

-- ---- views

-- Schema Registry API reference, Compatibility: the level in force, by a view
abbrev pub level_of_view : View → Level
level_of_view view = unwrap_or view.own view.global

-- this project's choice: the mode that may forbid a command, by a view; `None` if no mode may
abbrev pub mode_of_view : View → Command → Option Mode
mode_of_view view command = governing_mode command view.own_mode view.global_mode

-- a list of the found version, empty if none was found
abbrev pub found_as_list : {E : Type 0} → Result Row E → List Row
found_as_list (Ok row) = row ∷ []
found_as_list (Err code) = []

-- Schema Registry API reference: the versions of a view whose schemas a command shows, or compares with the sent schema
abbrev pub rows_to_read : Command → View → List Row
rows_to_read (Register subject text supported) view =
    let live = live_rows view.rows.items in
    if is_among view.known live then [] else named_versions (level_of_view view) live
rows_to_read (Lookup subject text supported deleted) view = found_as_list (lookup_row view.known (visible_rows deleted view.rows.items))
rows_to_read (Version subject version deleted) view = found_as_list (found_row (parse_choice version) (visible_rows deleted view.rows.items))
rows_to_read (Text subject version deleted) view = found_as_list (found_row (parse_choice version) (visible_rows deleted view.rows.items))
rows_to_read (ById id) view = latest view.rows.items
rows_to_read (Check subject version text supported) view = named_versions (level_of_view view) (found_as_list (found_row (parse_choice version) (live_rows view.rows.items)))
rows_to_read (CheckAll subject text supported) view = named_versions (level_of_view view) (live_rows view.rows.items)
rows_to_read _ view = []

-- Schema Registry API reference, Schemas: the identity text that a view has for an id, or `None`
abbrev pub view_text : View → ℕ → Option (List ℕ)
view_text view id = option_map string_bytes (tree.get nat_cmp view.texts id)

-- this project's choice: if the command sends a supported schema, this is its identity text, or `None` if the text denotes no schema
abbrev pub IsCommandIdentity : Command → Option (List ℕ) → Type 0
IsCommandIdentity command text = IsTrue (sends_supported_schema command) → text ≡ option_map identity (command_schema command)

-- This project's choice: the view shows what the command needs of the registry. It may show more, but each text in it is that of its id.
pub record IsViewOf (view : View) (g : Registry) (command : Command) : Type 0 where
  pub rows : SufficeFor (level_of_view view) view.known (row_needs command) view.rows.items (rows_needed g (subject_of command) (row_needs command))
  pub levels : IsTrue (needs_levels command) → (view.own ≡ option_and_then g.own (subject_of command)) × (view.global ≡ g.global)
  pub modes : IsTrue (needs_modes command) → (view.own_mode ≡ option_and_then g.own_modes (subject_of command)) × (view.global_mode ≡ g.global_mode)
  pub known : IsTrue (sends_supported_schema command) → view.known ≡ known_id g.schemas (command_schema command)
  pub count : IsTrue (needs_count command) → view.count ≡ length g.schemas
  pub texts : All (λ (row : Row). view_text view row.1.id ≡ text_at g.schemas row.1.id) (rows_to_read command view)
  pub true_texts : (id : ℕ) (text : List ℕ) → view_text view id ≡ Some text → text_at g.schemas id ≡ Some text

-- this project's choice: the input of a decision: a valid registry, the schema that the command sends, and a view of this registry
pub record IsDecisionInput (g : Registry) (command : Command) (schema : Option (List NodeView)) (view : View) : Type 0 where
  pub registry : IsRegistry g
  pub sent : schema ≡ command_schema command
  pub shows : IsViewOf view g command

-- this project's choice: the schema passed next to a command; `None` if the command sends no supported schema
abbrev pub schema_if_supported : Command → Option (List NodeView) → Option (List NodeView)
schema_if_supported command schema = if sends_supported_schema command then schema else None

-- ---- changes

-- the map with the key's value changed, if the key has one
abbrev pub altered : Rows → RowKey → (registry.Version → registry.Version) → Rows
altered rows key change = unwrap_or (option_map (λ version. insert rows key (change version)) (get rows key)) rows

-- Schema Registry API reference, Schemas, Subjects, Config and Mode: the registry after one change
abbrev pub after_change : Change → Registry → Registry
after_change (change.SetGlobal level) g = record g { global = level }
after_change (change.SetLevel subject level) g = record g { own = own_with g.own subject level }
after_change (change.AddText id text) g = record g { schemas = g.schemas ++ option_to_list (denoted_nodes text) }
after_change (change.AddRow row evidence) g = record g { rows = insert g.rows row.0 row.1 }
after_change (change.MarkDeleted subject version) g = record g { rows = altered g.rows (subject, version) as_deleted }
after_change (change.Remove subject version) g = record g { rows = remove g.rows (subject, version) }
after_change (change.DropLevel subject) g = record g { own = own_without g.own subject }
after_change (change.SetGlobalMode mode) g = record g { global_mode = mode }
after_change (change.SetMode subject mode) g = record g { own_modes = own_with g.own_modes subject mode }
after_change (change.DropMode subject) g = record g { own_modes = own_without g.own_modes subject }

-- this project's choice: the registry after the changes, in order
abbrev pub after_changes : List Change → Registry → Registry
after_changes [] g = g
after_changes (change ∷ changes) g = after_changes changes (after_change change g)

-- this project's choice: the evidence after one change: a new version comes with its own, and a removed one loses its own
abbrev pub evidence_after_change : Change → EvidenceMap → EvidenceMap
evidence_after_change (change.SetGlobal level) evidence = evidence
evidence_after_change (change.SetLevel subject level) evidence = evidence
evidence_after_change (change.AddText id text) evidence = evidence
evidence_after_change (change.AddRow row own) evidence = insert evidence row.0 own
evidence_after_change (change.MarkDeleted subject version) evidence = evidence
evidence_after_change (change.Remove subject version) evidence = remove evidence (subject, version)
evidence_after_change (change.DropLevel subject) evidence = evidence
evidence_after_change (change.SetGlobalMode mode) evidence = evidence
evidence_after_change (change.SetMode subject mode) evidence = evidence
evidence_after_change (change.DropMode subject) evidence = evidence

-- this project's choice: the evidence after the changes, in order
abbrev pub evidence_after_changes : List Change → EvidenceMap → EvidenceMap
evidence_after_changes [] evidence = evidence
evidence_after_changes (change ∷ changes) evidence = evidence_after_changes changes (evidence_after_change change evidence)

-- this project's choice: the identity text of a schema that isn't registered, and the next id, which is within the limit
pub record IsNewText (schemas : Schemas) (id : ℕ) (text : List ℕ) : Type 0 where
  pub nodes : List NodeView
  pub schema : IsSchema nodes
  pub is : text ≡ identity nodes
  pub next : id ≡ length schemas + 1
  pub within : id ≤ max_number
  pub unknown : id_of schemas text ≡ None

-- this project's choice: a version whose key is unused, whose number is within the limit, and whose schema is registered
pub record IsNewRow (g : Registry) (row : Row) : Type 0 where
  pub absent : get g.rows row.0 ≡ None
  pub fits : IsRow g.schemas row.0 row.1

-- this project's choice: a new version's evidence is the subject's `next_evidence`, and it is true for the version's schema
pub record IsNewEvidence (g : Registry) (row : Row) (evidence : Evidence) : Type 0 where
  pub named : evidence ≡ next_evidence g row.0.0
  pub holds : (nodes : List NodeView) → schema_at g.schemas row.1.id ≡ Some nodes → IsTrueForSchema g.schemas nodes evidence

-- This project's choice: the change can be applied to the registry. `AddText` needs the identity text of an unregistered schema, and the next id
-- (`IsNewText`). `AddRow` needs what `IsNewRow` and `IsNewEvidence` demand. Every other change can always be applied.
abbrev pub ChangeFits : Change → Registry → Type 0
ChangeFits (change.SetGlobal level) g = ⊤
ChangeFits (change.SetLevel subject level) g = ⊤
ChangeFits (change.AddText id text) g = IsNewText g.schemas id text
ChangeFits (change.AddRow row evidence) g = IsNewRow g row × IsNewEvidence g row evidence
ChangeFits (change.MarkDeleted subject version) g = ⊤
ChangeFits (change.Remove subject version) g = ⊤
ChangeFits (change.DropLevel subject) g = ⊤
ChangeFits (change.SetGlobalMode mode) g = ⊤
ChangeFits (change.SetMode subject mode) g = ⊤
ChangeFits (change.DropMode subject) g = ⊤

-- this project's choice: the changes can be applied in order, each to the registry that the changes before it leave
abbrev pub ChangesFit : List Change → Registry → Type 0
ChangesFit [] g = ⊤
ChangesFit (change ∷ changes) g = ChangeFits change g × ChangesFit changes (after_change change g)

-- ---- decisions

-- This project's choice: for each registry that the view shows, the decision has the reply of `step`, its changes give the registry and the evidence
-- after `step`, and they can be applied in order. A read or a refusal changes nothing. The reply has the status 200, 404, 409 or 422, and isn't
-- the fault of a reused retry key.
pub record IsDecisionFor (command : Command) (schema : Option (List NodeView)) (view : View) (decision : Decision) : Type 0 where
  pub reply : (g : Registry) → IsDecisionInput g command (schema_if_supported command schema) view → decision.reply ≡ (step g command).1
  pub changes : (g : Registry) → IsDecisionInput g command (schema_if_supported command schema) view → after_changes decision.changes.items g ≡ (step g command).0
  pub evidence : (g : Registry) → IsDecisionInput g command (schema_if_supported command schema) view → (had : EvidenceMap) → HasOnlyVersions g had → IsEvidenceAfter g command had (evidence_after_changes decision.changes.items had)
  pub fit : (g : Registry) → IsDecisionInput g command (schema_if_supported command schema) view → ChangesFit decision.changes.items g
  pub read : is_write command ≡ false → decision.changes.items ≡ []
  pub refusal : decision.reply.status ≢ 200 → decision.changes.items ≡ []
  pub own : IsCommandReply decision.reply
