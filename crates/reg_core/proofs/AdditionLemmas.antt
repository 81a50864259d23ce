-- A command adds a version only if the level admits its schema.
use Rattle.std.proofs.Common.{◌≡◌, ◌⊎◌, ◌∙◌, inl, inr, ℕ, List, [], ◌∷◌, Bool, true, false, Option, Some, None, refl, ap, subst, sym}
use Rattle.std.specs.Prelude.{All}
use Rattle.std.specs.FinMap.{get}
use Rattle.std.specs.List.{AllZip, cons_option}
use Rattle.std.proofs.lemmas.List.Elements.{All-head, All-tail}
use Rattle.avro_nodes.specs.Nodes.{NodeView}
use Rattle.avro_schema.specs.Texts.{TextDenotes}
use Rattle.reg_core.specs.declared.level.Level.{Level}
use Rattle.reg_core.specs.declared.mode.Mode.{Mode}
use Rattle.reg_core.specs.declared.command.Command.{Command}
use Rattle.reg_core.specs.declared.command.Command.TheVariants.{SetGlobal, SetLevel, Register, DeleteVersion, DeleteSubject, Global, LevelOf, Lookup, Subjects, Versions, Version, Text, ById, VersionsOfId, Types, Check, CheckAll, SetGlobalMode, SetMode, GlobalMode, ModeOf}
use Rattle.reg_core.specs.Levels.{level_of}
use Rattle.reg_core.specs.Modes.{mode_of}
use Rattle.reg_core.specs.Registry.{Registry, Schemas, Row, RowKey, IsRow, IsRegistry, schema_at}
use Rattle.reg_core.specs.Registry as registry
use Rattle.reg_core.specs.Numbers.{parse_choice}
use Rattle.reg_core.specs.Rows.{rows_of, live_rows, next_number, schemas_of}
use Rattle.reg_core.specs.Settings.{Setting, level_setting, mode_setting, set, with_level, with_mode}
use Rattle.reg_core.specs.RegisterCommands.{supported_schema, id_for, with_version, registered, register, is_admitted_after, level_in}
use Rattle.reg_core.specs.Machine.{permitted_step}
use Rattle.reg_core.specs.Additions.{IsAdmissible, IsRetained, IsAddition, EachRetainedOrAdded, AddsOnlyAdmitted}
use Rattle.reg_core.proofs.DeletionLemmas.{itself, delete_version-were, delete_subject-were}
use Rattle.reg_core.proofs.ModeLemmas.{step-either}
use Rattle.reg_core.proofs.VerdictLemmas.{admits_decided}
use Rattle.reg_core.proofs.RowLemmas.{row_schema, rows_of-IsRow, All-live_rows, get_inserted, next_number-absent}
use Rattle.reg_core.proofs.RegistryLemmas.{supported_schema-denotes, with_version-has_schema}

one_more : (schemas : Schemas) (row : Row) (rows : List Row) (live : List (List NodeView)) (o : Option (List NodeView)) (nodes : List NodeView) → schema_at schemas row.1.id ≡ Some nodes → o ≡ Some nodes
    → AllZip (λ (r : Row) found. schema_at schemas r.1.id ≡ Some found) rows live → AllZip (λ (r : Row) found. schema_at schemas r.1.id ≡ Some found) (row ∷ rows) (cons_option o live)
one_more schemas row rows live o nodes here is rest =
    subst (λ (x : Option (List NodeView)). AllZip (λ (r : Row) found. schema_at schemas r.1.id ≡ Some found) (row ∷ rows) (cons_option x live)) (sym is) (here, rest)

-- `schemas_of` has the schema of each version, and omits none
pub schemas_of-each : (schemas : Schemas) (rows : List Row) → All (λ (row : Row). IsRow schemas row.0 row.1) rows → AllZip (λ (row : Row) nodes. schema_at schemas row.1.id ≡ Some nodes) rows (schemas_of schemas rows)
schemas_of-each schemas [] h = tt
schemas_of-each schemas (row ∷ rows) h =
    let P = λ (r : Row). IsRow schemas r.0 r.1 in
    let (nodes, here) = row_schema schemas row.0 row.1 (All-head P row rows h) in
    one_more schemas row rows (schemas_of schemas rows) (schema_at schemas row.1.id) nodes here here (schemas_of-each schemas rows (All-tail P row rows h))

-- the same for a subject's live versions
pub live_schemas-each : (g : Registry) → IsRegistry g → (subject : List ℕ) → AllZip (λ (row : Row) nodes. schema_at g.schemas row.1.id ≡ Some nodes) (live_rows (rows_of g subject)) (schemas_of g.schemas (live_rows (rows_of g subject)))
live_schemas-each g ok subject = schemas_of-each g.schemas (live_rows (rows_of g subject)) (All-live_rows (λ (row : Row). IsRow g.schemas row.0 row.1) (rows_of g subject) (rows_of-IsRow g ok subject))

-- an unchanged registry has no additions
itself_adds : (g : Registry) (c : Command) → EachRetainedOrAdded g c g
itself_adds g c key version e = inl (itself g.rows key version e)

-- if the test of the level passes, the schema was admitted
was_admitted : (g : Registry) → IsRegistry g → (subject text : List ℕ) (new : List NodeView) → TextDenotes text new → is_admitted_after g.schemas (level_in g subject) (live_rows (rows_of g subject)) new ≡ true → IsAdmissible g subject text
was_admitted g ok subject text new denotes passed =
    let live = schemas_of g.schemas (live_rows (rows_of g subject)) in
    record { new = new; denotes = denotes; live = live; are = live_schemas-each g ok subject; admits = (admits_decided (level_in g subject) live new).0 passed }

-- Register adds only the subject's next version, with the admitted schema
registered_adds : (g : Registry) → IsRegistry g → (subject text : List ℕ) (supported : Bool) (new : List NodeView) → TextDenotes text new → (is_already_live admitted left : Bool)
    → is_admitted_after g.schemas (level_in g subject) (live_rows (rows_of g subject)) new ≡ admitted → EachRetainedOrAdded g (Register subject text supported) (registered g subject new (record { is_already_live = is_already_live; admitted = admitted; has_numbers_left = left })).0
unfolding was_admitted
registered_adds g ok subject text supported new denotes true admitted left e = itself_adds g (Register subject text supported)
registered_adds g ok subject text supported new denotes false false left e = itself_adds g (Register subject text supported)
registered_adds g ok subject text supported new denotes false true false e = itself_adds g (Register subject text supported)
registered_adds g ok subject text supported new denotes false true true e =
    let after = with_version g subject new in
    let key : RowKey = (subject, next_number (rows_of g subject)) in
    let added : registry.Version = record { id = id_for g.schemas new; deleted = false } in
    get_inserted g.rows key added (λ k v. IsRetained g.rows k v ⊎ IsAddition g (Register subject text supported) after k v)
    (inr (record {
      subject = subject;
      text = text;
      supported = supported;
      command_is = refl;
      admitted = was_admitted g ok subject text new denotes e;
      next = refl;
      absent = next_number-absent g subject;
      has_schema = with_version-has_schema g subject new ok (text, denotes);
      live = refl;
    }))
    (λ k v there. inl (itself g.rows k v there))

register_adds : (g : Registry) → IsRegistry g → (subject text : List ℕ) (supported : Bool) (schema : Option (List NodeView)) → supported_schema text supported ≡ schema → EachRetainedOrAdded g (Register subject text supported) (register g subject schema).0
register_adds g ok subject text supported None e = itself_adds g (Register subject text supported)
register_adds g ok subject text supported (Some new) e = registered_adds g ok subject text supported new (supported_schema-denotes text supported new e) _ _ _ refl

set_adds_none : {A : Type 0} (s : Setting A) (g : Registry) (subject : Option (List ℕ)) → ((value : A) → (s.put g subject value).rows ≡ g.rows) → (o : Option A) → (set s g subject o).0.rows ≡ g.rows
set_adds_none s g subject puts None = refl
set_adds_none s g subject puts (Some value) = puts value

with_level_rows : (g : Registry) (subject : Option (List ℕ)) (level : Level) → (with_level g subject level).rows ≡ g.rows
with_level_rows g None level = refl
with_level_rows g (Some subject) level = refl

with_mode_rows : (g : Registry) (subject : Option (List ℕ)) (mode : Mode) → (with_mode g subject mode).rows ≡ g.rows
with_mode_rows g None mode = refl
with_mode_rows g (Some subject) mode = refl

set_leaves : {A : Type 0} (s : Setting A) (g : Registry) (subject : Option (List ℕ)) → ((value : A) → (s.put g subject value).rows ≡ g.rows) → (o : Option A) (key : RowKey) (version : registry.Version) → get (set s g subject o).0.rows key ≡ Some version
    → IsRetained g.rows key version
set_leaves s g subject puts o key version e = itself g.rows key version (ap (λ (rows : registry.Rows). get rows key) (sym (set_adds_none s g subject puts o)) ∙ e)

-- each version after a permitted command was there before, or the command added it with a schema that the level admits
pub permitted_step_adds : (g : Registry) (c : Command) → IsRegistry g → EachRetainedOrAdded g c (permitted_step g c).0
unfolding permitted_step
permitted_step_adds g (SetGlobal text) ok = λ key version e. inl (set_leaves level_setting g None (with_level_rows g None) (level_of text) key version e)
permitted_step_adds g (SetLevel subject text) ok = λ key version e. inl (set_leaves level_setting g (Some subject) (with_level_rows g (Some subject)) (level_of text) key version e)
permitted_step_adds g (Register subject text supported) ok = register_adds g ok subject text supported (supported_schema text supported) refl
permitted_step_adds g (DeleteVersion subject version permanent) ok = λ key row e. inl (delete_version-were g subject (parse_choice version) permanent key row e)
permitted_step_adds g (DeleteSubject subject permanent) ok = λ key row e. inl (delete_subject-were g subject permanent key row e)
permitted_step_adds g Global ok = itself_adds g Global
permitted_step_adds g (LevelOf subject default) ok = itself_adds g (LevelOf subject default)
permitted_step_adds g (Lookup subject text supported deleted) ok = itself_adds g (Lookup subject text supported deleted)
permitted_step_adds g (Subjects deleted) ok = itself_adds g (Subjects deleted)
permitted_step_adds g (Versions subject deleted) ok = itself_adds g (Versions subject deleted)
permitted_step_adds g (Version subject version deleted) ok = itself_adds g (Version subject version deleted)
permitted_step_adds g (Text subject version deleted) ok = itself_adds g (Text subject version deleted)
permitted_step_adds g (ById id) ok = itself_adds g (ById id)
permitted_step_adds g (VersionsOfId id deleted) ok = itself_adds g (VersionsOfId id deleted)
permitted_step_adds g Types ok = itself_adds g Types
permitted_step_adds g (Check subject version text supported) ok = itself_adds g (Check subject version text supported)
permitted_step_adds g (CheckAll subject text supported) ok = itself_adds g (CheckAll subject text supported)
permitted_step_adds g (SetGlobalMode text) ok = λ key version e. inl (set_leaves mode_setting g None (with_mode_rows g None) (mode_of text) key version e)
permitted_step_adds g (SetMode subject text) ok = λ key version e. inl (set_leaves mode_setting g (Some subject) (with_mode_rows g (Some subject)) (mode_of text) key version e)
permitted_step_adds g GlobalMode ok = itself_adds g GlobalMode
permitted_step_adds g (ModeOf subject default) ok = itself_adds g (ModeOf subject default)

-- the same for any command
pub step_adds_admitted : (g : Registry) (c : Command) → IsRegistry g → AddsOnlyAdmitted g c
step_adds_admitted g c ok = step-either (λ after. EachRetainedOrAdded g c after.0) g c (itself_adds g c) (permitted_step_adds g c ok)
