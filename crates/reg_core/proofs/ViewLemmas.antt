-- Reads give the same reply from a view as from the registry.
use Rattle.std.proofs.Common.{◌≡◌, ◌≢◌, ◌∙◌, ℕ, ◌==◌, Bool, true, false, List, [], ◌∷◌, map, IsTrue, refl, ap, sym, subst, arith, eqb-true}
use Rattle.std.specs.Prelude.{All, Option, None, Some, Result, Ok, Err, if◌then◌else◌}
use Rattle.std.specs.FinMap.{entries}
use Rattle.std.proofs.lemmas.List.Elements.{All-map}
use Rattle.avro_nodes.specs.Nodes.{NodeView}
use Rattle.reg_core.specs.declared.code.Code.{Code}
use Rattle.reg_core.specs.declared.command.Command.{Command}
use Rattle.reg_core.specs.declared.command.Command.TheVariants.{SetGlobal, SetLevel, Register, DeleteVersion, DeleteSubject, Global, LevelOf, Lookup, Subjects, Versions, Version, Text, ById, VersionsOfId, Types, Check, CheckAll, SetGlobalMode, SetMode, GlobalMode, ModeOf}
use Rattle.reg_core.specs.declared.decision.View.{View}
use Rattle.reg_core.specs.Bodies.{version_body, schema_body}
use Rattle.reg_core.specs.Compatibility.{latest}
use Rattle.reg_core.specs.Numbers.{parse_id, parse_choice}
use Rattle.reg_core.specs.Registry.{Registry, Row}
use Rattle.reg_core.specs.Rows.{rows_of, rows_with, visible_rows, text_at, known_id}
use Rattle.reg_core.specs.ReadCommands.{Texts, found_row, lookup_row, rows_with_id, text_reply, version_reply, version_text_reply, id_reply, lookup_reply}
use Rattle.reg_core.specs.Replies.{ReplyView}
use Rattle.reg_core.specs.RegisterCommands.{supported_schema}
use Rattle.reg_core.specs.Machine.{command_schema, permitted_step}
use Rattle.reg_core.proofs.RowLemmas.{All-mapped}
use Rattle.reg_core.specs.Views.{IsViewOf, IsDecisionInput, found_as_list, schema_if_supported, view_text}

-- ---- texts that agree

-- the texts of these versions are the same
abbrev pub Agree : Texts → Texts → List Row → Type 0
Agree one other rows = All (λ (row : Row). one row.1.id ≡ other row.1.id) rows

text_of_found : (one other : Texts) (row : Row) → Agree one other (row ∷ []) → one row.1.id ≡ other row.1.id
text_of_found one other row same = same 0 row (omega arith)

same_version : (one other : Texts) (found : Result Row Code) → Agree one other (found_as_list found) → version_reply one found ≡ version_reply other found
same_version one other (Err code) same = refl
same_version one other (Ok row) same = ap (text_reply (version_body row)) (text_of_found one other row same)

same_version_text : (one other : Texts) (found : Result Row Code) → Agree one other (found_as_list found) → version_text_reply one found ≡ version_text_reply other found
same_version_text one other (Err code) same = refl
same_version_text one other (Ok row) same = ap (text_reply (λ text. text)) (text_of_found one other row same)

same_lookup : (one other : Texts) (schema : Option (List NodeView)) (known : Option ℕ) (rows : List Row) → Agree one other (found_as_list (lookup_row known rows)) → lookup_reply one schema known rows ≡ lookup_reply other schema known rows
same_lookup one other None known rows same = refl
same_lookup one other (Some nodes) known rows same = same_version one other (lookup_row known rows) same

-- each of these versions has the id
abbrev HaveId : ℕ → List Row → Type 0
HaveId id [] = Unit {0}
HaveId id (row ∷ rows) = (row.1.id ≡ id) × HaveId id rows

have_id_if : (id : ℕ) (row : Row) (rows : List Row) (b : Bool) → (row.1.id == id) ≡ b → HaveId id rows → HaveId id (if b then row ∷ rows else rows)
have_id_if id row rows true e h = (eqb-true row.1.id id e, h)
have_id_if id row rows false e h = h

have_id : (id : ℕ) (rows : List Row) → HaveId id (rows_with id rows)
have_id id [] = tt
have_id id (row ∷ rows) = have_id_if id row (rows_with id rows) (row.1.id == id) refl (have_id id rows)

text_of_last : (one other : Texts) (id : ℕ) (row : Row) (rows : List Row) → HaveId id (row ∷ rows) → Agree one other (latest (row ∷ rows)) → one id ≡ other id
text_of_last one other id row [] ids same = subst (λ n. one n ≡ other n) ids.0 (text_of_found one other row same)
text_of_last one other id row (next ∷ rows) ids same = text_of_last one other id next rows ids.1 same

same_rows_of_id : (one other : Texts) (id : ℕ) (rows : List Row) → HaveId id rows → Agree one other (latest rows) → id_reply one (Some id) rows ≡ id_reply other (Some id) rows
same_rows_of_id one other id [] ids same = refl
same_rows_of_id one other id (row ∷ rows) ids same = ap (text_reply schema_body) (text_of_last one other id row rows ids same)

-- the same for versions with the same ids
agree_ids : (one other : Texts) (seen rows : List Row) → map (λ (row : Row). row.1.id) seen ≡ map (λ (row : Row). row.1.id) rows → Agree one other seen → Agree one other rows
agree_ids one other seen rows ids same =
    All-mapped (λ id. one id ≡ other id) (λ (row : Row). row.1.id) rows (subst (All (λ id. one id ≡ other id)) ids (All-map (λ id. one id ≡ other id) (λ (row : Row). row.1.id) seen same))

-- a list that isn't empty has a last version
none_last : (row : Row) (rows : List Row) → map (λ (r : Row). r.1.id) (latest (row ∷ rows)) ≢ []
none_last row [] h = cc
none_last row (next ∷ rows) h = none_last next rows h

-- the id of the last version suffices to reply with an id's schema
same_last : (texts : Texts) (id : ℕ) (seen rows : List Row) → map (λ (row : Row). row.1.id) (latest seen) ≡ map (λ (row : Row). row.1.id) (latest rows) → id_reply texts (Some id) seen ≡ id_reply texts (Some id) rows
same_last texts id [] [] ids = refl
same_last texts id [] (row ∷ rows) ids = absurd (none_last row rows (sym ids))
same_last texts id (row ∷ rows) [] ids = absurd (none_last row rows ids)
same_last texts id (one ∷ seen) (row ∷ rows) ids = refl

same_id : (one other : Texts) (id : Option ℕ) (all seen : List Row) → map (λ (row : Row). row.1.id) (latest seen) ≡ map (λ (row : Row). row.1.id) (latest (rows_with_id id all)) → Agree one other (latest seen)
    → id_reply one id seen ≡ id_reply other id (rows_with_id id all)
same_id one other None all seen ids same = refl
same_id one other (Some id) all seen ids same =
    same_last one id seen (rows_with id all) ids
    ∙ same_rows_of_id one other id (rows_with id all) (have_id id all) (agree_ids one other (latest seen) (latest (rows_with id all)) ids same)

-- ---- commands

-- a reply for a command is the reply for an equal command
pub at_command : (g : Registry) (schema : Option (List NodeView)) (view : View) (told : ReplyView) (command variant : Command) → command ≡ variant
    → (IsDecisionInput g variant schema view → told ≡ (permitted_step g variant).1) → IsDecisionInput g command schema view → told ≡ (permitted_step g command).1
at_command g schema view told command variant is tells input =
    tells (subst (λ (c : Command). IsDecisionInput g c schema view) is input) ∙ ap (λ (c : Command). (permitted_step g c).1) (sym is)

pub told_version : (g : Registry) (view : View) (subject version : List ℕ) (deleted : Bool) → IsViewOf view g (Version subject version deleted)
    → version_reply (view_text view) (found_row (parse_choice version) (visible_rows deleted view.rows.items)) ≡ (permitted_step g (Version subject version deleted)).1
unfolding permitted_step
told_version g view subject version deleted shows =
    same_version (view_text view) (text_at g.schemas) (found_row (parse_choice version) (visible_rows deleted view.rows.items)) shows.texts
    ∙ ap (version_reply (text_at g.schemas)) shows.rows

pub told_text : (g : Registry) (view : View) (subject version : List ℕ) (deleted : Bool) → IsViewOf view g (Text subject version deleted)
    → version_text_reply (view_text view) (found_row (parse_choice version) (visible_rows deleted view.rows.items)) ≡ (permitted_step g (Text subject version deleted)).1
unfolding permitted_step
told_text g view subject version deleted shows =
    same_version_text (view_text view) (text_at g.schemas) (found_row (parse_choice version) (visible_rows deleted view.rows.items)) shows.texts
    ∙ ap (version_text_reply (text_at g.schemas)) shows.rows

pub told_id : (g : Registry) (view : View) (id : List ℕ) → IsViewOf view g (ById id) → id_reply (view_text view) (parse_id id) view.rows.items ≡ (permitted_step g (ById id)).1
unfolding permitted_step
told_id g view id shows = same_id (view_text view) (text_at g.schemas) (parse_id id) (entries g.rows) view.rows.items shows.rows shows.texts

-- equal lookups give equal replies
lookup_as : (texts : Texts) (schema : Option (List NodeView)) (known : Option ℕ) (seen rows : List Row) → lookup_row known seen ≡ lookup_row known rows → lookup_reply texts schema known seen ≡ lookup_reply texts schema known rows
lookup_as texts None known seen rows same = refl
lookup_as texts (Some nodes) known seen rows same = ap (version_reply texts) same

-- the id matters only if a schema is sent
known_as : (texts : Texts) (text : List ℕ) (supported : Bool) (known own : Option ℕ) (rows : List Row) → (IsTrue supported → known ≡ own)
    → lookup_reply texts (supported_schema text supported) known rows ≡ lookup_reply texts (supported_schema text supported) own rows
unfolding supported_schema
known_as texts text true known own rows same = ap (λ id. lookup_reply texts (supported_schema text true) id rows) (same refl)
known_as texts text false known own rows same = refl

pub told_lookup : (g : Registry) (view : View) (schema : Option (List NodeView)) (subject text : List ℕ) (supported deleted : Bool) → schema ≡ supported_schema text supported → IsViewOf view g (Lookup subject text supported deleted)
    → lookup_reply (view_text view) schema view.known (visible_rows deleted view.rows.items) ≡ (permitted_step g (Lookup subject text supported deleted)).1
unfolding permitted_step
told_lookup g view schema subject text supported deleted sent shows =
    same_lookup (view_text view) (text_at g.schemas) schema view.known (visible_rows deleted view.rows.items) shows.texts
    ∙ (ap (λ s. lookup_reply (text_at g.schemas) s view.known (visible_rows deleted view.rows.items)) sent
    ∙ (lookup_as (text_at g.schemas) (supported_schema text supported) view.known (visible_rows deleted view.rows.items) (visible_rows deleted (rows_of g subject)) shows.rows
    ∙ known_as (text_at g.schemas) text supported view.known (known_id g.schemas (supported_schema text supported)) (visible_rows deleted (rows_of g subject)) shows.known))

-- `schema_if_supported` leaves a command's own schema as it is
pub schema_if_supported-sent : (c : Command) → schema_if_supported c (command_schema c) ≡ command_schema c
unfolding supported_schema
schema_if_supported-sent (SetGlobal level) = refl
schema_if_supported-sent (SetLevel subject level) = refl
schema_if_supported-sent (Register subject text true) = refl
schema_if_supported-sent (Register subject text false) = refl
schema_if_supported-sent (DeleteVersion subject version permanent) = refl
schema_if_supported-sent (DeleteSubject subject permanent) = refl
schema_if_supported-sent Global = refl
schema_if_supported-sent (LevelOf subject default) = refl
schema_if_supported-sent (Lookup subject text true deleted) = refl
schema_if_supported-sent (Lookup subject text false deleted) = refl
schema_if_supported-sent (Subjects deleted) = refl
schema_if_supported-sent (Versions subject deleted) = refl
schema_if_supported-sent (Version subject version deleted) = refl
schema_if_supported-sent (Text subject version deleted) = refl
schema_if_supported-sent (ById id) = refl
schema_if_supported-sent (VersionsOfId id deleted) = refl
schema_if_supported-sent Types = refl
schema_if_supported-sent (Check subject version text true) = refl
schema_if_supported-sent (Check subject version text false) = refl
schema_if_supported-sent (CheckAll subject text true) = refl
schema_if_supported-sent (CheckAll subject text false) = refl
schema_if_supported-sent (SetGlobalMode mode) = refl
schema_if_supported-sent (SetMode subject mode) = refl
schema_if_supported-sent GlobalMode = refl
schema_if_supported-sent (ModeOf subject default) = refl
