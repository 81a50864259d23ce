-- Changes that can be applied and commands preserve the invariant of a registry (`IsRegistry`).
use Rattle.std.proofs.Common.{◌≡◌, ℕ, zero, suc, ◌+◌, ◌<◌, ◌≤◌, ◌⊎◌, inl, inr, List, [], ◌∷◌, ◌++◌, length, Bool, true, false, refl, sym, ap, subst, ◌∙◌, arith, length-append}
use Rattle.std.specs.Prelude.{All, Option, Some, None, Result, Ok, Err, option_to_list, if◌then◌else◌, is_some, unwrap_or, nat_le}
use Rattle.std.specs.FinMap.{insert, remove, get}
use Rattle.std.proofs.lemmas.Bool.{and_parts}
use Rattle.std.proofs.lemmas.Bool.Decides.{nat_tests}
use Rattle.std.proofs.lemmas.List.Elements.{All-push}
use Rattle.std.proofs.lemmas.Option.{none-some, get_or_from_slice_get, slice_get_within}
use Rattle.avro_nodes.specs.Nodes.{NodeView}
use Rattle.avro_nodes.specs.Identity.{identity}
use Rattle.avro_schema.specs.Texts.{TextDenotes, IsSchema}
use Rattle.avro_schema.specs.DenotedNodes.{denoted_nodes}
use Rattle.avro_schema.proofs.RoundText.{identity_text_denotes}
use Rattle.avro_schema.proofs.TextLemmas.{computed_denotes, denotes_computes}
use Rattle.reg_core.specs.declared.level.Level.{Level}
use Rattle.reg_core.specs.declared.command.Command.{Command}
use Rattle.reg_core.specs.declared.command.Command.TheVariants.{SetGlobal, SetLevel, Register, DeleteVersion, DeleteSubject, Global, LevelOf, Lookup, Subjects, Versions, Version, Text, ById, VersionsOfId, Types, Check, CheckAll, SetGlobalMode, SetMode, GlobalMode, ModeOf}
use Rattle.reg_core.specs.declared.decision.Change.{Change}
use Rattle.reg_core.specs.declared.decision.Change.TheVariants as change
use Rattle.reg_core.specs.Levels.{level_of}
use Rattle.reg_core.specs.Modes.{mode_of}
use Rattle.reg_core.specs.declared.mode.Mode.{Mode}
use Rattle.reg_core.specs.declared.code.Code.{Code}
use Rattle.reg_core.specs.declared.number.VersionChoice.{VersionChoice}
use Rattle.reg_core.specs.Additions.{IsRetained}
use Rattle.reg_core.specs.DeletionCommands.{row_to_soft_delete, row_to_remove, as_deleted, with_deleted, without_row, version_deleted, delete_version, with_subject_deleted, without_subject, soft_delete, remove_subject, delete_subject}
use Rattle.reg_core.specs.Numbers.{parse_choice}
use Rattle.reg_core.specs.Registry.{Registry, Schemas, RowKey, Row, IsRow, IsRegistry, max_number, schema_at, own_with, own_without}
use Rattle.reg_core.specs.Registry as registry
use Rattle.reg_core.specs.Rows.{rows_of, live_rows, next_number, id_of}
use Rattle.reg_core.specs.Settings.{Setting, level_setting, mode_setting, set, with_level, with_mode}
use Rattle.reg_core.specs.RegisterCommands.{supported_schema, id_for, schemas_with, with_version, registered, has_numbers_left, register}
use Rattle.reg_core.specs.Machine.{permitted_step, step, run_commands}
use Rattle.reg_core.specs.Views.{altered, after_change, after_changes, ChangeFits, ChangesFit}
use Rattle.reg_core.proofs.ModeLemmas.{step-either}
use Rattle.reg_core.proofs.IdLemmas.{schema_within, schema_last, schema_grown, id_of-schema, id_of-none}
use Rattle.reg_core.proofs.DeletionLemmas.{altered_was, removed_was, deleted_were, row_to_soft_delete-got, subject_deleted_was, remove_subject-were}
use Rattle.reg_core.proofs.RowLemmas.{get_inserted}

-- ---- the parts of a registry

-- a valid version stays valid with more schemas
more-IsRow : (schemas more : Schemas) (key : RowKey) (version : registry.Version) → IsRow schemas key version → IsRow (schemas ++ more) key version
more-IsRow schemas more key version h =
    let longer = length-append schemas more in
    let there = h.has_schema in
    record { within = h.within; has_schema = (there.0, omega arith) }

-- adding a schema with a new identity text preserves the invariant
pub grown-IsRegistry : (g : Registry) (new : List NodeView) → IsRegistry g → IsSchema new → length g.schemas + 1 ≤ max_number → id_of g.schemas (identity new) ≡ None → IsRegistry (record g { schemas = g.schemas ++ new ∷ [] })
grown-IsRegistry g new ok schema few unknown = record {
  schemas = All-push IsSchema g.schemas new ok.schemas schema;
  few = let longer = length-append g.schemas (new ∷ []) in omega arith;
  apart = λ i j one other here there same. both i j one other same (schema_grown g.schemas new i one here) (schema_grown g.schemas new j other there);
  rows = λ key version e. more-IsRow g.schemas (new ∷ []) key version (ok.rows key version e);
}
  where
    both : (i j : ℕ) (one other : List NodeView) → identity one ≡ identity other → (schema_at g.schemas i ≡ Some one) ⊎ ((i ≡ length g.schemas + 1) × (one ≡ new)) → (schema_at g.schemas j ≡ Some other) ⊎ ((j ≡ length g.schemas + 1) × (other ≡ new)) → i ≡ j
    both i j one other same (inl here) (inl there) = ok.apart i j one other here there same
    both i j one other same (inl here) (inr there) = absurd (id_of-none g.schemas (identity new) unknown i one here (same ∙ ap identity there.1))
    both i j one other same (inr here) (inl there) = absurd (id_of-none g.schemas (identity new) unknown j other there (sym same ∙ ap identity here.1))
    both i j one other same (inr here) (inr there) = here.0 ∙ sym there.0

-- adding a version whose schema is registered preserves the invariant
pub inserted-IsRegistry : (g : Registry) (key : RowKey) (version : registry.Version) → IsRegistry g → IsRow g.schemas key version → IsRegistry (record g { rows = insert g.rows key version })
inserted-IsRegistry g key version ok row = record {
  schemas = ok.schemas;
  few = ok.few;
  apart = ok.apart;
  rows = get_inserted g.rows key version (IsRow g.schemas) row ok.rows;
}

-- changing levels preserves the invariant
pub levels-IsRegistry : (g : Registry) (global : Level) (own : registry.OwnLevels) → IsRegistry g → IsRegistry (record g { global = global; own = own })
levels-IsRegistry g global own ok = record { schemas = ok.schemas; few = ok.few; apart = ok.apart; rows = ok.rows }

-- changing modes preserves the invariant
modes-IsRegistry : (g : Registry) (global : Mode) (own : registry.OwnModes) → IsRegistry g → IsRegistry (record g { global_mode = global; own_modes = own })
modes-IsRegistry g global own ok = record { schemas = ok.schemas; few = ok.few; apart = ok.apart; rows = ok.rows }

-- removing or soft-deleting versions preserves the invariant
pub fewer-IsRegistry : (g : Registry) (rows : registry.Rows) (own : registry.OwnLevels) → IsRegistry g → ((key : RowKey) (version : registry.Version) → get rows key ≡ Some version → IsRetained g.rows key version) → IsRegistry (record g { rows = rows; own = own })
fewer-IsRegistry g rows own ok were = record {
  schemas = ok.schemas;
  few = ok.few;
  apart = ok.apart;
  rows = λ key version e.
      let was = were key version e in
      let row = ok.rows key was.old was.there in
      record { within = row.within; has_schema = subst (λ id. (0 < id) × (id ≤ length g.schemas)) (sym was.same) row.has_schema };
}

-- ---- identity texts

-- the identity text of a schema denotes it
pub identity_denoted : (nodes : List NodeView) → IsSchema nodes → denoted_nodes (identity nodes) ≡ Some nodes
identity_denoted nodes schema = denotes_computes (identity nodes) nodes (identity_text_denotes nodes schema)

-- the identity text of each id's schema denotes it
pub schema_at-denoted : (schemas : Schemas) → All IsSchema schemas → (id : ℕ) (nodes : List NodeView) → schema_at schemas id ≡ Some nodes → denoted_nodes (identity nodes) ≡ Some nodes
schema_at-denoted schemas are zero nodes e = absurd (none-some nodes e)
schema_at-denoted schemas are (suc n) nodes e = identity_denoted nodes (subst IsSchema (get_or_from_slice_get schemas n nodes nodes e) (are n nodes (slice_get_within schemas n nodes e)))

-- ---- changes

-- a change that can be applied preserves the invariant
pub change_fits-IsRegistry : (change : Change) (g : Registry) → IsRegistry g → ChangeFits change g → IsRegistry (after_change change g)
change_fits-IsRegistry (change.SetGlobal level) g ok fits = levels-IsRegistry g level g.own ok
change_fits-IsRegistry (change.SetLevel subject level) g ok fits = levels-IsRegistry g g.global (own_with g.own subject level) ok
change_fits-IsRegistry (change.AddText id text) g ok fits =
    let few : length g.schemas + 1 ≤ max_number = omega (arith, fits.next, fits.within) in
    let unknown : id_of g.schemas (identity fits.nodes) ≡ None = subst (λ (t : List ℕ). id_of g.schemas t ≡ None) fits.is fits.unknown in
    let denotes : denoted_nodes text ≡ Some fits.nodes = ap denoted_nodes fits.is ∙ identity_denoted fits.nodes fits.schema in
    subst (λ (o : Option (List NodeView)). IsRegistry (record g { schemas = g.schemas ++ option_to_list o })) (sym denotes) (grown-IsRegistry g fits.nodes ok fits.schema few unknown)
change_fits-IsRegistry (change.MarkDeleted subject version) g ok fits = fewer-IsRegistry g (altered g.rows (subject, version) as_deleted) g.own ok (altered_was g.rows (subject, version))
change_fits-IsRegistry (change.Remove subject version) g ok fits = fewer-IsRegistry g (remove g.rows (subject, version)) g.own ok (removed_was g.rows (subject, version))
change_fits-IsRegistry (change.DropLevel subject) g ok fits = levels-IsRegistry g g.global (own_without g.own subject) ok
change_fits-IsRegistry (change.SetGlobalMode mode) g ok fits = modes-IsRegistry g mode g.own_modes ok
change_fits-IsRegistry (change.SetMode subject mode) g ok fits = modes-IsRegistry g g.global_mode (own_with g.own_modes subject mode) ok
change_fits-IsRegistry (change.DropMode subject) g ok fits = modes-IsRegistry g g.global_mode (own_without g.own_modes subject) ok
change_fits-IsRegistry (change.AddRow row evidence) g ok fits = inserted-IsRegistry g row.0 row.1 ok fits.0.fits

-- changes that can be applied in order preserve the invariant
pub changes_fit-IsRegistry : (changes : List Change) (g : Registry) → IsRegistry g → ChangesFit changes g → IsRegistry (after_changes changes g)
changes_fit-IsRegistry [] g ok fits = ok
changes_fit-IsRegistry (change ∷ changes) g ok fits = changes_fit-IsRegistry changes (after_change change g) (change_fits-IsRegistry change g ok fits.0) fits.1

-- ---- commands

-- the text denotes its supported schema
pub supported_schema-denotes : (text : List ℕ) (supported : Bool) (new : List NodeView) → supported_schema text supported ≡ Some new → TextDenotes text new
unfolding supported_schema
supported_schema-denotes text true new e = computed_denotes text new e
supported_schema-denotes text false new e = absurd (none-some new e)

-- the schemas with a new one, given the id of its identity text
abbrev schemas_by : Schemas → List NodeView → Option ℕ → Schemas
schemas_by schemas new known = if is_some known then schemas else schemas ++ new ∷ []

-- in the schemas with a new one, its id has the new schema
schema_with : (g : Registry) (new : List NodeView) → IsRegistry g → IsSchema new → (known : Option ℕ) → id_of g.schemas (identity new) ≡ known → schema_at (schemas_by g.schemas new known) (unwrap_or known (length g.schemas + 1)) ≡ Some new
schema_with g new ok schema None e = schema_last g.schemas new
schema_with g new ok schema (Some id) e =
    let (nodes, is, same) = id_of-schema g.schemas (identity new) id e in
    is ∙ (sym (schema_at-denoted g.schemas ok.schemas id nodes is) ∙ (ap denoted_nodes same ∙ identity_denoted new schema))

pub with_version-has_schema : (g : Registry) (subject : List ℕ) (new : List NodeView) → IsRegistry g → IsSchema new → schema_at (with_version g subject new).schemas (id_for g.schemas new) ≡ Some new
with_version-has_schema g subject new ok schema = schema_with g new ok schema (id_of g.schemas (identity new)) refl

-- the new schema's id is within the ids of the schemas with it
id_within : (schemas : Schemas) (new : List NodeView) (known : Option ℕ) → id_of schemas (identity new) ≡ known → (0 < unwrap_or known (length schemas + 1)) × (unwrap_or known (length schemas + 1) ≤ length (schemas_by schemas new known))
id_within schemas new None e = let longer = length-append schemas (new ∷ []) in (omega arith, omega arith)
id_within schemas new (Some id) e = let (nodes, is, same) = id_of-schema schemas (identity new) id e in schema_within schemas id nodes is

with_schema-IsRegistry : (g : Registry) (new : List NodeView) (known : Option ℕ) → id_of g.schemas (identity new) ≡ known → IsRegistry g → IsSchema new → unwrap_or known (length g.schemas + 1) ≤ max_number
    → IsRegistry (record g { schemas = schemas_by g.schemas new known })
with_schema-IsRegistry g new None e ok schema id = grown-IsRegistry g new ok schema id e
with_schema-IsRegistry g new (Some known) e ok schema id = ok

-- adding the schema as the subject's next version preserves the invariant if numbers are left
pub with_version-IsRegistry : (g : Registry) (subject : List ℕ) (new : List NodeView) → IsRegistry g → IsSchema new → next_number (rows_of g subject) ≤ max_number → id_for g.schemas new ≤ max_number → IsRegistry (with_version g subject new)
with_version-IsRegistry g subject new ok schema number id =
    let known = id_of g.schemas (identity new) in
    let next : 0 < next_number (rows_of g subject) = omega arith in
    inserted-IsRegistry (record g { schemas = schemas_with g.schemas new }) (subject, next_number (rows_of g subject)) (record { id = id_for g.schemas new; deleted = false })
    (with_schema-IsRegistry g new known refl ok schema id) (record { within = (next, number); has_schema = id_within g.schemas new known refl })

nat_le_says : (a b : ℕ) → nat_le a b ≡ true → a ≤ b
nat_le_says a b h = grind (arith, nat_tests)

registered-IsRegistry : (g : Registry) (subject : List ℕ) (new : List NodeView) → IsRegistry g → IsSchema new → (is_already_live admitted left : Bool) → has_numbers_left g subject new ≡ left → IsRegistry (registered g subject new (record { is_already_live = is_already_live; admitted = admitted; has_numbers_left = left })).0
registered-IsRegistry g subject new ok schema true admitted left e = ok
registered-IsRegistry g subject new ok schema false false left e = ok
registered-IsRegistry g subject new ok schema false true false e = ok
registered-IsRegistry g subject new ok schema false true true e =
    let both = and_parts (nat_le (next_number (rows_of g subject)) max_number) (nat_le (id_for g.schemas new) max_number) e in
    with_version-IsRegistry g subject new ok schema (nat_le_says (next_number (rows_of g subject)) max_number both.0) (nat_le_says (id_for g.schemas new) max_number both.1)

register-IsRegistry : (g : Registry) (subject text : List ℕ) (supported : Bool) (schema : Option (List NodeView)) → supported_schema text supported ≡ schema → IsRegistry g → IsRegistry (register g subject schema).0
register-IsRegistry g subject text supported None e ok = ok
register-IsRegistry g subject text supported (Some new) e ok = registered-IsRegistry g subject new ok (text, supported_schema-denotes text supported new e) _ _ _ refl

-- setting a value preserves the invariant
set-IsRegistry : {A : Type 0} (s : Setting A) (g : Registry) (subject : Option (List ℕ)) → ((value : A) → IsRegistry (s.put g subject value)) → (o : Option A) → IsRegistry g → IsRegistry (set s g subject o).0
set-IsRegistry s g subject puts None ok = ok
set-IsRegistry s g subject puts (Some value) ok = puts value

with_level-IsRegistry : (g : Registry) (subject : Option (List ℕ)) → IsRegistry g → (level : Level) → IsRegistry (with_level g subject level)
with_level-IsRegistry g None ok level = levels-IsRegistry g level g.own ok
with_level-IsRegistry g (Some subject) ok level = levels-IsRegistry g g.global (own_with g.own subject level) ok

with_mode-IsRegistry : (g : Registry) (subject : Option (List ℕ)) → IsRegistry g → (mode : Mode) → IsRegistry (with_mode g subject mode)
with_mode-IsRegistry g None ok mode = modes-IsRegistry g mode g.own_modes ok
with_mode-IsRegistry g (Some subject) ok mode = modes-IsRegistry g g.global_mode (own_with g.own_modes subject mode) ok

version_deleted-IsRegistry : (g : Registry) (change : Registry → Row → Registry) (found : Result Row Code) → IsRegistry g → ((row : Row) → found ≡ Ok row → IsRegistry (change g row)) → IsRegistry (version_deleted change g found).0
version_deleted-IsRegistry g change (Err code) ok changed = ok
version_deleted-IsRegistry g change (Ok row) ok changed = changed row refl

delete_version-IsRegistry : (g : Registry) (subject : List ℕ) (choice : Option VersionChoice) (permanent : Bool) → IsRegistry g → IsRegistry (delete_version g subject choice permanent).0
delete_version-IsRegistry g subject choice false ok =
    version_deleted-IsRegistry g with_deleted (row_to_soft_delete choice (rows_of g subject)) ok
    (λ row e. fewer-IsRegistry g (with_deleted g row).rows g.own ok (deleted_were g row (row_to_soft_delete-got g subject choice row e)))
delete_version-IsRegistry g subject choice true ok =
    version_deleted-IsRegistry g without_row (row_to_remove choice (rows_of g subject)) ok (λ row e. fewer-IsRegistry g (without_row g row).rows g.own ok (removed_was g.rows row.0))

soft_delete-IsRegistry : (g : Registry) (subject : List ℕ) (rows live : List Row) → IsRegistry g → IsRegistry (soft_delete g subject rows live).0
soft_delete-IsRegistry g subject [] live ok = ok
soft_delete-IsRegistry g subject (row ∷ rows) [] ok = ok
soft_delete-IsRegistry g subject (row ∷ rows) (one ∷ live) ok = fewer-IsRegistry g (with_subject_deleted g subject).rows (own_without g.own subject) ok (subject_deleted_was g.rows subject)

remove_subject-IsRegistry : (g : Registry) (subject : List ℕ) (rows live : List Row) → IsRegistry g → IsRegistry (remove_subject g subject rows live).0
remove_subject-IsRegistry g subject [] live ok = ok
remove_subject-IsRegistry g subject (row ∷ rows) (one ∷ live) ok = ok
remove_subject-IsRegistry g subject (row ∷ rows) [] ok =
    modes-IsRegistry (record g { rows = (without_subject g subject).rows; own = own_without g.own subject }) g.global_mode (own_without g.own_modes subject)
    (fewer-IsRegistry g (without_subject g subject).rows (own_without g.own subject) ok (remove_subject-were g subject (row ∷ rows) []))

delete_subject-IsRegistry : (g : Registry) (subject : List ℕ) (permanent : Bool) → IsRegistry g → IsRegistry (delete_subject g subject permanent).0
delete_subject-IsRegistry g subject false ok = soft_delete-IsRegistry g subject (rows_of g subject) (live_rows (rows_of g subject)) ok
delete_subject-IsRegistry g subject true ok = remove_subject-IsRegistry g subject (rows_of g subject) (live_rows (rows_of g subject)) ok

-- each permitted command preserves the invariant
pub permitted_step-IsRegistry : (g : Registry) (c : Command) → IsRegistry g → IsRegistry (permitted_step g c).0
unfolding permitted_step
permitted_step-IsRegistry g (SetGlobal text) ok = set-IsRegistry level_setting g None (with_level-IsRegistry g None ok) (level_of text) ok
permitted_step-IsRegistry g (SetLevel subject text) ok = set-IsRegistry level_setting g (Some subject) (with_level-IsRegistry g (Some subject) ok) (level_of text) ok
permitted_step-IsRegistry g (Register subject text supported) ok = register-IsRegistry g subject text supported (supported_schema text supported) refl ok
permitted_step-IsRegistry g (DeleteVersion subject version permanent) ok = delete_version-IsRegistry g subject (parse_choice version) permanent ok
permitted_step-IsRegistry g (DeleteSubject subject permanent) ok = delete_subject-IsRegistry g subject permanent ok
permitted_step-IsRegistry g Global ok = ok
permitted_step-IsRegistry g (LevelOf subject default) ok = ok
permitted_step-IsRegistry g (Lookup subject text supported deleted) ok = ok
permitted_step-IsRegistry g (Subjects deleted) ok = ok
permitted_step-IsRegistry g (Versions subject deleted) ok = ok
permitted_step-IsRegistry g (Version subject version deleted) ok = ok
permitted_step-IsRegistry g (Text subject version deleted) ok = ok
permitted_step-IsRegistry g (ById id) ok = ok
permitted_step-IsRegistry g (VersionsOfId id deleted) ok = ok
permitted_step-IsRegistry g Types ok = ok
permitted_step-IsRegistry g (Check subject version text supported) ok = ok
permitted_step-IsRegistry g (CheckAll subject text supported) ok = ok
permitted_step-IsRegistry g (SetGlobalMode text) ok = set-IsRegistry mode_setting g None (with_mode-IsRegistry g None ok) (mode_of text) ok
permitted_step-IsRegistry g (SetMode subject text) ok = set-IsRegistry mode_setting g (Some subject) (with_mode-IsRegistry g (Some subject) ok) (mode_of text) ok
permitted_step-IsRegistry g GlobalMode ok = ok
permitted_step-IsRegistry g (ModeOf subject default) ok = ok

-- each command preserves the invariant
pub step-IsRegistry : (g : Registry) (c : Command) → IsRegistry g → IsRegistry (step g c).0
step-IsRegistry g c ok = step-either (λ after. IsRegistry after.0) g c ok (permitted_step-IsRegistry g c ok)

-- any number of commands preserves the invariant
pub run_commands-IsRegistry : (g : Registry) (commands : List Command) → IsRegistry g → IsRegistry (run_commands g commands)
run_commands-IsRegistry g [] ok = ok
run_commands-IsRegistry g (command ∷ commands) ok = run_commands-IsRegistry (step g command).0 commands (step-IsRegistry g command ok)

-- ---- ids of a registry's schemas

-- the id of each schema is its position
pub schema_at-id_of : (g : Registry) → IsRegistry g → (id : ℕ) (nodes : List NodeView) → schema_at g.schemas id ≡ Some nodes → id_of g.schemas (identity nodes) ≡ Some id
schema_at-id_of g ok id nodes e = by (id_of g.schemas (identity nodes)) refl
  where
    by : (known : Option ℕ) → id_of g.schemas (identity nodes) ≡ known → known ≡ Some id
    by None none = absurd (id_of-none g.schemas (identity nodes) none id nodes e refl)
    by (Some j) some = let (other, is, same) = id_of-schema g.schemas (identity nodes) j some in ap Some (ok.apart j id other nodes is e same)
