-- Evidence stays true after any command.
use Rattle.std.proofs.Common.{◌≡◌, ◌⊎◌, ◌∙◌, inl, inr, ℕ, Bool, true, false, cond, List, [], ◌∷◌, ◌++◌, append-nil, refl, ap, sym, subst}
use Rattle.std.specs.Prelude.{Option, None, Some, Result, Ok, Err, is_some}
use Rattle.std.specs.FinMap.{get}
use Rattle.std.specs.List.{AllZip, cons_option}
use Rattle.std.proofs.lemmas.Option.{same_Some}
use Rattle.avro_nodes.specs.Nodes.{NodeView}
use Rattle.avro_nodes.specs.Identity.{identity}
use Rattle.reg_core.specs.declared.code.Code.{Code}
use Rattle.reg_core.specs.declared.level.Level.{Level}
use Rattle.reg_core.specs.declared.mode.Mode.{Mode}
use Rattle.reg_core.specs.declared.command.Command.{Command}
use Rattle.reg_core.specs.declared.command.Command.TheVariants.{SetGlobal, SetLevel, Register, DeleteVersion, DeleteSubject, Global, LevelOf, Lookup, Subjects, Versions, Version, Text, ById, VersionsOfId, Types, Check, CheckAll, SetGlobalMode, SetMode, GlobalMode, ModeOf}
use Rattle.reg_core.specs.Additions.{IsAdmissible, IsRetained, IsAddition}
use Rattle.reg_core.specs.Compatibility.{Admits}
use Rattle.reg_core.specs.DeletionCommands.{row_to_soft_delete, row_to_remove, with_deleted, without_row, version_deleted, delete_version, soft_delete, remove_subject, delete_subject}
use Rattle.reg_core.specs.Evidence.{Evidence, EvidenceMap, IsTrueForSchema, IsTrueEvidence, next_evidence, kept_or_new, IsEvidenceAfter}
use Rattle.reg_core.specs.Levels.{level_of}
use Rattle.reg_core.specs.Modes.{mode_of}
use Rattle.reg_core.specs.Machine.{permitted_step, step}
use Rattle.reg_core.specs.Numbers.{parse_choice}
use Rattle.reg_core.specs.Registry.{Registry, IsRegistry, Row, RowKey, Schemas, schema_at}
use Rattle.reg_core.specs.Registry as registry
use Rattle.reg_core.specs.RegisterCommands.{supported_schema, registered, register, schemas_with, level_in}
use Rattle.reg_core.specs.Rows.{rows_of, live_rows, schemas_of, id_of}
use Rattle.reg_core.specs.Settings.{Setting, level_setting, mode_setting, set, with_level, with_mode}
use Rattle.reg_core.proofs.AdditionLemmas.{step_adds_admitted}
use Rattle.reg_core.proofs.EvidenceLemmas.{true-more, admitted-true}
use Rattle.reg_core.proofs.IdLemmas.{schema_more}
use Rattle.reg_core.proofs.ModeLemmas.{step-either}
use Rattle.reg_core.proofs.RowLemmas.{row_schema}

-- ---- no command removes a schema

abbrev Grows : Schemas → Schemas → Type 0
Grows old new = (more : Schemas) × (new ≡ old ++ more)

stays : (old new : Schemas) → new ≡ old → Grows old new
stays old new same = ([], same ∙ sym (append-nil old))

set-grows : {A : Type 0} (s : Setting A) (g : Registry) (subject : Option (List ℕ)) → ((value : A) → (s.put g subject value).schemas ≡ g.schemas) → (o : Option A) → Grows g.schemas (set s g subject o).0.schemas
set-grows s g subject puts None = stays g.schemas g.schemas refl
set-grows s g subject puts (Some value) = stays g.schemas _ (puts value)

with_level_schemas : (g : Registry) (subject : Option (List ℕ)) (level : Level) → (with_level g subject level).schemas ≡ g.schemas
with_level_schemas g None level = refl
with_level_schemas g (Some subject) level = refl

with_mode_schemas : (g : Registry) (subject : Option (List ℕ)) (mode : Mode) → (with_mode g subject mode).schemas ≡ g.schemas
with_mode_schemas g None mode = refl
with_mode_schemas g (Some subject) mode = refl

added-grows : (schemas : Schemas) (new : List NodeView) → Grows schemas (schemas_with schemas new)
added-grows schemas new = by (is_some (id_of schemas (identity new)))
  where
    by : (b : Bool) → Grows schemas (cond b schemas (schemas ++ new ∷ []))
    by true = stays schemas schemas refl
    by false = (new ∷ [], refl)

registered-grows : (g : Registry) (subject : List ℕ) (new : List NodeView) (is_already_live admitted left : Bool) → Grows g.schemas (registered g subject new (record { is_already_live = is_already_live; admitted = admitted; has_numbers_left = left })).0.schemas
registered-grows g subject new true admitted left = stays g.schemas g.schemas refl
registered-grows g subject new false false left = stays g.schemas g.schemas refl
registered-grows g subject new false true false = stays g.schemas g.schemas refl
registered-grows g subject new false true true = added-grows g.schemas new

register-grows : (g : Registry) (subject : List ℕ) (schema : Option (List NodeView)) → Grows g.schemas (register g subject schema).0.schemas
register-grows g subject None = stays g.schemas g.schemas refl
register-grows g subject (Some new) = registered-grows g subject new _ _ _

marked-grows : (g : Registry) (found : Result Row Code) → Grows g.schemas (version_deleted with_deleted g found).0.schemas
marked-grows g (Err code) = stays g.schemas g.schemas refl
marked-grows g (Ok row) = stays g.schemas g.schemas refl

removed-grows : (g : Registry) (found : Result Row Code) → Grows g.schemas (version_deleted without_row g found).0.schemas
removed-grows g (Err code) = stays g.schemas g.schemas refl
removed-grows g (Ok row) = stays g.schemas g.schemas refl

delete_version-grows : (g : Registry) (subject chosen : List ℕ) (permanent : Bool) → Grows g.schemas (delete_version g subject (parse_choice chosen) permanent).0.schemas
delete_version-grows g subject chosen false = marked-grows g (row_to_soft_delete (parse_choice chosen) (rows_of g subject))
delete_version-grows g subject chosen true = removed-grows g (row_to_remove (parse_choice chosen) (rows_of g subject))

soft_delete-grows : (g : Registry) (subject : List ℕ) (rows live : List Row) → Grows g.schemas (soft_delete g subject rows live).0.schemas
soft_delete-grows g subject [] live = stays g.schemas g.schemas refl
soft_delete-grows g subject (row ∷ rows) [] = stays g.schemas g.schemas refl
soft_delete-grows g subject (row ∷ rows) (one ∷ live) = stays g.schemas g.schemas refl

remove_subject-grows : (g : Registry) (subject : List ℕ) (rows live : List Row) → Grows g.schemas (remove_subject g subject rows live).0.schemas
remove_subject-grows g subject [] live = stays g.schemas g.schemas refl
remove_subject-grows g subject (row ∷ rows) (one ∷ live) = stays g.schemas g.schemas refl
remove_subject-grows g subject (row ∷ rows) [] = stays g.schemas g.schemas refl

delete_subject-grows : (g : Registry) (subject : List ℕ) (permanent : Bool) → Grows g.schemas (delete_subject g subject permanent).0.schemas
delete_subject-grows g subject false = soft_delete-grows g subject (rows_of g subject) (live_rows (rows_of g subject))
delete_subject-grows g subject true = remove_subject-grows g subject (rows_of g subject) (live_rows (rows_of g subject))

permitted_step-grows : (g : Registry) (c : Command) → Grows g.schemas (permitted_step g c).0.schemas
unfolding permitted_step
permitted_step-grows g (SetGlobal text) = set-grows level_setting g None (with_level_schemas g None) (level_of text)
permitted_step-grows g (SetLevel subject text) = set-grows level_setting g (Some subject) (with_level_schemas g (Some subject)) (level_of text)
permitted_step-grows g (Register subject text supported) = register-grows g subject (supported_schema text supported)
permitted_step-grows g (DeleteVersion subject version permanent) = delete_version-grows g subject version permanent
permitted_step-grows g (DeleteSubject subject permanent) = delete_subject-grows g subject permanent
permitted_step-grows g Global = stays g.schemas g.schemas refl
permitted_step-grows g (LevelOf subject default) = stays g.schemas g.schemas refl
permitted_step-grows g (Lookup subject text supported deleted) = stays g.schemas g.schemas refl
permitted_step-grows g (Subjects deleted) = stays g.schemas g.schemas refl
permitted_step-grows g (Versions subject deleted) = stays g.schemas g.schemas refl
permitted_step-grows g (Version subject version deleted) = stays g.schemas g.schemas refl
permitted_step-grows g (Text subject version deleted) = stays g.schemas g.schemas refl
permitted_step-grows g (ById id) = stays g.schemas g.schemas refl
permitted_step-grows g (VersionsOfId id deleted) = stays g.schemas g.schemas refl
permitted_step-grows g Types = stays g.schemas g.schemas refl
permitted_step-grows g (Check subject version text supported) = stays g.schemas g.schemas refl
permitted_step-grows g (CheckAll subject text supported) = stays g.schemas g.schemas refl
permitted_step-grows g (SetGlobalMode text) = set-grows mode_setting g None (with_mode_schemas g None) (mode_of text)
permitted_step-grows g (SetMode subject text) = set-grows mode_setting g (Some subject) (with_mode_schemas g (Some subject)) (mode_of text)
permitted_step-grows g GlobalMode = stays g.schemas g.schemas refl
permitted_step-grows g (ModeOf subject default) = stays g.schemas g.schemas refl

step-grows : (g : Registry) (c : Command) → Grows g.schemas (step g c).0.schemas
step-grows g c = step-either (λ after. Grows g.schemas after.0.schemas) g c (stays g.schemas g.schemas refl) (permitted_step-grows g c)

-- ---- the law

true-grown : (old new : Schemas) (nodes : List NodeView) (evidence : Evidence) → Grows old new → IsTrueForSchema old nodes evidence → IsTrueForSchema new nodes evidence
true-grown old new nodes evidence (more, is) holds = subst (λ (schemas : Schemas). IsTrueForSchema schemas nodes evidence) (sym is) (true-more old more nodes evidence holds)

schema_grown : (old new : Schemas) (id : ℕ) (nodes : List NodeView) → Grows old new → schema_at old id ≡ Some nodes → schema_at new id ≡ Some nodes
schema_grown old new id nodes (more, is) there = ap (λ (schemas : Schemas). schema_at schemas id) is ∙ schema_more old more id nodes there

-- schemas that match the versions one by one are `schemas_of` these versions
each_is : (schemas : Schemas) (rows : List Row) (live : List (List NodeView)) → AllZip (λ (row : Row) nodes. schema_at schemas row.1.id ≡ Some nodes) rows live → live ≡ schemas_of schemas rows
each_is schemas [] [] h = refl
each_is schemas [] (nodes ∷ live) h = absurd h
each_is schemas (row ∷ rows) [] h = absurd h
each_is schemas (row ∷ rows) (nodes ∷ live) h =
    ap (λ (rest : List (List NodeView)). nodes ∷ rest) (each_is schemas rows live h.1) ∙ sym (ap (λ (o : Option (List NodeView)). cons_option o (schemas_of schemas rows)) h.0)

was-true : (g : Registry) → IsRegistry g → (subject text : List ℕ) (was : IsAdmissible g subject text) → IsTrueForSchema g.schemas was.new (next_evidence g subject)
was-true g ok subject text was =
    admitted-true g ok subject was.new
    (subst (λ (live : List (List NodeView)). Admits (level_in g subject) live was.new) (each_is g.schemas (live_rows (rows_of g subject)) was.live was.are) was.admits)

-- if the evidence of a registry's versions is true, it is true after a command
pub evidence_stays_true : (g : Registry) (c : Command) (had has : EvidenceMap) → IsRegistry g → IsTrueEvidence g had → IsEvidenceAfter g c had has → IsTrueEvidence (step g c).0 has
evidence_stays_true g c had has ok holds becomes key version one nodes there is schema = by (step_adds_admitted g c ok key version there)
  where
    told : (before : Option registry.Version) → get g.rows key ≡ before → Some one ≡ kept_or_new before (Some version) (get had key) (next_evidence g key.0)
    told before e =
        sym is ∙ becomes key
        ∙ ap (λ (o : Option registry.Version). kept_or_new (get g.rows key) o (get had key) (next_evidence g key.0)) there
        ∙ ap (λ (o : Option registry.Version). kept_or_new o (Some version) (get had key) (next_evidence g key.0)) e

    by : IsRetained g.rows key version ⊎ IsAddition g c (step g c).0 key version → IsTrueForSchema (step g c).0.schemas nodes one
    by (inl was) =
        let (before, had_schema) = row_schema g.schemas key was.old (ok.rows key was.old was.there) in
        let now = schema_grown g.schemas _ was.old.id before (step-grows g c) had_schema in
        let same : before ≡ nodes = same_Some before nodes (sym now ∙ (ap (schema_at (step g c).0.schemas) (sym was.same) ∙ schema)) in
        let kept : get had key ≡ Some one = sym (told (Some was.old) was.there) in
        subst (λ (x : List NodeView). IsTrueForSchema (step g c).0.schemas x one) same
        (true-grown g.schemas _ before one (step-grows g c) (holds key was.old one before was.there kept had_schema))
    by (inr added) =
        let own : next_evidence g key.0 ≡ one = sym (same_Some one (next_evidence g key.0) (told None added.absent)) in
        let named : next_evidence g added.subject ≡ one = ap (λ (k : RowKey). next_evidence g k.0) (sym added.next) ∙ own in
        let same : added.admitted.new ≡ nodes = same_Some added.admitted.new nodes (sym added.has_schema ∙ schema) in
        subst (λ (x : List NodeView). IsTrueForSchema (step g c).0.schemas x one) same
        (subst (IsTrueForSchema (step g c).0.schemas added.admitted.new) named
        (true-grown g.schemas _ added.admitted.new (next_evidence g added.subject) (step-grows g c) (was-true g ok added.subject added.text added.admitted)))
