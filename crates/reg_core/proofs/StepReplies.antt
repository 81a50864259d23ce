-- Each step of the abstract machine gives a command reply (`IsCommandReply`).
use Rattle.std.proofs.Common.{ℕ, Bool, true, false, List, [], ◌∷◌, refl}
use Rattle.std.specs.Prelude.{Option, None, Some, Result, Ok, Err}
use Rattle.std.specs.FinMap.{entries}
use Rattle.avro_nodes.specs.Nodes.{NodeView}
use Rattle.reg_core.specs.declared.code.Code.{Code}
use Rattle.reg_core.specs.declared.code.Code.TheVariants.{SubjectSoftDeleted, SubjectNotSoftDeleted, NoOwnLevel, NoOwnMode}
use Rattle.reg_core.specs.declared.command.Command.{Command}
use Rattle.reg_core.specs.declared.command.Command.TheVariants.{SetGlobal, SetLevel, Register, DeleteVersion, DeleteSubject, Global, LevelOf, Lookup, Subjects, Versions, Version, Text, ById, VersionsOfId, Types, Check, CheckAll, SetGlobalMode, SetMode, GlobalMode, ModeOf}
use Rattle.reg_core.specs.declared.number.VersionChoice.{VersionChoice}
use Rattle.reg_core.specs.DeletionCommands.{with_deleted, without_row, row_to_soft_delete, row_to_remove, version_deleted, delete_version, soft_delete, remove_subject, delete_subject}
use Rattle.reg_core.specs.Levels.{level_of}
use Rattle.reg_core.specs.Machine.{permitted_step, step}
use Rattle.reg_core.specs.Modes.{mode_of}
use Rattle.reg_core.specs.Numbers.{parse_choice, parse_id}
use Rattle.reg_core.specs.ReadCommands.{versions_reply, found_row, rows_with_id}
use Rattle.reg_core.specs.RegisterCommands.{supported_schema, registered, register, check_reply, check_all_reply, verdict_reply}
use Rattle.reg_core.specs.Registry.{Registry, Row}
use Rattle.reg_core.specs.Replies.{IsCommandReply, fault}
use Rattle.reg_core.specs.Rows.{rows_of, live_rows, visible_rows, text_at, known_id}
use Rattle.reg_core.specs.Settings.{Setting, level_setting, mode_setting, setting_reply_or_fault, own_or_global}
use Rattle.reg_core.proofs.ModeLemmas.{step-either}
use Rattle.reg_core.proofs.OwnReplies.{HasOwnFault, success-IsCommandReply, not_found, subject_not_found-IsCommandReply, invalid_schema-IsCommandReply, invalid_version-IsCommandReply, not_permitted-IsCommandReply, incompatible-IsCommandReply, no_number_left-IsCommandReply, set_level-IsCommandReply, set_mode-IsCommandReply, version_reply-IsCommandReply, version_text_reply-IsCommandReply, id_reply-IsCommandReply, id_versions_reply-IsCommandReply, lookup_reply-IsCommandReply, found_row-fault, row_to_delete-fault}

setting_reply_or_fault-IsCommandReply : {A : Type 0} (s : Setting A) → IsCommandReply (fault s.absent) → (o : Option A) → IsCommandReply (setting_reply_or_fault s o)
setting_reply_or_fault-IsCommandReply s absent None = absent
setting_reply_or_fault-IsCommandReply s absent (Some value) = success-IsCommandReply _

versions_reply-IsCommandReply : (rows : List Row) → IsCommandReply (versions_reply rows)
versions_reply-IsCommandReply [] = subject_not_found-IsCommandReply
versions_reply-IsCommandReply (row ∷ rows) = success-IsCommandReply _

registered-IsCommandReply : (g : Registry) (subject : List ℕ) (new : List NodeView) (is_already_live admitted left : Bool)
    → IsCommandReply (registered g subject new (record { is_already_live = is_already_live; admitted = admitted; has_numbers_left = left })).1
registered-IsCommandReply g subject new true admitted left = success-IsCommandReply _
registered-IsCommandReply g subject new false false left = incompatible-IsCommandReply
registered-IsCommandReply g subject new false true false = no_number_left-IsCommandReply
registered-IsCommandReply g subject new false true true = success-IsCommandReply _

register-IsCommandReply : (g : Registry) (subject : List ℕ) (schema : Option (List NodeView)) → IsCommandReply (register g subject schema).1
register-IsCommandReply g subject None = invalid_schema-IsCommandReply
register-IsCommandReply g subject (Some new) = registered-IsCommandReply g subject new _ _ _

version_deleted-IsCommandReply : (change : Registry → Row → Registry) (g : Registry) (found : Result Row Code) → HasOwnFault found → IsCommandReply (version_deleted change g found).1
version_deleted-IsCommandReply change g (Err code) own = own
version_deleted-IsCommandReply change g (Ok row) own = success-IsCommandReply _

delete_version-IsCommandReply : (g : Registry) (subject : List ℕ) (choice : Option VersionChoice) (permanent : Bool) → IsCommandReply (delete_version g subject choice permanent).1
delete_version-IsCommandReply g subject choice false = version_deleted-IsCommandReply with_deleted g (row_to_soft_delete choice (rows_of g subject)) (row_to_delete-fault false choice (rows_of g subject))
delete_version-IsCommandReply g subject choice true = version_deleted-IsCommandReply without_row g (row_to_remove choice (rows_of g subject)) (row_to_delete-fault true choice (rows_of g subject))

soft_delete-IsCommandReply : (g : Registry) (subject : List ℕ) (rows live : List Row) → IsCommandReply (soft_delete g subject rows live).1
soft_delete-IsCommandReply g subject [] live = subject_not_found-IsCommandReply
soft_delete-IsCommandReply g subject (row ∷ rows) [] = not_found SubjectSoftDeleted refl
soft_delete-IsCommandReply g subject (row ∷ rows) (one ∷ live) = success-IsCommandReply _

remove_subject-IsCommandReply : (g : Registry) (subject : List ℕ) (rows live : List Row) → IsCommandReply (remove_subject g subject rows live).1
remove_subject-IsCommandReply g subject [] live = subject_not_found-IsCommandReply
remove_subject-IsCommandReply g subject (row ∷ rows) (one ∷ live) = not_found SubjectNotSoftDeleted refl
remove_subject-IsCommandReply g subject (row ∷ rows) [] = success-IsCommandReply _

delete_subject-IsCommandReply : (g : Registry) (subject : List ℕ) (permanent : Bool) → IsCommandReply (delete_subject g subject permanent).1
delete_subject-IsCommandReply g subject false = soft_delete-IsCommandReply g subject (rows_of g subject) (live_rows (rows_of g subject))
delete_subject-IsCommandReply g subject true = remove_subject-IsCommandReply g subject (rows_of g subject) (live_rows (rows_of g subject))

check_all_reply-IsCommandReply : (g : Registry) (subject : List ℕ) (schema : Option (List NodeView)) → IsCommandReply (check_all_reply g subject schema)
check_all_reply-IsCommandReply g subject None = invalid_schema-IsCommandReply
check_all_reply-IsCommandReply g subject (Some new) = success-IsCommandReply _

verdict_reply-IsCommandReply : (g : Registry) (subject : List ℕ) (new : List NodeView) (found : Result Row Code) → HasOwnFault found → IsCommandReply (verdict_reply g subject new found)
verdict_reply-IsCommandReply g subject new (Err code) own = own
verdict_reply-IsCommandReply g subject new (Ok row) own = success-IsCommandReply _

check_reply-IsCommandReply : (g : Registry) (subject : List ℕ) (choice : Option VersionChoice) (schema : Option (List NodeView)) → IsCommandReply (check_reply g subject choice schema)
check_reply-IsCommandReply g subject None schema = invalid_version-IsCommandReply
check_reply-IsCommandReply g subject (Some choice) None = invalid_schema-IsCommandReply
check_reply-IsCommandReply g subject (Some choice) (Some new) = verdict_reply-IsCommandReply g subject new _ (found_row-fault (Some choice) (live_rows (rows_of g subject)))

permitted_step-IsCommandReply : (g : Registry) (command : Command) → IsCommandReply (permitted_step g command).1
unfolding permitted_step
permitted_step-IsCommandReply g (SetGlobal level) = set_level-IsCommandReply g None (level_of level)
permitted_step-IsCommandReply g (SetLevel subject level) = set_level-IsCommandReply g (Some subject) (level_of level)
permitted_step-IsCommandReply g (Register subject text supported) = register-IsCommandReply g subject (supported_schema text supported)
permitted_step-IsCommandReply g (DeleteVersion subject version permanent) = delete_version-IsCommandReply g subject (parse_choice version) permanent
permitted_step-IsCommandReply g (DeleteSubject subject permanent) = delete_subject-IsCommandReply g subject permanent
permitted_step-IsCommandReply g Global = success-IsCommandReply _
permitted_step-IsCommandReply g (LevelOf subject default_to_global) = setting_reply_or_fault-IsCommandReply level_setting (not_found NoOwnLevel refl) (own_or_global (g.own subject) g.global default_to_global)
permitted_step-IsCommandReply g (Lookup subject text supported deleted) =
    lookup_reply-IsCommandReply (text_at g.schemas) (supported_schema text supported) (known_id g.schemas (supported_schema text supported)) (visible_rows deleted (rows_of g subject))
permitted_step-IsCommandReply g (Subjects deleted) = success-IsCommandReply _
permitted_step-IsCommandReply g (Versions subject deleted) = versions_reply-IsCommandReply (visible_rows deleted (rows_of g subject))
permitted_step-IsCommandReply g (Version subject version deleted) =
    version_reply-IsCommandReply (text_at g.schemas) (found_row (parse_choice version) (visible_rows deleted (rows_of g subject))) (found_row-fault (parse_choice version) (visible_rows deleted (rows_of g subject)))
permitted_step-IsCommandReply g (Text subject version deleted) =
    version_text_reply-IsCommandReply (text_at g.schemas) (found_row (parse_choice version) (visible_rows deleted (rows_of g subject))) (found_row-fault (parse_choice version) (visible_rows deleted (rows_of g subject)))
permitted_step-IsCommandReply g (ById id) = id_reply-IsCommandReply (text_at g.schemas) (parse_id id) (rows_with_id (parse_id id) (entries g.rows))
permitted_step-IsCommandReply g (VersionsOfId id deleted) = id_versions_reply-IsCommandReply (parse_id id) deleted (rows_with_id (parse_id id) (entries g.rows))
permitted_step-IsCommandReply g Types = success-IsCommandReply _
permitted_step-IsCommandReply g (Check subject version text supported) = check_reply-IsCommandReply g subject (parse_choice version) (supported_schema text supported)
permitted_step-IsCommandReply g (CheckAll subject text supported) = check_all_reply-IsCommandReply g subject (supported_schema text supported)
permitted_step-IsCommandReply g (SetGlobalMode mode) = set_mode-IsCommandReply g None (mode_of mode)
permitted_step-IsCommandReply g (SetMode subject mode) = set_mode-IsCommandReply g (Some subject) (mode_of mode)
permitted_step-IsCommandReply g GlobalMode = success-IsCommandReply _
permitted_step-IsCommandReply g (ModeOf subject default_to_global) = setting_reply_or_fault-IsCommandReply mode_setting (not_found NoOwnMode refl) (own_or_global (g.own_modes subject) g.global_mode default_to_global)

pub step-IsCommandReply : (g : Registry) (command : Command) → IsCommandReply (step g command).1
step-IsCommandReply g command = step-either (λ after. IsCommandReply after.1) g command not_permitted-IsCommandReply (permitted_step-IsCommandReply g command)
