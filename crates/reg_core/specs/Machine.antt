-- The registry as an abstract machine: the effect and the reply of each command. It has no retry keys and no connections.
use Rattle.std.specs.Prelude.{ℕ, Bool, true, false, List, [], ◌∷◌, unwrap_or, if◌then◌else◌, Option, None, Some, option_and_then}
use Rattle.std.specs.FinMap.{entries}
use Rattle.avro_nodes.specs.Nodes.{NodeView}
use Rattle.reg_core.specs.declared.command.Command.{Command}
use Rattle.reg_core.specs.declared.command.Command.TheVariants.{SetGlobal, SetLevel, Register, DeleteVersion, DeleteSubject, Global, LevelOf, Lookup, Subjects, Versions, Version, Text, ById, VersionsOfId, Types, Check, CheckAll, SetGlobalMode, SetMode, GlobalMode, ModeOf}
use Rattle.reg_core.specs.declared.code.Code.TheVariants.{NotPermitted}
use Rattle.reg_core.specs.declared.mode.Mode.{Mode}
use Rattle.reg_core.specs.Levels.{level_of}
use Rattle.reg_core.specs.Modes.{mode_of, is_read_only}
use Rattle.reg_core.specs.Numbers.{parse_id, parse_choice}
use Rattle.reg_core.specs.Replies.{ReplyView, fault}
use Rattle.reg_core.specs.Registry.{Registry}
use Rattle.reg_core.specs.Rows.{rows_of, visible_rows, text_at, known_id}
use Rattle.reg_core.specs.Settings.{level_setting, mode_setting, set, own_or_global, setting_reply, setting_reply_or_fault}
use Rattle.reg_core.specs.ReadCommands.{types_reply, subjects_reply, versions_reply, found_row, version_reply, version_text_reply, id_reply, id_versions_reply, lookup_reply, rows_with_id}
use Rattle.reg_core.specs.DeletionCommands.{delete_version, delete_subject}
use Rattle.reg_core.specs.RegisterCommands.{supported_schema, register, check_reply, check_all_reply}

-- RFC 9110, section 9.2.1: whether a command may change the registry
abbrev pub is_write : Command → Bool
is_write (SetGlobal level) = true
is_write (SetLevel subject level) = true
is_write (Register subject text supported) = true
is_write (DeleteVersion subject version permanent) = true
is_write (DeleteSubject subject permanent) = true
is_write (SetGlobalMode mode) = true
is_write (SetMode subject mode) = true
is_write _ = false

-- Schema Registry API reference, Subjects, Compatibility, Config and Mode: the subject of a command, or `None` if it has none
abbrev pub subject_of : Command → Option (List ℕ)
subject_of (SetGlobal level) = None
subject_of (SetLevel subject level) = Some subject
subject_of (Register subject text supported) = Some subject
subject_of (DeleteVersion subject version permanent) = Some subject
subject_of (DeleteSubject subject permanent) = Some subject
subject_of Global = None
subject_of (LevelOf subject default_to_global) = Some subject
subject_of (Lookup subject text supported deleted) = Some subject
subject_of (Subjects deleted) = None
subject_of (Versions subject deleted) = Some subject
subject_of (Version subject version deleted) = Some subject
subject_of (Text subject version deleted) = Some subject
subject_of (ById id) = None
subject_of (VersionsOfId id deleted) = None
subject_of Types = None
subject_of (Check subject version text supported) = Some subject
subject_of (CheckAll subject text supported) = Some subject
subject_of (SetGlobalMode mode) = None
subject_of (SetMode subject mode) = Some subject
subject_of GlobalMode = None
subject_of (ModeOf subject default_to_global) = Some subject

-- Schema Registry API reference, Subjects and Compatibility: whether a command sends a supported schema (Avro, without references)
abbrev pub sends_supported_schema : Command → Bool
sends_supported_schema (Register subject text supported) = supported
sends_supported_schema (Lookup subject text supported deleted) = supported
sends_supported_schema (Check subject version text supported) = supported
sends_supported_schema (CheckAll subject text supported) = supported
sends_supported_schema _ = false

-- Schema Registry API reference, Subjects and Compatibility: the schema that a command's text denotes; `None` if the command sends none,
-- the schema isn't supported (Avro, without references), or the text denotes no schema
abbrev pub command_schema : Command → Option (List NodeView)
command_schema (Register subject text supported) = supported_schema text supported
command_schema (Lookup subject text supported deleted) = supported_schema text supported
command_schema (Check subject version text supported) = supported_schema text supported
command_schema (CheckAll subject text supported) = supported_schema text supported
command_schema _ = None

-- This project's choice: the mode that may forbid a command, given its subject's own mode and the global mode. The subject's own mode, or else the
-- global one, governs a write to the subject. Only the global mode governs the global level. No mode forbids a read, or setting a mode.
abbrev pub governing_mode : Command → Option Mode → Mode → Option Mode
governing_mode (SetGlobal level) own global = Some global
governing_mode (SetLevel subject level) own global = Some (unwrap_or own global)
governing_mode (Register subject text supported) own global = Some (unwrap_or own global)
governing_mode (DeleteVersion subject version permanent) own global = Some (unwrap_or own global)
governing_mode (DeleteSubject subject permanent) own global = Some (unwrap_or own global)
governing_mode _ own global = None

-- this project's choice: the mode of a registry that may forbid a command, or `None` if no mode may
abbrev pub mode_for : Registry → Command → Option Mode
mode_for g command = governing_mode command (option_and_then g.own_modes (subject_of command)) g.global_mode

-- Schema Registry API reference: the registry after a command that no mode forbids, and the reply
unfoldable pub permitted_step : Registry → Command → Registry × ReplyView
permitted_step g (SetGlobal level) = set level_setting g None (level_of level)
permitted_step g (SetLevel subject level) = set level_setting g (Some subject) (level_of level)
permitted_step g (Register subject text supported) = register g subject (supported_schema text supported)
permitted_step g (DeleteVersion subject version permanent) = delete_version g subject (parse_choice version) permanent
permitted_step g (DeleteSubject subject permanent) = delete_subject g subject permanent
permitted_step g Global = (g, setting_reply level_setting g.global)
permitted_step g (LevelOf subject default_to_global) = (g, setting_reply_or_fault level_setting (own_or_global (g.own subject) g.global default_to_global))
permitted_step g (Lookup subject text supported deleted) = (g, lookup_reply (text_at g.schemas) (supported_schema text supported) (known_id g.schemas (supported_schema text supported)) (visible_rows deleted (rows_of g subject)))
permitted_step g (Subjects deleted) = (g, subjects_reply (visible_rows deleted (entries g.rows)))
permitted_step g (Versions subject deleted) = (g, versions_reply (visible_rows deleted (rows_of g subject)))
permitted_step g (Version subject version deleted) = (g, version_reply (text_at g.schemas) (found_row (parse_choice version) (visible_rows deleted (rows_of g subject))))
permitted_step g (Text subject version deleted) = (g, version_text_reply (text_at g.schemas) (found_row (parse_choice version) (visible_rows deleted (rows_of g subject))))
permitted_step g (ById id) = (g, id_reply (text_at g.schemas) (parse_id id) (rows_with_id (parse_id id) (entries g.rows)))
permitted_step g (VersionsOfId id deleted) = (g, id_versions_reply (parse_id id) deleted (rows_with_id (parse_id id) (entries g.rows)))
permitted_step g Types = (g, types_reply)
permitted_step g (Check subject version text supported) = (g, check_reply g subject (parse_choice version) (supported_schema text supported))
permitted_step g (CheckAll subject text supported) = (g, check_all_reply g subject (supported_schema text supported))
permitted_step g (SetGlobalMode mode) = set mode_setting g None (mode_of mode)
permitted_step g (SetMode subject mode) = set mode_setting g (Some subject) (mode_of mode)
permitted_step g GlobalMode = (g, setting_reply mode_setting g.global_mode)
permitted_step g (ModeOf subject default_to_global) = (g, setting_reply_or_fault mode_setting (own_or_global (g.own_modes subject) g.global_mode default_to_global))

-- Schema Registry API reference: the registry after a command, and the reply. (This project's choice: the mode is checked before all else.)
unfoldable pub step : Registry → Command → Registry × ReplyView
step g command = if is_read_only (mode_for g command) then (g, fault NotPermitted) else permitted_step g command

-- this project's choice: the registry after the commands, in order
abbrev pub run_commands : Registry → List Command → Registry
run_commands g [] = g
run_commands g (command ∷ commands) = run_commands (step g command).0 commands
