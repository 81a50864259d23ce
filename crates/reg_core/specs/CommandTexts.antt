-- The text of a write, which is kept with its reply and compared on a retry (this project's choice).
use Rattle.std.specs.Prelude.{ℕ, List, [], codes, Option, Some, None}
use Rattle.std.specs.Option.{option_map_or}
use Rattle.serde_json.specs.Data.{Data, boolean, string, array, item, no_items}
use Rattle.serde_json.specs.Written.{compact_text}
use Rattle.reg_core.specs.declared.command.Command.{Command}
use Rattle.reg_core.specs.declared.command.Command.TheVariants.{SetGlobal, SetLevel, Register, DeleteVersion, DeleteSubject, SetGlobalMode, SetMode}

-- a write as a JSON array (RFC 8259, sections 5 and 7) of its name and its members; a read has none
abbrev pub command_data : Command → Option Data
command_data (SetGlobal level) = Some (array (item (string (codes "set-global")) (item (string level) no_items)))
command_data (SetLevel subject level) = Some (array (item (string (codes "set-level")) (item (string subject) (item (string level) no_items))))
command_data (Register subject text supported) = Some (array (item (string (codes "register")) (item (string subject) (item (string text) (item (boolean supported) no_items)))))
command_data (DeleteVersion subject version permanent) = Some (array (item (string (codes "delete-version")) (item (string subject) (item (string version) (item (boolean permanent) no_items)))))
command_data (DeleteSubject subject permanent) = Some (array (item (string (codes "delete-subject")) (item (string subject) (item (boolean permanent) no_items))))
command_data (SetGlobalMode mode) = Some (array (item (string (codes "set-global-mode")) (item (string mode) no_items)))
command_data (SetMode subject mode) = Some (array (item (string (codes "set-mode")) (item (string subject) (item (string mode) no_items))))
command_data _ = None

-- the compact text of a write; the empty text for a read
unfoldable pub command_text : Command → List ℕ
command_text command = option_map_or compact_text (command_data command) []
