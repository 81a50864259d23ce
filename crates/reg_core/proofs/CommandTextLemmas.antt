-- Different writes have different texts: parsing a text gives back its write.
use Rattle.std.proofs.Common.{◌≡◌, ℕ, ◌≤◌, List, [], lit≤, true, refl, ap, sym, ◌∙◌, codes, true≢false}
use Rattle.std.specs.Prelude.{Option, Some, None, bytes_eq, if◌then◌else◌}
use Rattle.std.specs.Option.{option_map_or}
use Rattle.serde_json.specs.Data.{Data, boolean, string, array, Items, item, no_items, depth}
use Rattle.serde_json.specs.Read.{max_depth, read}
use Rattle.serde_json.specs.Written.{compact_text}
use Rattle.avro_nodes.proofs.Tidy.{IsTidy}
use Rattle.avro_nodes.proofs.Reread.{read-compact_text}
use Rattle.reg_core.specs.declared.command.Command.{Command}
use Rattle.reg_core.specs.declared.command.Command.TheVariants.{SetGlobal, SetLevel, Register, DeleteVersion, DeleteSubject, SetGlobalMode, SetMode}
use Rattle.reg_core.specs.Machine.{is_write}
use Rattle.reg_core.specs.CommandTexts.{command_data, command_text}

-- the write with this name and these members, or `None`
abbrev write_of : List ℕ → Items → Option Command
write_of name (item (string level) no_items) = if bytes_eq name (codes "set-global") then Some (SetGlobal level) else if bytes_eq name (codes "set-global-mode") then Some (SetGlobalMode level) else None
write_of name (item (string subject) (item (string level) no_items)) = if bytes_eq name (codes "set-level") then Some (SetLevel subject level) else if bytes_eq name (codes "set-mode") then Some (SetMode subject level) else None
write_of name (item (string subject) (item (boolean permanent) no_items)) = if bytes_eq name (codes "delete-subject") then Some (DeleteSubject subject permanent) else None
write_of name (item (string subject) (item (string text) (item (boolean flag) no_items))) =
    if bytes_eq name (codes "register") then Some (Register subject text flag) else if bytes_eq name (codes "delete-version") then Some (DeleteVersion subject text flag) else None
write_of name members = None

-- the write that a JSON value represents, or `None`
abbrev write_in : Data → Option Command
write_in (array (item (string name) members)) = write_of name members
write_in value = None

-- the JSON value of a write: its text parses to it, and it is the value of no other write
record HasValue (command : Command) : Type 0 where
  value : Data
  is_value : command_data command ≡ Some value
  tidy : IsTidy value
  shallow : depth value ≤ max_depth
  write : write_in value ≡ Some command

value_of : (command : Command) → is_write command ≡ true → HasValue command
value_of (SetGlobal level) w = record { value = _; is_value = refl; tidy = (tt, (tt, tt)); shallow = lit≤ tt; write = refl }
value_of (SetLevel subject level) w = record { value = _; is_value = refl; tidy = (tt, (tt, (tt, tt))); shallow = lit≤ tt; write = refl }
value_of (Register subject text supported) w = record { value = _; is_value = refl; tidy = (tt, (tt, (tt, (tt, tt)))); shallow = lit≤ tt; write = refl }
value_of (DeleteVersion subject version permanent) w = record { value = _; is_value = refl; tidy = (tt, (tt, (tt, (tt, tt)))); shallow = lit≤ tt; write = refl }
value_of (DeleteSubject subject permanent) w = record { value = _; is_value = refl; tidy = (tt, (tt, (tt, tt))); shallow = lit≤ tt; write = refl }
value_of (SetGlobalMode mode) w = record { value = _; is_value = refl; tidy = (tt, (tt, tt)); shallow = lit≤ tt; write = refl }
value_of (SetMode subject mode) w = record { value = _; is_value = refl; tidy = (tt, (tt, (tt, tt))); shallow = lit≤ tt; write = refl }
value_of _ w = absurd (true≢false (sym w))

-- parsing a write's text gives its value
read_back : (command : Command) (it : HasValue command) → read (command_text command) ≡ Some it.value
unfolding command_text
read_back command it = ap (λ value. read (option_map_or compact_text value [])) it.is_value ∙ read-compact_text it.value it.tidy it.shallow

same_some : {A : Type 0} (x y : A) → Some x ≡ Some y → x ≡ y
same_some x y e = cc

-- writes with equal texts are equal
pub command_text-injective : (a b : Command) → is_write a ≡ true → is_write b ≡ true → command_text a ≡ command_text b → a ≡ b
command_text-injective a b v w e =
    let one = value_of a v in
    let other = value_of b w in
    let same : one.value ≡ other.value = same_some _ _ (sym (read_back a one) ∙ (ap read e ∙ read_back b other)) in
    same_some a b (sym one.write ∙ (ap write_in same ∙ other.write))
