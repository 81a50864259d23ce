-- The retry key of a request (this project's choice).
use Rattle.std.specs.Prelude.{ℕ, Bool, ◌&&◌, length, nat_lt, nat_le, List, [], ◌∷◌, Option, Some, None, Result, Ok, Err, if◌then◌else◌}
use Rattle.std.specs.List.{list_all}
use Rattle.reg_core.specs.declared.code.Code.{Code}
use Rattle.reg_core.specs.declared.code.Code.TheVariants.{MalformedRequest}
use Rattle.reg_core.specs.declared.command.Command.{Command}
use Rattle.reg_core.specs.Keys.{is_key_byte, max_key_length}
use Rattle.reg_core.specs.Machine.{is_write}

-- whether the text is a valid retry key: 1 to 64 bytes, each an ASCII letter, an ASCII digit, `.`, `_` or `-`
abbrev pub is_key : List ℕ → Bool
is_key text = nat_lt 0 (length text) && nat_le (length text) max_key_length && list_all is_key_byte text

-- The retry key by the values of all fields of its name: `None` without a field, or one valid key. MalformedRequest for an invalid value, also an
-- empty one, and for several values.
abbrev pub retry_key_from : List (List ℕ) → Result (Option (List ℕ)) Code
retry_key_from [] = Ok None
retry_key_from (text ∷ []) = if is_key text then Ok (Some text) else Err MalformedRequest
retry_key_from (text ∷ other ∷ more) = Err MalformedRequest

-- The field is ignored in a read.
abbrev pub retry_key_for : Command → List (List ℕ) → Result (Option (List ℕ)) Code
retry_key_for command values = if is_write command then retry_key_from values else Ok None
