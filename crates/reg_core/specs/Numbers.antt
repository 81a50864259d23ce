-- Numbers in paths: ids, and the versions that a client chooses.
use Rattle.std.specs.Prelude.{ℕ, ◌==◌, ◌&&◌, Bool, not, List, length, slice_index, nat_lt, nat_le, codes, bytes_eq, if◌then◌else◌, Option, None, Some, option_map}
use Rattle.std.specs.Char.{is_ascii_digit}
use Rattle.std.specs.List.{list_all}
use Rattle.std.specs.Str.Parse.{digits_value}
use Rattle.reg_core.specs.declared.number.VersionChoice.{VersionChoice}
use Rattle.reg_core.specs.declared.number.VersionChoice.TheVariants.{Latest, Numbered}
use Rattle.reg_core.specs.Registry.{max_number}

-- one or more decimal digits that don't begin with 0
abbrev pub is_number : List ℕ → Bool
is_number text = nat_lt 0 (length text) && not (slice_index text 0 == 48) && list_all is_ascii_digit text

-- the positive number that a text writes in decimal digits without a leading zero; `None` if it writes none, or one above the limit
abbrev pub parse_number : ℕ → List ℕ → Option ℕ
parse_number limit text = if is_number text && nat_le (digits_value 10 text) limit then Some (digits_value 10 text) else None

-- Schema Registry API reference, Schemas: the id that a text spells (this project's choice: 1 to 2^31 - 1, with no leading zero)
abbrev pub parse_id : List ℕ → Option ℕ
parse_id text = parse_number max_number text

-- Schema Registry API reference, Subjects: the version that a text chooses: `latest`, or a number spelt as an id; else `None`
abbrev pub parse_choice : List ℕ → Option VersionChoice
parse_choice text = if bytes_eq text (codes "latest") then Some Latest else option_map Numbered (parse_number max_number text)
