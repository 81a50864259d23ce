-- Subjects.
use Rattle.std.specs.Prelude.{ℕ, ◌==◌, ◌&&◌, ◌||◌, Bool, not, List, length, nat_lt, nat_le}
use Rattle.std.specs.List.{list_any}
use Rattle.std.specs.Str.{chars, is_utf8}

-- this project's choice: the control characters that no subject has, those of ASCII, U+0000 to U+001F and U+007F
abbrev pub is_control : ℕ → Bool
is_control c = nat_lt c 32 || c == 127

-- this project's choice: a subject is 1 to 255 bytes of UTF-8 (RFC 3629, section 3), and none of its code points is such a control character
unfoldable pub is_subject : List ℕ → Bool
is_subject text = is_utf8 text && nat_lt 0 (length text) && nat_le (length text) 255 && not (list_any is_control (chars text))
