-- The names of files, as standard error shows them.
use Rattle.std.specs.Prelude.{◌≡◌, ℕ, false, List, [], ◌∷◌, ◌++◌, ◌==◌, ◌/◌, ◌%◌, codes, slice_index, if◌then◌else◌}
use Rattle.std.specs.List.{flat_map, list_any}
use Rattle.std.specs.Char.{is_ascii_control}

-- no byte is an ASCII control character, U+0000 to U+001F or U+007F
abbrev pub HasNoControl : List ℕ → Type 0
HasNoControl text = list_any is_ascii_control text ≡ false

-- the hexadecimal digit of a number below 16
abbrev pub hex_digit : ℕ → ℕ
hex_digit n = slice_index (codes "0123456789abcdef") n

-- this project's choice: the escape of an ASCII control character is \t, \n, \r, or else \u{..} with two hexadecimal digits
abbrev pub escape_of : ℕ → List ℕ
escape_of byte =
    if byte == 9 then codes "\\t"
    else (if byte == 10 then codes "\\n"
    else (if byte == 13 then codes "\\r"
    else codes "\\u{" ++ (hex_digit (byte / 16) ∷ hex_digit (byte % 16) ∷ codes "}")))

-- a byte of a name, as it is shown
abbrev pub shown_byte : ℕ → List ℕ
shown_byte byte = if is_ascii_control byte then escape_of byte else byte ∷ []

-- this project's choice: a name is shown with each ASCII control character as its escape, so that it can't end the line
abbrev pub shown_name : List ℕ → List ℕ
shown_name name = flat_map shown_byte name
