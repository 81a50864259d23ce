-- Retry keys.
use Rattle.std.specs.Prelude.{ℕ, ◌<◌, ◌≤◌, ◌==◌, ◌||◌, Bool, IsTrue, List, length, codes}
use Rattle.std.specs.List.{All, list_any}
use Rattle.std.specs.Char.{is_ascii_alphanumeric}

-- this project's choice: a byte of a retry key is an ASCII letter, an ASCII digit, `.`, `_` or `-`
abbrev pub is_key_byte : ℕ → Bool
is_key_byte c = is_ascii_alphanumeric c || list_any (λ mark. c == mark) (codes "._-")

-- this project's choice: the most bytes of a retry key
abbrev pub max_key_length : ℕ
max_key_length = 64

-- this project's choice: a retry key is 1 to 64 bytes, and each of them is an `is_key_byte`
abbrev pub IsKey : List ℕ → Type 0
IsKey text = (0 < length text) × (length text ≤ max_key_length) × All (λ c. IsTrue (is_key_byte c)) text
