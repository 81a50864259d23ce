-- The limits of a schema (this project's choice).
use Rattle.std.specs.Prelude.{ℕ}

-- the maximum length of a schema text, as it is sent, and of its identity text, in bytes
abbrev pub max_text : ℕ
max_text = 1048576

-- the maximum number of places
abbrev pub max_places : ℕ
max_places = 4096

-- the maximum nesting depth of types (the root has depth 1), and of a default and each other attribute
abbrev pub max_nesting : ℕ
max_nesting = 24
