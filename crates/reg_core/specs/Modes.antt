-- Modes and their spellings.
use Rattle.std.specs.Prelude.{ℕ, Bool, true, false, List, [], ◌∷◌, codes, find, bytes_eq, Option, Some, None}
use Rattle.reg_core.specs.declared.mode.Mode.{Mode}
use Rattle.reg_core.specs.declared.mode.Mode.TheVariants.{Readwrite, Readonly}

-- Schema Registry API reference, Mode: how a mode is spelt
abbrev pub mode_text : Mode → List ℕ
mode_text Readwrite = codes "READWRITE"
mode_text Readonly = codes "READONLY"

-- this project's choice: the two modes
abbrev pub modes : List Mode
modes = Readwrite ∷ Readonly ∷ []

-- The mode with exactly this spelling, or `None`. (This project's choice: upper case only, and no blanks.)
abbrev pub mode_of : List ℕ → Option Mode
mode_of text = find (λ mode. bytes_eq text (mode_text mode)) modes

-- Schema Registry API reference, Mode: whether the mode that may forbid a command is READONLY; no if no mode may (`None`)
abbrev pub is_read_only : Option Mode → Bool
is_read_only (Some Readonly) = true
is_read_only (Some Readwrite) = false
is_read_only None = false
