-- A beginning of bytes that were to be written.
use Rattle.std.specs.Prelude.{◌≡◌, ℕ, List, ◌++◌, Option}
use Rattle.std.specs.Io.KnownBytes.{Appends}

-- `front` is a beginning of `all`, perhaps empty or whole
abbrev pub IsPrefix : List ℕ → List ℕ → Type 0
IsPrefix front all = (rest : List ℕ) × (front ++ rest ≡ all)

-- A beginning of `all` was written, perhaps none or all of it. `old` and `new` are what the writer has before and after. If `old` is known, so is
-- `new`. If `old` is `None`, which means unknown, this says nothing.
abbrev pub AppendsPrefix : Option (List ℕ) → Option (List ℕ) → List ℕ → Type 0
AppendsPrefix old new all = (part : List ℕ) × IsPrefix part all × Appends old new part
