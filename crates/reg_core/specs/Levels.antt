-- Compatibility levels and their spellings.
use Rattle.std.specs.Prelude.{ℕ, List, [], ◌∷◌, codes, find, bytes_eq, Option}
use Rattle.reg_core.specs.declared.level.Level.{Level}
use Rattle.reg_core.specs.declared.level.Level.TheVariants.{Backward, BackwardTransitive, Forward, ForwardTransitive, Full, FullTransitive, Off}

-- Schema Registry API reference, Config: how a level is spelt
abbrev pub level_text : Level → List ℕ
level_text Backward = codes "BACKWARD"
level_text BackwardTransitive = codes "BACKWARD_TRANSITIVE"
level_text Forward = codes "FORWARD"
level_text ForwardTransitive = codes "FORWARD_TRANSITIVE"
level_text Full = codes "FULL"
level_text FullTransitive = codes "FULL_TRANSITIVE"
level_text Off = codes "NONE"

-- Schema Registry API reference, Config: the seven levels
abbrev pub levels : List Level
levels = Backward ∷ BackwardTransitive ∷ Forward ∷ ForwardTransitive ∷ Full ∷ FullTransitive ∷ Off ∷ []

-- The level with exactly this spelling, or `None`. (This project's choice: upper case only, and no blanks.)
abbrev pub level_of : List ℕ → Option Level
level_of text = find (λ level. bytes_eq text (level_text level)) levels
