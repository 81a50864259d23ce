-- Bodies that have only a schema.
use Rattle.std.specs.Prelude.{◌≡◌, ◌⊎◌, ℕ, List, [], ◌∷◌, ◌++◌, codes}

-- before the escaped text, there are `{"schema":`, perhaps a space, and a quotation mark
abbrev pub StartsOnly : List ℕ → List ℕ → Type 0
StartsOnly front escaped = (front ≡ codes "{\"schema\":\"" ++ escaped) ⊎ (front ≡ codes "{\"schema\": \"" ++ escaped)

-- the same, and a quotation mark and a brace follow it
pub record SpellsOnly (body escaped : List ℕ) : Type 0 where
  pub front : List ℕ
  pub starts : StartsOnly front escaped
  pub ends : body ≡ front ++ codes "\"}"
