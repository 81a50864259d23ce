-- A list for each place (this project's choice).
use Rattle.std.specs.Prelude.{◌≡◌, ◌⊎◌, ℕ, List, [], Contains, length, map, slice_index_or, Vec}
use Rattle.std.specs.declared.alloc.Global.{Global}

-- the list of a place, or the empty list past the last place
unfoldable pub list_at : {X : Type 0} → List (Vec X Global) → ℕ → List X
list_at {X} lists place = slice_index_or (map (λ (v : Vec X Global). v.items) lists) place []

-- the list of the place contains the item
abbrev pub IsListedAt : {X : Type 0} → List (Vec X Global) → X → ℕ → Type 0
IsListedAt lists x place = Contains (list_at lists place) x

-- nothing was removed from the lists, and each item that was added to the list of a place is related to the place by `Such`
pub record OnlyAdds {X : Type 0} (Such : X → ℕ → Type 0) (old new : List (Vec X Global)) : Type 0 where
  pub long : length new ≡ length old
  pub kept : (x : X) (place : ℕ) → IsListedAt old x place → IsListedAt new x place
  pub only : (x : X) (place : ℕ) → IsListedAt new x place → IsListedAt old x place ⊎ Such x place
