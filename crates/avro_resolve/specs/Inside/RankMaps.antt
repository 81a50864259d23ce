-- The map from the ranks of a writer's names to the ranks of a reader's names (this project's choice).
use Rattle.std.specs.Prelude.{◌≡◌, ◌↔◌, ℕ, Bool, true, false, List, Option, None, Some, MatchOption, Contains, get_or, map, slice_get}
use Rattle.std.specs.List.{AllZip}

-- the rank of a name among the names, or `None` if it isn't one of them
abbrev pub MapsName : List (List ℕ) → List ℕ → Option ℕ → Type 0
MapsName names name rank_map = MatchOption rank_map (Contains names name → ⊥) (λ rank. slice_get names rank ≡ Some name)

-- for each of the writer's names its rank among the reader's names
abbrev pub AreMapped : List (List ℕ) → List (List ℕ) → List (Option ℕ) → Type 0
AreMapped w r rank_map = AllZip (MapsName r) w rank_map

-- the rank to which a rank is mapped, or `None` if the reader lacks the name, or past the last rank
abbrev pub mapped_rank : List (Option ℕ) → ℕ → Option ℕ
mapped_rank rank_map rank = get_or rank_map rank None

-- a rank is mapped to another exactly if both have the same name
abbrev pub RanksDecideNames : List (List ℕ) → List (List ℕ) → List (Option ℕ) → Type 0
RanksDecideNames w r rank_map = (a b : ℕ) (x y : List ℕ) → slice_get w a ≡ Some x → slice_get r b ≡ Some y → (mapped_rank rank_map a ≡ Some b) ↔ (x ≡ y)

-- all of the first ranks are mapped, and the second ranks are those to which they are mapped, in order
abbrev pub AreMappedRanks : List (Option ℕ) → List ℕ → List ℕ → Type 0
AreMappedRanks rank_map ranks found = map (λ rank. Some rank) found ≡ map (λ rank. mapped_rank rank_map rank) ranks

-- each reader's rank that the map reaches is marked: the writer has the name
abbrev pub IsKnown : List (Option ℕ) → List Bool → Type 0
IsKnown rank_map known = (name rank : ℕ) → mapped_rank rank_map name ≡ Some rank → get_or known rank false ≡ true
