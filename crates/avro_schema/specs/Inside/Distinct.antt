-- Whether the elements of a list are distinct.
use Rattle.std.specs.Prelude.{ℕ, ◌+◌, ◌*◌, ◌%◌, ◌^◌, List, [], ◌∷◌, Bool, true, false, not, cond, ◌&&◌, fold}

-- whether each element is new: `seen` doesn't accept it, and it doesn't occur earlier in the list
unfoldable pub all_new : {X : Type 0} → (X → X → Bool) → (X → Bool) → List X → Bool
all_new same seen [] = true
all_new same seen (x ∷ xs) = not (seen x) && all_new same (λ y. cond (same x y) true (seen y)) xs

abbrev pub all_distinct : {X : Type 0} → (X → X → Bool) → List X → Bool
all_distinct same xs = all_new same (λ _. false) xs

-- a hash of a text
abbrev pub text_hash : List ℕ → ℕ
text_hash text = fold (λ hash byte. (hash * 1099511628211 % 2 ^ 64 + byte) % 2 ^ 64) 0 text
