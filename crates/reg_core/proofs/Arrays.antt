-- Replies with JSON arrays.
use Rattle.std.proofs.Common.{◌≡◌, ℕ, ◌≤◌, false, List, [], ◌∷◌, map, length, take, refl, ap, ◌∙◌}
use Rattle.std.proofs.lemmas.List.{take_all}
use Rattle.serde_json.specs.Data.{Data, array}
use Rattle.serde_json.specs.View.{items_of}
use Rattle.serde_json.specs.Written.{compact_text, has_float, items_have_float}
use Rattle.reg_core.specs.Replies.{ReplyView, success}

no_floats : {X : Type 0} (f : X → Data) → ((x : X) → has_float (f x) ≡ false) → (xs : List X) → items_have_float (items_of (map f xs)) ≡ false
no_floats f none [] = refl
no_floats f none (x ∷ xs) = rw (none x) (no_floats f none xs)

-- the reply with the JSON array of all items
pub array_shown : {X : Type 0} (f : X → Data) → ((x : X) → has_float (f x) ≡ false) → (xs : List X) (i : ℕ) (ds : List Data) (value : Data) (reply : ReplyView) → value ≡ array (items_of ds) → ds ≡ map f (take i xs) → length xs ≤ i → (has_float value ≡ false → reply ≡ success (compact_text value)) → reply ≡ success (compact_text (array (items_of (map f xs))))
array_shown f none xs i ds value reply seen so_far end h =
    let whole : value ≡ array (items_of (map f xs)) = seen ∙ ap (λ (es : List Data). array (items_of es)) (so_far ∙ ap (map f) (take_all i xs end)) in
    h (ap has_float whole ∙ no_floats f none xs) ∙ ap (λ d. success (compact_text d)) whole
