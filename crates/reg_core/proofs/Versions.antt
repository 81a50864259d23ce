-- The versions that a level compares with, and the schemas that it admits.
use Rattle.std.proofs.Common.{◌≡◌, ℕ, ◌≤◌, ◌-◌, List, [], ◌∷◌, map, length, take, drop, refl, sym, subst, ◌∙◌, arith}
use Rattle.std.specs.Prelude.{All, ◌↔◌}
use Rattle.std.proofs.lemmas.List.{take_all, length-drop, length-map}
use Rattle.std.proofs.Math.ListN.{get_or-map}
use Rattle.std.proofs.lemmas.List.Elements.{All-map}
use Rattle.avro_nodes.specs.declared.node.Node.{Node}
use Rattle.avro_nodes.specs.Nodes.{NodeView, nodes_view}
use Rattle.reg_core.specs.declared.level.Level.{Level}
use Rattle.reg_core.specs.declared.level.Level.TheVariants.{Backward, BackwardTransitive, Forward, ForwardTransitive, Full, FullTransitive, Off}
use Rattle.reg_core.specs.Compatibility.{Admits, Compatible, latest, named_versions}

latest_after : {X : Type 0} (x : X) (xs : List X) → drop (length xs) (x ∷ xs) ≡ latest (x ∷ xs)
latest_after x [] = refl
latest_after x (y ∷ ys) = latest_after y ys

latest_rest : {X : Type 0} (xs : List X) (k : ℕ) → k ≡ length xs - 1 → drop k xs ≡ latest xs
latest_rest [] k e = rw e refl
latest_rest (x ∷ xs) k e =
    let all_but_one : k ≡ length xs = omega (arith, e) in
    rw all_but_one (latest_after x xs)

-- the latest version is the slice from the last position on
pub latest_slice : {X : Type 0} (xs : List X) (k : ℕ) → k ≡ length xs - 1 → take (length xs - k) (drop k xs) ≡ latest xs
latest_slice xs k e =
    let within : length (drop k xs) ≤ length xs - k = omega (arith, length-drop k xs) in
    take_all (length xs - k) (drop k xs) within ∙ latest_rest xs k e

latest-map : {X Y : Type 0} (f : X → Y) (xs : List X) → latest (map f xs) ≡ map f (latest xs)
latest-map f [] = refl
latest-map f (x ∷ []) = refl
latest-map f (x ∷ y ∷ ys) = latest-map f (y ∷ ys)

-- `named_versions` chooses by position only, so it commutes with `map`
pub named-map : {X Y : Type 0} (f : X → Y) (level : Level) (xs : List X) → named_versions level (map f xs) ≡ map f (named_versions level xs)
named-map f Backward xs = latest-map f xs
named-map f BackwardTransitive xs = refl
named-map f Forward xs = latest-map f xs
named-map f ForwardTransitive xs = refl
named-map f Full xs = latest-map f xs
named-map f FullTransitive xs = refl
named-map f Off xs = refl

all_of : {X Y : Type 0} (P : Y → Type 0) (f : X → Y) (xs : List X) → All P (map f xs) → All (λ x. P (f x)) xs
all_of P f xs h k d l = subst P (get_or-map f xs k d) (h k (f d) (rw length-map l))

-- a level admits a schema exactly if each version that it compares with is compatible with the schema
pub admits_named : (level : Level) (earlier : List (List Node)) (new : List NodeView) → All (λ s. Compatible level (nodes_view s) new) (named_versions level earlier) ↔ Admits level (map nodes_view earlier) new
admits_named level earlier new =
    let P = λ (e : List NodeView). Compatible level e new in
    let same = named-map nodes_view level earlier in (
      (λ h. subst (All P) (sym same) (All-map P nodes_view (named_versions level earlier) h)),
      (λ h. all_of P nodes_view (named_versions level earlier) (subst (All P) same h)),
    )
