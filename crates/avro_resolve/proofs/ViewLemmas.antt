-- Lists, and their elements as contracts see them.
use Rattle.std.proofs.Common.{◌≡◌, ℕ, zero, suc, List, [], ◌∷◌, ◌++◌, length, map, Some, refl, ap, subst}
use Rattle.std.specs.Prelude.{All, option_map, slice_get}
use Rattle.std.proofs.Math.ListN.{get_or-map}
use Rattle.std.proofs.lemmas.List.{length-map}
use Rattle.avro_nodes.specs.Nodes.{node_view, union}
use Rattle.avro_nodes.specs.declared.node.Node.{Node}
use Rattle.avro_nodes.specs.declared.node.Node.TheVariants.{Primitive, Array, Map, Union, Enum, Fixed, Rec}

pub view_got : {X Y : Type 0} (f : X → Y) (xs : List X) (k : ℕ) (x : X) → slice_get xs k ≡ Some x → slice_get (map f xs) k ≡ Some (f x)
view_got f [] k x e = absurd cc
view_got f (y ∷ ys) zero x e = ap (option_map f) e
view_got f (y ∷ ys) (suc k) x e = view_got f ys k x e

-- a property of each element's view is one of each element
pub all_of : {X Y : Type 0} (P : Y → Type 0) (f : X → Y) (xs : List X) → All P (map f xs) → All (λ x. P (f x)) xs
all_of P f xs h k d l = subst P (get_or-map f xs k d) (h k (f d) (rw length-map l))

-- the last element of a list
pub got_last : {X : Type 0} (xs : List X) (y : X) → slice_get (xs ++ y ∷ []) (length xs) ≡ Some y
got_last [] y = refl
got_last (x ∷ xs) y = got_last xs y

-- a property of two values is one of two equal values
pub both : {X Y : Type 0} (P : X → Y → Type 0) (w w2 : X) (r r2 : Y) → w ≡ w2 → r ≡ r2 → P w r → P w2 r2
both P w w2 r r2 e f h = subst (λ x. P x r2) e (subst (P w) f h)

-- only a union has a union's view
pub no_union : (n : Node) (ps : List ℕ) → ((x : _) → n ≡ Union x → ⊥) → node_view n ≡ union ps → ⊥
no_union (Union x) ps f e = f x refl
no_union (Primitive k x) ps f e = absurd cc
no_union (Array p x) ps f e = absurd cc
no_union (Map p x) ps f e = absurd cc
no_union (Enum k s o x) ps f e = absurd cc
no_union (Fixed k s x) ps f e = absurd cc
no_union (Rec k fs x) ps f e = absurd cc
