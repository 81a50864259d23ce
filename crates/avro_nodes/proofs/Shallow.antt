-- If no default and no other attribute of the nodes nests deeper than types may, the identity value nests no deeper than JSON may.
use Rattle.std.proofs.Common.{◌≡◌, ℕ, ◌+◌, ◌*◌, ◌≤◌, List, [], ◌∷◌, refl, arith}
use Rattle.std.specs.List.{AllByRecursion}
use Rattle.serde_json.specs.Data.{Data, Items, no_items, item, Members, no_members, member, depth, items_depth, members_depth}
use Rattle.avro_nodes.specs.Limits.{max_nesting}
use Rattle.avro_nodes.specs.Nodes.{NodeView}
use Rattle.avro_nodes.specs.Identity.{texts, identity_value}
use Rattle.avro_nodes.proofs.Carried.{AllMembers, AllItems, OfNode, all_put, spelt_is}

abbrev pub IsShallow : Data → Type 0
IsShallow d = depth d ≤ max_nesting

abbrev pub AreShallow : Members → Type 0
AreShallow ms = members_depth ms ≤ max_nesting

abbrev pub ShallowNodes : List NodeView → Type 0
ShallowNodes nodes = AllByRecursion (OfNode IsShallow AreShallow) nodes

-- n levels above a default or another attribute
abbrev Nests : ℕ → Data → Type 0
Nests n d = depth d ≤ n + max_nesting

-- each other attribute nests so
members_nest : (n : ℕ) (ms : Members) → AreShallow ms → AllMembers (Nests n) ms
members_nest n no_members h = tt
members_nest n (member k d ms) h = (omega arith, members_nest n ms (omega arith))

-- members nest as deep as their deepest value
nest_members : (n : ℕ) (ms : Members) → AllMembers (Nests n) ms → members_depth ms ≤ n + max_nesting
nest_members n no_members h = omega arith
nest_members n (member k d ms) h = omega (arith, h.0, nest_members n ms h.1)

-- the same for items
nest_items : (n : ℕ) (ds : Items) → AllItems (Nests n) ds → items_depth ds ≤ n + max_nesting
nest_items n no_items h = omega arith
nest_items n (item d ds) h = omega (arith, h.0, nest_items n ds h.1)

-- texts don't nest
nest_texts : (ts : List (List ℕ)) → items_depth (texts ts) ≡ 0
nest_texts [] = refl
nest_texts (t ∷ ts) = omega (arith, nest_texts ts)

-- each type adds three levels at most
pub identity_nests : (nodes : List NodeView) → ShallowNodes nodes → depth (identity_value nodes) ≤ 4 * max_nesting
identity_nests nodes h =
    spelt_is IsShallow AreShallow Nests (λ n ms. AllMembers (Nests n) ms) (λ n d h. omega (arith, h)) members_nest (λ n k d ms h g. all_put (Nests n) k d ms h g) (λ n k d h. omega (arith, h)) (λ n. omega arith)
    (λ n t. omega arith) (λ n ts. omega (arith, nest_texts ts)) (λ n ds h. omega (arith, nest_items n ds h)) (λ n ms h. omega (arith, nest_members n ms h)) max_nesting nodes h [] 0 0
