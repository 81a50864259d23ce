-- The computed verdict: each rule of Resolution.antt as a test, and a search among all sets of pairs of places.
use Rattle.std.specs.Prelude.{ℕ, zero, suc, ◌==◌, Bool, true, false, ◌&&◌, ◌||◌, Option, Some, None, is_some, List, [], ◌∷◌, ◌++◌, length, slice_get, bytes_eq}
use Rattle.std.specs.List.{list_any, list_all}
use Rattle.std.specs.Set.{is_member}
use Rattle.avro_nodes.specs.declared.node.PrimitiveKind.{PrimitiveKind}
use Rattle.avro_nodes.specs.declared.node.PrimitiveKind.TheVariants.{Null, Boolean, Int, Long, Float, Double, Bytes, Text}
use Rattle.avro_nodes.specs.Nodes.{NamedView, FieldView, NodeView, primitive, array, mapping, union, enumeration, fixed, rec}
use Rattle.avro_nodes.specs.Names.{last_part}
use Rattle.avro_resolve.specs.Resolution.{Pairs, source}
use Rattle.avro_resolve.specs.Witnesses.{Pair, member}

-- whether names match (NameMatch)
abbrev pub is_name_match : NamedView → NamedView → Bool
is_name_match w r = bytes_eq (last_part w.name) (last_part r.name) || is_member bytes_eq r.aliases w.name

-- whether a primitive is read as another (Promotes)
abbrev pub may_promote : PrimitiveKind → PrimitiveKind → Bool
may_promote Null Null = true
may_promote Boolean Boolean = true
may_promote Int Int = true
may_promote Int Long = true
may_promote Int Float = true
may_promote Int Double = true
may_promote Long Long = true
may_promote Long Float = true
may_promote Long Double = true
may_promote Float Float = true
may_promote Float Double = true
may_promote Double Double = true
may_promote Bytes Bytes = true
may_promote Bytes Text = true
may_promote Text Text = true
may_promote Text Bytes = true
may_promote _ _ = false

-- whether a reader's field with this source can be read (Readable)
abbrev pub is_readable_from : Pairs → FieldView → Option FieldView → Bool
is_readable_from R f None = is_some f.value
is_readable_from R f (Some g) = R g.place f.place

-- whether the set supports the pair of these two nodes (Fits)
abbrev pub nodes_fit : Pairs → ℕ → ℕ → NodeView → NodeView → Bool
nodes_fit R i j (union branches) b = list_all (λ place. R place j) branches
nodes_fit R i j a (union branches) = list_any (λ place. R i place) branches
nodes_fit R i j (primitive k _) (primitive l _) = may_promote k l
nodes_fit R i j (array p _) (array q _) = R p q
nodes_fit R i j (mapping p _) (mapping q _) = R p q
nodes_fit R i j (enumeration n symbols _ _) (enumeration m known fallback _) = is_name_match n m && (is_some fallback || list_all (is_member bytes_eq known) symbols)
nodes_fit R i j (fixed n size _) (fixed m wanted _) = is_name_match n m && size == wanted
nodes_fit R i j (rec n fields _) (rec m wanted _) = is_name_match n m && list_all (λ f. is_readable_from R f (source fields f)) wanted
nodes_fit R i j _ _ = false

-- whether the set supports the pair of these nodes, at the places i and j; false if a node is `None`
abbrev pub both_fit : Pairs → ℕ → ℕ → Option NodeView → Option NodeView → Bool
both_fit R i j (Some a) (Some b) = nodes_fit R i j a b
both_fit R i j _ _ = false

-- whether the set supports the pair of these places (Supports)
unfoldable pub is_supported : List NodeView → List NodeView → Pairs → ℕ → ℕ → Bool
is_supported w r R i j = both_fit R i j (slice_get w i) (slice_get r j)

-- the pairs of the writer's place i with the reader's places below the number
abbrev pub row_below : ℕ → ℕ → List Pair
row_below i zero = []
row_below i (suc j) = (i, j) ∷ row_below i j

-- the pairs of the writer's places below the first number with the reader's places below the second
unfoldable pub pairs_below : ℕ → ℕ → List Pair
pairs_below zero m = []
pairs_below (suc i) m = row_below i m ++ pairs_below i m

-- whether some sublist passes the test: some of the elements, in their order
unfoldable pub any_sublist : {X : Type 0} → (List X → Bool) → List X → Bool
any_sublist test [] = test []
any_sublist test (x ∷ xs) = any_sublist (λ ys. test (x ∷ ys)) xs || any_sublist test xs

-- whether the list's pairs are a closed set that contains the pair of the roots
unfoldable pub is_closed_set : List NodeView → List NodeView → List Pair → Bool
is_closed_set w r ps = member ps 0 0 && list_all (λ p. is_supported w r (member ps) p.0 p.1) ps

-- whether the writer's schema resolves with the reader's (Resolves): a closed set has only pairs of places, so the search covers all closed sets
unfoldable pub does_resolve : List NodeView → List NodeView → Bool
does_resolve w r = any_sublist (is_closed_set w r) (pairs_below (length w) (length r))
