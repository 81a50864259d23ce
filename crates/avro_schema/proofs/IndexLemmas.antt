-- Names that are in the index, and their ranks, for each list.
use Rattle.std.proofs.Common.{◌≡◌, ℕ, ◌+◌, ◌<◌, List, [], ◌∷◌, ◌++◌, length, map, get_or, take, drop, sym, ap, ◌∙◌, subst}
use Rattle.std.specs.Prelude.{All}
use Rattle.std.specs.List.{AllZip}
use Rattle.std.proofs.lemmas.List.{get_or-map, length-map, map-append, take_more, drop_more}
use Rattle.std.proofs.lemmas.List.Elements.{All-contains, Contains-append_left, Contains-append_right, Contains-get_or}
use Rattle.std.proofs.lemmas.Slice.Zip.{all_zipped_more}
use Rattle.avro_nodes.specs.declared.node.Field.{Field}
use Rattle.avro_nodes.specs.declared.node.Node.{Node}
use Rattle.avro_nodes.specs.Nodes.{field_view, node_view, nodes_view}
use Rattle.avro_schema.specs.Inside.NodeTexts.{field_texts, fields_texts, node_texts, nodes_texts}

-- the item at an index
pub mapped_at : {X Y : Type 0} (f : X → Y) (P : Y → Type 0) (xs : List X) (i : ℕ) (x : X) → i < length xs → x ≡ get_or xs i x → All P (map f xs) → P (f x)
mapped_at f P xs i x l e all = subst P (get_or-map f xs i x (f x) l ∙ ap f (sym e)) (all i (f x) (rw length-map l))

pub all_left : {X : Type 0} (P : X → Type 0) (xs ys : List X) → All P (xs ++ ys) → All P xs
all_left P xs ys all k d l = All-contains P (xs ++ ys) (get_or xs k d) all (Contains-append_left xs ys (get_or xs k d) (Contains-get_or xs k d l))

pub all_right : {X : Type 0} (P : X → Type 0) (xs ys : List X) → All P (xs ++ ys) → All P ys
all_right P xs ys all k d l = All-contains P (xs ++ ys) (get_or ys k d) all (Contains-append_right xs ys (get_or ys k d) (Contains-get_or ys k d l))

here : {X : Type 0} (xs : List X) (i : ℕ) (x : X) → i < length xs → x ≡ get_or xs i x → drop i xs ≡ x ∷ drop (i + 1) xs
here xs i x l e = drop_more xs i x l ∙ ap (λ y. y ∷ drop (i + 1) xs) (sym e)

module _ (P : List ℕ → Type 0) where
  -- the names of the field at an index and of all later fields
  pub fields_rest : (fields : List Field) (i : ℕ) (f : Field) → i < length fields → f ≡ get_or fields i f → All P (fields_texts (map field_view (drop i fields)))
      → All P (field_texts (field_view f)) × All P (fields_texts (map field_view (drop (i + 1) fields)))
  fields_rest fields i f l e all =
      let both = subst (λ (fs : List Field). All P (fields_texts (map field_view fs))) (here fields i f l e) all in
      (all_left P (field_texts (field_view f)) (fields_texts (map field_view (drop (i + 1) fields))) both, all_right P (field_texts (field_view f)) (fields_texts (map field_view (drop (i + 1) fields))) both)

  -- the same for nodes
  pub nodes_rest : (nodes : List Node) (i : ℕ) (a : Node) → i < length nodes → a ≡ get_or nodes i a → All P (nodes_texts (nodes_view (drop i nodes)))
      → All P (node_texts (node_view a)) × All P (nodes_texts (nodes_view (drop (i + 1) nodes)))
  nodes_rest nodes i a l e all =
      let both = subst (λ (ns : List Node). All P (nodes_texts (nodes_view ns))) (here nodes i a l e) all in
      (all_left P (node_texts (node_view a)) (nodes_texts (nodes_view (drop (i + 1) nodes))) both, all_right P (node_texts (node_view a)) (nodes_texts (nodes_view (drop (i + 1) nodes))) both)

-- two lists of equal length, each extended by one
pub zipped_more : {X A B : Type 0} (v : X → A) (R : A → B → Type 0) (xs : List X) (i : ℕ) (x : X) (ys : List B) (y : B) → i < length xs → x ≡ get_or xs i x
    → AllZip R (map v (take i xs)) ys → R (v x) y → AllZip R (map v (take (i + 1) xs)) (ys ++ y ∷ [])
zipped_more {A = A} v R xs i x ys y l e so_far now =
    let more : map v (take (i + 1) xs) ≡ map v (take i xs) ++ v x ∷ [] = ap (map v) (take_more xs i x l ∙ ap (λ z. take i xs ++ z ∷ []) (sym e)) ∙ map-append v (take i xs) (x ∷ []) in
    subst (λ (zs : List A). AllZip R zs (ys ++ y ∷ [])) (sym more) (all_zipped_more R (map v (take i xs)) ys (v x) y so_far now)
