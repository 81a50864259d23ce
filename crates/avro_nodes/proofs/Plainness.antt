-- The identity value of nodes with only integers has only integers.
use Rattle.std.proofs.Common.{◌≡◌, ℕ, List, [], ◌∷◌, Bool, true, false, Option, Some, None, refl}
use Rattle.std.specs.Prelude.{IfSome, IsTrue}
use Rattle.std.specs.List.{list_all, AllByRecursion}
use Rattle.std.proofs.lemmas.Bool.{false≢true, and_parts}
use Rattle.serde_json.specs.Data.{Num, negative, float, Data, null, boolean, string, number, unsigned, object, Items, no_items, item, Members, no_members, member, depth, items_depth, members_depth}
use Rattle.serde_json.specs.Data as json
use Rattle.serde_json.specs.Find.{is_float}
use Rattle.serde_json.specs.Written.{has_float, items_have_float, members_have_float}
use Rattle.avro_nodes.specs.Limits.{max_nesting}
use Rattle.avro_nodes.specs.Nodes.{FieldView, NodeView, primitive, array, mapping, union, enumeration, fixed, rec}
use Rattle.avro_nodes.specs.Identity.{texts, identity_value, members_pass, value_passes, field_passes, node_passes, nodes_pass}
use Rattle.avro_nodes.specs.Whole.{is_whole_number, has_whole_numbers, items_have_whole_numbers, members_have_whole_numbers}
use Rattle.avro_nodes.proofs.Carried.{AllMembers, AllItems, OfField, OfNode, all_put, spelt_is}

-- ---- values that pass a test

module _ (test : Data → Bool) where
  abbrev Passes : Data → Type 0
  Passes d = test d ≡ true

  of_members : (ms : Members) → members_pass test ms ≡ true → AllMembers Passes ms
  of_members no_members e = tt
  of_members (member k d ms) e = let h = and_parts (test d) (members_pass test ms) e in (h.0, of_members ms h.1)

  of_value : (o : Option Data) → value_passes test o ≡ true → IfSome o Passes
  of_value None e = tt
  of_value (Some d) e = e

  of_fields : (fs : List FieldView) → list_all (field_passes test) fs ≡ true → AllByRecursion (OfField Passes (AllMembers Passes)) fs
  of_fields [] e = tt
  of_fields (f ∷ fs) e =
      let h = and_parts (field_passes test f) (list_all (field_passes test) fs) e in
      let g = and_parts (value_passes test f.value) (members_pass test f.extra) h.0 in
      ((of_value f.value g.0, of_members f.extra g.1), of_fields fs h.1)

  of_node : (node : NodeView) → node_passes test node ≡ true → OfNode Passes (AllMembers Passes) node
  of_node (primitive kind extra) e = of_members extra e
  of_node (array items extra) e = of_members extra e
  of_node (mapping values extra) e = of_members extra e
  of_node (union branches) e = tt
  of_node (enumeration named symbols fallback extra) e = of_members extra e
  of_node (fixed named size extra) e = let h = and_parts (test (number (unsigned size))) (members_pass test extra) e in (h.0, of_members extra h.1)
  of_node (rec named fields extra) e =
      let h = and_parts (list_all (field_passes test) fields) (members_pass test extra) e in
      (of_fields fields h.0, of_members extra h.1)

  of_nodes : (nodes : List NodeView) → list_all (node_passes test) nodes ≡ true → AllByRecursion (OfNode Passes (AllMembers Passes)) nodes
  of_nodes [] e = tt
  of_nodes (node ∷ nodes) e = let h = and_parts (node_passes test node) (list_all (node_passes test) nodes) e in (of_node node h.0, of_nodes nodes h.1)

  nodes_are : (nodes : List NodeView) → IsTrue (nodes_pass test nodes) → AllByRecursion (OfNode Passes (AllMembers Passes)) nodes
  unfolding nodes_pass
  nodes_are nodes e = of_nodes nodes e

-- values with property E pass the test, and so do members with property F
module _ (test : Data → Bool) (E : Data → Type 0) (F : Members → Type 0) (value : (d : Data) → E d → test d ≡ true) (members : (ms : Members) → F ms → members_pass test ms ≡ true) where
  -- an optional default
  value_passing : (o : Option Data) → IfSome o E → value_passes test o ≡ true
  value_passing None h = refl
  value_passing (Some d) h = value d h

  -- fields
  fields_passing : (fs : List FieldView) → AllByRecursion (OfField E F) fs → list_all (field_passes test) fs ≡ true
  fields_passing [] h = refl
  fields_passing (f ∷ fs) h = rw (value_passing f.value h.0.0, members f.extra h.0.1) (fields_passing fs h.1)

  -- a node
  node_passing : (node : NodeView) → OfNode E F node → node_passes test node ≡ true
  node_passing (primitive kind extra) h = members extra h
  node_passing (array items extra) h = members extra h
  node_passing (mapping values extra) h = members extra h
  node_passing (union branches) h = refl
  node_passing (enumeration named symbols fallback extra) h = members extra h
  node_passing (fixed named size extra) h = rw (value (number (unsigned size)) h.0) (members extra h.1)
  node_passing (rec named fields extra) h = rw (fields_passing fields h.0) (members extra h.1)

  nodes_all : (nodes : List NodeView) → AllByRecursion (OfNode E F) nodes → list_all (node_passes test) nodes ≡ true
  nodes_all [] h = refl
  nodes_all (node ∷ nodes) h = rw (node_passing node h.0) (nodes_all nodes h.1)

  -- nodes with these properties pass the test
  pub nodes_passing : (nodes : List NodeView) → AllByRecursion (OfNode E F) nodes → IsTrue (nodes_pass test nodes)
  unfolding nodes_pass
  nodes_passing nodes h = rw (nodes_all nodes h) refl

-- ---- whole numbers

abbrev Whole : Data → Type 0
Whole d = has_whole_numbers d ≡ true

whole_members : (ms : Members) → AllMembers Whole ms → members_have_whole_numbers ms ≡ true
whole_members no_members h = refl
whole_members (member k d ms) h = rw (h.0) (whole_members ms h.1)

whole_items : (ds : Items) → AllItems Whole ds → items_have_whole_numbers ds ≡ true
whole_items no_items h = refl
whole_items (item d ds) h = rw (h.0) (whole_items ds h.1)

whole_texts : (ts : List (List ℕ)) → items_have_whole_numbers (texts ts) ≡ true
whole_texts [] = refl
whole_texts (t ∷ ts) = whole_texts ts

pub identity_is_whole : (nodes : List NodeView) → IsTrue (nodes_pass has_whole_numbers nodes) → has_whole_numbers (identity_value nodes) ≡ true
identity_is_whole nodes e =
    spelt_is Whole (AllMembers Whole) (λ _ d. Whole d) (λ _ ms. AllMembers Whole ms) (λ n d h. h) (λ n ms h. h) (λ n k d ms h g. all_put Whole k d ms h g) (λ n k d h. h) (λ n. refl) (λ n t. refl)
    (λ n ts. whole_texts ts) (λ n ds h. whole_items ds h) (λ n ms h. whole_members ms h) max_nesting nodes (nodes_are has_whole_numbers nodes e) [] 0 0

whole_not_float : (n : Num) → is_whole_number n ≡ true → is_float n ≡ false
whole_not_float (unsigned n) e = refl
whole_not_float (negative z) e = refl
whole_not_float (float x) e = absurd (false≢true e)

mutual
  pub no_float : (d : Data) → has_whole_numbers d ≡ true → has_float d ≡ false
  no_float null e = refl
  no_float (boolean b) e = refl
  no_float (number n) e = whole_not_float n e
  no_float (string s) e = refl
  no_float (json.array ds) e = no_float_items ds e
  no_float (object ms) e = no_float_members ms e

  no_float_items : (ds : Items) → items_have_whole_numbers ds ≡ true → items_have_float ds ≡ false
  no_float_items no_items e = refl
  no_float_items (item d ds) e = let h = and_parts (has_whole_numbers d) (items_have_whole_numbers ds) e in rw (no_float d h.0) (no_float_items ds h.1)

  no_float_members : (ms : Members) → members_have_whole_numbers ms ≡ true → members_have_float ms ≡ false
  no_float_members no_members e = refl
  no_float_members (member k d ms) e = let h = and_parts (has_whole_numbers d) (members_have_whole_numbers ms) e in rw (no_float d h.0) (no_float_members ms h.1)

pub identity_has_no_float : (nodes : List NodeView) → IsTrue (nodes_pass has_whole_numbers nodes) → has_float (identity_value nodes) ≡ false
identity_has_no_float nodes e = no_float (identity_value nodes) (identity_is_whole nodes e)
