-- If arrays and objects preserve a property, and the defaults, other attributes and sizes of nodes have it, so does the whole identity
-- value.
use Rattle.std.proofs.Common.{◌≡◌, ℕ, zero, suc, ◌+◌, ◌*◌, List, [], ◌∷◌, Bool, true, false, cond, ◌==◌, Option, Some, None, Ordering, Less, Equal, Greater, subst, arith}
use Rattle.std.specs.Prelude.{codes, slice_get, option_map, IfSome}
use Rattle.std.specs.List.{AllByRecursion}
use Rattle.std.specs.Ordering.{nat_cmp, match_ordering}
use Rattle.std.specs.Cmp.Lexicographic.{slice_cmp}
use Rattle.serde_json.specs.Data.{Data, null, string, number, unsigned, object, Items, no_items, item, Members, no_members, member, put}
use Rattle.serde_json.specs.Data as json
use Rattle.avro_nodes.specs.declared.node.PrimitiveKind.{PrimitiveKind}
use Rattle.avro_nodes.specs.declared.node.Order.{Order}
use Rattle.avro_nodes.specs.declared.node.Order.TheVariants.{Ascending, Descending, Ignore}
use Rattle.avro_nodes.specs.Names.{has_dot, namespace_of}
use Rattle.avro_nodes.specs.Nodes.{NamedView, FieldView, NodeView, primitive, array, mapping, union, enumeration, fixed, rec}
use Rattle.avro_nodes.specs.Identity.{kind_text, texts, with_text, with_aliases, with_default, with_order, with_namespace, primitive_value, array_value, map_value, enum_value, fixed_value, record_value, field_value, ValueAt, Counted, branch_items, field_items, name_of, node_value, identity_at}

abbrev pub AllMembers : (Data → Type 0) → Members → Type 0
AllMembers P no_members = Unit {0}
AllMembers P (member k d ms) = P d × AllMembers P ms

abbrev pub AllItems : (Data → Type 0) → Items → Type 0
AllItems P no_items = Unit {0}
AllItems P (item d ds) = P d × AllItems P ds

-- the default has property E, and all other attributes have property F
abbrev pub OfField : (Data → Type 0) → (Members → Type 0) → FieldView → Type 0
OfField E F f = IfSome f.value E × F f.extra

-- each default and size has property E, and all other attributes have property F
abbrev pub OfNode : (Data → Type 0) → (Members → Type 0) → NodeView → Type 0
OfNode E F (primitive kind extra) = F extra
OfNode E F (array items extra) = F extra
OfNode E F (mapping values extra) = F extra
OfNode E F (union branches) = Unit {0}
OfNode E F (enumeration named symbols fallback extra) = F extra
OfNode E F (fixed named size extra) = E (number (unsigned size)) × F extra
OfNode E F (rec named fields extra) = AllByRecursion (OfField E F) fields × F extra

-- a property of each node is one of the node at any place
of_place : (P : NodeView → Type 0) (nodes : List NodeView) → AllByRecursion P nodes → (i : ℕ) → IfSome (slice_get nodes i) P
of_place P [] h i = tt
of_place P (node ∷ nodes) h zero = h.0
of_place P (node ∷ nodes) h (suc i) = of_place P nodes h.1 i

-- ---- members

module _ (P : Data → Type 0) where
  put_at : (o : Ordering) (k l : List ℕ) (d e : Data) (ms : Members) → P d → P e → AllMembers P ms → AllMembers P (put k d ms) → AllMembers P (match_ordering o (member k d (member l e ms)) (member l d ms) (member l e (put k d ms)))
  put_at Less k l d e ms p q h more = (p, (q, h))
  put_at Equal k l d e ms p q h more = (p, h)
  put_at Greater k l d e ms p q h more = (q, more)

  -- if each member and a value have the property, so have the members with the value inserted
  pub all_put : (k : List ℕ) (d : Data) (ms : Members) → P d → AllMembers P ms → AllMembers P (put k d ms)
  all_put k d no_members p h = (p, tt)
  all_put k d (member l e ms) p h = put_at (slice_cmp nat_cmp k l) k l d e ms p h.0 h.1 (all_put k d ms p h.1)

-- ---- attributes

-- members with property M keep it when a value with property P is inserted
module _ (P : Data → Type 0) (M : Members → Type 0) (puts : (k : List ℕ) (d : Data) (ms : Members) → P d → M ms → M (put k d ms)) (of_text : (t : List ℕ) → P (string t))
    (of_texts : (ts : List (List ℕ)) → P (json.array (texts ts))) where
  all_text : (k t : List ℕ) (ms : Members) → M ms → M (with_text k t ms)
  all_text k t ms h = puts k (string t) ms (of_text t) h

  all_aliases : (ts : List (List ℕ)) (ms : Members) → M ms → M (with_aliases ts ms)
  all_aliases [] ms h = h
  all_aliases (t ∷ ts) ms h = puts (codes "aliases") (json.array (texts (t ∷ ts))) ms (of_texts (t ∷ ts)) h

  all_default : (o : Option Data) (ms : Members) → IfSome o P → M ms → M (with_default o ms)
  all_default None ms v h = h
  all_default (Some d) ms v h = puts (codes "default") d ms v h

  all_order : (o : Order) (ms : Members) → M ms → M (with_order o ms)
  all_order Ascending ms h = h
  all_order Descending ms h = all_text (codes "order") (codes "descending") ms h
  all_order Ignore ms h = all_text (codes "order") (codes "ignore") ms h

  namespace_at : (dot : Bool) (ms : Members) → M ms → M (cond dot ms (with_text (codes "namespace") [] ms))
  namespace_at true ms h = h
  namespace_at false ms h = all_text (codes "namespace") [] ms h

  all_namespace : (enclosing name : List ℕ) (ms : Members) → M ms → M (with_namespace enclosing name ms)
  all_namespace [] name ms h = h
  all_namespace (c ∷ enclosing) name ms h = namespace_at (has_dot name) ms h

  fallback_is : (o : Option (List ℕ)) → IfSome (option_map string o) P
  fallback_is None = tt
  fallback_is (Some t) = of_text t

-- ---- types

-- Values and members that are n levels above a default with property E, or above other attributes with property F, have properties
-- K n and L n.
module _ (E : Data → Type 0) (F : Members → Type 0) (K : ℕ → Data → Type 0) (L : ℕ → Members → Type 0) (from : (n : ℕ) (d : Data) → E d → K n d) (extra_is : (n : ℕ) (ms : Members) → F ms → L n ms)
    (puts : (n : ℕ) (k : List ℕ) (d : Data) (ms : Members) → K n d → L n ms → L n (put k d ms)) (more : (n k : ℕ) (d : Data) → K n d → K (n + k) d) (of_null : (n : ℕ) → K n null)
    (of_text : (n : ℕ) (t : List ℕ) → K n (string t)) (of_texts : (n : ℕ) (ts : List (List ℕ)) → K n (json.array (texts ts))) (of_array : (n : ℕ) (ds : Items) → AllItems (K n) ds → K (n + 1) (json.array ds))
    (of_object : (n : ℕ) (ms : Members) → L n ms → K (n + 1) (object ms)) where
  value_is : (n : ℕ) (o : Option Data) → IfSome o E → IfSome o (K n)
  value_is n None h = tt
  value_is n (Some d) h = from n d h

  text_in : (n : ℕ) (k t : List ℕ) (ms : Members) → L n ms → L n (with_text k t ms)
  text_in n = all_text (K n) (L n) (puts n) (of_text n) (of_texts n)

  names_in : (n : ℕ) (named : NamedView) (ms : Members) → L n ms → L n (with_aliases named.aliases ms)
  names_in n named = all_aliases (K n) (L n) (puts n) (of_text n) (of_texts n) named.aliases

  space_in : (n : ℕ) (enclosing name : List ℕ) (ms : Members) → L n ms → L n (with_namespace enclosing name ms)
  space_in n = all_namespace (K n) (L n) (puts n) (of_text n) (of_texts n)

  primitive_is : (n : ℕ) (kind : PrimitiveKind) (extra : Members) → F extra → K (n + 1) (primitive_value kind extra)
  primitive_is n kind no_members h = of_text (n + 1) (kind_text kind)
  primitive_is n kind (member k d ms) h = of_object n _ (text_in n (codes "type") (kind_text kind) (member k d ms) (extra_is n (member k d ms) h))

  array_is : (n : ℕ) (items : Data) (extra : Members) → K n items → F extra → K (n + 1) (array_value items extra)
  array_is n items extra i h = of_object n _ (puts n (codes "items") items _ i (text_in n (codes "type") (codes "array") extra (extra_is n extra h)))

  map_is : (n : ℕ) (values : Data) (extra : Members) → K n values → F extra → K (n + 1) (map_value values extra)
  map_is n values extra v h = of_object n _ (text_in n (codes "type") (codes "map") _ (puts n (codes "values") values extra v (extra_is n extra h)))

  enum_is : (n : ℕ) (enclosing : List ℕ) (named : NamedView) (symbols : List (List ℕ)) (fallback : Option (List ℕ)) (extra : Members) → F extra → K (n + 1) (enum_value enclosing named symbols fallback extra)
  enum_is n enclosing named symbols fallback extra h =
      let typed = text_in n (codes "type") (codes "enum") extra (extra_is n extra h) in
      let listed = puts n (codes "symbols") (json.array (texts symbols)) _ (of_texts n symbols) typed in
      let called = text_in n (codes "name") named.name _ (space_in n enclosing named.name _ listed) in
      of_object n _ (names_in n named _ (all_default (K n) (L n) (puts n) (of_text n) (of_texts n) (option_map string fallback) _ (fallback_is (K n) (L n) (puts n) (of_text n) (of_texts n) fallback) called))

  fixed_is : (n : ℕ) (enclosing : List ℕ) (named : NamedView) (size : ℕ) (extra : Members) → E (number (unsigned size)) → F extra → K (n + 1) (fixed_value enclosing named size extra)
  fixed_is n enclosing named size extra s h =
      let typed = text_in n (codes "type") (codes "fixed") extra (extra_is n extra h) in
      let sized = puts n (codes "size") (number (unsigned size)) _ (from n (number (unsigned size)) s) typed in
      of_object n _ (names_in n named _ (text_in n (codes "name") named.name _ (space_in n enclosing named.name _ sized)))

  record_is : (n : ℕ) (enclosing : List ℕ) (named : NamedView) (fields : Items) (extra : Members) → AllItems (K n) fields → F extra → K (n + 2) (record_value enclosing named fields extra)
  record_is n enclosing named fields extra f h =
      let typed = text_in (n + 1) (codes "type") (codes "record") extra (extra_is (n + 1) extra h) in
      let called = text_in (n + 1) (codes "name") named.name _ (space_in (n + 1) enclosing named.name _ typed) in
      let two : n + 1 + 1 ≡ n + 2 = omega arith in
      let P : ℕ → Type 0 = λ m. K m (record_value enclosing named fields extra) in
      subst P two (of_object (n + 1) _ (names_in (n + 1) named _ (puts (n + 1) (codes "fields") (json.array fields) _ (of_array n fields f) called)))

  field_is : (n : ℕ) (f : FieldView) (type : Data) → K n type → OfField E F f → K (n + 1) (field_value f type)
  field_is n f type t h =
      let typed = puts n (codes "type") type f.extra t (extra_is n f.extra h.1) in
      let called = text_in n (codes "name") f.name _ (all_order (K n) (L n) (puts n) (of_text n) (of_texts n) f.order _ typed) in
      of_object n _ (all_aliases (K n) (L n) (puts n) (of_text n) (of_texts n) f.aliases _ (all_default (K n) (L n) (puts n) (of_text n) (of_texts n) f.value _ (value_is n f.value h.0) called))

  -- ---- places

  module _ (one : ValueAt) (n : ℕ) (each : (place written : ℕ) → K n (one place written).0) where
    branches_are : (ps : List ℕ) (written : ℕ) → AllItems (K n) (branch_items one ps written).0
    unfolding branch_items
    branches_are [] written = tt
    branches_are (p ∷ ps) written = (each p written, branches_are ps (one p written).1)

    fields_are : (fs : List FieldView) (written : ℕ) → AllByRecursion (OfField E F) fs → AllItems (K (n + 1)) (field_items one fs written).0
    unfolding field_items
    fields_are [] written h = tt
    fields_are (f ∷ fs) written h = (field_is n f (one f.place written).0 (each f.place written) h.0, fields_are fs (one f.place written).1 h.1)

  lifted : (n m : ℕ) (k : ℕ) (d : Data) → n + k ≡ m → K n d → K m d
  lifted n m k d e h = let P : ℕ → Type 0 = λ i. K i d in subst P e (more n k d h)

  node_is : (types : List ℕ → ValueAt) (n : ℕ) (each : (enclosing : List ℕ) (place written : ℕ) → K n (types enclosing place written).0) (enclosing : List ℕ) (written : ℕ) (o : Option NodeView) → IfSome o (OfNode E F) → K (n + 3) (node_value types enclosing written o).0
  node_is types n each enclosing written None h = of_null (n + 3)
  node_is types n each enclosing written (Some (primitive kind extra)) h = lifted (n + 1) (n + 3) 2 _ (omega arith) (primitive_is n kind extra h)
  node_is types n each enclosing written (Some (array items extra)) h = lifted (n + 1) (n + 3) 2 _ (omega arith) (array_is n _ extra (each enclosing items (written + 1)) h)
  node_is types n each enclosing written (Some (mapping values extra)) h = lifted (n + 1) (n + 3) 2 _ (omega arith) (map_is n _ extra (each enclosing values (written + 1)) h)
  node_is types n each enclosing written (Some (union branches)) h = lifted (n + 1) (n + 3) 2 _ (omega arith) (of_array n _ (branches_are (types enclosing) n (each enclosing) branches (written + 1)))
  node_is types n each enclosing written (Some (enumeration named symbols fallback extra)) h = lifted (n + 1) (n + 3) 2 _ (omega arith) (enum_is n enclosing named symbols fallback extra h)
  node_is types n each enclosing written (Some (fixed named size extra)) h = lifted (n + 1) (n + 3) 2 _ (omega arith) (fixed_is n enclosing named size extra h.0 h.1)
  node_is types n each enclosing written (Some (rec named fields extra)) h =
      lifted (n + 1 + 2) (n + 3) 0 _ (omega arith) (record_is (n + 1) enclosing named _ extra (fields_are (types (namespace_of named.name)) n (each (namespace_of named.name)) fields (written + 1) h.0) h.1)

  either_is : (b : Bool) (m : ℕ) (x y : Counted Data) → K m x.0 → K m y.0 → K m (cond b x y).0
  either_is true m x y h g = h
  either_is false m x y h g = g

  -- if each node has these properties, so has the value of the type at any place
  pub spelt_is : (n : ℕ) (nodes : List NodeView) → AllByRecursion (OfNode E F) nodes → (enclosing : List ℕ) (place written : ℕ) → K (3 * n) (identity_at n nodes enclosing place written).0
  unfolding identity_at
  spelt_is zero nodes all enclosing place written = of_null (3 * zero)
  spelt_is (suc n) nodes all enclosing place written =
      let three : 3 * n + 3 ≡ 3 * suc n = omega arith in
      let found = node_is (identity_at n nodes) (3 * n) (λ s p w. spelt_is n nodes all s p w) enclosing written (slice_get nodes place) (of_place (OfNode E F) nodes all place) in
      either_is (place == written) (3 * suc n) (node_value (identity_at n nodes) enclosing written (slice_get nodes place)) (string (name_of (slice_get nodes place)), written)
      (lifted (3 * n + 3) (3 * suc n) 0 _ (omega arith) found) (of_text (3 * suc n) (name_of (slice_get nodes place)))
