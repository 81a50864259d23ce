-- The computed check of defaults agrees with the rules.
use Rattle.std.proofs.Common.{◌≡◌, ℕ, zero, suc, ◌<◌, ◌≤◌, max, List, [], ◌∷◌, length, true, ◌==◌, ℤ, Option, Some, None, Ordering, Less, Equal, Greater, nat_cmp, refl, sym, ap, subst, ◌∙◌, true≢false, arith}
use Rattle.std.proofs.lemmas.Bool.{and_parts, and_from, eqb-true, eq-eqb}
use Rattle.std.specs.Prelude.{is_some, slice_get, IfSome}
use Rattle.std.specs.List.{AllByRecursion}
use Rattle.std.specs.Str.{chars}
use Rattle.std.proofs.lemmas.Option.{same_Some}
use Rattle.std.specs.Cmp.Lexicographic.{slice_cmp}
use Rattle.std.specs.Ordering.{match_ordering}
use Rattle.serde_json.specs.Data.{Data, null, boolean, number, string, Items, no_items, item, Members, no_members, member, depth, items_depth, members_depth}
use Rattle.serde_json.specs.Data as json
use Rattle.serde_json.specs.Find.{get_member, as_i64}
use Rattle.avro_nodes.specs.Limits.{max_nesting}
use Rattle.avro_nodes.specs.declared.node.PrimitiveKind.{PrimitiveKind}
use Rattle.avro_nodes.specs.declared.node.PrimitiveKind.TheVariants.{Null, Boolean, Int, Long, Float, Double, Bytes, Text}
use Rattle.avro_nodes.specs.Nodes.{FieldView, NodeView, primitive, array, mapping, union, enumeration, fixed, rec}
use Rattle.avro_nodes.proofs.Carried.{OfField}
use Rattle.avro_nodes.proofs.Shallow.{IsShallow, AreShallow, ShallowNodes}
use Rattle.avro_schema.specs.Inside.Fitting.{integer_fits, primitive_fits, items_fit, members_fit, field_fits_by, fields_fit, node_fits, default_type, fits, value_fits, field_defaults_fit, node_defaults_fit}
use Rattle.avro_schema.specs.Defaults.{is_int, is_bytes, FitsDefault, fits_type, fits_union, FitsNode, fits_null, fits_boolean, fits_int, fits_long, fits_float, fits_double, fits_bytes, fits_string, fits_enum, fits_fixed, fits_array, fits_map, fits_record}
use Rattle.avro_schema.specs.Defaults.{ItemsFit, no_item_left, item_fits, MembersFit, no_member_left, member_fits, FieldsFit, no_field_left, field_fits, field_missing, ValueFits, FieldDefaultsFit, NodeDefaultsFit}

found_at : (o : Ordering) (d e : Data) (ms : Members) (rest : Option Data) → ((x : Data) → rest ≡ Some x → depth x ≤ members_depth ms) → match_ordering o rest (Some e) rest ≡ Some d → depth d ≤ max (depth e) (members_depth ms)
found_at Less d e ms rest later is = omega (arith, later d is)
found_at Equal d e ms rest later is = subst (λ (x : Data). depth x ≤ max (depth e) (members_depth ms)) (same_Some _ _ is) (omega arith)
found_at Greater d e ms rest later is = omega (arith, later d is)

-- a member nests no deeper than the members
pub member_depth : (k : List ℕ) (ms : Members) (d : Data) → get_member k ms ≡ Some d → depth d ≤ members_depth ms
member_depth k no_members d e = absurd cc
member_depth k (member l x ms) d e = found_at (slice_cmp nat_cmp k l) d x ms (get_member k ms) (λ y is. member_depth k ms y is) e

-- ---- from the rules

module _ (nodes : List NodeView) where
  mutual
    unfolding fits

    pub fits_computes : {v : Data} {place : ℕ} → FitsDefault nodes v place → (n : ℕ) → depth v < n → fits n nodes v place ≡ true
    fits_computes f zero h = absurd (omega arith)
    fits_computes (fits_type e f) (suc n) h = let found = node_computes f n (omega arith) in rw (e, found.0) found.1
    fits_computes (fits_union e g f) (suc n) h = rw (e, g) (node_computes f n (omega arith)).1

    node_computes : {v : Data} {node : NodeView} → FitsNode nodes v node → (n : ℕ) → depth v ≤ n → (default_type nodes (Some node) ≡ Some node) × (node_fits (fits n nodes) v (Some node) ≡ true)
    node_computes fits_null n h = (refl, refl)
    node_computes fits_boolean n h = (refl, refl)
    node_computes (fits_int e i) n h = (refl, rw e i)
    node_computes (fits_long e) n h = (refl, rw e refl)
    node_computes (fits_float e) n h = (refl, rw e refl)
    node_computes (fits_double e) n h = (refl, rw e refl)
    node_computes (fits_bytes b) n h = (refl, b)
    node_computes fits_string n h = (refl, refl)
    node_computes fits_enum n h = (refl, refl)
    node_computes (fits_fixed {s = s} b) n h = (refl, and_from (is_bytes s) (length (chars s) == length (chars s)) b (eq-eqb (length (chars s)) (length (chars s)) refl))
    node_computes (fits_array f) n h = (refl, items_compute f n (omega arith))
    node_computes (fits_map f) n h = (refl, members_compute f n (omega arith))
    node_computes (fits_record f) n h = (refl, fields_compute f n (omega arith))

    items_compute : {ds : Items} {place : ℕ} → ItemsFit nodes ds place → (n : ℕ) → items_depth ds < n → items_fit (fits n nodes) ds place ≡ true
    items_compute no_item_left n h = refl
    items_compute (item_fits {d = d} {ds = ds} {place = place} f more) n h = and_from (fits n nodes d place) (items_fit (fits n nodes) ds place) (fits_computes f n (omega arith)) (items_compute more n (omega arith))

    members_compute : {ms : Members} {place : ℕ} → MembersFit nodes ms place → (n : ℕ) → members_depth ms < n → members_fit (fits n nodes) ms place ≡ true
    members_compute no_member_left n h = refl
    members_compute (member_fits {d = d} {ms = ms} {place = place} f more) n h = and_from (fits n nodes d place) (members_fit (fits n nodes) ms place) (fits_computes f n (omega arith)) (members_compute more n (omega arith))

    fields_compute : {ms : Members} {fields : List FieldView} → FieldsFit nodes ms fields → (n : ℕ) → members_depth ms < n → fields_fit (fits n nodes) ms fields ≡ true
    fields_compute no_field_left n h = refl
    fields_compute (field_fits {ms = ms} {f = f} {fields = fields} {d = d} e g more) n h =
        rw e (and_from (fits n nodes d f.place) (fields_fit (fits n nodes) ms fields) (fits_computes g n (omega (arith, member_depth f.name ms d e))) (fields_compute more n h))
    fields_compute (field_missing e g more) n h = rw (e, g) (fields_compute more n h)

-- ---- to the rules

module _ (nodes : List NodeView) where
  int_says : (n : json.Num) (o : Option ℤ) (extra : Members) → as_i64 n ≡ o → integer_fits is_int o ≡ true → FitsNode nodes (number n) (primitive Int extra)
  int_says n None extra e h = absurd (true≢false (sym h))
  int_says n (Some z) extra e h = fits_int e h

  number_there : (n : json.Num) (o : Option ℤ) → as_i64 n ≡ o → is_some o ≡ true → (z : ℤ) × (as_i64 n ≡ Some z)
  number_there n None e h = absurd (true≢false (sym h))
  number_there n (Some z) e h = (z, e)

  primitive_says : (v : Data) (kind : PrimitiveKind) (extra : Members) → primitive_fits v kind ≡ true → FitsNode nodes v (primitive kind extra)
  primitive_says null Null extra h = fits_null
  primitive_says (boolean b) Boolean extra h = fits_boolean
  primitive_says (number n) Int extra h = int_says n (as_i64 n) extra refl h
  primitive_says (number n) Long extra h = fits_long (number_there n (as_i64 n) refl h).1
  primitive_says (number n) Float extra h = fits_float (number_there n (as_i64 n) refl h).1
  primitive_says (number n) Double extra h = fits_double (number_there n (as_i64 n) refl h).1
  primitive_says (string s) Bytes extra h = fits_bytes h
  primitive_says (string s) Text extra h = fits_string
  primitive_says v kind extra h = absurd (true≢false (sym h))

  module _ (n : ℕ) (says : (v : Data) (place : ℕ) → fits n nodes v place ≡ true → FitsDefault nodes v place) where
    items_say : (ds : Items) (place : ℕ) → items_fit (fits n nodes) ds place ≡ true → ItemsFit nodes ds place
    items_say no_items place h = no_item_left
    items_say (item d ds) place h = item_fits (says d place (and_parts (fits n nodes d place) (items_fit (fits n nodes) ds place) h).0) (items_say ds place (and_parts (fits n nodes d place) (items_fit (fits n nodes) ds place) h).1)

    members_say : (ms : Members) (place : ℕ) → members_fit (fits n nodes) ms place ≡ true → MembersFit nodes ms place
    members_say no_members place h = no_member_left
    members_say (member k d ms) place h =
        member_fits (says d place (and_parts (fits n nodes d place) (members_fit (fits n nodes) ms place) h).0) (members_say ms place (and_parts (fits n nodes d place) (members_fit (fits n nodes) ms place) h).1)

    field_says : (o v : Option Data) (ms : Members) (f : FieldView) (fields : List FieldView) → get_member f.name ms ≡ o → f.value ≡ v → field_fits_by (fits n nodes) f o ≡ true → FieldsFit nodes ms fields → FieldsFit nodes ms (f ∷ fields)
    field_says (Some d) v ms f fields e g h more = field_fits e (says d f.place h) more
    field_says None (Some d) ms f fields e g h more = field_missing e g more
    field_says None None ms f fields e g h more = absurd (true≢false (sym h ∙ ap (λ (x : Option Data). is_some x) g))

    fields_say : (ms : Members) (fields : List FieldView) → fields_fit (fits n nodes) ms fields ≡ true → FieldsFit nodes ms fields
    fields_say ms [] h = no_field_left
    fields_say ms (f ∷ fields) h =
        let here = (and_parts (field_fits_by (fits n nodes) f (get_member f.name ms)) (fields_fit (fits n nodes) ms fields) h).0 in
        let rest = (and_parts (field_fits_by (fits n nodes) f (get_member f.name ms)) (fields_fit (fits n nodes) ms fields) h).1 in
        field_says (get_member f.name ms) f.value ms f fields refl refl here (fields_say ms fields rest)

    node_says : (v : Data) (node : NodeView) → node_fits (fits n nodes) v (Some node) ≡ true → FitsNode nodes v node
    node_says v (primitive kind extra) h = primitive_says v kind extra h
    node_says (json.array ds) (array place extra) h = fits_array (items_say ds place h)
    node_says (json.object ms) (mapping place extra) h = fits_map (members_say ms place h)
    node_says (string s) (enumeration named symbols fallback extra) h = fits_enum
    node_says (string s) (fixed named size extra) h =
        subst (λ (x : ℕ). FitsNode nodes (string s) (fixed named x extra)) (eqb-true (length (chars s)) size (and_parts (is_bytes s) (length (chars s) == size) h).1) (fits_fixed (and_parts (is_bytes s) (length (chars s) == size) h).0)
    node_says (json.object ms) (rec named fields extra) h = fits_record (fields_say ms fields h)
    node_says v node h = absurd (true≢false (sym h))

    first_says : (o : Option NodeView) (v : Data) (place first : ℕ) (others : List ℕ) → slice_get nodes place ≡ Some (union (first ∷ others)) → slice_get nodes first ≡ o → node_fits (fits n nodes) v o ≡ true → FitsDefault nodes v place
    first_says None v place first others e f h = absurd (true≢false (sym h))
    first_says (Some node) v place first others e f h = fits_union e f (node_says v node h)

    place_says : (o : Option NodeView) (v : Data) (place : ℕ) → slice_get nodes place ≡ o → node_fits (fits n nodes) v (default_type nodes o) ≡ true → FitsDefault nodes v place
    place_says None v place e h = absurd (true≢false (sym h))
    place_says (Some (primitive kind extra)) v place e h = fits_type e (node_says v (primitive kind extra) h)
    place_says (Some (array items extra)) v place e h = fits_type e (node_says v (array items extra) h)
    place_says (Some (mapping values extra)) v place e h = fits_type e (node_says v (mapping values extra) h)
    place_says (Some (union [])) v place e h = absurd (true≢false (sym h))
    place_says (Some (union (first ∷ others))) v place e h = first_says (slice_get nodes first) v place first others e refl h
    place_says (Some (enumeration named symbols fallback extra)) v place e h = fits_type e (node_says v (enumeration named symbols fallback extra) h)
    place_says (Some (fixed named size extra)) v place e h = fits_type e (node_says v (fixed named size extra) h)
    place_says (Some (rec named fields extra)) v place e h = fits_type e (node_says v (rec named fields extra) h)

  pub fits_says : (n : ℕ) (v : Data) (place : ℕ) → fits n nodes v place ≡ true → FitsDefault nodes v place
  unfolding fits
  fits_says zero v place h = absurd (true≢false (sym h))
  fits_says (suc n) v place h = place_says n (λ w q k. fits_says n w q k) (slice_get nodes place) v place refl h

  -- ---- all defaults

  value_says : (o : Option Data) (place : ℕ) → value_fits nodes o place ≡ true → ValueFits nodes o place
  value_says None place h = tt
  value_says (Some v) place h = fits_says (suc max_nesting) v place h

  value_computes : (o : Option Data) (place : ℕ) → ValueFits nodes o place → IfSome o IsShallow → value_fits nodes o place ≡ true
  value_computes None place f h = refl
  value_computes (Some v) place f h = fits_computes nodes f (suc max_nesting) (omega (arith, h))

  fields_say_all : (fields : List FieldView) → field_defaults_fit nodes fields ≡ true → FieldDefaultsFit nodes fields
  fields_say_all [] h = tt
  fields_say_all (f ∷ fields) h = (
    value_says f.value f.place (and_parts (value_fits nodes f.value f.place) (field_defaults_fit nodes fields) h).0,
    fields_say_all fields (and_parts (value_fits nodes f.value f.place) (field_defaults_fit nodes fields) h).1,
  )

  fields_compute_all : (fields : List FieldView) → FieldDefaultsFit nodes fields → AllByRecursion (OfField IsShallow AreShallow) fields → field_defaults_fit nodes fields ≡ true
  fields_compute_all [] f h = refl
  fields_compute_all (g ∷ fields) f h = and_from (value_fits nodes g.value g.place) (field_defaults_fit nodes fields) (value_computes g.value g.place f.0 h.0.0) (fields_compute_all fields f.1 h.1)

  pub defaults_say : (more : List NodeView) → node_defaults_fit nodes more ≡ true → NodeDefaultsFit nodes more
  defaults_say [] h = tt
  defaults_say (primitive kind extra ∷ more) h = defaults_say more h
  defaults_say (array place extra ∷ more) h = defaults_say more h
  defaults_say (mapping place extra ∷ more) h = defaults_say more h
  defaults_say (union branches ∷ more) h = defaults_say more h
  defaults_say (enumeration named symbols fallback extra ∷ more) h = defaults_say more h
  defaults_say (fixed named size extra ∷ more) h = defaults_say more h
  defaults_say (rec named fields extra ∷ more) h =
      (fields_say_all fields (and_parts (field_defaults_fit nodes fields) (node_defaults_fit nodes more) h).0, defaults_say more (and_parts (field_defaults_fit nodes fields) (node_defaults_fit nodes more) h).1)

  pub defaults_compute : (more : List NodeView) → NodeDefaultsFit nodes more → ShallowNodes more → node_defaults_fit nodes more ≡ true
  defaults_compute [] f h = refl
  defaults_compute (primitive kind extra ∷ more) f h = defaults_compute more f h.1
  defaults_compute (array place extra ∷ more) f h = defaults_compute more f h.1
  defaults_compute (mapping place extra ∷ more) f h = defaults_compute more f h.1
  defaults_compute (union branches ∷ more) f h = defaults_compute more f h.1
  defaults_compute (enumeration named symbols fallback extra ∷ more) f h = defaults_compute more f h.1
  defaults_compute (fixed named size extra ∷ more) f h = defaults_compute more f h.1
  defaults_compute (rec named fields extra ∷ more) f h = and_from (field_defaults_fit nodes fields) (node_defaults_fit nodes more) (fields_compute_all fields f.0 h.0.0) (defaults_compute more f.1 h.1)
