-- The value written for a type reads as the same type.
use Rattle.std.proofs.Common.{◌≡◌, ℕ, suc, ◌+◌, ◌<◌, ◌≤◌, List, [], ◌∷◌, ◌++◌, length, map, Bool, true, false, Option, Some, None, codes, bytes_eq, refl, sym, ap, subst, ◌∙◌, append_assoc, append-nil, length-append, arith}
use Rattle.std.specs.Prelude.{slice_get}
use Rattle.std.proofs.lemmas.Map.{update_same, update_other}
use Rattle.std.proofs.lemmas.Option.{same_Some}
use Rattle.serde_json.specs.Data.{Data, string, Items, no_items, item, Members, no_members, member}
use Rattle.serde_json.specs.Data as json
use Rattle.serde_json.specs.Find.{get_member}
use Rattle.avro_nodes.specs.Limits.{max_nesting, max_places}
use Rattle.avro_nodes.specs.declared.node.PrimitiveKind.{PrimitiveKind}
use Rattle.avro_nodes.specs.Names.{namespace_of}
use Rattle.avro_nodes.specs.Nodes.{NamedView, FieldView, NodeView, primitive, array, mapping, union, enumeration, fixed, rec}
use Rattle.avro_nodes.specs.Identity.{primitive_value, array_value, map_value, enum_value, fixed_value, record_value, field_value, kind_text, Counted, then_items, branch_items, field_items, name_of, node_value, identity_at, identity, identity_value}
use Rattle.avro_nodes.proofs.Lengths.{data_size, items_size, text_long}
use Rattle.avro_nodes.proofs.Spelling.{at_suc, again_suc}
use Rattle.avro_schema.specs.declared.keywords.TypeKind.TheVariants as type_kind
use Rattle.avro_schema.specs.Names.{Known, none_known, is_namespace, defined, resolved}
use Rattle.avro_schema.specs.Keywords.{kind_of, type_kind_of, kind_or_other}
use Rattle.avro_schema.specs.Attributes.{size_of}
use Rattle.avro_schema.specs.Inside.Weight.{names_size}
use Rattle.avro_schema.specs.Inside.Mentions.{mention, places_mentions, fields_mentions, mentions}
use Rattle.avro_schema.specs.Kinds.{BranchKind, branch_kind}
use Rattle.avro_schema.specs.Denotes.{IsExtra, IsNamed, IsEnum, IsField, Denotes, a_primitive, a_reference, primitive_type, reference_type, array_type, map_type, fixed_type, enum_type, record_type, union_type}
use Rattle.avro_schema.specs.Denotes.{Branches, no_branch, branch, Fields, no_field, field, array_keys, map_keys, fixed_keys, enum_keys, record_keys, AllDiffer}
use Rattle.avro_schema.proofs.Inversion.{same_bytes}
use Rattle.avro_schema.proofs.RoundNames.{kind_again, refers, good_namespace}
use Rattle.avro_schema.proofs.RoundDeclarations.{good_named, primitive_says, primitive_others, array_says, array_items, array_others, map_says, map_values, map_others, fixed_says, fixed_name, fixed_size, fixed_others, size_again, enum_says, enum_name, enum_again, enum_others, record_says, record_name, record_fields, record_others, field_type, field_again}
use Rattle.avro_schema.proofs.RoundDeclarations.{array_members, map_members, fixed_members, fixed_titled, fixed_listed, enum_members, enum_titled, enum_listed, record_members, record_titled, record_listed, record_held, field_members}
use Rattle.avro_schema.proofs.Sizes.{one_found, named_found, record_found, names_append, mentions_append}

-- the known names are those of definitions at earlier places
pub record Knows (all : List NodeView) (first : ℕ) (known : Known) : Type 0 where
  pub at : (name : List ℕ) (q : ℕ) → known name ≡ Some q → (q < first) × (name_of (slice_get all q) ≡ name)

-- the value written for a place reads as the same place, nodes and names
pub record Trip (n : ℕ) (all : List NodeView) (space : List ℕ) (known : Known) (first place : ℕ) (nodes : List NodeView) (known2 : Known) : Type 0 where
  pub value : Data
  pub spelt : identity_at n all space place first ≡ (value, first + length nodes)
  pub again : Denotes n space value known first place nodes known2
  pub knows : Knows all (first + length nodes) known2
  pub within : place ≤ first
  pub bound : names_size nodes ≤ data_size value
  pub mentioned : mention all place + mentions all nodes ≤ data_size value

pub record BranchesTrip (n : ℕ) (all : List NodeView) (space : List ℕ) (known : Known) (first : ℕ) (branches : List (ℕ × BranchKind)) (nodes : List NodeView) (known2 : Known) : Type 0 where
  pub value : Items
  pub spelt : branch_items (identity_at n all space) (map (λ b. b.0) branches) first ≡ (value, first + length nodes)
  pub again : Branches n space value known first branches nodes known2
  pub knows : Knows all (first + length nodes) known2
  pub bound : names_size nodes ≤ items_size value
  pub mentioned : places_mentions all (map (λ b. b.0) branches) + mentions all nodes ≤ items_size value

pub record FieldsTrip (n : ℕ) (all : List NodeView) (space : List ℕ) (known : Known) (first : ℕ) (fields : List FieldView) (nodes : List NodeView) (known2 : Known) : Type 0 where
  pub value : Items
  pub spelt : field_items (identity_at n all space) fields first ≡ (value, first + length nodes)
  pub again : Fields n space value known first fields nodes known2
  pub knows : Knows all (first + length nodes) known2
  pub bound : names_size nodes ≤ items_size value
  pub mentioned : fields_mentions all fields + mentions all nodes ≤ items_size value

-- ---- known names

later : (all : List NodeView) (first more : ℕ) (known : Known) → Knows all first known → Knows all (first + more) known
later all first more known k = record { at = λ name q e. let h = k.at name q e in (omega arith, h.1) }

defined_at : (all : List NodeView) (first : ℕ) (known : Known) (full name : List ℕ) (q : ℕ) (same : Bool) → bytes_eq full name ≡ same → Knows all first known → name_of (slice_get all first) ≡ full → defined known full first name ≡ Some q
    → (q < first + 1) × (name_of (slice_get all q) ≡ name)
defined_at all first known full name q true is k here e =
    let place : first ≡ q = same_Some _ _ (sym (update_same bytes_eq known full (Some first) name is) ∙ e) in
    (omega arith, ap (λ (i : ℕ). name_of (slice_get all i)) (sym place) ∙ here ∙ same_bytes full name is)
defined_at all first known full name q false is k here e =
    let h = k.at name q (sym (update_other bytes_eq known full (Some first) name is) ∙ e) in
    (omega arith, h.1)

knows_more : (all : List NodeView) (first : ℕ) (known : Known) (full : List ℕ) → Knows all first known → name_of (slice_get all first) ≡ full → Knows all (first + 1) (defined known full first)
knows_more all first known full k here = record { at = λ name q e. defined_at all first known full name q (bytes_eq full name) refl k here e }

-- ---- places

here : (before rest : List NodeView) (node : NodeView) → slice_get (before ++ node ∷ rest) (length before) ≡ Some node
here [] rest node = refl
here (x ∷ before) rest node = here before rest node

at_first : (all before rest : List NodeView) (node : NodeView) (first : ℕ) → all ≡ before ++ node ∷ rest → first ≡ length before → slice_get all first ≡ Some node
at_first all before rest node first e f = rw (e, f) (here before rest node)

one_on : (before rest : List NodeView) (node : NodeView) (all : List NodeView) → all ≡ before ++ node ∷ rest → all ≡ (before ++ node ∷ []) ++ rest
one_on before rest node all e = e ∙ sym (append_assoc before (node ∷ []) rest)

longer : (before : List NodeView) (node : NodeView) (first : ℕ) → first ≡ length before → first + 1 ≡ length (before ++ node ∷ [])
longer before node first e = omega (arith, e, length-append before (node ∷ []))

mention_is : (all : List NodeView) (place : ℕ) → mention all place ≡ length (name_of (slice_get all place))
unfolding mention
mention_is all place = refl

-- ---- the forms

module _ (m : ℕ) (all before after : List NodeView) (space : List ℕ) (known : Known) (first : ℕ) (first_is : first ≡ length before) (k : Knows all first known) where
  -- the first use of a node, which is written in full
  first_time : (node : NodeView) (rest : List NodeView) → all ≡ before ++ node ∷ rest → identity_at (suc m) all space first first ≡ node_value (identity_at m all) space first (Some node)
  first_time node rest all_is = at_suc (suc m) all space first first m refl ∙ ap (node_value (identity_at m all) space first) (at_first all before rest node first all_is first_is)

  named_at : (node : NodeView) (rest : List NodeView) → all ≡ before ++ node ∷ rest → mention all first ≡ length (name_of (Some node))
  named_at node rest all_is = mention_is all first ∙ ap (λ (o : Option NodeView). length (name_of o)) (at_first all before rest node first all_is first_is)

  plain_trip : (kind : PrimitiveKind) → first < max_places → all ≡ before ++ primitive kind no_members ∷ after → Trip (suc m) all space known first first (primitive kind no_members ∷ []) known
  plain_trip kind room all_is = record {
    value = string (kind_text kind);
    spelt = first_time (primitive kind no_members) after all_is;
    again = a_primitive (kind_again kind) room;
    knows = later all first 1 known k;
    within = omega arith;
    bound = omega arith;
    mentioned = omega (arith, named_at (primitive kind no_members) after all_is);
  }

  primitive_trip : (kind : PrimitiveKind) (ms extra : Members) → IsExtra (codes "type" ∷ []) ms extra → first < max_places → all ≡ before ++ primitive kind extra ∷ after → Trip (suc m) all space known first first (primitive kind extra ∷ []) known
  primitive_trip kind ms no_members o room all_is = plain_trip kind room all_is
  primitive_trip kind ms (member l d extra) o room all_is = record {
    value = primitive_value kind (member l d extra);
    spelt = first_time (primitive kind (member l d extra)) after all_is;
    again = primitive_type (primitive_says kind (member l d extra)) (primitive_others kind ms (member l d extra) o) room;
    knows = later all first 1 known k;
    within = omega arith;
    bound = omega arith;
    mentioned = omega (arith, named_at (primitive kind (member l d extra)) after all_is);
  }

  reference_trip : (name : List ℕ) (place : ℕ) → kind_of name ≡ None → resolved known space name ≡ Some place → Trip (suc m) all space known first place [] known
  reference_trip name place kind found =
      let r = refers known space name place kind found in
      let at = k.at r.full place r.defined in
      let below : place ≡ first → ⊥ = λ e. omega (arith, at.0, e) in
      let same : first ≡ first + 0 = omega arith in
      record {
        value = string r.full;
        spelt = again_suc (suc m) all space place first m below ∙ ap (λ (s : List ℕ). (string s, first)) at.1 ∙ ap (λ (w : ℕ). (string r.full, w)) same;
        again = a_reference r.no_kind r.again;
        knows = later all first 0 known k;
        within = omega (arith, at.0);
        bound = omega arith;
        mentioned = omega (arith, mention_is all place, ap length at.1);
      }

  array_trip : (ms extra : Members) (place : ℕ) (nodes : List NodeView) (known2 : Known) → IsExtra array_keys ms extra → first < max_places → Trip m all space known (first + 1) place nodes known2
      → all ≡ before ++ array place extra ∷ (nodes ++ after) → Trip (suc m) all space known first first (array place extra ∷ nodes) known2
  array_trip ms extra place nodes known2 o room t all_is =
      let sum : first + 1 + length nodes ≡ first + suc (length nodes) = omega arith in
      record {
        value = array_value t.value extra;
        spelt = first_time (array place extra) (nodes ++ after) all_is ∙ ap (λ (x : Counted Data). (array_value x.0 extra, x.1)) t.spelt ∙ ap (λ (w : ℕ). (array_value t.value extra, w)) sum;
        again = array_type (array_says t.value extra) (array_items t.value extra) (array_others t.value ms extra o) room t.again;
        knows = subst (λ (w : ℕ). Knows all w known2) sum t.knows;
        within = omega arith;
        bound = omega (arith, t.bound, one_found (codes "items") t.value (array_members t.value extra) (array_items t.value extra));
        mentioned = omega (arith, t.mentioned, named_at (array place extra) (nodes ++ after) all_is, one_found (codes "items") t.value (array_members t.value extra) (array_items t.value extra));
      }

  map_trip : (ms extra : Members) (place : ℕ) (nodes : List NodeView) (known2 : Known) → IsExtra map_keys ms extra → first < max_places → Trip m all space known (first + 1) place nodes known2
      → all ≡ before ++ mapping place extra ∷ (nodes ++ after) → Trip (suc m) all space known first first (mapping place extra ∷ nodes) known2
  map_trip ms extra place nodes known2 o room t all_is =
      let sum : first + 1 + length nodes ≡ first + suc (length nodes) = omega arith in
      record {
        value = map_value t.value extra;
        spelt = first_time (mapping place extra) (nodes ++ after) all_is ∙ ap (λ (x : Counted Data). (map_value x.0 extra, x.1)) t.spelt ∙ ap (λ (w : ℕ). (map_value t.value extra, w)) sum;
        again = map_type (map_says t.value extra) (map_values t.value extra) (map_others t.value ms extra o) room t.again;
        knows = subst (λ (w : ℕ). Knows all w known2) sum t.knows;
        within = omega arith;
        bound = omega (arith, t.bound, one_found (codes "values") t.value (map_members t.value extra) (map_values t.value extra));
        mentioned = omega (arith, t.mentioned, named_at (mapping place extra) (nodes ++ after) all_is, one_found (codes "values") t.value (map_members t.value extra) (map_values t.value extra));
      }

  union_trip : (branches : List (ℕ × BranchKind)) (nodes : List NodeView) (known2 : Known) → first < max_places → AllDiffer (map (λ b. b.1) branches) → BranchesTrip m all space known (first + 1) branches nodes known2
      → all ≡ before ++ union (map (λ b. b.0) branches) ∷ (nodes ++ after) → Trip (suc m) all space known first first (union (map (λ b. b.0) branches) ∷ nodes) known2
  union_trip branches nodes known2 room d t all_is =
      let sum : first + 1 + length nodes ≡ first + suc (length nodes) = omega arith in
      record {
        value = json.array t.value;
        spelt = first_time (union (map (λ b. b.0) branches)) (nodes ++ after) all_is ∙ ap (λ (x : Counted Items). (json.array x.0, x.1)) t.spelt ∙ ap (λ (w : ℕ). (json.array t.value, w)) sum;
        again = union_type room t.again d;
        knows = subst (λ (w : ℕ). Knows all w known2) sum t.knows;
        within = omega arith;
        bound = omega (arith, t.bound);
        mentioned = omega (arith, t.mentioned, named_at (union (map (λ b. b.0) branches)) (nodes ++ after) all_is);
      }

  module _ (good : is_namespace space ≡ true) where
    fixed_trip : (ms extra : Members) (named : NamedView) (size : ℕ) → IsNamed space ms known named → size_of (get_member (codes "size") ms) ≡ Some size → IsExtra fixed_keys ms extra → first < max_places
        → all ≡ before ++ fixed named size extra ∷ after → Trip (suc m) all space known first first (fixed named size extra ∷ []) (defined known named.name first)
    fixed_trip ms extra named size n z o room all_is =
        let held = named_found named (fixed_members space known named size ms extra good n o) (fixed_titled space known named size ms extra good n o) (fixed_listed space known named size ms extra good n o) in
        record {
          value = fixed_value space named size extra;
          spelt = first_time (fixed named size extra) after all_is;
          again = fixed_type (fixed_says space known named size ms extra good n o) (fixed_name space known named size ms extra good n o)
              (ap size_of (fixed_size space known named size ms extra good n o) ∙ size_again (get_member (codes "size") ms) size z) (fixed_others space known named size ms extra good n o) room;
          knows = knows_more all first known named.name k (ap name_of (at_first all before after (fixed named size extra) first all_is first_is));
          within = omega arith;
          bound = omega (arith, held);
          mentioned = omega (arith, named_at (fixed named size extra) after all_is, held);
        }

    enum_trip : (ms extra : Members) (named : NamedView) (symbols : List (List ℕ)) (fallback : Option (List ℕ)) → IsNamed space ms known named → IsEnum ms symbols fallback → IsExtra enum_keys ms extra → first < max_places
        → all ≡ before ++ enumeration named symbols fallback extra ∷ after → Trip (suc m) all space known first first (enumeration named symbols fallback extra ∷ []) (defined known named.name first)
    enum_trip ms extra named symbols fallback n e o room all_is =
        let held = named_found named (enum_members space known named symbols fallback ms extra good n o) (enum_titled space known named symbols fallback ms extra good n o) (enum_listed space known named symbols fallback ms extra good n o) in
        record {
          value = enum_value space named symbols fallback extra;
          spelt = first_time (enumeration named symbols fallback extra) after all_is;
          again = enum_type (enum_says space known named symbols fallback ms extra good n o) (enum_name space known named symbols fallback ms extra good n o)
              (enum_again space known named symbols fallback ms extra good n o e) (enum_others space known named symbols fallback ms extra good n o) room;
          knows = knows_more all first known named.name k (ap name_of (at_first all before after (enumeration named symbols fallback extra) first all_is first_is));
          within = omega arith;
          bound = omega (arith, held);
          mentioned = omega (arith, named_at (enumeration named symbols fallback extra) after all_is, held);
        }

    record_trip : (ms extra : Members) (named : NamedView) (fields : List FieldView) (nodes : List NodeView) (known2 : Known) → IsNamed space ms known named → IsExtra record_keys ms extra → first < max_places → AllDiffer (map (λ f. f.name) fields)
        → FieldsTrip m all (namespace_of named.name) (defined known named.name first) (first + 1) fields nodes known2
        → all ≡ before ++ rec named fields extra ∷ (nodes ++ after) → Trip (suc m) all space known first first (rec named fields extra ∷ nodes) known2
    record_trip ms extra named fields nodes known2 n o room d t all_is =
        let sum : first + 1 + length nodes ≡ first + suc (length nodes) = omega arith in
        let held = record_found named (record_members space known named t.value ms extra good n o) (record_titled space known named t.value ms extra good n o) (record_listed space known named t.value ms extra good n o) t.value (record_held space known named t.value ms extra good n o) in
        record {
          value = record_value space named t.value extra;
          spelt = first_time (rec named fields extra) (nodes ++ after) all_is ∙ ap (λ (x : Counted Items). (record_value space named x.0 extra, x.1)) t.spelt ∙ ap (λ (w : ℕ). (record_value space named t.value extra, w)) sum;
          again = record_type (record_says space known named t.value ms extra good n o) (record_name space known named t.value ms extra good n o) (record_fields space known named t.value ms extra good n o)
              (record_others space known named t.value ms extra good n o) room t.again d;
          knows = subst (λ (w : ℕ). Knows all w known2) sum t.knows;
          within = omega arith;
          bound = omega (arith, t.bound, held);
          mentioned = omega (arith, t.mentioned, named_at (rec named fields extra) (nodes ++ after) all_is, held);
        }

-- ---- names that aren't those of primitive types

not_primitive : (o : Option PrimitiveKind) (name : List ℕ) → kind_or_other o name ≡ type_kind.Reference → o ≡ None
not_primitive (Some kind) name e = absurd cc
not_primitive None name e = refl

no_kind_by : (name : List ℕ) → type_kind_of name ≡ type_kind.Reference → kind_of name ≡ None
unfolding type_kind_of
no_kind_by name e = not_primitive (kind_of name) name e

-- ---- branches and fields

module _ (m : ℕ) (all : List NodeView) (space : List ℕ) where
  no_branches : (known : Known) (first : ℕ) → Knows all first known → BranchesTrip m all space known first [] [] known
  unfolding branch_items
  no_branches known first k = record {
    value = no_items;
    spelt = ap (λ (w : ℕ). (no_items, w)) (omega arith);
    again = no_branch;
    knows = later all first 0 known k;
    bound = omega arith;
    mentioned = omega arith;
  }

  branch_more : (known known2 known3 : Known) (first place : ℕ) (kind : BranchKind) (branches : List (ℕ × BranchKind)) (nodes more : List NodeView) → branch_kind place nodes ≡ Some kind → Trip m all space known first place nodes known2
      → BranchesTrip m all space known2 (first + length nodes) branches more known3 → BranchesTrip m all space known first ((place, kind) ∷ branches) (nodes ++ more) known3
  unfolding branch_items
  branch_more known known2 known3 first place kind branches nodes more is t rest =
      let sum : first + length nodes + length more ≡ first + length (nodes ++ more) = omega (arith, length-append nodes more) in
      record {
        value = item t.value rest.value;
        spelt = ap (λ (x : Counted Data). then_items x.0 (branch_items (identity_at m all space) (map (λ b. b.0) branches) x.1)) t.spelt ∙ ap (then_items t.value) rest.spelt ∙ ap (λ (w : ℕ). (item t.value rest.value, w)) sum;
        again = branch t.again is rest.again;
        knows = subst (λ (w : ℕ). Knows all w known3) sum rest.knows;
        bound = omega (arith, t.bound, rest.bound, names_append nodes more);
        mentioned = omega (arith, t.mentioned, rest.mentioned, mentions_append all nodes more);
      }

  no_fields : (known : Known) (first : ℕ) → Knows all first known → FieldsTrip m all space known first [] [] known
  unfolding field_items
  no_fields known first k = record {
    value = no_items;
    spelt = ap (λ (w : ℕ). (no_items, w)) (omega arith);
    again = no_field;
    knows = later all first 0 known k;
    bound = omega arith;
    mentioned = omega arith;
  }

  field_more : (known known2 known3 : Known) (first : ℕ) (ms : Members) (f : FieldView) (fields : List FieldView) (nodes more : List NodeView) → IsField ms f → Trip m all space known first f.place nodes known2
      → FieldsTrip m all space known2 (first + length nodes) fields more known3 → FieldsTrip m all space known first (f ∷ fields) (nodes ++ more) known3
  unfolding field_items
  field_more known known2 known3 first ms f fields nodes more i t rest =
      let sum : first + length nodes + length more ≡ first + length (nodes ++ more) = omega (arith, length-append nodes more) in
      record {
        value = item (field_value f t.value) rest.value;
        spelt = ap (λ (x : Counted Data). then_items (field_value f x.0) (field_items (identity_at m all space) fields x.1)) t.spelt ∙ ap (then_items (field_value f t.value)) rest.spelt
            ∙ ap (λ (w : ℕ). (item (field_value f t.value) rest.value, w)) sum;
        again = field (field_again ms f t.value i) (field_type ms f t.value i) t.again rest.again;
        knows = subst (λ (w : ℕ). Knows all w known3) sum rest.knows;
        bound = omega (arith, t.bound, rest.bound, names_append nodes more, one_found (codes "type") t.value (field_members ms f t.value i) (field_type ms f t.value i));
        mentioned = omega (arith, t.mentioned, rest.mentioned, mentions_append all nodes more, one_found (codes "type") t.value (field_members ms f t.value i) (field_type ms f t.value i));
      }

-- ---- all types

mutual
  trips : {n : ℕ} {space : List ℕ} {d : Data} {known known2 : Known} {first place : ℕ} {nodes : List NodeView} → Denotes n space d known first place nodes known2
      → (all before after : List NodeView) → all ≡ before ++ (nodes ++ after) → first ≡ length before → Knows all first known → is_namespace space ≡ true → Trip n all space known first place nodes known2
  trips (a_primitive {n = n} {space = space} {known = known} {first = first} {kind = kind} e room) all before after all_is first_is k good = plain_trip n all before after space known first first_is k kind room all_is
  trips (a_reference {n = n} {space = space} {name = name} {known = known} {first = first} {place = place} e found) all before after all_is first_is k good = reference_trip n all before after space known first first_is k name place e found
  trips (primitive_type {n = n} {space = space} {ms = ms} {extra = extra} {known = known} {first = first} {kind = kind} s o room) all before after all_is first_is k good =
      primitive_trip n all before after space known first first_is k kind ms extra o room all_is
  trips (reference_type {n = n} {space = space} {name = name} {known = known} {first = first} {place = place} s w o found) all before after all_is first_is k good =
      reference_trip n all before after space known first first_is k name place (no_kind_by name w) found
  trips (array_type {n = n} {space = space} {ms = ms} {extra = extra} {known = known} {known2 = known2} {first = first} {place = place} {nodes = nodes} s i o room inner) all before after all_is first_is k good =
      let node = array place extra in
      let t = trips inner all (before ++ node ∷ []) after (one_on before (nodes ++ after) node all all_is) (longer before node first first_is) (later all first 1 known k) good in
      array_trip n all before after space known first first_is k ms extra place nodes known2 o room t all_is
  trips (map_type {n = n} {space = space} {ms = ms} {extra = extra} {known = known} {known2 = known2} {first = first} {place = place} {nodes = nodes} s i o room inner) all before after all_is first_is k good =
      let node = mapping place extra in
      let t = trips inner all (before ++ node ∷ []) after (one_on before (nodes ++ after) node all all_is) (longer before node first first_is) (later all first 1 known k) good in
      map_trip n all before after space known first first_is k ms extra place nodes known2 o room t all_is
  trips (fixed_type {n = n} {space = space} {ms = ms} {extra = extra} {known = known} {first = first} {size = size} {named = named} s names z o room) all before after all_is first_is k good =
      fixed_trip n all before after space known first first_is k good ms extra named size names z o room all_is
  trips (enum_type {n = n} {space = space} {ms = ms} {extra = extra} {known = known} {first = first} {named = named} {symbols = symbols} {fallback = fallback} s names e o room) all before after all_is first_is k good =
      enum_trip n all before after space known first first_is k good ms extra named symbols fallback names e o room all_is
  trips (record_type {n = n} {space = space} {ms = ms} {extra = extra} {known = known} {known2 = known2} {first = first} {named = named} {fields = fields} {nodes = nodes} s names i o room fs d) all before after all_is first_is k good =
      let node = rec named fields extra in
      let known_now = knows_more all first known named.name k (ap name_of (at_first all before (nodes ++ after) node first all_is first_is)) in
      let inside = good_namespace named.name (good_named space ms known named good names) in
      let t = fields_trip fs all (before ++ node ∷ []) after (one_on before (nodes ++ after) node all all_is) (longer before node first first_is) known_now inside in
      record_trip n all before after space known first first_is k good ms extra named fields nodes known2 names o room d t all_is
  trips (union_type {n = n} {space = space} {known = known} {known2 = known2} {first = first} {branches = branches} {nodes = nodes} room bs d) all before after all_is first_is k good =
      let node = union (map (λ b. b.0) branches) in
      let t = branches_trip bs all (before ++ node ∷ []) after (one_on before (nodes ++ after) node all all_is) (longer before node first first_is) (later all first 1 known k) good in
      union_trip n all before after space known first first_is k branches nodes known2 room d t all_is

  branches_trip : {n : ℕ} {space : List ℕ} {ds : Items} {known known2 : Known} {first : ℕ} {branches : List (ℕ × BranchKind)} {nodes : List NodeView} → Branches n space ds known first branches nodes known2
      → (all before after : List NodeView) → all ≡ before ++ (nodes ++ after) → first ≡ length before → Knows all first known → is_namespace space ≡ true → BranchesTrip n all space known first branches nodes known2
  branches_trip (no_branch {n = n} {space = space} {known = known} {first = first}) all before after all_is first_is k good = no_branches n all space known first k
  branches_trip (branch {n = n} {space = space} {known = known} {known2 = known2} {known3 = known3} {first = first} {place = place} {kind = kind} {branches = branches} {nodes = nodes} {more = more} d is others) all before after all_is first_is k good =
      let parts : all ≡ before ++ (nodes ++ (more ++ after)) = all_is ∙ ap (λ (s : List NodeView). before ++ s) (append_assoc nodes more after) in
      let t = trips d all before (more ++ after) parts first_is k good in
      let rest = branches_trip others all (before ++ nodes) after (parts ∙ sym (append_assoc before nodes (more ++ after))) (omega (arith, first_is, length-append before nodes)) t.knows good in
      branch_more n all space known known2 known3 first place kind branches nodes more is t rest

  fields_trip : {n : ℕ} {space : List ℕ} {ds : Items} {known known2 : Known} {first : ℕ} {fields : List FieldView} {nodes : List NodeView} → Fields n space ds known first fields nodes known2
      → (all before after : List NodeView) → all ≡ before ++ (nodes ++ after) → first ≡ length before → Knows all first known → is_namespace space ≡ true → FieldsTrip n all space known first fields nodes known2
  fields_trip (no_field {n = n} {space = space} {known = known} {first = first}) all before after all_is first_is k good = no_fields n all space known first k
  fields_trip (field {n = n} {space = space} {ms = ms} {known = known} {known2 = known2} {known3 = known3} {first = first} {f = f} {fields = fields} {nodes = nodes} {more = more} i type d others) all before after all_is first_is k good =
      let parts : all ≡ before ++ (nodes ++ (more ++ after)) = all_is ∙ ap (λ (s : List NodeView). before ++ s) (append_assoc nodes more after) in
      let t = trips d all before (more ++ after) parts first_is k good in
      let rest = fields_trip others all (before ++ nodes) after (parts ∙ sym (append_assoc before nodes (more ++ after))) (omega (arith, first_is, length-append before nodes)) t.knows good in
      field_more n all space known known2 known3 first ms f fields nodes more i t rest

-- ---- the identity text

nothing_known : (all : List NodeView) (first : ℕ) → Knows all first none_known
nothing_known all first = record { at = λ name q e. absurd cc }

-- The value written for the nodes that a value denotes reads as the same nodes, names and root place.
pub identity_denotes : (d : Data) (place : ℕ) (nodes : List NodeView) (known : Known) → Denotes max_nesting [] d none_known 0 place nodes known → Denotes max_nesting [] (identity_value nodes) none_known 0 place nodes known
identity_denotes d place nodes known given =
    let t = trips given nodes [] [] (sym (append-nil nodes)) refl (nothing_known nodes 0) refl in
    let root : place ≡ 0 = omega (arith, t.within) in
    let written : (t.value, 0 + length nodes) ≡ identity_at max_nesting nodes [] 0 0 = sym (ap (λ (q : ℕ). identity_at max_nesting nodes [] q 0) (sym root) ∙ t.spelt) in
    subst (λ (x : Counted Data). Denotes max_nesting [] x.0 none_known 0 place nodes known) written t.again

module _ (d : Data) (place : ℕ) (nodes : List NodeView) (known : Known) (given : Denotes max_nesting [] d none_known 0 place nodes known) where
  abbrev root_trip : Trip max_nesting nodes [] none_known 0 place nodes known
  root_trip = trips given nodes [] [] (sym (append-nil nodes)) refl (nothing_known nodes 0) refl

  value_written : root_trip.value ≡ identity_value nodes
  value_written =
      let root : place ≡ 0 = omega (arith, root_trip.within) in
      ap (λ (x : Counted Data). x.0) (sym (ap (λ (q : ℕ). identity_at max_nesting nodes [] q 0) (sym root) ∙ root_trip.spelt))

  -- the identity text contains all full names and full aliases
  pub names_bounded : names_size nodes ≤ length (identity nodes)
  names_bounded = omega (arith, root_trip.bound, text_long (identity_value nodes), ap data_size value_written)

  -- the identity text contains the name of each type inside another
  pub mentions_bounded : mentions nodes nodes ≤ length (identity nodes)
  mentions_bounded = omega (arith, root_trip.mentioned, text_long (identity_value nodes), ap data_size value_written)
