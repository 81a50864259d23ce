-- The rules of `Denotes` say what the reader computes.
use Rattle.std.proofs.Common.{◌≡◌, ℕ, zero, suc, ◌+◌, ◌≤◌, List, [], ◌∷◌, ◌++◌, length, map, true, false, cond, ◌||◌, Option, Some, None, codes, bytes_eq, refl, sym, ap, subst, ◌∙◌, true≢false}
use Rattle.std.specs.Prelude.{nat_le, is_some, ◌==◌}
use Rattle.std.proofs.lemmas.Bool.{leb-true}
use Rattle.std.proofs.lemmas.Option.{same_Some}
use Rattle.serde_json.specs.Data.{Data, string, Items, no_items, item, Members, no_members, depth, members_depth}
use Rattle.serde_json.specs.Data as json
use Rattle.serde_json.specs.Find.{get_member, as_object}
use Rattle.avro_nodes.specs.Limits.{max_nesting}
use Rattle.avro_nodes.specs.declared.node.PrimitiveKind.{PrimitiveKind}
use Rattle.avro_nodes.specs.Nodes.{NamedView, FieldView, primitive, array, mapping, union, enumeration, fixed, rec}
use Rattle.avro_schema.specs.declared.keywords.TypeKind.{TypeKind}
use Rattle.avro_schema.specs.declared.keywords.TypeKind.TheVariants as type_kind
use Rattle.avro_schema.specs.declared.keywords.Container.TheVariants as container
use Rattle.avro_schema.specs.Names.{Known, is_simple, allowed, full_name, alias_in, defined, resolved}
use Rattle.avro_nodes.specs.Names.{namespace_of, last_part}
use Rattle.avro_schema.specs.Keywords.{kind_of, type_kind_of}
use Rattle.avro_schema.specs.Attributes.{◌>>=◌, without_all, text_in, array_in, text_if_any, texts_in, texts_if_any, size_of, fallback_in, order_in}
use Rattle.avro_schema.specs.Inside.Distinct.{all_distinct}
use Rattle.avro_schema.specs.Inside.Declarations.{name_keys, if_new, new_name, named_in, symbols_in, enum_at, fixed_at, FieldAttributesView, field_attributes_in, field_attribute_keys, bounded, bounded_value}
use Rattle.avro_schema.specs.Inside.ValueReaders.{Part, parts_of, next_place}
use Rattle.avro_schema.specs.Kinds.{BranchKind}
use Rattle.avro_schema.specs.Inside.KindNumbers.{branch_kind_number}
use Rattle.avro_schema.proofs.KindLemmas.{numbered, same_places, kinds_distinct, kind_of_number}
use Rattle.avro_schema.specs.Inside.Types.{reference_to, primitive_at, kind_or_reference, name_at, container_at, branch_of, union_at, field_at, field_of, record_at, by_type_kind, object_at, type_at}
use Rattle.avro_schema.specs.Denotes.{IsExtra, IsNamed, IsEnum, IsField, HasTypeKind, Denotes, a_primitive, a_reference, primitive_type, reference_type, array_type, map_type, fixed_type, enum_type, record_type, union_type}
use Rattle.avro_schema.specs.Denotes.{array_keys, map_keys, fixed_keys, enum_keys, record_keys, Branches, no_branch, branch, Fields, no_field, field, AllDiffer}
use Rattle.avro_schema.proofs.Inversion.{bind_some, bind2, bind3, bind4, bind5, guard_some, guard_none, map_some, room_is, get_past, text_past, items_past, text_if_any_past, texts_distinct, numbers_differ}

bound_is : (ms extra : Members) → bounded ms ≡ Some extra → (extra ≡ ms) × (members_depth extra ≤ max_nesting)
unfolding bounded
bound_is ms extra e =
    let g = guard_some (nat_le (members_depth ms) max_nesting) (Some ms) extra e in
    let same : ms ≡ extra = same_Some _ _ g.1 in
    (sym same, subst (λ (x : Members). members_depth x ≤ max_nesting) same (leb-true (members_depth ms) max_nesting g.0))

others_are : (keys : List (List ℕ)) (ms extra : Members) → bounded (without_all keys ms) ≡ Some extra → IsExtra keys ms extra
others_are keys ms extra e = let b = bound_is (without_all keys ms) extra e in record { are = b.0; shallow = b.1 }

-- ---- names

none_known_at : {A B : Type 0} (a : Option A) (b : Option B) → (is_some a || is_some b) ≡ false → (a ≡ None) × (b ≡ None)
none_known_at None None e = (refl, refl)
none_known_at None (Some y) e = absurd (true≢false e)
none_known_at (Some x) b e = absurd (true≢false e)

-- the members of an object without `type`
abbrev inside : Members → Members
inside ms = without_all (codes "type" ∷ []) ms

name_is : (space : List ℕ) (ms : Members) (known : Known) (name : List ℕ) → new_name space (inside ms) known ≡ Some name
    → (text : List ℕ) × (attribute : Option (List ℕ)) × (text_in (codes "name") ms ≡ Some text) × (text_if_any (codes "namespace") ms ≡ Some attribute) × (full_name text attribute space ≡ Some name)
    × (known name ≡ None) × (kind_of (last_part name) ≡ None)
unfolding new_name
name_is space ms known name e =
    let p = bind3 (text_in (codes "name") (inside ms)) (λ _. text_if_any (codes "namespace") (without_all (codes "name" ∷ []) (inside ms))) (λ text attribute. full_name text attribute space) (λ _ _ full. if_new known full) name e in
    let g = guard_none (is_some (known p.2) || is_some (kind_of (last_part p.2))) (Some p.2) name p.6 in
    let same : p.2 ≡ name = same_Some _ _ g.1 in
    let free = none_known_at (known p.2) (kind_of (last_part p.2)) g.0 in (
      p.0,
      p.1,
      sym (text_past (codes "name") (codes "type" ∷ []) ms refl) ∙ p.3,
      sym (text_if_any_past (codes "namespace") (codes "type" ∷ codes "name" ∷ []) ms refl) ∙ p.4,
      p.5 ∙ ap (λ (x : List ℕ). Some x) same,
      ap known (sym same) ∙ free.0,
      ap (λ (x : List ℕ). kind_of (last_part x)) (sym same) ∙ free.1,
    )

named_is : (space : List ℕ) (ms : Members) (known : Known) (named : NamedView) → named_in space (inside ms) known ≡ Some named → IsNamed space ms known named
unfolding named_in
named_is space ms known named e =
    let p = bind2 (new_name space (inside ms) known) (λ full. texts_if_any (alias_in (namespace_of full)) (get_member (codes "aliases") (without_all (codes "name" ∷ codes "namespace" ∷ []) (inside ms))))
    (λ full aliases. Some (record { name = full; aliases = aliases })) named e in
    let n = name_is space ms known p.0 p.2 in
    let same : record { name = p.0; aliases = p.1 } ≡ named = same_Some _ _ p.4 in
    subst (λ (x : NamedView). IsNamed space ms known x) same
    (record {
      text = n.0;
      attribute = n.1;
      text_is = n.2;
      attribute_is = n.3;
      full = n.4;
      new = n.5;
      free = n.6;
      aliases = ap (texts_if_any (alias_in (namespace_of p.0))) (sym (get_past (codes "aliases") (codes "type" ∷ codes "name" ∷ codes "namespace" ∷ []) ms refl)) ∙ p.3;
    })

-- ---- enums and fixed

enum_is : (ms : Members) (symbols : List (List ℕ)) (fallback : Option (List ℕ)) → symbols_in (without_all name_keys (inside ms)) ≡ Some symbols
    → fallback_in symbols (get_member (codes "default") (without_all (codes "symbols" ∷ []) (without_all name_keys (inside ms)))) ≡ Some fallback → IsEnum ms symbols fallback
unfolding symbols_in
enum_is ms symbols fallback e f =
    let p = bind2 (array_in (codes "symbols") (without_all name_keys (inside ms))) (λ items. texts_in (allowed is_simple) items) (λ _ found. cond (all_distinct bytes_eq found) (Some found) None) symbols e in
    let g = guard_some (all_distinct bytes_eq p.1) (Some p.1) symbols p.4 in
    let same : p.1 ≡ symbols = same_Some _ _ g.1 in
    record {
      items = p.0;
      items_are = sym (items_past (codes "symbols") (codes "type" ∷ name_keys) ms refl) ∙ p.2;
      symbols_are = p.3 ∙ ap (λ (x : List (List ℕ)). Some x) same;
      differ = texts_distinct symbols (ap (all_distinct bytes_eq) (sym same) ∙ g.0);
      fallback_is = ap (fallback_in symbols) (sym (get_past (codes "default") (codes "type" ∷ codes "name" ∷ codes "namespace" ∷ codes "aliases" ∷ codes "symbols" ∷ []) ms refl)) ∙ f;
    }

abbrev Says_ : ℕ → List ℕ → Data → Known → ℕ → Part ℕ → Type 0
Says_ n space d known first p = Denotes n space d known first p.it p.nodes p.known

enum_says : (n : ℕ) (space : List ℕ) (ms : Members) (known : Known) (first : ℕ) (p : Part ℕ) → HasTypeKind ms type_kind.Enum → enum_at space (inside ms) known first ≡ Some p → Says_ (suc n) space (json.object ms) known first p
unfolding enum_at
enum_says n space ms known first p s e =
    let rest = without_all name_keys (inside ms) in
    let q = bind5 (next_place first) (λ _. named_in space (inside ms) known) (λ _ _. symbols_in rest) (λ _ _ symbols. fallback_in symbols (get_member (codes "default") (without_all (codes "symbols" ∷ []) rest)))
    (λ _ _ _ _. bounded (without_all (codes "symbols" ∷ codes "default" ∷ []) rest))
    (λ place named symbols fallback extra. Some (record { it = place; nodes = enumeration named symbols fallback extra ∷ []; known = defined known named.name place })) p e in
    let room = room_is first q.0 q.5 in
    subst (λ (x : Part ℕ). Says_ (suc n) space (json.object ms) known first x)
    (ap (λ (place : ℕ). record { it = place; nodes = enumeration q.1 q.2 q.3 q.4 ∷ []; known = defined known q.1.name place }) room.1 ∙ same_Some _ _ q.10)
    (enum_type s (named_is space ms known q.1 q.6) (enum_is ms q.2 q.3 q.7 q.8) (others_are enum_keys ms q.4 q.9) room.0)

fixed_says : (n : ℕ) (space : List ℕ) (ms : Members) (known : Known) (first : ℕ) (p : Part ℕ) → HasTypeKind ms type_kind.Fixed → fixed_at space (inside ms) known first ≡ Some p → Says_ (suc n) space (json.object ms) known first p
unfolding fixed_at
fixed_says n space ms known first p s e =
    let rest = without_all name_keys (inside ms) in
    let q = bind4 (next_place first) (λ _. named_in space (inside ms) known) (λ _ _. size_of (get_member (codes "size") rest)) (λ _ _ _. bounded (without_all (codes "size" ∷ []) rest))
    (λ place named size extra. Some (record { it = place; nodes = fixed named size extra ∷ []; known = defined known named.name place })) p e in
    let room = room_is first q.0 q.4 in
    subst (λ (x : Part ℕ). Says_ (suc n) space (json.object ms) known first x)
    (ap (λ (place : ℕ). record { it = place; nodes = fixed q.1 q.2 q.3 ∷ []; known = defined known q.1.name place }) room.1 ∙ same_Some _ _ q.8)
    (fixed_type s (named_is space ms known q.1 q.5) (ap size_of (sym (get_past (codes "size") (codes "type" ∷ name_keys) ms refl)) ∙ q.6) (others_are fixed_keys ms q.3 q.7) room.0)

-- ---- primitives and references

primitive_says : (n : ℕ) (space : List ℕ) (ms : Members) (known : Known) (first : ℕ) (kind : PrimitiveKind) (p : Part ℕ) → HasTypeKind ms (type_kind.Primitive kind) → primitive_at kind (inside ms) known first ≡ Some p → Says_ (suc n) space (json.object ms) known first p
unfolding primitive_at
primitive_says n space ms known first kind p s e =
    let q = bind2 (next_place first) (λ _. bounded (inside ms)) (λ place extra. Some (record { it = place; nodes = primitive kind extra ∷ []; known = known })) p e in
    let room = room_is first q.0 q.2 in
    subst (λ (x : Part ℕ). Says_ (suc n) space (json.object ms) known first x)
    (ap (λ (place : ℕ). record { it = place; nodes = primitive kind q.1 ∷ []; known = known }) room.1 ∙ same_Some _ _ q.4)
    (primitive_type s (others_are (codes "type" ∷ []) ms q.1 q.3) room.0)

name_says : (o : Option PrimitiveKind) (n : ℕ) (space s : List ℕ) (known : Known) (first : ℕ) (p : Part ℕ) → kind_of s ≡ o → kind_or_reference o space s known first ≡ Some p → Says_ (suc n) space (string s) known first p
unfolding primitive_at reference_to
name_says (Some kind) n space s known first p named e =
    let q = bind2 (next_place first) (λ _. bounded no_members) (λ place extra. Some (record { it = place; nodes = primitive kind extra ∷ []; known = known })) p e in
    let room = room_is first q.0 q.2 in
    let none = (bound_is no_members q.1 q.3).0 in
    subst (λ (x : Part ℕ). Says_ (suc n) space (string s) known first x)
    (ap (λ (place : ℕ). record { it = place; nodes = primitive kind no_members ∷ []; known = known }) room.1 ∙ ap (λ (extra : Members). record { it = q.0; nodes = primitive kind extra ∷ []; known = known }) (sym none) ∙ same_Some _ _ q.4)
    (a_primitive named room.0)
name_says None n space s known first p named e =
    let q = map_some (λ (x : ℕ). record { it = x; nodes = []; known = known }) (resolved known space s) p e in
    subst (λ (x : Part ℕ). Says_ (suc n) space (string s) known first x) q.2 (a_reference named q.1)

reference_says : (n : ℕ) (space name : List ℕ) (ms : Members) (known : Known) (first : ℕ) (p : Part ℕ) → text_in (codes "type") ms ≡ Some name → type_kind_of name ≡ type_kind.Reference
    → (bounded (inside ms) >>= λ _. reference_to space name known) ≡ Some p → Says_ (suc n) space (json.object ms) known first p
unfolding reference_to
reference_says n space name ms known first p t w e =
    let b = bind_some (bounded (inside ms)) (λ _. reference_to space name known) p e in
    let q = map_some (λ (x : ℕ). record { it = x; nodes = []; known = known }) (resolved known space name) p b.2 in
    subst (λ (x : Part ℕ). Says_ (suc n) space (json.object ms) known first x) q.2 (reference_type t w (others_are (codes "type" ∷ []) ms b.0 b.1) q.1)

-- ---- fields

value_is : (o v : Option Data) → bounded_value o ≡ Some v → (o ≡ v) × ((d : Data) → v ≡ Some d → depth d ≤ max_nesting)
value_is None v e = let same : None ≡ v = same_Some _ _ e in (same, λ d is. absurd cc)
value_is (Some x) v e =
    let g = guard_some (nat_le (depth x) max_nesting) (Some (Some x)) v e in
    let same : Some x ≡ v = same_Some _ _ g.1 in
    (same, λ d is. subst (λ (y : Data). depth y ≤ max_nesting) (same_Some _ _ (same ∙ is)) (leb-true (depth x) max_nesting g.0))

allowed_is : (text name : List ℕ) → allowed is_simple text ≡ Some name → (text ≡ name) × (is_simple name ≡ true)
allowed_is text name e = let g = guard_some (is_simple text) (Some text) name e in let same : text ≡ name = same_Some _ _ g.1 in (same, ap is_simple (sym same) ∙ g.0)

label_says : (ms extra : Members) (place : ℕ) (label : FieldAttributesView) → field_attributes_in ms ≡ Some label → bounded (without_all (codes "type" ∷ []) (without_all field_attribute_keys ms)) ≡ Some extra → IsField ms (field_at label place extra)
unfolding field_attributes_in
label_says ms extra place label e b =
    let p = bind5 (text_in (codes "name") ms) (λ text. allowed is_simple text) (λ _ _. texts_if_any (allowed is_simple) (get_member (codes "aliases") (without_all (codes "name" ∷ []) ms)))
    (λ _ _ _. order_in (get_member (codes "order") (without_all (codes "name" ∷ codes "aliases" ∷ []) ms)))
    (λ _ _ _ _. bounded_value (get_member (codes "default") (without_all (codes "name" ∷ codes "aliases" ∷ codes "order" ∷ []) ms)))
    (λ _ name aliases order value. Some (record { name = name; aliases = aliases; order = order; value = value })) label e in
    let same : record { name = p.1; aliases = p.2; order = p.3; value = p.4 } ≡ label = same_Some _ _ p.10 in
    let simple = allowed_is p.0 p.1 p.6 in
    let value = value_is (get_member (codes "default") (without_all (codes "name" ∷ codes "aliases" ∷ codes "order" ∷ []) ms)) p.4 p.9 in
    subst (λ (x : FieldAttributesView). IsField ms (field_at x place extra)) same
    (record {
      name = p.5 ∙ ap (λ (x : List ℕ). Some x) simple.0;
      simple = simple.1;
      aliases = ap (texts_if_any (allowed is_simple)) (sym (get_past (codes "aliases") (codes "name" ∷ []) ms refl)) ∙ p.7;
      order = ap order_in (sym (get_past (codes "order") (codes "name" ∷ codes "aliases" ∷ []) ms refl)) ∙ p.8;
      value = sym (get_past (codes "default") (codes "name" ∷ codes "aliases" ∷ codes "order" ∷ []) ms refl) ∙ value.0;
      shallow = value.1;
      others = others_are (codes "name" ∷ codes "aliases" ∷ codes "order" ∷ codes "default" ∷ codes "type" ∷ []) ms extra b;
    })

object_members : (d : Data) (ms : Members) → as_object d ≡ Some ms → d ≡ json.object ms
object_members (json.object ms) ms2 e = ap json.object (same_Some _ _ e)
object_members json.null ms2 e = absurd cc
object_members (json.boolean b) ms2 e = absurd cc
object_members (json.number x) ms2 e = absurd cc
object_members (string s) ms2 e = absurd cc
object_members (json.array ds) ms2 e = absurd cc

-- ---- nested types, by the rules one level deeper

-- the rules give branches with these numbers
abbrev BranchesSay : ℕ → List ℕ → Items → Known → ℕ → Part (List (ℕ × ℕ)) → Type 0
BranchesSay n space ds known first ps = (bs : List (ℕ × BranchKind)) × (numbered bs ≡ ps.it) × Branches n space ds known first bs ps.nodes ps.known

abbrev AllSay : ℕ → Type 0
AllSay n = (space : List ℕ) (d : Data) (known : Known) (first : ℕ) (p : Part ℕ) → type_at n space d known first ≡ Some p → Says_ n space d known first p

module _ (n : ℕ) (says : AllSay n) where
  branches_say : (space : List ℕ) (ds : Items) (known : Known) (first : ℕ) (ps : Part (List (ℕ × ℕ))) → parts_of (branch_of (type_at n space)) ds known first ≡ Some ps → BranchesSay n space ds known first ps
  unfolding parts_of branch_of
  branches_say space no_items known first ps e = subst (λ (x : Part (List (ℕ × ℕ))). BranchesSay n space no_items known first x) (same_Some _ _ e) ([], refl, no_branch)
  branches_say space (item d ds) known first ps e =
      let q = bind2 (branch_of (type_at n space) d known first) (λ p. parts_of (branch_of (type_at n space)) ds p.known (first + length p.nodes))
      (λ p more. Some (record { it = p.it ∷ more.it; nodes = p.nodes ++ more.nodes; known = more.known })) ps e in
      let b = bind2 (type_at n space d known first) (λ p. branch_kind_number p.it p.nodes) (λ p number. Some (record { it = (p.it, number); nodes = p.nodes; known = p.known })) q.0 q.2 in
      let is : record { it = (b.0.it, b.1); nodes = b.0.nodes; known = b.0.known } ≡ q.0 = same_Some _ _ b.4 in
      let others = subst (λ (x : Part (ℕ × ℕ)). parts_of (branch_of (type_at n space)) ds x.known (first + length x.nodes) ≡ Some q.1) (sym is) q.3 in
      let whole = subst (λ (x : Part (ℕ × ℕ)). Some (record { it = x.it ∷ q.1.it; nodes = x.nodes ++ q.1.nodes; known = q.1.known }) ≡ Some ps) (sym is) q.4 in
      let kind = kind_of_number b.0.it b.1 b.0.nodes b.3 in
      let rest = branches_say space ds b.0.known (first + length b.0.nodes) q.1 others in
      subst (λ (x : Part (List (ℕ × ℕ))). BranchesSay n space (item d ds) known first x) (same_Some _ _ whole)
      ((b.0.it, kind.0) ∷ rest.0, rw (kind.2, rest.1) refl, branch (says space d known first b.0 b.2) kind.1 rest.2)

  fields_say : (space : List ℕ) (ds : Items) (known : Known) (first : ℕ) (ps : Part (List FieldView)) → parts_of (field_of (type_at n space)) ds known first ≡ Some ps → Fields n space ds known first ps.it ps.nodes ps.known
  unfolding parts_of field_of
  fields_say space no_items known first ps e = subst (λ (x : Part (List FieldView)). Fields n space no_items known first x.it x.nodes x.known) (same_Some _ _ e) no_field
  fields_say space (item d ds) known first ps e =
      let q = bind2 (field_of (type_at n space) d known first) (λ p. parts_of (field_of (type_at n space)) ds p.known (first + length p.nodes))
      (λ p more. Some (record { it = p.it ∷ more.it; nodes = p.nodes ++ more.nodes; known = more.known })) ps e in
      let b = bind5 (as_object d) (λ ms. field_attributes_in ms) (λ ms _. get_member (codes "type") (without_all field_attribute_keys ms)) (λ ms _ _. bounded (without_all (codes "type" ∷ []) (without_all field_attribute_keys ms)))
      (λ _ _ inner _. type_at n space inner known first) (λ _ label _ extra p. Some (record { it = field_at label p.it extra; nodes = p.nodes; known = p.known })) q.0 q.2 in
      let is : record { it = field_at b.1 b.4.it b.3; nodes = b.4.nodes; known = b.4.known } ≡ q.0 = same_Some _ _ b.10 in
      let others = subst (λ (x : Part FieldView). parts_of (field_of (type_at n space)) ds x.known (first + length x.nodes) ≡ Some q.1) (sym is) q.3 in
      let whole = subst (λ (x : Part FieldView). Some (record { it = x.it ∷ q.1.it; nodes = x.nodes ++ q.1.nodes; known = q.1.known }) ≡ Some ps) (sym is) q.4 in
      subst (λ (x : Part (List FieldView)). Fields n space (item d ds) known first x.it x.nodes x.known) (same_Some _ _ whole)
      (subst (λ (x : Data). Fields n space (item x ds) known first (field_at b.1 b.4.it b.3 ∷ q.1.it) (b.4.nodes ++ q.1.nodes) q.1.known) (sym (object_members d b.0 b.5))
      (field (label_says b.0 b.3 b.4.it b.1 b.6 b.8) (sym (get_past (codes "type") field_attribute_keys b.0 refl) ∙ b.7) (says space b.2 known first b.4 b.9) (fields_say space ds b.4.known (first + length b.4.nodes) q.1 others)))

  array_says : (space : List ℕ) (ms : Members) (known : Known) (first : ℕ) (p : Part ℕ) → HasTypeKind ms type_kind.Array → container_at container.Items (type_at n space) (inside ms) known first ≡ Some p → Says_ (suc n) space (json.object ms) known first p
  unfolding container_at
  array_says space ms known first p s e =
      let q = bind4 (next_place first) (λ _. get_member (codes "items") (inside ms)) (λ _ _. bounded (without_all (codes "items" ∷ []) (inside ms))) (λ _ inner _. type_at n space inner known (first + 1))
      (λ place _ extra t. Some (record { it = place; nodes = array t.it extra ∷ t.nodes; known = t.known })) p e in
      let room = room_is first q.0 q.4 in
      subst (λ (x : Part ℕ). Says_ (suc n) space (json.object ms) known first x)
      (ap (λ (place : ℕ). record { it = place; nodes = array q.3.it q.2 ∷ q.3.nodes; known = q.3.known }) room.1 ∙ same_Some _ _ q.8)
      (array_type s (sym (get_past (codes "items") (codes "type" ∷ []) ms refl) ∙ q.5) (others_are array_keys ms q.2 q.6) room.0 (says space q.1 known (first + 1) q.3 q.7))

  map_says : (space : List ℕ) (ms : Members) (known : Known) (first : ℕ) (p : Part ℕ) → HasTypeKind ms type_kind.Map → container_at container.Values (type_at n space) (inside ms) known first ≡ Some p → Says_ (suc n) space (json.object ms) known first p
  unfolding container_at
  map_says space ms known first p s e =
      let q = bind4 (next_place first) (λ _. get_member (codes "values") (inside ms)) (λ _ _. bounded (without_all (codes "values" ∷ []) (inside ms))) (λ _ inner _. type_at n space inner known (first + 1))
      (λ place _ extra t. Some (record { it = place; nodes = mapping t.it extra ∷ t.nodes; known = t.known })) p e in
      let room = room_is first q.0 q.4 in
      subst (λ (x : Part ℕ). Says_ (suc n) space (json.object ms) known first x)
      (ap (λ (place : ℕ). record { it = place; nodes = mapping q.3.it q.2 ∷ q.3.nodes; known = q.3.known }) room.1 ∙ same_Some _ _ q.8)
      (map_type s (sym (get_past (codes "values") (codes "type" ∷ []) ms refl) ∙ q.5) (others_are map_keys ms q.2 q.6) room.0 (says space q.1 known (first + 1) q.3 q.7))

  union_says : (space : List ℕ) (ds : Items) (known : Known) (first : ℕ) (p : Part ℕ) → union_at (type_at n space) ds known first ≡ Some p → Says_ (suc n) space (json.array ds) known first p
  unfolding union_at
  union_says space ds known first p e =
      let q = bind2 (next_place first) (λ _. parts_of (branch_of (type_at n space)) ds known (first + 1))
      (λ place ps. cond (all_distinct (λ a b. a == b) (map (λ b. b.1) ps.it)) (Some (record { it = place; nodes = union (map (λ b. b.0) ps.it) ∷ ps.nodes; known = ps.known })) None) p e in
      let g = guard_some (all_distinct (λ a b. a == b) (map (λ b. b.1) q.1.it)) (Some (record { it = q.0; nodes = union (map (λ b. b.0) q.1.it) ∷ q.1.nodes; known = q.1.known })) p q.4 in
      let room = room_is first q.0 q.2 in
      let said = branches_say space ds known (first + 1) q.1 q.3 in
      let differ = subst (λ (bs : List (ℕ × ℕ)). AllDiffer (map (λ b. b.1) bs)) (sym said.1) (numbers_differ (map (λ b. b.1) q.1.it) g.0) in
      let places : map (λ b. b.0) said.0 ≡ map (λ b. b.0) q.1.it = sym (same_places said.0) ∙ ap (λ (bs : List (ℕ × ℕ)). map (λ b. b.0) bs) said.1 in
      subst (λ (x : Part ℕ). Says_ (suc n) space (json.array ds) known first x)
      (ap (λ (ps : List ℕ). record { it = first; nodes = union ps ∷ q.1.nodes; known = q.1.known }) places
      ∙ ap (λ (place : ℕ). record { it = place; nodes = union (map (λ b. b.0) q.1.it) ∷ q.1.nodes; known = q.1.known }) room.1 ∙ same_Some _ _ g.1)
      (union_type room.0 said.2 (kinds_distinct said.0 differ))

  record_says : (space : List ℕ) (ms : Members) (known : Known) (first : ℕ) (p : Part ℕ) → HasTypeKind ms type_kind.Record → record_at (type_at n) space (inside ms) known first ≡ Some p → Says_ (suc n) space (json.object ms) known first p
  unfolding record_at
  record_says space ms known first p s e =
      let rest = without_all name_keys (inside ms) in
      let q = bind5 (next_place first) (λ _. named_in space (inside ms) known) (λ _ _. array_in (codes "fields") rest) (λ _ _ _. bounded (without_all (codes "fields" ∷ []) rest))
      (λ place named items _. parts_of (field_of (type_at n (namespace_of named.name))) items (defined known named.name place) (first + 1))
      (λ place named _ extra ps. cond (all_distinct bytes_eq (map (λ f. f.name) ps.it)) (Some (record { it = place; nodes = rec named ps.it extra ∷ ps.nodes; known = ps.known })) None) p e in
      let g = guard_some (all_distinct bytes_eq (map (λ f. f.name) q.4.it)) (Some (record { it = q.0; nodes = rec q.1 q.4.it q.3 ∷ q.4.nodes; known = q.4.known })) p q.10 in
      let room = room_is first q.0 q.5 in
      let fields = subst (λ (place : ℕ). parts_of (field_of (type_at n (namespace_of q.1.name))) q.2 (defined known q.1.name place) (first + 1) ≡ Some q.4) (sym room.1) q.9 in
      subst (λ (x : Part ℕ). Says_ (suc n) space (json.object ms) known first x)
      (ap (λ (place : ℕ). record { it = place; nodes = rec q.1 q.4.it q.3 ∷ q.4.nodes; known = q.4.known }) room.1 ∙ same_Some _ _ g.1)
      (record_type s (named_is space ms known q.1 q.6) (sym (items_past (codes "fields") (codes "type" ∷ name_keys) ms refl) ∙ q.7) (others_are record_keys ms q.3 q.8) room.0
      (fields_say (namespace_of q.1.name) q.2 (defined known q.1.name first) (first + 1) q.4 fields) (texts_distinct (map (λ f. f.name) q.4.it) g.0))

  word_says : (w : TypeKind) (space name : List ℕ) (ms : Members) (known : Known) (first : ℕ) (p : Part ℕ) → text_in (codes "type") ms ≡ Some name → type_kind_of name ≡ w
      → by_type_kind w name (type_at n) space (inside ms) known first ≡ Some p → Says_ (suc n) space (json.object ms) known first p
  word_says (type_kind.Primitive kind) space name ms known first p t w e = primitive_says n space ms known first kind p (name, t, w) e
  word_says type_kind.Array space name ms known first p t w e = array_says space ms known first p (name, t, w) e
  word_says type_kind.Map space name ms known first p t w e = map_says space ms known first p (name, t, w) e
  word_says type_kind.Fixed space name ms known first p t w e = fixed_says n space ms known first p (name, t, w) e
  word_says type_kind.Enum space name ms known first p t w e = enum_says n space ms known first p (name, t, w) e
  word_says type_kind.Record space name ms known first p t w e = record_says space ms known first p (name, t, w) e
  word_says type_kind.Reference space name ms known first p t w e = reference_says n space name ms known first p t w e

  object_says : (space : List ℕ) (ms : Members) (known : Known) (first : ℕ) (p : Part ℕ) → object_at (type_at n) space ms known first ≡ Some p → Says_ (suc n) space (json.object ms) known first p
  unfolding object_at
  object_says space ms known first p e =
      let q = bind_some (text_in (codes "type") ms) (λ name. by_type_kind (type_kind_of name) name (type_at n) space (inside ms) known first) p e in
      word_says (type_kind_of q.0) space q.0 ms known first p q.1 refl q.2

pub says : (n : ℕ) → AllSay n
unfolding type_at name_at
says zero space d known first p e = absurd cc
says (suc n) space (string s) known first p e = name_says (kind_of s) n space s known first p refl e
says (suc n) space (json.array ds) known first p e = union_says n (says n) space ds known first p e
says (suc n) space (json.object ms) known first p e = object_says n (says n) space ms known first p e
says (suc n) space json.null known first p e = absurd cc
says (suc n) space (json.boolean b) known first p e = absurd cc
says (suc n) space (json.number x) known first p e = absurd cc
