-- The computed reader gives what the rules of `Denotes` say.
use Rattle.std.proofs.Common.{◌≡◌, ℕ, ◌<◌, ◌≤◌, List, [], ◌∷◌, map, Option, Some, None, codes, refl, arith}
use Rattle.avro_nodes.specs.Limits.{max_nesting, max_places}
use Rattle.avro_schema.proofs.ReaderCases.{made}
use Rattle.std.proofs.lemmas.Bool.{le-leb}
use Rattle.serde_json.specs.Data.{Data, Items, Members, no_members, depth, members_depth}
use Rattle.serde_json.specs.Find.{get_member}
use Rattle.avro_nodes.specs.Nodes.{NamedView, FieldView, NodeView, enumeration, fixed}
use Rattle.avro_schema.specs.Names.{Known, defined}
use Rattle.avro_schema.specs.Attributes.{without_all, size_of}
use Rattle.avro_schema.specs.Inside.Declarations.{name_keys, new_name, named_in, symbols_in, enum_at, fixed_at, FieldAttributesView, field_attributes_in, field_attribute_keys, bounded, bounded_value}
use Rattle.avro_schema.specs.Inside.ValueReaders.{parts_of}
use Rattle.avro_schema.specs.Inside.Types.{reference_to, primitive_at, name_at, container_at, branch_of, union_at, field_of, record_at, object_at, type_at}
use Rattle.avro_schema.specs.Kinds.{BranchKind}
use Rattle.avro_schema.specs.Denotes.{IsExtra, IsNamed, IsEnum, IsField, Denotes, a_primitive, a_reference, primitive_type, reference_type, array_type, map_type, fixed_type, enum_type, record_type, union_type}
use Rattle.avro_schema.specs.Denotes.{Branches, no_branch, branch, Fields, no_field, field}
use Rattle.avro_schema.proofs.KindLemmas.{numbered, same_places, number_of_kind}
use Rattle.avro_schema.proofs.KindLemmas as kinds
use Rattle.avro_schema.proofs.Inversion.{room_there, get_past, text_past, items_past, text_if_any_past, texts_apart, numbers_apart}

pub bound_there : (ms : Members) → members_depth ms ≤ max_nesting → bounded ms ≡ Some ms
unfolding bounded
bound_there ms h = rw (le-leb (members_depth ms) max_nesting h) refl

others_there : (keys : List (List ℕ)) (ms extra : Members) → IsExtra keys ms extra → bounded (without_all keys ms) ≡ Some extra
others_there keys ms extra o = rw (← o.are) (bound_there extra o.shallow)

-- ---- names

named_there : (space : List ℕ) (ms : Members) (known : Known) (named : NamedView) → IsNamed space ms known named → named_in space (without_all (codes "type" ∷ []) ms) known ≡ Some named
unfolding named_in new_name
named_there space ms known named n =
    rw (
      text_past (codes "name") (codes "type" ∷ []) ms refl,
      n.text_is,
      text_if_any_past (codes "namespace") (codes "type" ∷ codes "name" ∷ []) ms refl,
      n.attribute_is,
      n.full,
      n.new,
      n.free,
      get_past (codes "aliases") (codes "type" ∷ codes "name" ∷ codes "namespace" ∷ []) ms refl,
      n.aliases,
    ) refl

-- ---- enums and fixed

enum_there : (space : List ℕ) (ms extra : Members) (known : Known) (first : ℕ) (named : NamedView) (symbols : List (List ℕ)) (fallback : Option (List ℕ))
    → IsNamed space ms known named → IsEnum ms symbols fallback → bounded (without_all (codes "symbols" ∷ codes "default" ∷ []) (without_all name_keys (without_all (codes "type" ∷ []) ms))) ≡ Some extra → first < max_places
    → enum_at space (without_all (codes "type" ∷ []) ms) known first ≡ made first (enumeration named symbols fallback extra ∷ []) (defined known named.name first)
unfolding enum_at symbols_in
enum_there space ms extra known first named symbols fallback n e bound h =
    rw (
      room_there first h,
      named_there space ms known named n,
      items_past (codes "symbols") (codes "type" ∷ name_keys) ms refl,
      e.items_are,
      e.symbols_are,
      texts_apart symbols e.differ,
      get_past (codes "default") (codes "type" ∷ codes "name" ∷ codes "namespace" ∷ codes "aliases" ∷ codes "symbols" ∷ []) ms refl,
      e.fallback_is,
      bound,
    ) refl

fixed_there : (space : List ℕ) (ms extra : Members) (known : Known) (first size : ℕ) (named : NamedView)
    → IsNamed space ms known named → size_of (get_member (codes "size") ms) ≡ Some size → bounded (without_all (codes "size" ∷ []) (without_all name_keys (without_all (codes "type" ∷ []) ms))) ≡ Some extra → first < max_places
    → fixed_at space (without_all (codes "type" ∷ []) ms) known first ≡ made first (fixed named size extra ∷ []) (defined known named.name first)
unfolding fixed_at
fixed_there space ms extra known first size named n s bound h =
    rw (room_there first h, named_there space ms known named n, get_past (codes "size") (codes "type" ∷ name_keys) ms refl, s, bound) refl

-- ---- fields

value_there : (o v : Option Data) → o ≡ v → ((d : Data) → v ≡ Some d → depth d ≤ max_nesting) → bounded_value o ≡ Some v
value_there o None e h = rw e refl
value_there o (Some d) e h = rw (e, le-leb (depth d) max_nesting (h d refl)) refl

abbrev field_attributes_of : FieldView → FieldAttributesView
field_attributes_of f = record { name = f.name; aliases = f.aliases; order = f.order; value = f.value }

label_there : (ms : Members) (f : FieldView) → IsField ms f → field_attributes_in ms ≡ Some (field_attributes_of f)
unfolding field_attributes_in
label_there ms f i =
    rw (
      i.name,
      i.simple,
      get_past (codes "aliases") (codes "name" ∷ []) ms refl,
      i.aliases,
      get_past (codes "order") (codes "name" ∷ codes "aliases" ∷ []) ms refl,
      i.order,
      get_past (codes "default") (codes "name" ∷ codes "aliases" ∷ codes "order" ∷ []) ms refl,
      value_there (get_member (codes "default") ms) f.value i.value i.shallow,
    ) refl

-- ---- types

mutual
  unfolding type_at name_at reference_to primitive_at object_at container_at union_at record_at parts_of branch_of field_of

  pub computes : {n : ℕ} {space : List ℕ} {d : Data} {known known2 : Known} {first place : ℕ} {nodes : List NodeView} → Denotes n space d known first place nodes known2 → type_at n space d known first ≡ made place nodes known2
  computes (a_primitive {first = first} e h) = rw (e, room_there first h, bound_there no_members (omega arith)) refl
  computes (a_reference e f) = rw (e, f) refl
  computes (primitive_type {ms = ms} {extra = extra} {first = first} s o h) = rw (s.1, s.2, room_there first h, others_there (codes "type" ∷ []) ms extra o) refl
  computes (reference_type {ms = ms} {extra = extra} e w o f) = rw (e, w, others_there (codes "type" ∷ []) ms extra o, f) refl
  computes (array_type {ms = ms} {extra = extra} {first = first} s i o h inner) =
      rw (s.1, s.2, room_there first h, get_past (codes "items") (codes "type" ∷ []) ms refl, i, others_there (codes "type" ∷ codes "items" ∷ []) ms extra o, computes inner) refl
  computes (map_type {ms = ms} {extra = extra} {first = first} s i o h inner) =
      rw (s.1, s.2, room_there first h, get_past (codes "values") (codes "type" ∷ []) ms refl, i, others_there (codes "type" ∷ codes "values" ∷ []) ms extra o, computes inner) refl
  computes (fixed_type {space = space} {ms = ms} {extra = extra} {known = known} {first = first} {size = size} {named = named} s n z o h) =
      rw (s.1, s.2) (fixed_there space ms extra known first size named n z (others_there _ ms extra o) h)
  computes (enum_type {space = space} {ms = ms} {extra = extra} {known = known} {first = first} {named = named} {symbols = symbols} {fallback = fallback} s n e o h) =
      rw (s.1, s.2) (enum_there space ms extra known first named symbols fallback n e (others_there _ ms extra o) h)
  computes (record_type {space = space} {ms = ms} {extra = extra} {known = known} {first = first} {named = named} {fields = fields} s n i o h fs d) =
      rw (
        s.1,
        s.2,
        room_there first h,
        named_there space ms known named n,
        items_past (codes "fields") (codes "type" ∷ name_keys) ms refl,
        i,
        others_there (codes "type" ∷ codes "name" ∷ codes "namespace" ∷ codes "aliases" ∷ codes "fields" ∷ []) ms extra o,
        fields_compute fs,
        texts_apart (map (λ f. f.name) fields) d,
      ) refl
  computes (union_type {first = first} {branches = branches} h bs d) = rw (room_there first h, branches_compute bs, numbers_apart (map (λ b. b.1) (numbered branches)) (kinds.numbers_apart branches d), same_places branches) refl

  branches_compute : {n : ℕ} {space : List ℕ} {ds : Items} {known known2 : Known} {first : ℕ} {branches : List (ℕ × BranchKind)} {nodes : List NodeView} → Branches n space ds known first branches nodes known2
      → parts_of (branch_of (type_at n space)) ds known first ≡ made (numbered branches) nodes known2
  branches_compute no_branch = refl
  branches_compute (branch {place = place} {kind = kind} {nodes = nodes} d k more) = rw (computes d, number_of_kind place kind nodes k, branches_compute more) refl

  fields_compute : {n : ℕ} {space : List ℕ} {ds : Items} {known known2 : Known} {first : ℕ} {fields : List FieldView} {nodes : List NodeView} → Fields n space ds known first fields nodes known2
      → parts_of (field_of (type_at n space)) ds known first ≡ made fields nodes known2
  fields_compute no_field = refl
  fields_compute (field {ms = ms} {f = f} i t d more) =
      rw (label_there ms f i, get_past (codes "type") field_attribute_keys ms refl, t, others_there _ ms f.extra i.others, computes d, fields_compute more) refl
