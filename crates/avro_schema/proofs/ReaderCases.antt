-- The results of the definitions in each case of the reader.
use Rattle.std.proofs.Common.{◌≡◌, ℕ, zero, suc, ◌+◌, ◌-◌, ◌<◌, List, [], ◌∷◌, ◌++◌, length, map, set, Bool, true, false, Option, Some, None, codes, bytes_eq, refl, ap, ◌∙◌, arith, sym}
use Rattle.std.specs.Prelude.{◌==◌}
use Rattle.serde_json.specs.Data.{Data, string, Items, Members}
use Rattle.serde_json.specs.Data as json
use Rattle.serde_json.specs.Find.{get_member, as_object}
use Rattle.avro_nodes.specs.Nodes.{NamedView, FieldView, NodeView, union, rec}
use Rattle.avro_schema.specs.declared.keywords.Container.{Container}
use Rattle.avro_schema.specs.declared.keywords.TypeKind.{TypeKind}
use Rattle.avro_schema.specs.declared.keywords.TypeKind.TheVariants.{Reference}
use Rattle.avro_schema.specs.Names.{Known, defined}
use Rattle.avro_nodes.specs.Names.{namespace_of}
use Rattle.avro_schema.specs.Keywords.{type_kind_of}
use Rattle.avro_schema.specs.Attributes.{without_all, text_in, array_in}
use Rattle.avro_schema.specs.Inside.Distinct.{all_distinct}
use Rattle.avro_schema.specs.Inside.Declarations.{name_keys, named_in, FieldAttributesView, field_attributes_in, field_attribute_keys, bounded}
use Rattle.avro_schema.specs.Inside.ValueReaders.{Part, PartReader, TypeReader, parts_of, next_place}
use Rattle.avro_schema.specs.Kinds.{BranchKind, branch_kind}
use Rattle.avro_schema.specs.Inside.KindNumbers.{kind_number, branch_kind_number}
use Rattle.avro_schema.specs.Inside.Types.{name_at, reference_to, member_name, container_node, container_at, branch_of, union_at, field_at, field_of, record_at, by_type_kind, object_at, form_at, type_at}
use Rattle.avro_schema.specs.Inside.ReaderResults.{AddsPart}
use Rattle.avro_schema.proofs.Sequence.{settled}

abbrev pub made : {A : Type 0} → A → List NodeView → Known → Option (Part A)
made it nodes known = Some (record { it = it; nodes = nodes; known = known })

-- ---- types

type_is : (n : ℕ) (space : List ℕ) (d : Data) (known : Known) (first : ℕ) → 0 < n → type_at n space d known first ≡ form_at (type_at (n - 1)) space d known first
unfolding type_at
type_is zero space d known first h = absurd (omega arith)
type_is (suc n) space d known first h = let e : n ≡ suc n - 1 = omega arith in ap (λ m. form_at (type_at m) space d known first) e

module _ (n : ℕ) (space : List ℕ) (d : Data) (known : Known) (first : ℕ) (some : 0 < n) where
  pub type_form : (e : Data) → e ≡ d → type_at n space d known first ≡ form_at (type_at (n - 1)) space e known first
  type_form e is = type_is n space d known first some ∙ ap (λ x. form_at (type_at (n - 1)) space x known first) (sym is)

  pub type_string : (s : List ℕ) → string s ≡ d → type_at n space d known first ≡ name_at space s known first
  type_string s e = type_is n space d known first some ∙ rw (← e) refl

  pub type_array : (ds : Items) → json.array ds ≡ d → type_at n space d known first ≡ union_at (type_at (n - 1) space) ds known first
  type_array ds e = type_is n space d known first some ∙ rw (← e) refl

  pub type_object : (ms : Members) → json.object ms ≡ d → type_at n space d known first ≡ object_at (type_at (n - 1)) space ms known first
  type_object ms e = type_is n space d known first some ∙ rw (← e) refl

  pub type_null : json.null ≡ d → type_at n space d known first ≡ None
  type_null e = type_is n space d known first some ∙ rw (← e) refl

  pub type_boolean : (b : Bool) → json.boolean b ≡ d → type_at n space d known first ≡ None
  type_boolean b e = type_is n space d known first some ∙ rw (← e) refl

  pub type_number : (x : json.Num) → json.number x ≡ d → type_at n space d known first ≡ None
  type_number x e = type_is n space d known first some ∙ rw (← e) refl

pub too_deep : (n : ℕ) (space : List ℕ) (d : Data) (known : Known) (first : ℕ) → n ≡ 0 → type_at n space d known first ≡ None
unfolding type_at
too_deep zero space d known first h = refl
too_deep (suc n) space d known first h = absurd (omega arith)

module _ (types : TypeReader) (space : List ℕ) (ms : Members) (known : Known) (first : ℕ) where
  pub no_word : text_in (codes "type") ms ≡ None → object_at types space ms known first ≡ None
  unfolding object_at
  no_word e = rw e refl

  module _ (type_name : List ℕ) (rest : Members) (says : text_in (codes "type") ms ≡ Some type_name) (rest_is : rest ≡ without_all (codes "type" ∷ []) ms) where
    pub object_is : (w : TypeKind) → w ≡ type_kind_of type_name → object_at types space ms known first ≡ by_type_kind w type_name types space rest known first
    unfolding object_at
    object_is w is = rw (says, ← is, rest_is) refl

    pub reference_unbound : Reference ≡ type_kind_of type_name → bounded rest ≡ None → object_at types space ms known first ≡ None
    reference_unbound is none = object_is Reference is ∙ rw none refl

    pub reference_is : (extra : Members) → Reference ≡ type_kind_of type_name → bounded rest ≡ Some extra → object_at types space ms known first ≡ reference_to space type_name known
    reference_is extra is bound = object_is Reference is ∙ rw bound refl

-- ---- arrays and maps

module _ (container : Container) (one : PartReader ℕ) (ms : Members) (known : Known) (first : ℕ) where
  pub container_past : next_place first ≡ None → container_at container one ms known first ≡ None
  unfolding container_at
  container_past none = rw none refl

  module _ (place : ℕ) (room : next_place first ≡ Some place) where
    pub nothing_held : get_member (member_name container) ms ≡ None → container_at container one ms known first ≡ None
    unfolding container_at
    nothing_held none = rw (room, none) refl

    module _ (i : Data) (holds : get_member (member_name container) ms ≡ Some i) where
      pub container_unbound : bounded (without_all (member_name container ∷ []) ms) ≡ None → container_at container one ms known first ≡ None
      unfolding container_at
      container_unbound none = rw (room, holds, none) refl

      module _ (extra : Members) (bound : bounded (without_all (member_name container ∷ []) ms) ≡ Some extra) where
        pub held_fails : one i known (first + 1) ≡ None → container_at container one ms known first ≡ None
        unfolding container_at
        held_fails none = rw (room, holds, bound, none) refl

        container_is : (p : ℕ) (nodes : List NodeView) (known2 : Known) → one i known (first + 1) ≡ made p nodes known2 → container_at container one ms known first ≡ made place (container_node container p extra ∷ nodes) known2
        unfolding container_at
        container_is p nodes known2 inner = rw (room, holds, bound, inner) refl

        pub container_done : (p : ℕ) (before mid after : List NodeView) (placeholder : NodeView) (known2 : Known) → place ≡ length before → mid ≡ before ++ placeholder ∷ []
            → AddsPart (one i known (first + 1)) p mid after known2 → AddsPart (container_at container one ms known first) place before (set after place (container_node container p extra)) known2
        container_done p before mid after placeholder known2 place_is mid_is inner =
            record { added = container_node container p extra ∷ inner.added; is = container_is p inner.added known2 inner.is; after_is = settled before mid after inner.added place placeholder (container_node container p extra) mid_is inner.after_is place_is }

-- ---- unions

module _ (one : PartReader ℕ) (ds : Items) (known : Known) (first : ℕ) where
  pub union_past : next_place first ≡ None → union_at one ds known first ≡ None
  unfolding union_at
  union_past none = rw none refl

  abbrev pub branches_read : Option (Part (List (ℕ × ℕ)))
  branches_read = parts_of (branch_of one) ds known (first + 1)

  module _ (place : ℕ) (room : next_place first ≡ Some place) where
    pub branches_fail : branches_read ≡ None → union_at one ds known first ≡ None
    unfolding union_at
    branches_fail none = rw (room, none) refl

    pub branches_alike : (bs : List (ℕ × ℕ)) (before after : List NodeView) (known2 : Known) → AddsPart branches_read bs before after known2 → all_distinct (λ a b. a == b) (map (λ b. b.1) bs) ≡ false → union_at one ds known first ≡ None
    unfolding union_at
    branches_alike bs before after known2 parts alike = rw (room, parts.is, alike) refl

    union_is : (bs : List (ℕ × ℕ)) (nodes : List NodeView) (known2 : Known) → branches_read ≡ made bs nodes known2 → all_distinct (λ a b. a == b) (map (λ b. b.1) bs) ≡ true
        → union_at one ds known first ≡ made place (union (map (λ b. b.0) bs) ∷ nodes) known2
    unfolding union_at
    union_is bs nodes known2 parts differ = rw (room, parts, differ) refl

    pub union_done : (bs : List (ℕ × ℕ)) (before mid after : List NodeView) (placeholder : NodeView) (known2 : Known) → place ≡ length before → mid ≡ before ++ placeholder ∷ []
        → AddsPart branches_read bs mid after known2 → all_distinct (λ a b. a == b) (map (λ b. b.1) bs) ≡ true
        → AddsPart (union_at one ds known first) place before (set after place (union (map (λ b. b.0) bs))) known2
    union_done bs before mid after placeholder known2 place_is mid_is parts differ =
        record {
          added = union (map (λ b. b.0) bs) ∷ parts.added;
          is = union_is bs parts.added known2 parts.is differ;
          after_is = settled before mid after parts.added place placeholder (union (map (λ b. b.0) bs)) mid_is parts.after_is place_is;
        }

-- ---- a branch

module _ (one : PartReader ℕ) (d : Data) (known : Known) (first : ℕ) where
  pub branch_fails : one d known first ≡ None → branch_of one d known first ≡ None
  unfolding branch_of
  branch_fails none = rw none refl

  pub is_no_branch : (p : ℕ) (before after : List NodeView) (known2 : Known) (t : AddsPart (one d known first) p before after known2) → branch_kind p t.added ≡ None → branch_of one d known first ≡ None
  unfolding branch_of branch_kind_number
  is_no_branch p before after known2 t none = rw (t.is, none) refl

  pub is_branch : (p : ℕ) (kind : BranchKind) (before after : List NodeView) (known2 : Known) (t : AddsPart (one d known first) p before after known2) → branch_kind p t.added ≡ Some kind
      → AddsPart (branch_of one d known first) (p, kind_number kind) before after known2
  unfolding branch_of branch_kind_number
  is_branch p kind before after known2 t some = record { added = t.added; is = rw (t.is, some) refl; after_is = t.after_is }

-- ---- a field

module _ (one : PartReader ℕ) (d : Data) (known : Known) (first : ℕ) where
  pub no_object : as_object d ≡ None → field_of one d known first ≡ None
  unfolding field_of
  no_object none = rw none refl

  module _ (ms : Members) (object : as_object d ≡ Some ms) where
    pub no_label : field_attributes_in ms ≡ None → field_of one d known first ≡ None
    unfolding field_of
    no_label none = rw (object, none) refl

    module _ (label : FieldAttributesView) (labelled : field_attributes_in ms ≡ Some label) where
      pub no_type : get_member (codes "type") (without_all field_attribute_keys ms) ≡ None → field_of one d known first ≡ None
      unfolding field_of
      no_type none = rw (object, labelled, none) refl

      module _ (t : Data) (typed : get_member (codes "type") (without_all field_attribute_keys ms) ≡ Some t) where
        pub field_unbound : bounded (without_all (codes "type" ∷ []) (without_all field_attribute_keys ms)) ≡ None → field_of one d known first ≡ None
        unfolding field_of
        field_unbound none = rw (object, labelled, typed, none) refl

        module _ (extra : Members) (bound : bounded (without_all (codes "type" ∷ []) (without_all field_attribute_keys ms)) ≡ Some extra) where
          pub field_fails : one t known first ≡ None → field_of one d known first ≡ None
          unfolding field_of
          field_fails none = rw (object, labelled, typed, bound, none) refl

          pub field_is : (p : ℕ) (before after : List NodeView) (known2 : Known) → AddsPart (one t known first) p before after known2 → AddsPart (field_of one d known first) (field_at label p extra) before after known2
          unfolding field_of
          field_is p before after known2 inner = record { added = inner.added; is = rw (object, labelled, typed, bound, inner.is) refl; after_is = inner.after_is }

-- ---- records

module _ (types : TypeReader) (space : List ℕ) (ms : Members) (known : Known) (first : ℕ) where
  pub record_past : next_place first ≡ None → record_at types space ms known first ≡ None
  unfolding record_at
  record_past none = rw none refl

  module _ (place : ℕ) (room : next_place first ≡ Some place) where
    pub no_named : named_in space ms known ≡ None → record_at types space ms known first ≡ None
    unfolding record_at
    no_named none = rw (room, none) refl

    module _ (named : NamedView) (e : named_in space ms known ≡ Some named) where
      pub no_fields : array_in (codes "fields") (without_all name_keys ms) ≡ None → record_at types space ms known first ≡ None
      unfolding record_at
      no_fields none = rw (room, e, none) refl

      module _ (ds : Items) (f : array_in (codes "fields") (without_all name_keys ms) ≡ Some ds) where
        pub record_unbound : bounded (without_all (codes "fields" ∷ []) (without_all name_keys ms)) ≡ None → record_at types space ms known first ≡ None
        unfolding record_at
        record_unbound none = rw (room, e, f, none) refl

        module _ (extra : Members) (bound : bounded (without_all (codes "fields" ∷ []) (without_all name_keys ms)) ≡ Some extra) where
          abbrev pub fields_read : Option (Part (List FieldView))
          fields_read = parts_of (field_of (types (namespace_of named.name))) ds (defined known named.name place) (first + 1)

          pub fields_fail : fields_read ≡ None → record_at types space ms known first ≡ None
          unfolding record_at
          fields_fail none = rw (room, e, f, bound, none) refl

          pub fields_alike : (fields : List FieldView) (before after : List NodeView) (known2 : Known) → AddsPart fields_read fields before after known2 → all_distinct bytes_eq (map (λ x. x.name) fields) ≡ false
              → record_at types space ms known first ≡ None
          unfolding record_at
          fields_alike fields before after known2 parts alike = rw (room, e, f, bound, parts.is, alike) refl

          record_is : (fields : List FieldView) (nodes : List NodeView) (known2 : Known) → fields_read ≡ made fields nodes known2 → all_distinct bytes_eq (map (λ x. x.name) fields) ≡ true
              → record_at types space ms known first ≡ made place (rec named fields extra ∷ nodes) known2
          unfolding record_at
          record_is fields nodes known2 parts differ = rw (room, e, f, bound, parts, differ) refl

          pub record_done : (fields : List FieldView) (before mid after : List NodeView) (placeholder : NodeView) (known2 : Known) → place ≡ length before → mid ≡ before ++ placeholder ∷ []
              → AddsPart fields_read fields mid after known2 → all_distinct bytes_eq (map (λ x. x.name) fields) ≡ true
              → AddsPart (record_at types space ms known first) place before (set after place (rec named fields extra)) known2
          record_done fields before mid after placeholder known2 place_is mid_is parts differ =
              record {
                added = rec named fields extra ∷ parts.added;
                is = record_is fields parts.added known2 parts.is differ;
                after_is = settled before mid after parts.added place placeholder (rec named fields extra) mid_is parts.after_is place_is;
              }
