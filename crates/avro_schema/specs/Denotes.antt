-- Which type a JSON value denotes, with one rule for each form of declaration (Avro 1.11 specification, Schema Declaration).
use Rattle.std.specs.Prelude.{◌≡◌, ◌≢◌, ℕ, suc, ◌+◌, ◌<◌, ◌≤◌, List, [], ◌∷◌, ◌++◌, length, map, true, Option, Some, None, codes}
use Rattle.serde_json.specs.Data.{Data, string, Items, no_items, item, Members, depth, members_depth}
use Rattle.serde_json.specs.Data as json
use Rattle.serde_json.specs.Find.{get_member}
use Rattle.avro_nodes.specs.Limits.{max_nesting, max_places}
use Rattle.avro_nodes.specs.declared.node.PrimitiveKind.{PrimitiveKind}
use Rattle.avro_nodes.specs.Nodes.{NamedView, FieldView, NodeView, primitive, array, mapping, union, enumeration, fixed, rec}
use Rattle.avro_schema.specs.declared.keywords.TypeKind.{TypeKind}
use Rattle.avro_schema.specs.declared.keywords.TypeKind.TheVariants as type_kind
use Rattle.avro_schema.specs.Names.{Known, is_simple, allowed, full_name, alias_in, resolved, defined}
use Rattle.avro_nodes.specs.Names.{namespace_of, last_part}
use Rattle.avro_schema.specs.Keywords.{kind_of, type_kind_of}
use Rattle.avro_schema.specs.Attributes.{without_all, text_in, array_in, text_if_any, texts_in, texts_if_any, size_of, fallback_in, order_in}
use Rattle.avro_schema.specs.Kinds.{BranchKind, branch_kind}

-- no element of the list equals `x`
abbrev pub Lacks : {X : Type 0} → List X → X → Type 0
Lacks [] x = Unit {0}
Lacks (y ∷ ys) x = (x ≢ y) × Lacks ys x

-- the elements of the list are distinct
abbrev pub AllDiffer : {X : Type 0} → List X → Type 0
AllDiffer [] = Unit {0}
AllDiffer (x ∷ xs) = Lacks xs x × AllDiffer xs

-- `extra` are the members of an object whose keys aren't in `keys`. They nest within the limit.
pub record IsExtra (keys : List (List ℕ)) (ms extra : Members) : Type 0 where
  pub are : extra ≡ without_all keys ms
  pub shallow : members_depth extra ≤ max_nesting

-- The names of a new definition (Names; Aliases). Its full name is not defined yet, and the last part is not the name of a primitive type.
pub record IsNamed (space : List ℕ) (ms : Members) (known : Known) (named : NamedView) : Type 0 where
  pub text : List ℕ
  pub attribute : Option (List ℕ)
  pub text_is : text_in (codes "name") ms ≡ Some text
  pub attribute_is : text_if_any (codes "namespace") ms ≡ Some attribute
  pub full : full_name text attribute space ≡ Some named.name
  pub new : known named.name ≡ None
  pub free : kind_of (last_part named.name) ≡ None
  pub aliases : texts_if_any (alias_in (namespace_of named.name)) (get_member (codes "aliases") ms) ≡ Some named.aliases

-- The symbols and the default of an enum (Complex Types, Enums). The symbols are distinct simple names; there may be none (this project's
-- choice). The default, if present, is one of them.
pub record IsEnum (ms : Members) (symbols : List (List ℕ)) (fallback : Option (List ℕ)) : Type 0 where
  pub items : Items
  pub items_are : array_in (codes "symbols") ms ≡ Some items
  pub symbols_are : texts_in (allowed is_simple) items ≡ Some symbols
  pub differ : AllDiffer symbols
  pub fallback_is : fallback_in symbols (get_member (codes "default") ms) ≡ Some fallback

-- The attributes of a field other than its type (Complex Types, Records). The default nests within the limit.
pub record IsField (ms : Members) (field : FieldView) : Type 0 where
  pub name : text_in (codes "name") ms ≡ Some field.name
  pub simple : is_simple field.name ≡ true
  pub aliases : texts_if_any (allowed is_simple) (get_member (codes "aliases") ms) ≡ Some field.aliases
  pub order : order_in (get_member (codes "order") ms) ≡ Some field.order
  pub value : get_member (codes "default") ms ≡ field.value
  pub shallow : (d : Data) → field.value ≡ Some d → depth d ≤ max_nesting
  pub others : IsExtra (codes "name" ∷ codes "aliases" ∷ codes "order" ∷ codes "default" ∷ codes "type" ∷ []) ms field.extra

-- the keys that have a meaning in an array, a map, a fixed, an enum and a record, in this order
abbrev pub array_keys : List (List ℕ)
array_keys = codes "type" ∷ codes "items" ∷ []

abbrev pub map_keys : List (List ℕ)
map_keys = codes "type" ∷ codes "values" ∷ []

abbrev pub fixed_keys : List (List ℕ)
fixed_keys = codes "type" ∷ codes "name" ∷ codes "namespace" ∷ codes "aliases" ∷ codes "size" ∷ []

abbrev pub enum_keys : List (List ℕ)
enum_keys = codes "type" ∷ codes "name" ∷ codes "namespace" ∷ codes "aliases" ∷ codes "symbols" ∷ codes "default" ∷ []

abbrev pub record_keys : List (List ℕ)
record_keys = codes "type" ∷ codes "name" ∷ codes "namespace" ∷ codes "aliases" ∷ codes "fields" ∷ []

-- the object's attribute `type` is a string with this meaning
abbrev pub HasTypeKind : Members → TypeKind → Type 0
HasTypeKind ms w = (name : List ℕ) × (text_in (codes "type") ms ≡ Some name) × (type_kind_of name ≡ w)

-- `Denotes n space value known first place nodes known2`: nested at most `n` levels deep, in the namespace `space` and with the names
-- `known` defined, the value denotes the type at `place`. It adds `nodes` from the place `first` on: its own node, then those of the types
-- inside it, in order. Then the names `known2` are defined.
mutual
  pub data Denotes : ℕ → List ℕ → Data → Known → ℕ → ℕ → List NodeView → Known → Type 0 where
    -- a string that names a primitive type (Primitive Types)
    a_primitive : {n : ℕ} {space name : List ℕ} {known : Known} {first : ℕ} {kind : PrimitiveKind} → kind_of name ≡ Some kind → first < max_places
        → Denotes (suc n) space (string name) known first first (primitive kind json.no_members ∷ []) known
    -- any other string is a reference, which adds no node (Names)
    a_reference : {n : ℕ} {space name : List ℕ} {known : Known} {first place : ℕ} → kind_of name ≡ None → resolved known space name ≡ Some place
        → Denotes (suc n) space (string name) known first place [] known
    -- an object whose `type` names a primitive type, with other attributes (Primitive Types)
    primitive_type : {n : ℕ} {space : List ℕ} {ms extra : Members} {known : Known} {first : ℕ} {kind : PrimitiveKind} → HasTypeKind ms (type_kind.Primitive kind) → IsExtra (codes "type" ∷ []) ms extra → first < max_places
        → Denotes (suc n) space (json.object ms) known first first (primitive kind extra ∷ []) known
    -- an object whose `type` is a reference; its other attributes are dropped (this project's choice)
    reference_type : {n : ℕ} {space name : List ℕ} {ms extra : Members} {known : Known} {first place : ℕ} → text_in (codes "type") ms ≡ Some name → type_kind_of name ≡ type_kind.Reference
        → IsExtra (codes "type" ∷ []) ms extra → resolved known space name ≡ Some place
        → Denotes (suc n) space (json.object ms) known first place [] known
    -- Complex Types, Arrays
    array_type : {n : ℕ} {space : List ℕ} {ms extra : Members} {items : Data} {known known2 : Known} {first place : ℕ} {nodes : List NodeView} → HasTypeKind ms type_kind.Array
        → get_member (codes "items") ms ≡ Some items → IsExtra array_keys ms extra → first < max_places → Denotes n space items known (first + 1) place nodes known2
        → Denotes (suc n) space (json.object ms) known first first (array place extra ∷ nodes) known2
    -- Complex Types, Maps
    map_type : {n : ℕ} {space : List ℕ} {ms extra : Members} {values : Data} {known known2 : Known} {first place : ℕ} {nodes : List NodeView} → HasTypeKind ms type_kind.Map
        → get_member (codes "values") ms ≡ Some values → IsExtra map_keys ms extra → first < max_places → Denotes n space values known (first + 1) place nodes known2
        → Denotes (suc n) space (json.object ms) known first first (mapping place extra ∷ nodes) known2
    -- Complex Types, Fixed
    fixed_type : {n : ℕ} {space : List ℕ} {ms extra : Members} {known : Known} {first size : ℕ} {named : NamedView} → HasTypeKind ms type_kind.Fixed
        → IsNamed space ms known named → size_of (get_member (codes "size") ms) ≡ Some size → IsExtra fixed_keys ms extra → first < max_places
        → Denotes (suc n) space (json.object ms) known first first (fixed named size extra ∷ []) (defined known named.name first)
    -- Complex Types, Enums
    enum_type : {n : ℕ} {space : List ℕ} {ms extra : Members} {known : Known} {first : ℕ} {named : NamedView} {symbols : List (List ℕ)} {fallback : Option (List ℕ)} → HasTypeKind ms type_kind.Enum
        → IsNamed space ms known named → IsEnum ms symbols fallback → IsExtra enum_keys ms extra → first < max_places
        → Denotes (suc n) space (json.object ms) known first first (enumeration named symbols fallback extra ∷ []) (defined known named.name first)
    -- A record's name is defined inside it, and its namespace is the enclosing one there (Complex Types, Records; Names). Field names are
    -- distinct (this project's choice).
    record_type : {n : ℕ} {space : List ℕ} {ms extra : Members} {items : Items} {known known2 : Known} {first : ℕ} {named : NamedView} {fields : List FieldView} {nodes : List NodeView} → HasTypeKind ms type_kind.Record
        → IsNamed space ms known named → array_in (codes "fields") ms ≡ Some items → IsExtra record_keys ms extra → first < max_places
        → Fields n (namespace_of named.name) items (defined known named.name first) (first + 1) fields nodes known2 → AllDiffer (map (λ f. f.name) fields)
        → Denotes (suc n) space (json.object ms) known first first (rec named fields extra ∷ nodes) known2
    -- A JSON array is a union of its items, no two of the same kind and none a union (Complex Types, Unions). It may be empty (this project's choice).
    union_type : {n : ℕ} {space : List ℕ} {items : Items} {known known2 : Known} {first : ℕ} {branches : List (ℕ × BranchKind)} {nodes : List NodeView} → first < max_places
        → Branches n space items known (first + 1) branches nodes known2 → AllDiffer (map (λ b. b.1) branches)
        → Denotes (suc n) space (json.array items) known first first (union (map (λ b. b.0) branches) ∷ nodes) known2

  -- the branches of a union, each with its place and its kind
  pub data Branches : ℕ → List ℕ → Items → Known → ℕ → List (ℕ × BranchKind) → List NodeView → Known → Type 0 where
    no_branch : {n : ℕ} {space : List ℕ} {known : Known} {first : ℕ} → Branches n space no_items known first [] [] known
    branch : {n : ℕ} {space : List ℕ} {d : Data} {ds : Items} {known known2 known3 : Known} {first place : ℕ} {kind : BranchKind} {branches : List (ℕ × BranchKind)} {nodes more : List NodeView}
        → Denotes n space d known first place nodes known2 → branch_kind place nodes ≡ Some kind → Branches n space ds known2 (first + length nodes) branches more known3
        → Branches n space (item d ds) known first ((place, kind) ∷ branches) (nodes ++ more) known3

  -- the fields of a record
  pub data Fields : ℕ → List ℕ → Items → Known → ℕ → List FieldView → List NodeView → Known → Type 0 where
    no_field : {n : ℕ} {space : List ℕ} {known : Known} {first : ℕ} → Fields n space no_items known first [] [] known
    field : {n : ℕ} {space : List ℕ} {ms : Members} {type : Data} {ds : Items} {known known2 known3 : Known} {first : ℕ} {f : FieldView} {fields : List FieldView} {nodes more : List NodeView}
        → IsField ms f → get_member (codes "type") ms ≡ Some type → Denotes n space type known first f.place nodes known2 → Fields n space ds known2 (first + length nodes) fields more known3
        → Fields n space (item (json.object ms) ds) known first (f ∷ fields) (nodes ++ more) known3
