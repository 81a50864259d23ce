-- The members that the identity text has for a declaration, other than the types inside it, read as the same declaration.
use Rattle.std.proofs.Common.{◌≡◌, ℕ, List, [], ◌∷◌, Bool, true, false, cond, Option, Some, None, option_map, codes, bytes_eq, refl, sym, ap, subst, ◌∙◌}
use Rattle.std.specs.List.{list_any}
use Rattle.std.specs.Prelude.{nat_lt, ◌^◌}
use Rattle.std.proofs.lemmas.Option.{same_Some}
use Rattle.serde_json.specs.Data.{Data, string, number, unsigned, Items, no_items, item, Members, put, depth, members_depth}
use Rattle.serde_json.specs.Data as json
use Rattle.serde_json.specs.Find.{get_member, as_str, as_array, as_number, as_u64}
use Rattle.serde_json.proofs.Views.{get_member-put, get_member-put_other}
use Rattle.avro_nodes.specs.declared.node.PrimitiveKind.{PrimitiveKind}
use Rattle.avro_nodes.specs.declared.node.Order.{Order}
use Rattle.avro_nodes.specs.declared.node.Order.TheVariants.{Ascending, Descending, Ignore}
use Rattle.avro_nodes.specs.Names.{has_dot, namespace_of}
use Rattle.avro_nodes.specs.Nodes.{NamedView, FieldView}
use Rattle.avro_nodes.specs.Identity.{kind_text, texts, with_text, with_aliases, with_default, with_order, with_namespace}
use Rattle.avro_schema.specs.declared.keywords.TypeKind.{TypeKind}
use Rattle.avro_schema.specs.declared.keywords.TypeKind.TheVariants as type_kind
use Rattle.avro_schema.specs.Names.{Known, is_simple, is_name_sequence, is_namespace, allowed, full_name, alias_in}
use Rattle.avro_schema.specs.Keywords.{kind_of, type_kind_of, order_of}
use Rattle.avro_schema.specs.Attributes.{◌>>=◌, without_all, text_in, array_in, text_if_any, texts_in, texts_if_any, size_of, symbol_in, fallback_in, order_in}
use Rattle.avro_schema.specs.Denotes.{IsExtra, IsNamed, IsEnum, IsField, HasTypeKind, array_keys, map_keys, fixed_keys, enum_keys, record_keys}
use Rattle.avro_schema.proofs.Inversion.{bind_some, bind3, guard_some, not_same}
use Rattle.avro_schema.proofs.RoundMembers.{is_among, without-put, without_twice, none_without}
use Rattle.avro_schema.proofs.RoundNames.{good_name, good_namespace, full_again_dot, full_again_null, full_again_said, alias_again, allowed_says, kind_again}

-- ---- one member among others

past_put : (q k : List ℕ) (d : Data) (ms : Members) → bytes_eq q k ≡ false → get_member q (put k d ms) ≡ get_member q ms
past_put q k d ms other = get_member-put_other q k d ms (not_same q k other)

past_aliases : (q : List ℕ) (ts : List (List ℕ)) (ms : Members) → bytes_eq q (codes "aliases") ≡ false → get_member q (with_aliases ts ms) ≡ get_member q ms
past_aliases q [] ms other = refl
past_aliases q (t ∷ ts) ms other = past_put q (codes "aliases") (json.array (texts (t ∷ ts))) ms other

past_default : (q : List ℕ) (o : Option Data) (ms : Members) → bytes_eq q (codes "default") ≡ false → get_member q (with_default o ms) ≡ get_member q ms
past_default q None ms other = refl
past_default q (Some d) ms other = past_put q (codes "default") d ms other

past_order : (q : List ℕ) (o : Order) (ms : Members) → bytes_eq q (codes "order") ≡ false → get_member q (with_order o ms) ≡ get_member q ms
past_order q Ascending ms other = refl
past_order q Descending ms other = past_put q (codes "order") (string (codes "descending")) ms other
past_order q Ignore ms other = past_put q (codes "order") (string (codes "ignore")) ms other

past_namespace_at : (dot : Bool) (q : List ℕ) (ms : Members) → bytes_eq q (codes "namespace") ≡ false → get_member q (cond dot ms (with_text (codes "namespace") [] ms)) ≡ get_member q ms
past_namespace_at true q ms other = refl
past_namespace_at false q ms other = past_put q (codes "namespace") (string []) ms other

past_namespace : (q space name : List ℕ) (ms : Members) → bytes_eq q (codes "namespace") ≡ false → get_member q (with_namespace space name ms) ≡ get_member q ms
past_namespace q [] name ms other = refl
past_namespace q (c ∷ space) name ms other = past_namespace_at (has_dot name) q ms other

-- ---- the members without the keys

less_aliases : (ks : List (List ℕ)) (ts : List (List ℕ)) (ms : Members) → is_among ks (codes "aliases") ≡ true → without_all ks (with_aliases ts ms) ≡ without_all ks ms
less_aliases ks [] ms among = refl
less_aliases ks (t ∷ ts) ms among = without-put ks (codes "aliases") (json.array (texts (t ∷ ts))) ms among

less_default : (ks : List (List ℕ)) (o : Option Data) (ms : Members) → is_among ks (codes "default") ≡ true → without_all ks (with_default o ms) ≡ without_all ks ms
less_default ks None ms among = refl
less_default ks (Some d) ms among = without-put ks (codes "default") d ms among

less_order : (ks : List (List ℕ)) (o : Order) (ms : Members) → is_among ks (codes "order") ≡ true → without_all ks (with_order o ms) ≡ without_all ks ms
less_order ks Ascending ms among = refl
less_order ks Descending ms among = without-put ks (codes "order") (string (codes "descending")) ms among
less_order ks Ignore ms among = without-put ks (codes "order") (string (codes "ignore")) ms among

less_namespace_at : (dot : Bool) (ks : List (List ℕ)) (ms : Members) → is_among ks (codes "namespace") ≡ true → without_all ks (cond dot ms (with_text (codes "namespace") [] ms)) ≡ without_all ks ms
less_namespace_at true ks ms among = refl
less_namespace_at false ks ms among = without-put ks (codes "namespace") (string []) ms among

less_namespace : (ks : List (List ℕ)) (space name : List ℕ) (ms : Members) → is_among ks (codes "namespace") ≡ true → without_all ks (with_namespace space name ms) ≡ without_all ks ms
less_namespace ks [] name ms among = refl
less_namespace ks (c ∷ space) name ms among = less_namespace_at (has_dot name) ks ms among

-- removing these keys from written members leaves `extra`
others_again : (keys : List (List ℕ)) (ms extra written : Members) → IsExtra keys ms extra → without_all keys written ≡ without_all keys extra → IsExtra keys written extra
others_again keys ms extra written o e =
    record { are = sym (e ∙ ap (without_all keys) o.are ∙ without_twice keys ms ∙ sym o.are); shallow = o.shallow }

-- `extra` has none of the keys
others_lack : (keys : List (List ℕ)) (k : List ℕ) (ms extra : Members) → IsExtra keys ms extra → is_among keys k ≡ true → get_member k extra ≡ None
others_lack keys k ms extra o among = ap (get_member k) o.are ∙ none_without keys k ms among

-- ---- texts

text_found : (k s : List ℕ) (ms : Members) → get_member k ms ≡ Some (string s) → text_in k ms ≡ Some s
unfolding text_in
text_found k s ms e = rw e refl

items_found : (k : List ℕ) (ds : Items) (ms : Members) → get_member k ms ≡ Some (json.array ds) → array_in k ms ≡ Some ds
unfolding array_in
items_found k ds ms e = rw e refl

texts_more : (rule : List ℕ → Option (List ℕ)) (t : List ℕ) (ts : List (List ℕ)) → rule t ≡ Some t → texts_in rule (texts ts) ≡ Some ts → texts_in rule (texts (t ∷ ts)) ≡ Some (t ∷ ts)
unfolding texts_in
texts_more rule t ts one more = rw (one, more) refl

-- if the rule accepts its own results, texts that it gave read as themselves
texts_again : (rule : List ℕ → Option (List ℕ)) → ((s t : List ℕ) → rule s ≡ Some t → rule t ≡ Some t) → (ds : Items) (ts : List (List ℕ)) → texts_in rule ds ≡ Some ts → texts_in rule (texts ts) ≡ Some ts
unfolding texts_in
texts_again rule again no_items ts e = subst (λ (x : List (List ℕ)). texts_in rule (texts x) ≡ Some x) (same_Some _ _ e) refl
texts_again rule again (item d ds) ts e =
    let p = bind3 (as_str d) (λ text. rule text) (λ _ _. texts_in rule ds) (λ _ name more. Some (name ∷ more)) ts e in
    subst (λ (x : List (List ℕ)). texts_in rule (texts x) ≡ Some x) (same_Some _ _ p.6) (texts_more rule p.1 p.2 (again p.0 p.1 p.4) (texts_again rule again ds p.2 p.5))

-- the value written for aliases, if any
abbrev pub aliases_due : List (List ℕ) → Option Data
aliases_due [] = None
aliases_due (t ∷ ts) = Some (json.array (texts (t ∷ ts)))

due_again : (rule : List ℕ → Option (List ℕ)) (ts : List (List ℕ)) → texts_in rule (texts ts) ≡ Some ts → texts_if_any rule (aliases_due ts) ≡ Some ts
due_again rule [] e = refl
due_again rule (t ∷ ts) e = e

listed_again : (rule : List ℕ → Option (List ℕ)) → ((s t : List ℕ) → rule s ≡ Some t → rule t ≡ Some t) → (o : Option Data) (ts : List (List ℕ)) → texts_if_any rule o ≡ Some ts → texts_if_any rule (aliases_due ts) ≡ Some ts
listed_again rule again None ts e = subst (λ (x : List (List ℕ)). texts_if_any rule (aliases_due x) ≡ Some x) (same_Some _ _ e) refl
listed_again rule again (Some d) ts e = let p = bind_some (as_array d) (λ ds. texts_in rule ds) ts e in due_again rule ts (texts_again rule again p.0 ts p.2)

aliases_found : (ts : List (List ℕ)) (ms : Members) → get_member (codes "aliases") ms ≡ None → get_member (codes "aliases") (with_aliases ts ms) ≡ aliases_due ts
aliases_found [] ms none = none
aliases_found (t ∷ ts) ms none = get_member-put (codes "aliases") (json.array (texts (t ∷ ts))) ms

-- ---- the names of a definition

-- the value written for a namespace, if any
abbrev pub namespace_due : List ℕ → List ℕ → Option Data
namespace_due [] name = None
namespace_due (c ∷ space) name = cond (has_dot name) None (Some (string []))

namespace_found_at : (dot : Bool) (ms : Members) → get_member (codes "namespace") ms ≡ None → get_member (codes "namespace") (cond dot ms (with_text (codes "namespace") [] ms)) ≡ cond dot None (Some (string []))
namespace_found_at true ms none = none
namespace_found_at false ms none = get_member-put (codes "namespace") (string []) ms

namespace_found : (space name : List ℕ) (ms : Members) → get_member (codes "namespace") ms ≡ None → get_member (codes "namespace") (with_namespace space name ms) ≡ namespace_due space name
namespace_found [] name ms none = none
namespace_found (c ∷ space) name ms none = namespace_found_at (has_dot name) ms none

-- the attribute `namespace` with which the full name reads as itself
record NameAgain (space name : List ℕ) (due : Option Data) : Type 0 where
  attribute : Option (List ℕ)
  reads : (ms : Members) → get_member (codes "namespace") ms ≡ due → text_if_any (codes "namespace") ms ≡ Some attribute
  full : full_name name attribute space ≡ Some name

namespace_missing : (ms : Members) → get_member (codes "namespace") ms ≡ None → text_if_any (codes "namespace") ms ≡ Some None
unfolding text_if_any
namespace_missing ms e = rw e refl

namespace_null : (ms : Members) → get_member (codes "namespace") ms ≡ Some (string []) → text_if_any (codes "namespace") ms ≡ Some (Some [])
unfolding text_if_any
namespace_null ms e = rw e refl

name_again_at : (dot : Bool) (c : ℕ) (space name : List ℕ) → is_name_sequence name ≡ true → has_dot name ≡ dot → NameAgain (c ∷ space) name (cond dot None (Some (string [])))
name_again_at true c space name d dot = record { attribute = None; reads = namespace_missing; full = full_again_dot name None (c ∷ space) d dot }
name_again_at false c space name d none = record { attribute = Some []; reads = namespace_null; full = full_again_said name (c ∷ space) d none }

null_again_at : (dot : Bool) (name : List ℕ) → is_name_sequence name ≡ true → has_dot name ≡ dot → NameAgain [] name None
null_again_at true name d dot = record { attribute = None; reads = namespace_missing; full = full_again_dot name None [] d dot }
null_again_at false name d none = record { attribute = None; reads = namespace_missing; full = full_again_null name d none }

name_again : (space name : List ℕ) → is_name_sequence name ≡ true → NameAgain space name (namespace_due space name)
name_again [] name d = null_again_at (has_dot name) name d refl
name_again (c ∷ space) name d = name_again_at (has_dot name) c space name d refl

pub good_named : (space : List ℕ) (ms : Members) (known : Known) (named : NamedView) → is_namespace space ≡ true → IsNamed space ms known named → is_name_sequence named.name ≡ true
good_named space ms known named good n = good_name n.text n.attribute space named.name good n.full

-- members with a name, a namespace and aliases as they are written read as these names
named_again : (space : List ℕ) (ms written : Members) (known : Known) (named : NamedView) → is_namespace space ≡ true → IsNamed space ms known named
    → get_member (codes "name") written ≡ Some (string named.name) → get_member (codes "namespace") written ≡ namespace_due space named.name → get_member (codes "aliases") written ≡ aliases_due named.aliases
    → IsNamed space written known named
named_again space ms written known named good n name namespace aliases =
    let d = good_named space ms known named good n in
    let again = name_again space named.name d in
    let rule : List ℕ → Option (List ℕ) = alias_in (namespace_of named.name) in
    let listed = listed_again rule (λ s t e. alias_again (namespace_of named.name) s t (good_namespace named.name d) e) (get_member (codes "aliases") ms) named.aliases n.aliases in
    record {
      text = named.name;
      attribute = again.attribute;
      text_is = text_found (codes "name") named.name written name;
      attribute_is = again.reads written namespace;
      full = again.full;
      new = n.new;
      free = n.free;
      aliases = ap (texts_if_any rule) aliases ∙ listed;
    }

-- ---- the values of `type`

pub word_is_kind : (kind : PrimitiveKind) → type_kind_of (kind_text kind) ≡ type_kind.Primitive kind
unfolding type_kind_of
word_is_kind kind = rw (kind_again kind) refl

typed : (w : TypeKind) (name : List ℕ) (ms : Members) → type_kind_of name ≡ w → get_member (codes "type") ms ≡ Some (string name) → HasTypeKind ms w
typed w name ms is e = (name, text_found (codes "type") name ms e, is)

word_array : type_kind_of (codes "array") ≡ type_kind.Array
unfolding type_kind_of kind_of
word_array = refl

word_map : type_kind_of (codes "map") ≡ type_kind.Map
unfolding type_kind_of kind_of
word_map = refl

word_fixed : type_kind_of (codes "fixed") ≡ type_kind.Fixed
unfolding type_kind_of kind_of
word_fixed = refl

word_enum : type_kind_of (codes "enum") ≡ type_kind.Enum
unfolding type_kind_of kind_of
word_enum = refl

word_record : type_kind_of (codes "record") ≡ type_kind.Record
unfolding type_kind_of kind_of
word_record = refl

-- ---- defaults and orders

default_found : (o : Option Data) (ms : Members) → get_member (codes "default") ms ≡ None → get_member (codes "default") (with_default o ms) ≡ o
default_found None ms none = none
default_found (Some d) ms none = get_member-put (codes "default") d ms

-- the value written for an order, if any
abbrev order_due : Order → Option Data
order_due Ascending = None
order_due Descending = Some (string (codes "descending"))
order_due Ignore = Some (string (codes "ignore"))

order_found : (o : Order) (ms : Members) → get_member (codes "order") ms ≡ None → get_member (codes "order") (with_order o ms) ≡ order_due o
order_found Ascending ms none = none
order_found Descending ms none = get_member-put (codes "order") (string (codes "descending")) ms
order_found Ignore ms none = get_member-put (codes "order") (string (codes "ignore")) ms

order_again : (o : Order) → order_in (order_due o) ≡ Some o
unfolding order_of
order_again Ascending = refl
order_again Descending = refl
order_again Ignore = refl

symbol_is : (symbols : List (List ℕ)) (text s : List ℕ) → cond (list_any (λ t. bytes_eq t text) symbols) (Some text) None ≡ Some s → fallback_in symbols (Some (string s)) ≡ Some (Some s)
symbol_is symbols text s e =
    let g = guard_some (list_any (λ t. bytes_eq t text) symbols) (Some text) s e in
    subst (λ (x : List ℕ). fallback_in symbols (Some (string x)) ≡ Some (Some x)) (same_Some _ _ g.1) (rw g.0 refl)

fallback_again : (symbols : List (List ℕ)) (o : Option Data) (fallback : Option (List ℕ)) → fallback_in symbols o ≡ Some fallback → fallback_in symbols (option_map string fallback) ≡ Some fallback
fallback_again symbols None fallback e = subst (λ (x : Option (List ℕ)). fallback_in symbols (option_map string x) ≡ Some x) (same_Some _ _ e) refl
fallback_again symbols (Some d) fallback e =
    let p = bind_some (symbol_in symbols d) (λ s. Some (Some s)) fallback e in
    let q = bind_some (as_str d) (λ s. cond (list_any (λ t. bytes_eq t s) symbols) (Some s) None) p.0 p.1 in
    subst (λ (x : Option (List ℕ)). fallback_in symbols (option_map string x) ≡ Some x) (same_Some _ _ p.2) (symbol_is symbols q.0 p.0 q.2)

-- ---- the members of each form, in which `type` is inserted last or next to last

abbrev Typed : List ℕ → Members → Members
Typed name extra = with_text (codes "type") name extra

type_found : (name : List ℕ) (extra : Members) → get_member (codes "type") (Typed name extra) ≡ Some (string name)
type_found name extra = get_member-put (codes "type") (string name) extra

less_type : (ks : List (List ℕ)) (name : List ℕ) (extra : Members) → is_among ks (codes "type") ≡ true → without_all ks (Typed name extra) ≡ without_all ks extra
less_type ks name extra among = without-put ks (codes "type") (string name) extra among

past_type : (q name : List ℕ) (extra : Members) → bytes_eq q (codes "type") ≡ false → get_member q (Typed name extra) ≡ get_member q extra
past_type q name extra other = past_put q (codes "type") (string name) extra other

abbrev pub primitive_members : PrimitiveKind → Members → Members
primitive_members kind extra = Typed (kind_text kind) extra

pub primitive_says : (kind : PrimitiveKind) (extra : Members) → HasTypeKind (primitive_members kind extra) (type_kind.Primitive kind)
primitive_says kind extra = typed (type_kind.Primitive kind) (kind_text kind) (primitive_members kind extra) (word_is_kind kind) (type_found (kind_text kind) extra)

pub primitive_others : (kind : PrimitiveKind) (ms extra : Members) → IsExtra (codes "type" ∷ []) ms extra → IsExtra (codes "type" ∷ []) (primitive_members kind extra) extra
primitive_others kind ms extra o = others_again (codes "type" ∷ []) ms extra (primitive_members kind extra) o (less_type (codes "type" ∷ []) (kind_text kind) extra refl)

abbrev pub array_members : Data → Members → Members
array_members items extra = put (codes "items") items (Typed (codes "array") extra)

pub array_says : (items : Data) (extra : Members) → HasTypeKind (array_members items extra) type_kind.Array
array_says items extra =
    typed type_kind.Array (codes "array") (array_members items extra) word_array (past_put (codes "type") (codes "items") items (Typed (codes "array") extra) refl ∙ type_found (codes "array") extra)

pub array_items : (items : Data) (extra : Members) → get_member (codes "items") (array_members items extra) ≡ Some items
array_items items extra = get_member-put (codes "items") items (Typed (codes "array") extra)

pub array_others : (items : Data) (ms extra : Members) → IsExtra array_keys ms extra → IsExtra array_keys (array_members items extra) extra
array_others items ms extra o =
    others_again array_keys ms extra (array_members items extra) o (without-put array_keys (codes "items") items (Typed (codes "array") extra) refl ∙ less_type array_keys (codes "array") extra refl)

abbrev pub map_members : Data → Members → Members
map_members values extra = Typed (codes "map") (put (codes "values") values extra)

pub map_says : (values : Data) (extra : Members) → HasTypeKind (map_members values extra) type_kind.Map
map_says values extra = typed type_kind.Map (codes "map") (map_members values extra) word_map (type_found (codes "map") (put (codes "values") values extra))

pub map_values : (values : Data) (extra : Members) → get_member (codes "values") (map_members values extra) ≡ Some values
map_values values extra = past_type (codes "values") (codes "map") (put (codes "values") values extra) refl ∙ get_member-put (codes "values") values extra

pub map_others : (values : Data) (ms extra : Members) → IsExtra map_keys ms extra → IsExtra map_keys (map_members values extra) extra
map_others values ms extra o =
    others_again map_keys ms extra (map_members values extra) o (less_type map_keys (codes "map") (put (codes "values") values extra) refl ∙ without-put map_keys (codes "values") values extra refl)

-- ---- fixed

module _ (space : List ℕ) (known : Known) (named : NamedView) (size : ℕ) (ms extra : Members) (good : is_namespace space ≡ true) (n : IsNamed space ms known named) (o : IsExtra fixed_keys ms extra) where
  abbrev fixed_inner : Members
  fixed_inner = put (codes "size") (number (unsigned size)) (Typed (codes "fixed") extra)

  abbrev fixed_named : Members
  fixed_named = with_namespace space named.name fixed_inner

  abbrev pub fixed_members : Members
  fixed_members = with_aliases named.aliases (with_text (codes "name") named.name fixed_named)

  fixed_past : (q : List ℕ) → bytes_eq q (codes "aliases") ≡ false → bytes_eq q (codes "name") ≡ false → get_member q fixed_members ≡ get_member q fixed_named
  fixed_past q a b = past_aliases q named.aliases (with_text (codes "name") named.name fixed_named) a ∙ past_put q (codes "name") (string named.name) fixed_named b

  fixed_lacks : (q : List ℕ) → bytes_eq q (codes "size") ≡ false → bytes_eq q (codes "type") ≡ false → is_among fixed_keys q ≡ true → get_member q fixed_inner ≡ None
  fixed_lacks q a b among = past_put q (codes "size") (number (unsigned size)) (Typed (codes "fixed") extra) a ∙ past_type q (codes "fixed") extra b ∙ others_lack fixed_keys q ms extra o among

  pub fixed_says : HasTypeKind fixed_members type_kind.Fixed
  fixed_says =
      typed type_kind.Fixed (codes "fixed") fixed_members word_fixed
      (fixed_past (codes "type") refl refl ∙ past_namespace (codes "type") space named.name fixed_inner refl ∙ past_put (codes "type") (codes "size") (number (unsigned size)) (Typed (codes "fixed") extra) refl ∙ type_found (codes "fixed") extra)

  pub fixed_titled : get_member (codes "name") fixed_members ≡ Some (string named.name)
  fixed_titled = past_aliases (codes "name") named.aliases (with_text (codes "name") named.name fixed_named) refl ∙ get_member-put (codes "name") (string named.name) fixed_named

  pub fixed_listed : get_member (codes "aliases") fixed_members ≡ aliases_due named.aliases
  fixed_listed =
      aliases_found named.aliases (with_text (codes "name") named.name fixed_named)
      (past_put (codes "aliases") (codes "name") (string named.name) fixed_named refl ∙ past_namespace (codes "aliases") space named.name fixed_inner refl ∙ fixed_lacks (codes "aliases") refl refl refl)

  pub fixed_name : IsNamed space fixed_members known named
  fixed_name =
      named_again space ms fixed_members known named good n fixed_titled
      (fixed_past (codes "namespace") refl refl ∙ namespace_found space named.name fixed_inner (fixed_lacks (codes "namespace") refl refl refl)) fixed_listed

  pub fixed_size : get_member (codes "size") fixed_members ≡ Some (number (unsigned size))
  fixed_size = fixed_past (codes "size") refl refl ∙ past_namespace (codes "size") space named.name fixed_inner refl ∙ get_member-put (codes "size") (number (unsigned size)) (Typed (codes "fixed") extra)

  pub fixed_others : IsExtra fixed_keys fixed_members extra
  fixed_others =
      others_again fixed_keys ms extra fixed_members o
      (less_aliases fixed_keys named.aliases (with_text (codes "name") named.name fixed_named) refl ∙ without-put fixed_keys (codes "name") (string named.name) fixed_named refl ∙ less_namespace fixed_keys space named.name fixed_inner refl
      ∙ without-put fixed_keys (codes "size") (number (unsigned size)) (Typed (codes "fixed") extra) refl ∙ less_type fixed_keys (codes "fixed") extra refl)

pub size_again : (o : Option Data) (size : ℕ) → size_of o ≡ Some size → size_of (Some (number (unsigned size))) ≡ Some size
unfolding size_of
size_again o size e =
    let p = bind_some (o >>= as_number >>= as_u64) (λ n. cond (nat_lt n (2 ^ 31)) (Some n) None) size e in
    let g = guard_some (nat_lt p.0 (2 ^ 31)) (Some p.0) size p.2 in
    subst (λ (x : ℕ). size_of (Some (number (unsigned x))) ≡ Some x) (same_Some _ _ g.1) (rw g.0 refl)

-- ---- enums

module _ (space : List ℕ) (known : Known) (named : NamedView) (symbols : List (List ℕ)) (fallback : Option (List ℕ)) (ms extra : Members) (good : is_namespace space ≡ true) (n : IsNamed space ms known named) (o : IsExtra enum_keys ms extra) where
  abbrev enum_inner : Members
  enum_inner = put (codes "symbols") (json.array (texts symbols)) (Typed (codes "enum") extra)

  abbrev enum_named : Members
  enum_named = with_namespace space named.name enum_inner

  abbrev enum_called : Members
  enum_called = with_text (codes "name") named.name enum_named

  abbrev enum_chosen : Members
  enum_chosen = with_default (option_map string fallback) enum_called

  abbrev pub enum_members : Members
  enum_members = with_aliases named.aliases enum_chosen

  enum_past : (q : List ℕ) → bytes_eq q (codes "aliases") ≡ false → bytes_eq q (codes "default") ≡ false → get_member q enum_members ≡ get_member q enum_called
  enum_past q a b = past_aliases q named.aliases enum_chosen a ∙ past_default q (option_map string fallback) enum_called b

  enum_within : (q : List ℕ) → bytes_eq q (codes "name") ≡ false → bytes_eq q (codes "namespace") ≡ false → get_member q enum_called ≡ get_member q enum_inner
  enum_within q a b = past_put q (codes "name") (string named.name) enum_named a ∙ past_namespace q space named.name enum_inner b

  enum_lacks : (q : List ℕ) → bytes_eq q (codes "symbols") ≡ false → bytes_eq q (codes "type") ≡ false → is_among enum_keys q ≡ true → get_member q enum_inner ≡ None
  enum_lacks q a b among = past_put q (codes "symbols") (json.array (texts symbols)) (Typed (codes "enum") extra) a ∙ past_type q (codes "enum") extra b ∙ others_lack enum_keys q ms extra o among

  pub enum_says : HasTypeKind enum_members type_kind.Enum
  enum_says =
      typed type_kind.Enum (codes "enum") enum_members word_enum
      (enum_past (codes "type") refl refl ∙ enum_within (codes "type") refl refl ∙ past_put (codes "type") (codes "symbols") (json.array (texts symbols)) (Typed (codes "enum") extra) refl ∙ type_found (codes "enum") extra)

  pub enum_titled : get_member (codes "name") enum_members ≡ Some (string named.name)
  enum_titled = enum_past (codes "name") refl refl ∙ get_member-put (codes "name") (string named.name) enum_named

  pub enum_listed : get_member (codes "aliases") enum_members ≡ aliases_due named.aliases
  enum_listed =
      aliases_found named.aliases enum_chosen (past_default (codes "aliases") (option_map string fallback) enum_called refl ∙ enum_within (codes "aliases") refl refl ∙ enum_lacks (codes "aliases") refl refl refl)

  pub enum_name : IsNamed space enum_members known named
  enum_name =
      named_again space ms enum_members known named good n enum_titled
      (enum_past (codes "namespace") refl refl ∙ past_put (codes "namespace") (codes "name") (string named.name) enum_named refl ∙ namespace_found space named.name enum_inner (enum_lacks (codes "namespace") refl refl refl))
      enum_listed

  enum_symbols : get_member (codes "symbols") enum_members ≡ Some (json.array (texts symbols))
  enum_symbols = enum_past (codes "symbols") refl refl ∙ enum_within (codes "symbols") refl refl ∙ get_member-put (codes "symbols") (json.array (texts symbols)) (Typed (codes "enum") extra)

  enum_default : get_member (codes "default") enum_members ≡ option_map string fallback
  enum_default =
      past_aliases (codes "default") named.aliases enum_chosen refl
      ∙ default_found (option_map string fallback) enum_called (enum_within (codes "default") refl refl ∙ enum_lacks (codes "default") refl refl refl)

  pub enum_again : IsEnum ms symbols fallback → IsEnum enum_members symbols fallback
  enum_again e = record {
    items = texts symbols;
    items_are = items_found (codes "symbols") (texts symbols) enum_members enum_symbols;
    symbols_are = texts_again (allowed is_simple) (λ s t h. (allowed_says is_simple s t h).1) e.items symbols e.symbols_are;
    differ = e.differ;
    fallback_is = ap (fallback_in symbols) enum_default ∙ fallback_again symbols (get_member (codes "default") ms) fallback e.fallback_is;
  }

  pub enum_others : IsExtra enum_keys enum_members extra
  enum_others =
      others_again enum_keys ms extra enum_members o
      (less_aliases enum_keys named.aliases enum_chosen refl ∙ less_default enum_keys (option_map string fallback) enum_called refl ∙ without-put enum_keys (codes "name") (string named.name) enum_named refl
      ∙ less_namespace enum_keys space named.name enum_inner refl ∙ without-put enum_keys (codes "symbols") (json.array (texts symbols)) (Typed (codes "enum") extra) refl ∙ less_type enum_keys (codes "enum") extra refl)

-- ---- records

module _ (space : List ℕ) (known : Known) (named : NamedView) (fields : Items) (ms extra : Members) (good : is_namespace space ≡ true) (n : IsNamed space ms known named) (o : IsExtra record_keys ms extra) where
  abbrev record_inner : Members
  record_inner = Typed (codes "record") extra

  abbrev record_named : Members
  record_named = with_namespace space named.name record_inner

  abbrev record_called : Members
  record_called = with_text (codes "name") named.name record_named

  abbrev record_filled : Members
  record_filled = put (codes "fields") (json.array fields) record_called

  abbrev pub record_members : Members
  record_members = with_aliases named.aliases record_filled

  record_past : (q : List ℕ) → bytes_eq q (codes "aliases") ≡ false → bytes_eq q (codes "fields") ≡ false → get_member q record_members ≡ get_member q record_called
  record_past q a b = past_aliases q named.aliases record_filled a ∙ past_put q (codes "fields") (json.array fields) record_called b

  record_within : (q : List ℕ) → bytes_eq q (codes "name") ≡ false → bytes_eq q (codes "namespace") ≡ false → get_member q record_called ≡ get_member q record_inner
  record_within q a b = past_put q (codes "name") (string named.name) record_named a ∙ past_namespace q space named.name record_inner b

  record_lacks : (q : List ℕ) → bytes_eq q (codes "type") ≡ false → is_among record_keys q ≡ true → get_member q record_inner ≡ None
  record_lacks q b among = past_type q (codes "record") extra b ∙ others_lack record_keys q ms extra o among

  pub record_says : HasTypeKind record_members type_kind.Record
  record_says = typed type_kind.Record (codes "record") record_members word_record (record_past (codes "type") refl refl ∙ record_within (codes "type") refl refl ∙ type_found (codes "record") extra)

  pub record_titled : get_member (codes "name") record_members ≡ Some (string named.name)
  record_titled = record_past (codes "name") refl refl ∙ get_member-put (codes "name") (string named.name) record_named

  pub record_listed : get_member (codes "aliases") record_members ≡ aliases_due named.aliases
  record_listed =
      aliases_found named.aliases record_filled
      (past_put (codes "aliases") (codes "fields") (json.array fields) record_called refl ∙ record_within (codes "aliases") refl refl ∙ record_lacks (codes "aliases") refl refl)

  pub record_name : IsNamed space record_members known named
  record_name =
      named_again space ms record_members known named good n record_titled
      (record_past (codes "namespace") refl refl ∙ past_put (codes "namespace") (codes "name") (string named.name) record_named refl ∙ namespace_found space named.name record_inner (record_lacks (codes "namespace") refl refl))
      record_listed

  pub record_held : get_member (codes "fields") record_members ≡ Some (json.array fields)
  record_held = past_aliases (codes "fields") named.aliases record_filled refl ∙ get_member-put (codes "fields") (json.array fields) record_called

  pub record_fields : array_in (codes "fields") record_members ≡ Some fields
  record_fields = items_found (codes "fields") fields record_members record_held

  pub record_others : IsExtra record_keys record_members extra
  record_others =
      others_again record_keys ms extra record_members o
      (less_aliases record_keys named.aliases record_filled refl ∙ without-put record_keys (codes "fields") (json.array fields) record_called refl ∙ without-put record_keys (codes "name") (string named.name) record_named refl
      ∙ less_namespace record_keys space named.name record_inner refl ∙ less_type record_keys (codes "record") extra refl)

-- ---- fields

abbrev field_keys : List (List ℕ)
field_keys = codes "name" ∷ codes "aliases" ∷ codes "order" ∷ codes "default" ∷ codes "type" ∷ []

module _ (ms : Members) (f : FieldView) (type : Data) (i : IsField ms f) where
  abbrev field_inner : Members
  field_inner = put (codes "type") type f.extra

  abbrev field_ordered : Members
  field_ordered = with_order f.order field_inner

  abbrev field_called : Members
  field_called = with_text (codes "name") f.name field_ordered

  abbrev field_given : Members
  field_given = with_default f.value field_called

  abbrev pub field_members : Members
  field_members = with_aliases f.aliases field_given

  field_past : (q : List ℕ) → bytes_eq q (codes "aliases") ≡ false → bytes_eq q (codes "default") ≡ false → get_member q field_members ≡ get_member q field_called
  field_past q a b = past_aliases q f.aliases field_given a ∙ past_default q f.value field_called b

  field_within : (q : List ℕ) → bytes_eq q (codes "name") ≡ false → bytes_eq q (codes "order") ≡ false → get_member q field_called ≡ get_member q field_inner
  field_within q a b = past_put q (codes "name") (string f.name) field_ordered a ∙ past_order q f.order field_inner b

  field_lacks : (q : List ℕ) → bytes_eq q (codes "type") ≡ false → is_among field_keys q ≡ true → get_member q field_inner ≡ None
  field_lacks q b among = past_put q (codes "type") type f.extra b ∙ others_lack field_keys q ms f.extra i.others among

  pub field_type : get_member (codes "type") field_members ≡ Some type
  field_type = field_past (codes "type") refl refl ∙ field_within (codes "type") refl refl ∙ get_member-put (codes "type") type f.extra

  pub field_again : IsField field_members f
  field_again =
      let lacks = field_within (codes "aliases") refl refl ∙ field_lacks (codes "aliases") refl refl in
      record {
        name = text_found (codes "name") f.name field_members (field_past (codes "name") refl refl ∙ get_member-put (codes "name") (string f.name) field_ordered);
        simple = i.simple;
        aliases = ap (texts_if_any (allowed is_simple)) (aliases_found f.aliases field_given (past_default (codes "aliases") f.value field_called refl ∙ lacks))
            ∙ listed_again (allowed is_simple) (λ s t h. (allowed_says is_simple s t h).1) (get_member (codes "aliases") ms) f.aliases i.aliases;
        order = ap order_in (field_past (codes "order") refl refl ∙ past_put (codes "order") (codes "name") (string f.name) field_ordered refl ∙ order_found f.order field_inner (field_lacks (codes "order") refl refl)) ∙ order_again f.order;
        value = past_aliases (codes "default") f.aliases field_given refl ∙ default_found f.value field_called (field_within (codes "default") refl refl ∙ field_lacks (codes "default") refl refl);
        shallow = i.shallow;
        others = others_again field_keys ms f.extra field_members i.others
            (less_aliases field_keys f.aliases field_given refl ∙ less_default field_keys f.value field_called refl ∙ without-put field_keys (codes "name") (string f.name) field_ordered refl
            ∙ less_order field_keys f.order field_inner refl ∙ without-put field_keys (codes "type") type f.extra refl);
      }
