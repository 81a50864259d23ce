-- The attributes of each form of type, in byte order of their names, and the value that they make.
use Rattle.std.proofs.Common.{◌≡◌, ℕ, List, [], ◌∷◌, Bool, true, false, Option, Some, None, option_map, refl, ap, ◌∙◌, ◌++◌, subst}
use Rattle.std.specs.Prelude.{codes}
use Rattle.serde_json.specs.Data.{Data, string, number, unsigned, array, object, Items, Members, put}
use Rattle.json.specs.Token.{Token, begin_object}
use Rattle.serde_json.specs.View.{members_view}
use Rattle.serde_json.specs.Written.{WritesValue}
use Rattle.serde_json.proofs.Views.{Entry}
use Rattle.avro_nodes.specs.declared.node.Order.{Order}
use Rattle.avro_nodes.specs.declared.node.Order.TheVariants.{Ascending, Descending, Ignore}
use Rattle.avro_nodes.specs.Names.{has_dot}
use Rattle.avro_nodes.specs.Nodes.{NamedView, FieldView}
use Rattle.avro_nodes.specs.Identity.{texts, with_text, with_aliases, with_default, with_order, with_namespace, enum_value, fixed_value, record_value, field_value}
use Rattle.avro_nodes.specs.Inside.Objects.{Attribute, EndsObject, merged, AreOrdered, put_attribute, put_attributes, texts_value, order_value, namespace_value, record_end}
use Rattle.avro_nodes.proofs.Merged.{ascending}
use Rattle.avro_nodes.proofs.Written.{object_merged}

put_aliases : (ts : List (List ℕ)) (ms : Members) → put_attribute (codes "aliases", texts_value ts) ms ≡ with_aliases ts ms
put_aliases [] ms = refl
put_aliases (t ∷ ts) ms = refl

put_default : (o : Option Data) (ms : Members) → put_attribute (codes "default", o) ms ≡ with_default o ms
put_default None ms = refl
put_default (Some d) ms = refl

put_order : (o : Order) (ms : Members) → put_attribute (codes "order", order_value o) ms ≡ with_order o ms
put_order Ascending ms = refl
put_order Descending ms = refl
put_order Ignore ms = refl

put_namespace_at : (b : Bool) (c : ℕ) (enclosing name : List ℕ) (ms : Members) → has_dot name ≡ b → put_attribute (codes "namespace", namespace_value (c ∷ enclosing) name) ms ≡ with_namespace (c ∷ enclosing) name ms
put_namespace_at true c enclosing name ms e = rw e refl
put_namespace_at false c enclosing name ms e = rw e refl

put_namespace : (enclosing name : List ℕ) (ms : Members) → put_attribute (codes "namespace", namespace_value enclosing name) ms ≡ with_namespace enclosing name ms
put_namespace [] name ms = refl
put_namespace (c ∷ enclosing) name ms = put_namespace_at (has_dot name) c enclosing name ms refl

abbrev pub enum_attributes : List ℕ → NamedView → List (List ℕ) → Option (List ℕ) → List Attribute
enum_attributes enclosing named symbols fallback =
    (codes "aliases", texts_value named.aliases) ∷ (codes "default", option_map string fallback) ∷ (codes "name", Some (string named.name)) ∷ (codes "namespace", namespace_value enclosing named.name)
    ∷ (codes "symbols", Some (array (texts symbols))) ∷ (codes "type", Some (string (codes "enum"))) ∷ []

pub enum_put : (enclosing : List ℕ) (named : NamedView) (symbols : List (List ℕ)) (fallback : Option (List ℕ)) (extra : Members) → object (put_attributes (enum_attributes enclosing named symbols fallback) extra) ≡ enum_value enclosing named symbols fallback extra
enum_put enclosing named symbols fallback extra =
    let after = put (codes "symbols") (array (texts symbols)) (with_text (codes "type") (codes "enum") extra) in
    let spaced = put_namespace enclosing named.name after in
    ap object (put_aliases named.aliases _ ∙ ap (with_aliases named.aliases) (put_default (option_map string fallback) _ ∙ ap (λ (ms : Members). with_default (option_map string fallback) (with_text (codes "name") named.name ms)) spaced))

abbrev pub fixed_attributes : List ℕ → NamedView → ℕ → List Attribute
fixed_attributes enclosing named size =
    (codes "aliases", texts_value named.aliases) ∷ (codes "name", Some (string named.name)) ∷ (codes "namespace", namespace_value enclosing named.name) ∷ (codes "size", Some (number (unsigned size)))
    ∷ (codes "type", Some (string (codes "fixed"))) ∷ []

pub fixed_put : (enclosing : List ℕ) (named : NamedView) (size : ℕ) (extra : Members) → object (put_attributes (fixed_attributes enclosing named size) extra) ≡ fixed_value enclosing named size extra
fixed_put enclosing named size extra =
    let after = put (codes "size") (number (unsigned size)) (with_text (codes "type") (codes "fixed") extra) in
    ap object (put_aliases named.aliases _ ∙ ap (λ (ms : Members). with_aliases named.aliases (with_text (codes "name") named.name ms)) (put_namespace enclosing named.name after))

abbrev pub record_attributes : List ℕ → NamedView → Items → List Attribute
record_attributes enclosing named fields = (codes "aliases", texts_value named.aliases) ∷ (codes "fields", Some (array fields)) ∷ record_end enclosing named.name

pub record_put : (enclosing : List ℕ) (named : NamedView) (fields : Items) (extra : Members) → object (put_attributes (record_attributes enclosing named fields) extra) ≡ record_value enclosing named fields extra
record_put enclosing named fields extra =
    let after = with_text (codes "type") (codes "record") extra in
    ap object (put_aliases named.aliases _
    ∙ ap (λ (ms : Members). with_aliases named.aliases (put (codes "fields") (array fields) (with_text (codes "name") named.name ms))) (put_namespace enclosing named.name after))

abbrev pub field_attributes : FieldView → Data → List Attribute
field_attributes f type =
    (codes "aliases", texts_value f.aliases) ∷ (codes "default", f.value) ∷ (codes "name", Some (string f.name)) ∷ (codes "order", order_value f.order) ∷ (codes "type", Some type) ∷ []

pub field_put : (f : FieldView) (type : Data) → object (put_attributes (field_attributes f type) f.extra) ≡ field_value f type
field_put f type =
    let after = put (codes "type") type f.extra in
    ap object (put_aliases f.aliases _ ∙ ap (with_aliases f.aliases) (put_default f.value _ ∙ ap (λ (ms : Members). with_default f.value (with_text (codes "name") f.name ms)) (put_order f.order after)))

-- an object of these attributes, among the others of a map
pub made : (ps : List Attribute) (es fs : List Entry) (whole : Data) (old opened new : List Token) → object (put_attributes ps (members_view es)) ≡ whole → ascending ps ≡ true → opened ≡ old ++ begin_object ∷ [] → fs ≡ es → AreOrdered (members_view es)
    → EndsObject (merged ps (members_view fs)) opened new → WritesValue whole old new
made ps es fs whole old opened new is up e same o w =
    subst (λ (d : Data). WritesValue d old new) is (object_merged ps (members_view es) old opened new e o up (subst (λ (gs : List Entry). EndsObject (merged ps (members_view gs)) opened new) same w))
