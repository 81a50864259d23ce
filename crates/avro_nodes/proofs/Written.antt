-- Values, items and members that are written in turn.
use Rattle.std.proofs.Common.{◌≡◌, ℕ, ◌≤◌, List, [], ◌∷◌, ◌++◌, Bool, true, false, length, Option, Some, None, MatchOption, Ordering, Less, Equal, Greater, String, Global, string_bytes, option_map, option_and_then, refl, sym, ap, ap₂, ◌∙◌, subst, arith, append_assoc}
use Rattle.std.specs.Ordering.{ordering_reverse}
use Rattle.std.specs.List.{AllByRecursion}
use Rattle.std.specs.List.Sorted.{IsStrictlySortedBy}
use Rattle.std.specs.Map.{keys_of}
use Rattle.std.specs.String.{string_cmp}
use Rattle.std.proofs.lemmas.Cmp.{nat_list_cmp_total}
use Rattle.json.specs.Token.{Token, begin_object, end_object, begin_array, end_array, key}
use Rattle.json.specs.Json as json
use Rattle.json.specs.Tree as tree
use Rattle.serde_json.specs.Data.{Num, Data, null, boolean, string, number, array, object, Items, no_items, item, Members, no_members, member, put, members_depth}
use Rattle.serde_json.specs.Read.{number_of, of_items, of_members}
use Rattle.serde_json.specs.View.{members_view}
use Rattle.serde_json.specs.Written.{number_text, unless_float, outline, members_outline, blank_members, WritesValue, WritesItems}
use Rattle.serde_json.proofs.Views.{Entry}
use Rattle.avro_nodes.specs.Inside.Objects.{Attribute, AreJsonOf, EndsObject, merged, put_attributes, rest_after, WritesOthersBefore, WritesName, WritesAttribute, AllAfter, AreOrdered, texts_value, namespace_value}
use Rattle.avro_nodes.specs.Nodes.{texts_view}
use Rattle.avro_nodes.specs.Identity.{texts}
use Rattle.avro_nodes.specs.Names.{has_dot}
use Rattle.avro_nodes.proofs.Merged.{order, ascending, merged-put_attributes}

-- ---- values without parts

pub null_written : (old new : List Token) → new ≡ old ++ Token.null ∷ [] → WritesValue null old new
null_written old new e = (json.null, e, refl, omega arith, refl)

pub boolean_written : (b : Bool) (old new : List Token) → new ≡ old ++ Token.boolean b ∷ [] → WritesValue (boolean b) old new
boolean_written b old new e = (json.boolean b, e, refl, omega arith, refl)

pub string_written : (s : List ℕ) (old new : List Token) → new ≡ old ++ Token.string s ∷ [] → WritesValue (string s) old new
string_written s old new e = (json.string s, e, refl, omega arith, refl)

pub number_written : (n : Num) (old new : List Token) → (s : List ℕ) × (new ≡ old ++ Token.number s ∷ []) × (number_of s ≡ Some n) × (unless_float s ≡ number_text n) → WritesValue (number n) old new
number_written n old new w = (json.number w.0, w.1, ap (option_map number) w.2, omega arith, ap json.number w.3)

-- ---- arrays

pub items_ended : (old new : List Token) → new ≡ old ++ end_array ∷ [] → WritesItems no_items old new
items_ended old new e = (json.no_items, e, refl, omega arith, refl)

pub items_on : (d : Data) (ds : Items) (old mid new : List Token) → WritesValue d old mid → WritesItems ds mid new → WritesItems (item d ds) old new
items_on d ds old mid new v w = (
  json.item v.0 w.0,
  w.1 ∙ ap (λ (ts : List Token). ts ++ tree.items_tokens w.0) v.1 ∙ append_assoc old (tree.json_tokens v.0) (tree.items_tokens w.0),
  ap (option_and_then (λ (x : Data). option_map (item x) (of_items w.0))) v.2 ∙ ap (option_map (item d)) w.2,
  omega (arith, v.3, w.3),
  ap₂ json.item v.4 w.4,
)

pub array_ended : (ds : Items) (old opened new : List Token) → opened ≡ old ++ begin_array ∷ [] → WritesItems ds opened new → WritesValue (array ds) old new
array_ended ds old opened new e w = (
  json.array w.0,
  w.1 ∙ ap (λ (ts : List Token). ts ++ tree.items_tokens w.0) e ∙ append_assoc old (begin_array ∷ []) (tree.items_tokens w.0),
  ap (option_map array) w.2,
  omega (arith, w.3),
  ap json.array w.4,
)

-- ---- members

pub members_ended : (old new : List Token) → new ≡ old ++ end_object ∷ [] → EndsObject no_members old new
members_ended old new e = (json.no_members, e, tt)

pub members_on : (k : List ℕ) (d : Data) (ms : Members) (old named mid new : List Token) → named ≡ old ++ key k ∷ [] → WritesValue d named mid → EndsObject ms mid new → EndsObject (member k d ms) old new
members_on k d ms old named mid new e v w =
    let value = tree.json_tokens v.0 in
    let rest = tree.members_tokens w.0 in (
      json.member k v.0 w.0,
      w.1 ∙ ap (λ (ts : List Token). ts ++ rest) (v.1 ∙ ap (λ (ts : List Token). ts ++ value) e) ∙ append_assoc (old ++ key k ∷ []) value rest ∙ append_assoc old (key k ∷ []) (value ++ rest),
      (refl, (v.2, v.3, v.4), w.2),
    )

-- ---- members in order are read unchanged

abbrev pub joined : Members → Members → Members
joined no_members ms = ms
joined (member k d done) ms = member k d (joined done ms)

pub joined_on : (done : Members) (k : List ℕ) (d : Data) (ms : Members) → joined (joined done (member k d no_members)) ms ≡ joined done (member k d ms)
joined_on no_members k d ms = refl
joined_on (member l e done) k d ms = ap (member l e) (joined_on done k d ms)

after_middle : (l : List ℕ) (done : Members) (k : List ℕ) (d : Data) (ms : Members) → AllAfter l (joined done (member k d ms)) → order l k ≡ Less
after_middle l no_members k d ms h = h.0
after_middle l (member m e done) k d ms h = after_middle l done k d ms h.1

pub put_last : (done : Members) (k : List ℕ) (d : Data) (ms : Members) → AreOrdered (joined done (member k d ms)) → put k d done ≡ joined done (member k d no_members)
put_last no_members k d ms h = refl
put_last (member l e done) k d ms h =
    let above : order k l ≡ Greater = nat_list_cmp_total.antisymm k l ∙ ap ordering_reverse (after_middle l done k d ms h.0) in
    rw above (ap (member l e) (put_last done k d ms h.1))

pub joined_nothing : (done : Members) → joined done no_members ≡ done
joined_nothing no_members = refl
joined_nothing (member k d done) = ap (member k d) (joined_nothing done)

reads_from : (done ms : Members) (js : json.Members) → AreJsonOf js ms → AreOrdered (joined done ms) → of_members js done ≡ Some (joined done ms)
reads_from done no_members json.no_members h o = ap (λ (ms : Members). Some ms) (sym (joined_nothing done))
reads_from done (member k d ms) json.no_members h o = absurd h
reads_from done no_members (json.member k j js) h o = absurd h
reads_from done (member l d ms) (json.member k j js) h o =
    let more = joined done (member l d no_members) in
    ap (option_and_then (λ (x : Data). of_members js (put k x done))) h.1.0
    ∙ ap (of_members js) (ap (λ (n : List ℕ). put n d done) h.0 ∙ put_last done l d ms o)
    ∙ reads_from more ms js h.2 (subst AreOrdered (sym (joined_on done l d ms)) o)
    ∙ ap (λ (xs : Members). Some xs) (joined_on done l d ms)

members_depth_at_most : (ms : Members) (js : json.Members) → AreJsonOf js ms → tree.members_depth js ≤ members_depth ms
members_depth_at_most no_members json.no_members h = omega arith
members_depth_at_most (member k d ms) json.no_members h = absurd h
members_depth_at_most no_members (json.member k j js) h = absurd h
members_depth_at_most (member l d ms) (json.member k j js) h = omega (arith, h.1.1, members_depth_at_most ms js h.2)

members_outlined : (ms : Members) (js : json.Members) → AreJsonOf js ms → blank_members js ≡ members_outline ms
members_outlined no_members json.no_members h = refl
members_outlined (member k d ms) json.no_members h = absurd h
members_outlined no_members (json.member k j js) h = absurd h
members_outlined (member l d ms) (json.member k j js) h = rw (h.0, h.1.2) (ap (json.member l (outline d)) (members_outlined ms js h.2))

pub object_ended : (ms : Members) (old opened new : List Token) → opened ≡ old ++ begin_object ∷ [] → EndsObject ms opened new → AreOrdered ms → WritesValue (object ms) old new
object_ended ms old opened new e w o = (
  json.object w.0,
  w.1 ∙ ap (λ (ts : List Token). ts ++ tree.members_tokens w.0) e ∙ append_assoc old (begin_object ∷ []) (tree.members_tokens w.0),
  ap (option_map object) (reads_from no_members ms w.0 w.2 o),
  omega (arith, members_depth_at_most ms w.0 w.2),
  ap json.object (members_outlined ms w.0 w.2),
)

-- ---- an insertion keeps the order

pub after_further : (k l : List ℕ) (ms : Members) → order k l ≡ Less → AllAfter l ms → AllAfter k ms
after_further k l no_members below h = tt
after_further k l (member m e ms) below h = (nat_list_cmp_total.trans k l m below h.0, after_further k l ms below h.1)

after_put_at : (o : Ordering) (m k : List ℕ) (d : Data) (l : List ℕ) (e : Data) (ms : Members) → order k l ≡ o → order m k ≡ Less → AllAfter m (member l e ms) → AllAfter m (put k d ms) → AllAfter m (put k d (member l e ms))
after_put_at Less m k d l e ms is below h more = rw is (below, h)
after_put_at Equal m k d l e ms is below h more = rw is h
after_put_at Greater m k d l e ms is below h more = rw is (h.0, more)

after_put : (m k : List ℕ) (d : Data) (ms : Members) → order m k ≡ Less → AllAfter m ms → AllAfter m (put k d ms)
after_put m k d no_members below h = (below, tt)
after_put m k d (member l e ms) below h = after_put_at (order k l) m k d l e ms refl below h (after_put m k d ms below h.1)

ordered_put_at : (o : Ordering) (k : List ℕ) (d : Data) (l : List ℕ) (e : Data) (ms : Members) → order k l ≡ o → AreOrdered (member l e ms) → AreOrdered (put k d ms) → AreOrdered (put k d (member l e ms))
ordered_put_at Less k d l e ms is h more = rw is ((is, after_further k l ms is h.0), h)
ordered_put_at Equal k d l e ms is h more = rw is h
ordered_put_at Greater k d l e ms is h more =
    let below : order l k ≡ Less = nat_list_cmp_total.antisymm l k ∙ ap ordering_reverse is in
    rw is (after_put l k d ms below h.0, more)

pub ordered_put : (k : List ℕ) (d : Data) (ms : Members) → AreOrdered ms → AreOrdered (put k d ms)
ordered_put k d no_members h = (tt, tt)
ordered_put k d (member l e ms) h = ordered_put_at (order k l) k d l e ms refl h (ordered_put k d ms h.1)

ordered_parts : (ps : List Attribute) (ms : Members) → AreOrdered ms → AreOrdered (put_attributes ps ms)
ordered_parts [] ms h = h
ordered_parts ((k, None) ∷ ps) ms h = ordered_parts ps ms h
ordered_parts ((k, Some d) ∷ ps) ms h = ordered_put k d (put_attributes ps ms) (ordered_parts ps ms h)

pub object_merged : (ps : List Attribute) (others : Members) (old opened new : List Token) → opened ≡ old ++ begin_object ∷ [] → AreOrdered others → ascending ps ≡ true → EndsObject (merged ps others) opened new
    → WritesValue (object (put_attributes ps others)) old new
object_merged ps others old opened new e o up w =
    object_ended (put_attributes ps others) old opened new e (subst (λ (ms : Members). EndsObject ms opened new) (merged-put_attributes ps others up) w) (ordered_parts ps others o)

-- ---- the entries of a map are in order

after_entries : (s : String Global) (es : List Entry) → AllByRecursion (λ t. string_cmp s t ≡ Less) (keys_of es) → AllAfter (string_bytes s) (members_view es)
after_entries s [] h = tt
after_entries s (e ∷ es) h = (h.0, after_entries s es h.1)

pub ordered_entries : (es : List Entry) → IsStrictlySortedBy string_cmp (keys_of es) → AreOrdered (members_view es)
unfolding IsStrictlySortedBy
ordered_entries [] h = tt
ordered_entries (e ∷ es) h = (after_entries e.0 es h.0, ordered_entries es h.1)

-- ---- attributes among other members

pub name_written : (k : List ℕ) (others left : Members) (old mid named : List Token) → WritesOthersBefore k others left old mid → named ≡ mid ++ key k ∷ [] → WritesName k others left old named
name_written k others left old mid named before e d new value ps end rest =
    before.1 (member k d (merged ps (rest_after k others))) end
    (members_on k d (merged ps (rest_after k others)) mid named new end e value (subst (λ (ms : Members). EndsObject (merged ps ms) new end) before.0 rest))

pub text_written : (k s : List ℕ) (others left : Members) (old named new : List Token) → WritesName k others left old named → new ≡ named ++ Token.string s ∷ [] → WritesAttribute (k, Some (string s)) others left old new
text_written k s others left old named new name e = name (string s) new (string_written s named new e)

pub attribute_is : (k : List ℕ) (p o : Option Data) (others left : Members) (old new : List Token) → p ≡ o → WritesAttribute (k, o) others left old new → WritesAttribute (k, p) others left old new
attribute_is k p o others left old new e w = subst (λ (q : Option Data). WritesAttribute (k, q) others left old new) (sym e) w

pub attribute_written : (k : List ℕ) (o : Option Data) (d : Data) (others left : Members) (old named new : List Token) → o ≡ Some d → WritesName k others left old named → WritesValue d named new → WritesAttribute (k, o) others left old new
attribute_written k o d others left old named new e name value = attribute_is k o (Some d) others left old new e (name d new value)

pub texts_value_is : (ts : List (String Global)) → (length ts ≡ 0 → ⊥) → texts_value (texts_view ts) ≡ Some (array (texts (texts_view ts)))
texts_value_is [] other = absurd (other refl)
texts_value_is (t ∷ ts) other = refl

pub namespace_value_is : (enclosing name : List ℕ) → (length enclosing ≡ 0 → ⊥) → has_dot name ≡ false → namespace_value enclosing name ≡ Some (string [])
namespace_value_is [] name other bare = absurd (other refl)
namespace_value_is (c ∷ enclosing) name other bare = rw bare refl

-- two iterators at the same position take the same step
pub next_left : {X Y : Type 0} (shows : X → Y) (r : Option X) (s t rest : List Y) (e : Y) → MatchOption r ((s ≡ []) × (t ≡ [])) (λ x. s ≡ shows x ∷ t) → s ≡ e ∷ rest → t ≡ rest
next_left shows None s t rest e h is = absurd (cc (h.0))
next_left shows (Some x) s t rest e h is = cc
