-- Objects that are written member by member: the known attributes among the others, in byte order of their names.
use Rattle.std.specs.Prelude.{◌≡◌, ◌≤◌, ℕ, List, [], ◌∷◌, ◌++◌, Option, Some, None, ⊤, codes, if◌then◌else◌}
use Rattle.std.specs.declared.cmp.Ordering.TheVariants.{Less}
use Rattle.std.specs.Ordering.{nat_cmp, match_ordering}
use Rattle.std.specs.Cmp.Lexicographic.{slice_cmp}
use Rattle.json.specs.Token.{Token}
use Rattle.json.specs.Json as json
use Rattle.json.specs.Tree as tree
use Rattle.serde_json.specs.Data.{Data, string, array, Items, Members, no_members, member, put, depth}
use Rattle.serde_json.specs.Read.{of_json}
use Rattle.serde_json.specs.Written.{outline, blank, WritesValue}
use Rattle.avro_nodes.specs.declared.node.Order.{Order}
use Rattle.avro_nodes.specs.declared.node.Order.TheVariants.{Ascending, Descending, Ignore}
use Rattle.avro_nodes.specs.Names.{has_dot}
use Rattle.avro_nodes.specs.Identity.{Counted, texts}

-- an attribute: its name, and its value unless it is left out
abbrev pub Attribute : Type 0
Attribute = List ℕ × Option Data

abbrev pub put_attribute : Attribute → Members → Members
put_attribute (k, None) others = others
put_attribute (k, Some d) others = put k d others

abbrev pub put_attributes : List Attribute → Members → Members
put_attributes [] others = others
put_attributes (p ∷ ps) others = put_attribute p (put_attributes ps others)

-- the leading members whose names sort before `k`, and then `more` in place of the rest
abbrev pub members_before_then : List ℕ → Members → Members → Members
members_before_then k no_members more = more
members_before_then k (member l e ms) more = match_ordering (slice_cmp nat_cmp k l) more more (member l e (members_before_then k ms more))

-- drops the leading members that sort before `k`, then a member named `k`
abbrev pub rest_after : List ℕ → Members → Members
rest_after k no_members = no_members
rest_after k (member l e ms) = match_ordering (slice_cmp nat_cmp k l) (member l e ms) ms (rest_after k ms)

-- if both are in byte order of their names: the members with these attributes; an attribute with a value replaces a member of its name
abbrev pub merged : List Attribute → Members → Members
merged [] others = others
merged ((k, None) ∷ ps) others = merged ps others
merged ((k, Some d) ∷ ps) others = members_before_then k others (member k d (merged ps (rest_after k others)))

-- ---- the tokens of members

-- the JSON denotes the data, nests no deeper, and has its members in order and its integers in decimal
abbrev pub IsJsonOf : json.Json → Data → Type 0
IsJsonOf j d = (of_json j ≡ Some d) × (tree.depth j ≤ depth d) × (blank j ≡ outline d)

abbrev pub AreJsonOf : json.Members → Members → Type 0
AreJsonOf json.no_members no_members = ⊤
AreJsonOf json.no_members (member k d ms) = ⊥
AreJsonOf (json.member k j js) no_members = ⊥
AreJsonOf (json.member k j js) (member l d ms) = (k ≡ l) × IsJsonOf j d × AreJsonOf js ms

-- `new` is `old` with the tokens of these members and the closing bracket
abbrev pub EndsObject : Members → List Token → List Token → Type 0
EndsObject ms old new = (js : json.Members) × (new ≡ old ++ tree.members_tokens js) × AreJsonOf js ms

-- `new` is `old` with this member: tokens that complete `new` with `ms` complete `old` with this member and `ms`
abbrev pub WritesMember : List ℕ → Data → List Token → List Token → Type 0
WritesMember k d old new = (ms : Members) (end : List Token) → EndsObject ms new end → EndsObject (member k d ms) old end

-- the members before the name are written, and one of that name is skipped
abbrev pub WritesOthersBefore : List ℕ → Members → Members → List Token → List Token → Type 0
WritesOthersBefore k others left old new = (left ≡ rest_after k others) × ((ms : Members) (end : List Token) → EndsObject ms new end → EndsObject (members_before_then k others ms) old end)

-- The attribute is written after all members that sort before it; `left` are the members after it. For any later attributes `ps`:
-- tokens that end the object from `new` with `ps` and `left` end it from `old` with all.
abbrev pub WritesAttribute : Attribute → Members → Members → List Token → List Token → Type 0
WritesAttribute p others left old new = (ps : List Attribute) (end : List Token) → EndsObject (merged ps left) new end → EndsObject (merged (p ∷ ps) others) old end

-- the same for an attribute whose value is written next
abbrev pub WritesName : List ℕ → Members → Members → List Token → List Token → Type 0
WritesName k others left old named = (d : Data) (new : List Token) → WritesValue d named new → WritesAttribute (k, Some d) others left old new

-- each name sorts after `k`
abbrev pub AllAfter : List ℕ → Members → Type 0
AllAfter k no_members = ⊤
AllAfter k (member l d ms) = (slice_cmp nat_cmp k l ≡ Less) × AllAfter k ms

abbrev pub AreOrdered : Members → Type 0
AreOrdered no_members = ⊤
AreOrdered (member k d ms) = AllAfter k ms × AreOrdered ms

-- ---- attributes that may be left out

abbrev pub texts_value : List (List ℕ) → Option Data
texts_value [] = None
texts_value (t ∷ ts) = Some (array (texts (t ∷ ts)))

abbrev pub order_value : Order → Option Data
order_value Ascending = None
order_value Descending = Some (string (codes "descending"))
order_value Ignore = Some (string (codes "ignore"))

abbrev pub namespace_value : List ℕ → List ℕ → Option Data
namespace_value [] name = None
namespace_value (c ∷ enclosing) name = if has_dot name then None else Some (string [])

-- ---- types that are written in part

-- `whole` is written up to the value in it; the value and the members `left` are still to be written
abbrev pub AwaitsValue : (Data → Data) → Members → List Token → List Token → Type 0
AwaitsValue whole left old named = (d : Data) (new end : List Token) → WritesValue d named new → EndsObject left new end → WritesValue (whole d) old end

-- the attributes after the items of an array
abbrev pub array_end : List Attribute
array_end = (codes "type", Some (string (codes "array"))) ∷ []

-- the attributes after the fields of a record
abbrev pub record_end : List ℕ → List ℕ → List Attribute
record_end enclosing name = (codes "name", Some (string name)) ∷ (codes "namespace", namespace_value enclosing name) ∷ (codes "type", Some (string (codes "record"))) ∷ []

-- ---- places

-- the value is written, and `written` is the number of places up to its end
abbrev pub WritesCounted : Counted Data → List Token → List Token → ℕ → Type 0
WritesCounted s old new written = WritesValue s.0 old new × (written ≡ s.1)

abbrev pub counted_array : Counted Items → Counted Data
counted_array s = (array s.0, s.1)
