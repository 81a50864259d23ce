-- The JSON data of a value of the tree, of a declaration's attributes and of an array's items.
use Rattle.std.specs.Prelude.{ℕ, List, [], ◌∷◌, map, cond}
use Rattle.std.specs.Borrow.{Bor}
use Rattle.serde_json.specs.Data.{Data, null, boolean, number, string, array, object, Items, no_items, item, Members, put}
use Rattle.serde_json.specs.View.{view, number_view, items_view, members_view}
use Rattle.avro_schema.specs.Inside.Reserved.{is_reserved}
use Rattle.avro_schema.specs.declared.borrowed.Json.{Json, fold-Json}
use Rattle.avro_schema.specs.declared.borrowed.Json.TheOpen.{Json-F}
use Rattle.avro_schema.specs.declared.borrowed.Object.{Object}
use Rattle.avro_schema.specs.declared.attribute_map.Attributes.{Attributes}
use Rattle.avro_schema.specs.declared.attribute_map.Attributes.TheVariants.{Tree, Owned}
use Rattle.avro_schema.specs.declared.attribute_map.Items.{Items as ItemList}
use Rattle.avro_schema.specs.declared.attribute_map.Items.TheVariants as item_list

abbrev pub listed : List Data → Items
listed [] = no_items
listed (d ∷ ds) = item d (listed ds)

-- adds the reserved members to `others`, in order, so the last value of a repeated name counts
abbrev pub put_all : List (Bor (List ℕ) × Data) → Members → Members
put_all [] others = others
put_all (m ∷ ms) others = put_all ms (cond (is_reserved m.0.now) (put m.0.now m.1 others) others)

-- the data of a value, given the data of the values inside it
abbrev pub data_step : Json-F Data → Data
data_step Json-F.Null = null
data_step (Json-F.Bool b) = boolean b
data_step (Json-F.Number n) = number (number_view n)
data_step (Json-F.Text s) = string s.now
data_step (Json-F.Array v) = array (listed v.items)
data_step (Json-F.Object o) = object (put_all o.reserved.items (members_view o.others.members.entries))
data_step (Json-F.Owned v) = view v

abbrev pub value_data : Json → Data
value_data = fold-Json Data data_step

abbrev pub items_data : List Json → Items
items_data vs = listed (map value_data vs)

-- these items, followed by more
abbrev pub items_on : Items → Items → Items
items_on no_items more = more
items_on (item d ds) more = item d (items_on ds more)

abbrev pub object_data : Object (Bor (List ℕ) × Json) → Members
object_data o = put_all (map (λ m. (m.0, value_data m.1)) o.reserved.items) (members_view o.others.members.entries)

abbrev pub members_data : Attributes → Members
members_data (Tree o) = object_data o
members_data (Owned m) = members_view m.entries

abbrev pub list_data : ItemList → Items
list_data (item_list.Tree v) = items_data v.items
list_data (item_list.Owned v) = items_view v.items
