-- The JSON data of a reference into a value.
use Rattle.serde_json.specs.Data.{Data, Items, Members}
use Rattle.serde_json.specs.View.{view, items_view, members_view}
use Rattle.avro_schema.specs.declared.references.ValueRef.{ValueRef}
use Rattle.avro_schema.specs.declared.references.ValueRef.TheVariants as value_ref
use Rattle.avro_schema.specs.declared.references.ItemsRef.{ItemsRef}
use Rattle.avro_schema.specs.declared.references.ItemsRef.TheVariants as items_ref
use Rattle.avro_schema.specs.declared.references.ObjectRef.{ObjectRef}
use Rattle.avro_schema.specs.declared.references.ObjectRef.TheVariants as object_ref
use Rattle.avro_schema.specs.Inside.Borrowed.{value_data, items_data, object_data}

abbrev pub ref_data : ValueRef → Data
ref_data (value_ref.Tree value) = value_data value.now
ref_data (value_ref.Owned value) = view value.now

abbrev pub items_ref_data : ItemsRef → Items
items_ref_data (items_ref.Tree items) = items_data items.now.items
items_ref_data (items_ref.Owned items) = items_view items.now.items

abbrev pub object_ref_data : ObjectRef → Members
object_ref_data (object_ref.Tree object) = object_data object.now
object_ref_data (object_ref.Owned members) = members_view members.now.entries
