-- A writer's place whose fields are in the slots (this project's choice).
use Rattle.std.specs.Prelude.{◌≡◌, ℕ, ◌<◌, List, All, Option, Some, length, map, slice_get}
use Rattle.std.specs.List.{AllZip}
use Rattle.avro_nodes.specs.Nodes.{FieldView, NodeView, field_view}
use Rattle.avro_resolve.specs.declared.readable.WriterPlace.{WriterPlace}
use Rattle.avro_resolve.specs.declared.readable.ReaderField.{ReaderField}
use Rattle.avro_resolve.specs.declared.schemas.SchemaPair.{SchemaPair}
use Rattle.avro_resolve.specs.declared.table.Table.{Table}
use Rattle.avro_resolve.specs.Asking.{source_place}
use Rattle.avro_resolve.specs.Inside.Agreeing.{fields_of}
use Rattle.avro_resolve.specs.Inside.FieldSlots.{AreFieldsInSlots}
use Rattle.avro_resolve.specs.Inside.Schemas.{columns, names_of, rows, IsValidSchemaPair}
use Rattle.avro_resolve.specs.Inside.Sources.{Describes, IsSourceEntry, DescribesAliasedField}

-- the fields of the place
abbrev pub row_fields : WriterPlace → List FieldView
row_fields row = map field_view row.fields.fields.now

-- The fields are those of the writer's node at the place, the slots have them, and the entries are the source entries of the reader's aliased fields.
pub record IsWriterPlace (schemas : SchemaPair) (row : WriterPlace) : Type 0 where
  pub within : row.place < length schemas.writer.schema.now
  pub are : (a : NodeView) → slice_get (rows schemas) row.place ≡ Some a → row_fields row ≡ fields_of a
  pub places : All (λ g. g.place < length schemas.writer.schema.now) row.fields.fields.now
  pub in_slots : AreFieldsInSlots schemas row.fields row.slots.now
  pub entries : AllZip (IsSourceEntry (columns schemas) (row_fields row)) row.aliased_fields.aliased.now row.entries.now
  pub wanted : AllZip (DescribesAliasedField schemas.reader) row.aliased_fields.aliased.now row.aliased_fields.wanted.now

-- the pair of the writer's place and the reader's place j is one of the table's, for these two schemas
pub record TableCoversPair (schemas : SchemaPair) (row : WriterPlace) (table : Table) (j : ℕ) : Type 0 where
  pub both : IsValidSchemaPair schemas
  pub is : IsWriterPlace schemas row
  pub writers : table.writers ≡ length schemas.writer.schema.now
  pub readers : table.readers ≡ length schemas.reader.schema.now
  pub within : j < table.readers

-- the place of the type of the field's source, or `None` without a source, and the description of the field
abbrev pub IsFieldSource : SchemaPair → WriterPlace → Option ℕ → ReaderField → FieldView → Type 0
IsFieldSource schemas row source wanted f = (source ≡ source_place (row_fields row) f) × Describes (names_of schemas.reader) wanted f
