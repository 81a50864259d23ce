-- The sources of a reader's fields that have aliases, for each of the writer's places (this project's choice).
use Rattle.std.specs.Prelude.{◌≡◌, ◌↔◌, ℕ, ◌+◌, List, Option, None, Some, IsSome, IsTrue, get_or, option_and_then, slice_get, IfSome, Vec}
use Rattle.std.specs.List.{AllZip}
use Rattle.std.specs.Option.{IsSomeAnd}
use Rattle.std.specs.declared.alloc.Global.{Global}
use Rattle.avro_nodes.specs.Nodes.{FieldView, NodeView}
use Rattle.avro_schema.specs.Index.{IsFieldRanked}
use Rattle.avro_resolve.specs.declared.readable.Aliased.{Aliased}
use Rattle.avro_resolve.specs.declared.readable.ReaderField.{ReaderField}
use Rattle.avro_resolve.specs.declared.schemas.IndexedSchema.{IndexedSchema}
use Rattle.avro_resolve.specs.Asking.{source_place}
use Rattle.avro_resolve.specs.Inside.Agreeing.{fields_of}
use Rattle.avro_resolve.specs.Inside.Lists.{list_at}
use Rattle.avro_resolve.specs.Inside.Schemas.{names_of, nodes_of}

-- the place of the source's type plus 1, or 0 without a source
abbrev pub source_entry : Option ℕ → ℕ
source_entry None = 0
source_entry (Some place) = place + 1

-- the field at the index in the record at the place
abbrev pub field_at : List NodeView → Aliased → Option FieldView
field_at nodes aliased = option_and_then (λ a. slice_get (fields_of a) aliased.index) (slice_get nodes aliased.place)

-- if the reader's nodes have the field, the entry is its source entry; `fields` are the writer's
abbrev pub IsSourceEntry : List NodeView → List FieldView → Aliased → ℕ → Type 0
IsSourceEntry nodes fields aliased entry = (f : FieldView) → field_at nodes aliased ≡ Some f → entry ≡ source_entry (source_place fields f)

-- the description has the place of the field's type, whether the field has a default, and the ranks of its names
abbrev pub Describes : List (List ℕ) → ReaderField → FieldView → Type 0
Describes names wanted f = (wanted.place ≡ f.place) × (IsTrue wanted.has_default ↔ IsSome f.value) × IsFieldRanked names f wanted.names.now

-- The description is `None`, or that of some field. If the schema has the aliased field, it is that field's.
pub record DescribesAliasedField (indexed : IndexedSchema) (aliased : Aliased) (wanted : Option ReaderField) : Type 0 where
  pub some : IfSome wanted (λ w. (f : FieldView) × Describes (names_of indexed) w f)
  pub known : (f : FieldView) → field_at (nodes_of indexed) aliased ≡ Some f → IsSomeAnd wanted (λ w. Describes (names_of indexed) w f)

-- the source entries of all aliased fields, for each of the writer's nodes
abbrev pub AreSources : List NodeView → List NodeView → List Aliased → List (Vec ℕ Global) → Type 0
AreSources w r aliased sources = AllZip (λ a (row : Vec ℕ Global). AllZip (IsSourceEntry r (fields_of a)) aliased row.items) w sources

-- the source entry for a writer's place and a field's number, or 0 past the last one
abbrev pub entry_at : List (Vec ℕ Global) → ℕ → ℕ → ℕ
entry_at sources i number = get_or (list_at sources i) number 0
