-- The versions that a command reads, and the schemas of their ids.
use Rattle.std.specs.Prelude.{ℕ, ◌+◌, ◌==◌, ◌||◌, max, Bool, not, List, bytes_eq, fold, filter, find, position, Option, None, option_map, option_and_then}
use Rattle.std.specs.List.{last_or, filter_map}
use Rattle.std.specs.FinMap.{entries}
use Rattle.avro_nodes.specs.Nodes.{NodeView}
use Rattle.avro_nodes.specs.Identity.{identity}
use Rattle.reg_core.specs.declared.number.VersionChoice.{VersionChoice}
use Rattle.reg_core.specs.declared.number.VersionChoice.TheVariants.{Latest, Numbered}
use Rattle.reg_core.specs.Registry.{Registry, Row, Schemas, schema_at}

-- ---- versions

-- Schema Registry API reference, Subjects: the versions of a subject, in order of number, soft-deleted ones included
abbrev pub rows_of : Registry → List ℕ → List Row
rows_of g subject = filter (λ (row : Row). bytes_eq row.0.0 subject) (entries g.rows)

-- Schema Registry API reference, Schemas: those of the versions that have the id, soft-deleted ones included
abbrev pub rows_with : ℕ → List Row → List Row
rows_with id rows = filter (λ (row : Row). row.1.id == id) rows

-- Schema Registry API reference, Subjects: the versions that a command sees: all if `shows_deleted`, else those that aren't soft-deleted
abbrev pub visible_rows : Bool → List Row → List Row
visible_rows shows_deleted rows = filter (λ (row : Row). shows_deleted || not row.1.deleted) rows

-- Schema Registry API reference, Subjects: the versions that aren't soft-deleted
abbrev pub live_rows : List Row → List Row
live_rows rows = filter (λ (row : Row). not row.1.deleted) rows

-- Schema Registry API reference, Subjects: the chosen one of these versions, or `None`. `Latest` is the last in the list, soft-deleted or not;
-- `Numbered` is the version with the number.
abbrev pub chosen_row : VersionChoice → List Row → Option Row
chosen_row Latest rows = last_or None rows
chosen_row (Numbered number) rows = find (λ (row : Row). row.0.1 == number) rows

-- this project's choice: the next version's number is 1 more than the greatest number of these, soft-deleted ones included; 1 if there are none
abbrev pub next_number : List Row → ℕ
next_number rows = fold (λ greatest (row : Row). max greatest row.0.1) 0 rows + 1

-- ---- schemas

-- Schema Registry API reference, Schemas: the id of the schema with this identity text, or `None` if there is none
abbrev pub id_of : Schemas → List ℕ → Option ℕ
id_of schemas text = option_map (λ n. n + 1) (position (λ nodes. bytes_eq (identity nodes) text) schemas)

-- Schema Registry API reference, Schemas: the identity text of an id's schema
abbrev pub text_at : Schemas → ℕ → Option (List ℕ)
text_at schemas id = option_map identity (schema_at schemas id)

-- Schema Registry API reference, Subjects: the schemas of these versions, in their order
abbrev pub schemas_of : Schemas → List Row → List (List NodeView)
schemas_of schemas rows = filter_map (λ (row : Row). schema_at schemas row.1.id) rows

-- Schema Registry API reference, POST /subjects/{subject}: the id of a schema, or `None` if it isn't registered
abbrev pub known_id : Schemas → Option (List NodeView) → Option ℕ
known_id schemas schema = option_and_then (λ nodes. id_of schemas (identity nodes)) schema
