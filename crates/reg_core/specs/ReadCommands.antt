-- Commands that show subjects, versions and schemas. Each definition lists its refusals in order.
-- (This project's choice: that order.)
use Rattle.std.specs.Prelude.{ℕ, Bool, List, [], ◌∷◌, codes, map, bytes_eq, Option, None, Some, Result, Ok, Err}
use Rattle.std.specs.List.{dedup, last_or}
use Rattle.std.specs.Option.{ok_or}
use Rattle.avro_nodes.specs.Nodes.{NodeView}
use Rattle.reg_core.specs.declared.code.Code.{Code}
use Rattle.reg_core.specs.declared.code.Code.TheVariants.{InvalidSchema, InvalidVersion, SubjectNotFound, VersionNotFound, SchemaNotFound}
use Rattle.reg_core.specs.declared.number.VersionChoice.{VersionChoice}
use Rattle.reg_core.specs.Registry.{Row}
use Rattle.reg_core.specs.Replies.{ReplyView, success, fault}
use Rattle.reg_core.specs.Rows.{rows_with, visible_rows, chosen_row}
use Rattle.reg_core.specs.Bodies.{strings_body, numbers_body, subject_versions_body, version_body, schema_body}

-- Schema Registry API reference, GET /schemas/types: only Avro
abbrev pub types_reply : ReplyView
types_reply = success (strings_body (codes "AVRO" ∷ []))

-- Schema Registry API reference, GET /subjects: the subjects of these versions, in their order; each once if its versions are adjacent
abbrev pub subjects_reply : List Row → ReplyView
subjects_reply rows = success (strings_body (dedup bytes_eq (map (λ (row : Row). row.0.0) rows)))

-- Schema Registry API reference, GET /subjects/{subject}/versions: the numbers of these versions. (This project's choice: no list is empty. A subject
-- that shows no version is rejected with 40401.)
abbrev pub versions_reply : List Row → ReplyView
versions_reply [] = fault SubjectNotFound
versions_reply (row ∷ rows) = success (numbers_body (map (λ (r : Row). r.0.1) (row ∷ rows)))

-- Schema Registry API reference, Subjects: the chosen one of these versions. If the choice is invalid (`None`), 42202; if there are no versions,
-- 40401; if none has the number, 40402.
abbrev pub found_row : Option VersionChoice → List Row → Result Row Code
found_row None rows = Err InvalidVersion
found_row (Some choice) [] = Err SubjectNotFound
found_row (Some choice) (row ∷ rows) = ok_or (chosen_row choice (row ∷ rows)) VersionNotFound

-- the identity texts, by id
abbrev pub Texts : Type 0
Texts = ℕ → Option (List ℕ)

-- the reply that shows an identity text, or a fault if there is none (a registry has one for each version's id)
abbrev pub text_reply : (List ℕ → List ℕ) → Option (List ℕ) → ReplyView
text_reply body None = fault SchemaNotFound
text_reply body (Some text) = success (body text)

-- Schema Registry API reference, GET /subjects/{subject}/versions/{version}: a version with its schema's text, by the texts of ids
abbrev pub version_reply : Texts → Result Row Code → ReplyView
version_reply texts (Err code) = fault code
version_reply texts (Ok row) = text_reply (version_body row) (texts row.1.id)

-- Schema Registry API reference, GET /subjects/{subject}/versions/{version}/schema: only its schema's text
abbrev pub version_text_reply : Texts → Result Row Code → ReplyView
version_text_reply texts (Err code) = fault code
version_text_reply texts (Ok row) = text_reply (λ text. text) (texts row.1.id)

-- Schema Registry API reference, GET /schemas/ids/{id}: the schema of an id that some version has; otherwise 40403. (This project's choice:
-- soft-deleted versions count.)
abbrev pub id_reply : Texts → Option ℕ → List Row → ReplyView
id_reply texts None rows = fault SchemaNotFound
id_reply texts (Some id) [] = fault SchemaNotFound
id_reply texts (Some id) (row ∷ rows) = text_reply schema_body (texts id)

-- Schema Registry API reference, GET /schemas/ids/{id}/versions: the shown versions of the id. (This project's choice: the list is empty if all of
-- them are soft-deleted and `deleted` is off; an id that no version has is rejected, and so is a text that is no id.)
abbrev pub id_versions_reply : Option ℕ → Bool → List Row → ReplyView
id_versions_reply None deleted rows = fault SchemaNotFound
id_versions_reply (Some id) deleted [] = fault SchemaNotFound
id_versions_reply (Some id) deleted (row ∷ rows) = success (subject_versions_body (visible_rows deleted (row ∷ rows)))

-- the versions with this id; none if there is no id
abbrev pub rows_with_id : Option ℕ → List Row → List Row
rows_with_id None rows = []
rows_with_id (Some id) rows = rows_with id rows

-- Schema Registry API reference, POST /subjects/{subject}: the last of the versions that have the id. If there are no versions, 40401; if none has
-- the id, 40403.
abbrev pub lookup_row : Option ℕ → List Row → Result Row Code
lookup_row id [] = Err SubjectNotFound
lookup_row id (row ∷ rows) = ok_or (last_or None (rows_with_id id (row ∷ rows))) SchemaNotFound

-- Schema Registry API reference, POST /subjects/{subject}: the last of these versions that has the schema, whose id is `known`. If the schema is
-- invalid (`None`), 42201.
abbrev pub lookup_reply : Texts → Option (List NodeView) → Option ℕ → List Row → ReplyView
lookup_reply texts None known rows = fault InvalidSchema
lookup_reply texts (Some nodes) known rows = version_reply texts (lookup_row known rows)
