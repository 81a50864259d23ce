-- The lines of listings.
use Rattle.std.specs.Prelude.{ℕ, Bool, true, false, List, [], ◌∷◌, codes, map, length, filter, bytes_eq, decimal, Option, None, Some, Vec, String, string_bytes}
use Rattle.std.specs.List.{dedup, enumerate_from}
use Rattle.std.specs.FinMap.{entries}
use Rattle.std.specs.declared.alloc.Global.{Global}
use Rattle.avro_nodes.specs.Nodes.{NodeView}
use Rattle.avro_nodes.specs.Identity.{identity}
use Rattle.reg_core.specs.declared.level.Level.{Level}
use Rattle.reg_core.specs.Levels.{level_text}
use Rattle.reg_core.specs.Registry.{Registry, Row, Schemas}
use Rattle.reg_core.specs.Rows.{rows_of, live_rows}
use Rattle.reg_store.specs.declared.listing.Listing.{Listing}
use Rattle.reg_store.specs.declared.listing.Listing.TheVariants.{Subjects, Versions, Schemas as AllSchemas}

-- the texts of a line's fields
abbrev pub Fields : Type 0
Fields = List (List ℕ)

-- ---- the line of a version

-- this project's choice: the field that shows whether a version is soft-deleted
abbrev pub flag_text : Bool → List ℕ
flag_text true = codes "true"
flag_text false = codes "false"

-- this project's choice: the subject, the number, the id of the schema, and whether the version is soft-deleted
abbrev pub version_line : Row → Fields
version_line row = row.0.0 ∷ decimal row.0.1 ∷ decimal row.1.id ∷ flag_text row.1.deleted ∷ []

-- ---- the line of a schema

-- this project's choice: the id and the identity text
abbrev pub schema_line : ℕ → List ℕ → Fields
schema_line id text = decimal id ∷ text ∷ []

-- this project's choice: the line of each schema, whose id is its position, counted from 1
abbrev pub schema_lines : Schemas → List Fields
schema_lines schemas = map (λ (entry : ℕ × List NodeView). schema_line entry.0 (identity entry.1)) (enumerate_from 1 schemas)

-- ---- the line of a subject

-- Schema Registry API reference, Config: the text of a subject's own level; this project's choice: empty if it has none
abbrev pub own_text : Option Level → List ℕ
own_text None = []
own_text (Some level) = level_text level

-- Schema Registry API reference, Subjects: the versions that are soft-deleted
abbrev pub deleted_rows : List Row → List Row
deleted_rows rows = filter (λ (row : Row). row.1.deleted) rows

-- this project's choice: the subject, its own level, and the counts of its live and of its soft-deleted versions
abbrev pub subject_line : List ℕ → Option Level → List Row → Fields
subject_line subject own rows = subject ∷ own_text own ∷ decimal (length (live_rows rows)) ∷ decimal (length (deleted_rows rows)) ∷ []

-- the line of a registry's subject
abbrev pub subject_listed : Registry → List ℕ → Fields
subject_listed g subject = subject_line subject (g.own subject) (rows_of g subject)

-- Schema Registry API reference, Subjects: the distinct subjects of these versions, which are sorted by subject
abbrev pub subjects_of : List Row → List (List ℕ)
subjects_of rows = dedup bytes_eq (map (λ (row : Row). row.0.0) rows)

-- ---- listings

-- This project's choice: a line for each subject that has a version, perhaps a soft-deleted one, in the order of their bytes; for each version, in the order of
-- subjects and numbers; for each schema, in the order of ids.
abbrev pub listing_lines : Listing → Registry → List Fields
listing_lines Subjects g = map (subject_listed g) (subjects_of (entries g.rows))
listing_lines Versions g = map version_line (entries g.rows)
listing_lines AllSchemas g = schema_lines g.schemas

-- ---- the texts of returned lines

abbrev pub fields_of : Vec (String Global) Global → Fields
fields_of line = map string_bytes line.items

abbrev pub lines_of : Vec (Vec (String Global) Global) Global → List Fields
lines_of lines = map fields_of lines.items
