-- The JSON bodies of replies (RFC 8259), compact, with members in the order of their keys' bytes.
use Rattle.std.specs.Prelude.{ℕ, Bool, List, codes, map}
use Rattle.serde_json.specs.Data.{Data, unsigned, boolean, number, string, array, object, member, no_members}
use Rattle.serde_json.specs.View.{items_of}
use Rattle.serde_json.specs.Written.{compact_text}
use Rattle.reg_core.specs.Registry.{Row}

-- Schema Registry API reference, POST /subjects/{subject}/versions: the id of a schema
abbrev pub id_body : ℕ → List ℕ
id_body id = compact_text (object (member (codes "id") (number (unsigned id)) no_members))

-- Schema Registry API reference, GET /schemas/ids/{id}: an identity text
abbrev pub schema_body : List ℕ → List ℕ
schema_body text = compact_text (object (member (codes "schema") (string text) no_members))

-- Schema Registry API reference, GET /subjects/{subject}/versions/{version}: a version with its identity text
abbrev pub version_body : Row → List ℕ → List ℕ
version_body row text =
    compact_text (object (member (codes "id") (number (unsigned row.1.id)) (member (codes "schema") (string text)
    (member (codes "subject") (string row.0.0) (member (codes "version") (number (unsigned row.0.1)) no_members)))))

-- Schema Registry API reference, GET /subjects and GET /schemas/types: an array of strings
abbrev pub strings_body : List (List ℕ) → List ℕ
strings_body texts = compact_text (array (items_of (map string texts)))

-- Schema Registry API reference, DELETE /subjects/{subject}/versions/{version}: a number
abbrev pub number_body : ℕ → List ℕ
number_body n = compact_text (number (unsigned n))

-- Schema Registry API reference, GET /subjects/{subject}/versions: an array of numbers
abbrev pub numbers_body : List ℕ → List ℕ
numbers_body numbers = compact_text (array (items_of (map (λ n. number (unsigned n)) numbers)))

-- Schema Registry API reference, GET /schemas/ids/{id}/versions: a version's subject and number
abbrev pub subject_version_data : Row → Data
subject_version_data row = object (member (codes "subject") (string row.0.0) (member (codes "version") (number (unsigned row.0.1)) no_members))

-- Schema Registry API reference, GET /schemas/ids/{id}/versions: an array of objects, each with a version's `subject` and its number as `version`
abbrev pub subject_versions_body : List Row → List ℕ
subject_versions_body rows = compact_text (array (items_of (map subject_version_data rows)))

-- Schema Registry API reference, Compatibility: a verdict
abbrev pub verdict_body : Bool → List ℕ
verdict_body compatible = compact_text (object (member (codes "is_compatible") (boolean compatible) no_members))
