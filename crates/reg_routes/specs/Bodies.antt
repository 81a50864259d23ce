-- The members of JSON bodies (RFC 8259; Schema Registry API reference, Schemas, Config and Mode).
use Rattle.std.specs.Prelude.{ℕ, Bool, true, false, ◌&&◌, List, codes, bytes_eq, Option, Some, None, option_map, option_and_then, if◌then◌else◌}
use Rattle.std.specs.Str.{is_utf8}
use Rattle.serde_json.specs.Data.{Data, null, string, array, Items, no_items, item}
use Rattle.serde_json.specs.Read.{read}
use Rattle.serde_json.specs.Find.{get, as_str}
use Rattle.reg_routes.specs.declared.body.SentSchema.{SentSchema}

-- The value of a body, as `serde_json` reads it. `None` if it isn't JSON in UTF-8, nests over 127 levels deep, has an unpaired surrogate, or has a number
-- too large for a float. Of members with the same name, the last one counts.
unfoldable pub body_json : List ℕ → Option Data
body_json body = if is_utf8 body then read body else None

-- the text of the object's member with this name, if it is a string; `None` for any other value
abbrev pub string_member : List ℕ → Data → Option (List ℕ)
string_member name value = option_and_then as_str (get name value)

-- given a name and a body: the text of the member with this name, if it is a string; `None` if the body isn't an object with one (`body_json`)
abbrev pub body_string_member : List ℕ → List ℕ → Option (List ℕ)
body_string_member name body = option_and_then (string_member name) (body_json body)

-- a supported `schemaType`: missing, null or AVRO
abbrev pub is_avro : Option Data → Bool
is_avro None = true
is_avro (Some null) = true
is_avro (Some (string text)) = bytes_eq text (codes "AVRO")
is_avro (Some other) = false

-- whether a JSON list is empty
abbrev pub is_no_item : Items → Bool
is_no_item no_items = true
is_no_item (item value values) = false

-- supported `references`: missing, null or an empty list
abbrev pub has_no_references : Option Data → Bool
has_no_references None = true
has_no_references (Some null) = true
has_no_references (Some (array values)) = is_no_item values
has_no_references (Some other) = false

-- whether the schema of this object is supported, by its `schemaType` and `references`
abbrev pub is_supported : Data → Bool
is_supported value = is_avro (get (codes "schemaType") value) && has_no_references (get (codes "references") value)

-- the text of the member `schema` of an object, and whether the schema is supported; `None` without such a string member
abbrev pub schema_member : Data → Option SentSchema
schema_member value = option_map (λ text. record { text = text; supported = is_supported value }) (string_member (codes "schema") value)

-- The text of the schema in a body, and whether the schema is supported (`is_supported`). The text isn't parsed. `None` if the body isn't an object with
-- a string member `schema` (`body_json`).
abbrev pub body_schema : List ℕ → Option SentSchema
body_schema body = option_and_then schema_member (body_json body)
