-- Commands that register schemas, and that check whether a schema could be registered. Each definition lists its refusals in order.
-- (This project's choice: that order.)
use Rattle.std.specs.Prelude.{ℕ, ◌+◌, ◌++◌, nat_lt, nat_le, ◌&&◌, Bool, false, not, is_some, List, [], ◌∷◌, length, unwrap_or, if◌then◌else◌, Option, None, Some, Result, Ok, Err}
use Rattle.std.specs.FinMap.{insert}
use Rattle.avro_nodes.specs.Nodes.{NodeView}
use Rattle.avro_nodes.specs.Identity.{identity}
use Rattle.avro_schema.specs.DenotedNodes.{denoted_nodes}
use Rattle.reg_core.specs.declared.level.Level.{Level}
use Rattle.reg_core.specs.declared.code.Code.{Code}
use Rattle.reg_core.specs.declared.code.Code.TheVariants.{InvalidSchema, InvalidVersion, Incompatible, NoNumberLeft}
use Rattle.reg_core.specs.declared.number.VersionChoice.{VersionChoice}
use Rattle.reg_core.specs.Registry.{Registry, Row, Schemas, max_number}
use Rattle.reg_core.specs.Replies.{ReplyView, success, fault}
use Rattle.reg_core.specs.Rows.{rows_of, live_rows, next_number, id_of, schemas_of}
use Rattle.reg_core.specs.ReadCommands.{rows_with_id, found_row}
use Rattle.reg_core.specs.Bodies.{id_body, verdict_body}
use Rattle.reg_core.specs.Verdicts.{is_admitted}

-- Schema Registry API reference, Subjects: the schema that a text denotes; `None` if it isn't `supported` (Avro, without references), or
-- denotes none
unfoldable pub supported_schema : List ℕ → Bool → Option (List NodeView)
supported_schema text supported = if supported then denoted_nodes text else None

-- Schema Registry API reference, Compatibility: the subject's own level, else the global one
abbrev pub level_in : Registry → List ℕ → Level
level_in g subject = unwrap_or (g.own subject) g.global

-- Schema Registry API reference, Compatibility: whether the level admits the schema after these versions
abbrev pub is_admitted_after : Schemas → Level → List Row → List NodeView → Bool
is_admitted_after schemas level rows new = is_admitted level (schemas_of schemas rows) new

-- ---- Register

-- this project's choice: the id that the schema has, else the next one
abbrev pub id_for : Schemas → List NodeView → ℕ
id_for schemas new = unwrap_or (id_of schemas (identity new)) (length schemas + 1)

-- this project's choice: the schemas, with this one added if none has its identity text
abbrev pub schemas_with : Schemas → List NodeView → Schemas
schemas_with schemas new = if is_some (id_of schemas (identity new)) then schemas else schemas ++ new ∷ []

-- Schema Registry API reference, POST /subjects/{subject}/versions: the registry with the schema as the subject's next version
abbrev pub with_version : Registry → List ℕ → List NodeView → Registry
with_version g subject new = record g {
  schemas = schemas_with g.schemas new;
  rows = insert g.rows (subject, next_number (rows_of g subject)) (record { id = id_for g.schemas new; deleted = false });
}

-- Schema Registry API reference, POST /subjects/{subject}/versions: the results of the tests of a valid schema, in their order: a live version has it;
-- the level admits it; numbers are left for the version and the schema
pub record RegisterTests : Type 0 where
  pub is_already_live : Bool
  pub admitted : Bool
  pub has_numbers_left : Bool

-- Schema Registry API reference, POST /subjects/{subject}/versions: if a live version has the schema, replies with the schema's id. Otherwise rejects
-- a schema that isn't admitted (409) or has no number left (42292). Otherwise adds the version and replies with the id; only this is a change.
abbrev pub registered : Registry → List ℕ → List NodeView → RegisterTests → Registry × ReplyView
registered g subject new tests =
    if tests.is_already_live then (g, success (id_body (id_for g.schemas new))) else
    if not tests.admitted then (g, fault Incompatible) else
    if not tests.has_numbers_left then (g, fault NoNumberLeft) else
    (with_version g subject new, success (id_body (id_for g.schemas new)))

-- whether one of the versions has the id; no if there is no id
abbrev pub is_among : Option ℕ → List Row → Bool
is_among id rows = nat_lt 0 (length (rows_with_id id rows))

-- this project's choice: the subject's next number and the schema's id are within the limit
abbrev pub has_numbers_left : Registry → List ℕ → List NodeView → Bool
has_numbers_left g subject new = nat_le (next_number (rows_of g subject)) max_number && nat_le (id_for g.schemas new) max_number

-- Schema Registry API reference, POST /subjects/{subject}/versions: rejects an invalid schema; otherwise `registered` applies its three tests in order
abbrev pub register : Registry → List ℕ → Option (List NodeView) → Registry × ReplyView
register g subject None = (g, fault InvalidSchema)
register g subject (Some new) =
    let live = live_rows (rows_of g subject) in
    registered g subject new (record {
      is_already_live = is_among (id_of g.schemas (identity new)) live;
      admitted = is_admitted_after g.schemas (level_in g subject) live new;
      has_numbers_left = has_numbers_left g subject new;
    })

-- ---- Check

-- Schema Registry API reference, POST /compatibility/subjects/{subject}/versions: whether the level would admit the schema; if that is invalid
-- (`None`), 42201
abbrev pub check_all_reply : Registry → List ℕ → Option (List NodeView) → ReplyView
check_all_reply g subject None = fault InvalidSchema
check_all_reply g subject (Some new) = success (verdict_body (is_admitted_after g.schemas (level_in g subject) (live_rows (rows_of g subject)) new))

-- the verdict on one version, or the code if there is no such version
abbrev pub verdict_reply : Registry → List ℕ → List NodeView → Result Row Code → ReplyView
verdict_reply g subject new (Err code) = fault code
verdict_reply g subject new (Ok row) = success (verdict_body (is_admitted_after g.schemas (level_in g subject) (row ∷ []) new))

-- Schema Registry API reference, POST /compatibility/subjects/{subject}/versions/{version}: whether the level would admit the schema,
-- compared with that live version only. If the version is invalid (`None`), 42202; otherwise, if the schema is (`None`), 42201.
abbrev pub check_reply : Registry → List ℕ → Option VersionChoice → Option (List NodeView) → ReplyView
check_reply g subject None schema = fault InvalidVersion
check_reply g subject (Some choice) None = fault InvalidSchema
check_reply g subject (Some choice) (Some new) = verdict_reply g subject new (found_row (Some choice) (live_rows (rows_of g subject)))
