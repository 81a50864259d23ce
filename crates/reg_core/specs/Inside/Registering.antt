-- The version that Register adds, by a view.
use Rattle.std.specs.Prelude.{ℕ, map, ◌+◌, ◌&&◌, nat_le, Bool, false, List, [], ◌∷◌, ◌++◌, unwrap_or, Option, None, Some, if◌then◌else◌}
use Rattle.avro_nodes.specs.Nodes.{NodeView}
use Rattle.avro_nodes.specs.Identity.{identity}
use Rattle.reg_core.specs.declared.decision.View.{View}
use Rattle.reg_core.specs.declared.decision.Change.{Change}
use Rattle.reg_core.specs.declared.decision.Change.TheVariants as change
use Rattle.reg_core.specs.Compatibility.{named_versions}
use Rattle.reg_core.specs.Evidence.{Evidence}
use Rattle.reg_core.specs.Registry.{Row, max_number}
use Rattle.reg_core.specs.Rows.{next_number}
use Rattle.reg_core.specs.RegisterCommands.{is_among}
use Rattle.reg_core.specs.Views.{level_of_view}

-- this project's choice: the id of the sent schema, or the next id if it has none
abbrev pub id_by_view : View → ℕ
id_by_view view = unwrap_or view.known (view.count + 1)

-- this project's choice: the id of the sent schema if one of the versions has it, else `None`
abbrev pub id_among : Option ℕ → List Row → Option ℕ
id_among known rows = if is_among known rows then known else None

-- this project's choice: the subject's next number and the schema's id are within the limit
abbrev pub has_numbers_by_view : View → Bool
has_numbers_by_view view = nat_le (next_number view.rows.items) max_number && nat_le (id_by_view view) max_number

-- this project's choice: the subject's next version
abbrev pub row_by_view : View → List ℕ → Row
row_by_view view subject = ((subject, next_number view.rows.items), record { id = id_by_view view; deleted = false })

-- this project's choice: the evidence of the subject's next version, which follows these live versions
abbrev pub evidence_by_view : View → List Row → Evidence
evidence_by_view view live = record { level = level_of_view view; against = map (λ (row : Row). row.1.id) (named_versions (level_of_view view) live) }

-- this project's choice: the change that registers a new schema under this id; no change if the schema already has an id
abbrev pub text_added : Option ℕ → ℕ → List NodeView → List Change
text_added None id new = change.AddText id (identity new) ∷ []
text_added (Some known) id new = []

-- this project's choice: the changes that add the version with its evidence and, if `known` is `None`, first the text of its schema
abbrev pub version_added : Option ℕ → Row → Evidence → List NodeView → List Change
version_added known row evidence new = text_added known row.1.id new ++ change.AddRow row evidence ∷ []
