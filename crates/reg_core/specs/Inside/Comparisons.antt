-- Whether a level admits a schema, by the texts of a view.
use Rattle.std.specs.Prelude.{Bool, false, List, Option, option_and_then}
use Rattle.std.specs.List.{list_all}
use Rattle.std.specs.Option.{option_map_or}
use Rattle.avro_nodes.specs.Nodes.{NodeView}
use Rattle.avro_schema.specs.DenotedNodes.{denoted_nodes}
use Rattle.reg_core.specs.declared.level.Level.{Level}
use Rattle.reg_core.specs.declared.decision.View.{View}
use Rattle.reg_core.specs.Registry.{Row}
use Rattle.reg_core.specs.Compatibility.{named_versions}
use Rattle.reg_core.specs.Verdicts.{is_compatible}
use Rattle.reg_core.specs.Views.{view_text}

-- this project's choice: the schema that the view's text of a version denotes; `None` if there is no text, or it denotes none
abbrev pub view_schema : View → Row → Option (List NodeView)
view_schema view row = option_and_then denoted_nodes (view_text view row.1.id)

-- this project's choice: whether the view has the version's schema, and it is compatible with the new one under the level
abbrev pub is_compatible_in_view : View → Level → List NodeView → Row → Bool
is_compatible_in_view view level new row = option_map_or (λ earlier. is_compatible level earlier new) (view_schema view row) false

-- this project's choice: whether `is_compatible_in_view` is true for each of these versions that the level compares with
abbrev pub is_admitted_in_view : View → Level → List Row → List NodeView → Bool
is_admitted_in_view view level rows new = list_all (is_compatible_in_view view level new) (named_versions level rows)
