use Rattle.std.proofs.Common.{◌≡◌, map, take}
use Rattle.serde_json.specs.View.{view}
use Rattle.reg_core.specs.Bodies.{subject_version_data}
use Rattle.reg_core.proofs.decision.bodies.subject_versions_reply.Given as goal

abbrev pub invariant-loop-row : goal.invariant-loop-row
invariant-loop-row l = map view l.values.items ≡ map (λ row. subject_version_data row.now) (take l.row-index l.rows)
