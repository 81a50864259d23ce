use Rattle.std.proofs.Common.{◌≡◌, true, take}
use Rattle.std.specs.List.{list_all}
use Rattle.avro_nodes.specs.Nodes.{nodes_view}
use Rattle.reg_core.specs.Inside.Comparisons.{is_compatible_in_view}
use Rattle.reg_core.proofs.decision.comparing.is_admitted_in_view.Given as goal

abbrev pub invariant-loop-row : goal.invariant-loop-row
invariant-loop-row l = list_all (λ row. is_compatible_in_view l.view l.level (nodes_view l.new) row.now) (take l.row-index l.versions) ≡ true
