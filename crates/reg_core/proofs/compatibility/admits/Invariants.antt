use Rattle.std.proofs.Common.{take}
use Rattle.std.specs.Prelude.{All}
use Rattle.avro_nodes.specs.Nodes.{nodes_view}
use Rattle.reg_core.specs.Compatibility.{Compatible}
use Rattle.reg_core.proofs.compatibility.admits.Given as goal

abbrev pub invariant-loop-schema : goal.invariant-loop-schema
invariant-loop-schema l = All (λ s. Compatible l.level (nodes_view s) (nodes_view l.new)) (take l.schema-index l.compared)
