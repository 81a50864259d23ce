use Rattle.avro_nodes.specs.Nodes.{nodes_view}
use Rattle.avro_schema.specs.DenotedNodes.{denoted_nodes}
use Rattle.reg_core.proofs.ReadTexts.{gives}
use Rattle.reg_core.proofs.decision.comparing.schema_of.Goals as goal

pub returns : goal.returns
returns c = c.if_denoted.ensures nodes_view (denoted_nodes c.args.text.now) (gives nodes_view c.args.text.now c.read.result c.read.ensures.ok c.read.ensures.err)
