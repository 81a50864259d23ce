use Rattle.avro_nodes.proofs.Written.{ordered_entries}
use Rattle.avro_nodes.proofs.value.unwritten_members.Goals as goal

pub returns-clause-ordered : goal.returns-clause-ordered
returns-clause-ordered c = ordered_entries _ c.iter.ensures.ordered
