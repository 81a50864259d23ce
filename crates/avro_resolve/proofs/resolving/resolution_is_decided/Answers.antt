use Rattle.avro_resolve.proofs.VerdictLemmas.{resolves_decided}
use Rattle.avro_resolve.proofs.resolving.resolution_is_decided.Goals as goal

pub returns : goal.returns
returns c = resolves_decided
