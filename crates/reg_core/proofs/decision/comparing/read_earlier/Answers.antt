use Rattle.std.proofs.Common.{Err}
use Rattle.avro_nodes.specs.Nodes.{nodes_view}
use Rattle.avro_schema.proofs.TextLemmas.{denotes_computes}
use Rattle.schema_cache.specs.declared.cache_lookup.CacheLookup.{CacheLookup}
use Rattle.schema_cache.specs.Answers.{found_schema}
use Rattle.reg_core.proofs.ReadTexts.{gives}
use Rattle.reg_core.proofs.decision.comparing.read_earlier.Goals as goal

pub returns-in-Some : goal.returns-in-Some
returns-in-Some c = gives (λ (found : CacheLookup). nodes_view (found_schema found)) c.args.text.now c.read.result c.read.ensures.ok c.read.ensures.err

pub returns-in-Ok : goal.returns-in-Ok
returns-in-Ok c = denotes_computes c.args.text.now (nodes_view c.in-Ok.schema) c.in-Ok.ensures.ok

pub returns-in-Err : goal.returns-in-Err
returns-in-Err c = gives (λ (found : CacheLookup). nodes_view (found_schema found)) c.args.text.now (Err c.in-Err.error) tt c.in-Err.ensures.err
