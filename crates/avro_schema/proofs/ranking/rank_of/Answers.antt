use Rattle.avro_schema.proofs.Rising.{found, lost, no_text}
use Rattle.avro_schema.proofs.ranking.rank_of.Goals as goal

pub returns-in-Ok : goal.returns-in-Ok
returns-in-Ok c = found c.args.names.now c.args.text.now c.in-Ok.rank c.in-Ok.ensures.bound (c.in-Ok.ensures.ok no_text)

pub returns-in-Err : goal.returns-in-Err
returns-in-Err c = absurd (lost c.args.names.now c.args.text.now c.in-Err.field-0 c.requires.names.rise c.requires.known c.in-Err.ensures.position)
