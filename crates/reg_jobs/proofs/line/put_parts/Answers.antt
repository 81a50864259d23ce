use Rattle.std.proofs.Common.{subst}
use Rattle.reg_jobs.specs.Errors.{Puts}
use Rattle.reg_jobs.proofs.LineLemmas.{Puts-none, Puts-item}
use Rattle.reg_jobs.proofs.line.put_parts.Goals as goal

pub loop-part-init : goal.loop-part-init
loop-part-init g c = Puts-none g.E.Write.contents c.args.errors.now

pub loop-part-preserved : goal.loop-part-preserved
loop-part-preserved g c =
    Puts-item g.E.Write.contents (λ part. part.now) _ c.loop-part.errors c.put.new.self c.args.parts.now c.loop-part.part-index _ c.loop-part-test.true c.loop-part.invariant
    (subst (Puts g.E.Write.contents c.loop-part.errors c.put.new.self) c.as_bytes.ensures.value c.put.ensures)
