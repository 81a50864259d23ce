use Rattle.reg_jobs.specs.Names.{shown_byte}
use Rattle.reg_jobs.proofs.LineLemmas.{Puts-none, Puts-item}
use Rattle.reg_jobs.proofs.NameLemmas.{shown_name-HasNoControl, shown_same}
use Rattle.reg_jobs.proofs.name.put_name.Goals as goal

pub loop-byte-init : goal.loop-byte-init
loop-byte-init g c = Puts-none g.E.Write.contents c.args.errors.now

pub loop-byte-preserved : goal.loop-byte-preserved
loop-byte-preserved g c =
    Puts-item g.E.Write.contents shown_byte _ c.loop-byte.errors c.put_byte.new.errors c.as_bytes-byte-items.result.now c.loop-byte.byte-index _ c.loop-byte-test.true c.loop-byte.invariant c.put_byte.ensures

pub returns-clause-no_control : goal.returns-clause-no_control
returns-clause-no_control g c = shown_name-HasNoControl c.args.name.now

pub returns-clause-same : goal.returns-clause-same
returns-clause-same g c = shown_same c.args.name.now
