use Rattle.std.proofs.Common.{ℕ, List, subst}
use denote.Ref.{Bor}
use Rattle.std.proofs.KnownBytes.{Appends-nil}
use Rattle.reg_output.specs.Prefixes.{AppendsPrefix}
use Rattle.reg_jobs.proofs.LineLemmas.{AppendsPrefix-item}
use Rattle.reg_jobs.proofs.migration.print_parts.Goals as goal

pub loop-part-init : goal.loop-part-init
loop-part-init g c = Appends-nil (g.W.Write.contents c.args.writer.now)

pub returns-then-not-write_whole : goal.returns-then-not-write_whole
returns-then-not-write_whole g c =
    let old = g.W.Write.contents c.args.writer.now in
    let mid = g.W.Write.contents c.loop-part.writer in
    let new = g.W.Write.contents c.write_whole.new.writer in
    AppendsPrefix-item (λ (part : Bor (List ℕ)). part.now) old mid new c.args.parts.now c.loop-part.part-index _ c.loop-part-test.true c.loop-part.invariant
    (subst (AppendsPrefix mid new) c.as_bytes.ensures.value c.write_whole.ensures.front)
