use Rattle.std.proofs.Common.{rules, ◌≡◌, false, Bool, not, sym, subst}
use Rattle.reg_jobs.specs.Errors.{WritesUnlessLost}
use Rattle.reg_jobs.proofs.LineLemmas.{WritesUnlessLost-taken}
use Rattle.reg_jobs.proofs.errors.ErrorWriter.put.Goals as goal

pub returns-then-not-self : goal.returns-then-not-self
returns-then-not-self g c =
    let contents = g.E.Write.contents in
    let old = contents c.args.self.now.writer in
    let new = contents c.write_whole.new.writer in
    let bytes = c.args.bytes.now in
    let lost = c.args.self.now.has_lost in
    let unlost : lost ≡ false = search rules in
    let P : Bool → Type 0 = λ lost. WritesUnlessLost lost (not c.write_whole.result) old new bytes in
    subst P (sym unlost) (WritesUnlessLost-taken c.write_whole.result old new bytes c.write_whole.ensures.front c.write_whole.ensures.whole)
