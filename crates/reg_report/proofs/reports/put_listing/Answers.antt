use Rattle.std.proofs.Common.{List, ℕ, subst}
use Rattle.reg_store.specs.NextLines.{store_of}
use Rattle.reg_report.specs.Buffering.{Puts, Cuts, output_of}
use Rattle.reg_report.specs.Printing.{Lists as IsListed}
use Rattle.reg_report.proofs.PrintingLemmas.{lists_ended}
use Rattle.reg_report.proofs.reports.put_listing.Goals as goal

pub returns-clause-lists : goal.returns-clause-lists
returns-clause-lists g c =
    let contents = g.W.Write.contents in
    let w = contents c.args.writer.now in
    let mid = output_of contents c.put_lines-put.new.writer c.put_lines-put.new.buffer in
    let a = store_of c.args.lines.now in
    let b = store_of c.put_lines-put.new.lines in
    let r = c.put_lines-put.result in
    lists_ended c.args.kind a b w mid (contents c.finish.new.writer) r c.finish.result c.requires.unfailed
    (subst (λ (none : List ℕ). IsListed (Puts (record { written = w; waiting = none }) mid) (Cuts (record { written = w; waiting = none }) mid) c.args.kind a b r) c.new-buffer.ensures c.put_lines-put.ensures.lists)
    c.finish.ensures
