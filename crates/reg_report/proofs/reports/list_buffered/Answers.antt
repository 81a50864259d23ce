use Rattle.std.proofs.Common.{◌≡◌, sym, subst, rules}
use Rattle.reg_store.specs.NextLines.{store_of}
use Rattle.reg_report.specs.Printing.{PrintsListing}
use Rattle.reg_report.proofs.PrintingLemmas.{lists_refused}
use Rattle.reg_report.proofs.reports.list_buffered.Goals as goal

pub put_listing-requires : goal.put_listing-requires
put_listing-requires g c =
    let it = c.in_ok-lines.ensures in
    record { going = it.unfailed.0; unfailed = rw it.same it.unfailed.1; starts = it.starts }

pub returns-in_err-lines : goal.returns-in_err-lines
returns-in_err-lines g c =
    let contents = g.W.Write.contents c.args.writer.now in
    let same : c.lines.follows.lender-at-none ≡ c.args.store.now = search rules in
    let it = c.in_err-lines.ensures.failed in
    subst (λ s. PrintsListing c.args.kind c.args.store.now s contents contents c.from_residual.result) (sym same)
    (lists_refused c.args.kind c.args.store.now contents c.from_residual.result _ g.met.S.Store.settled it.1 it.0 c.from_residual.ensures.1)

pub returns : goal.returns
returns g c =
    let old = g.W.Write.contents c.args.writer.now in
    let new = g.W.Write.contents c.put_listing.new.writer in
    let last : c.store-2-1.given.0 ≡ store_of c.put_listing.new.lines = search rules in
    subst (λ s. PrintsListing c.args.kind c.args.store.now s old new c.put_listing.result) (sym last)
    (subst (λ s. PrintsListing c.args.kind s (store_of c.put_listing.new.lines) old new c.put_listing.result) c.in_ok-lines.ensures.same c.put_listing.ensures.lists)
