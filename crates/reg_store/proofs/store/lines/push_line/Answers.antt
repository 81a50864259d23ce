use Rattle.reg_store.specs.Listings.{fields_of}
use Rattle.reg_store.proofs.ListingLemmas.{seen_more}
use Rattle.reg_store.proofs.store.lines.push_line.Goals as goal

pub returns : goal.returns
returns c = seen_more fields_of c.args.lines.now.items c.push.new.self.items c.args.line c.in_ok-push.ensures.items
