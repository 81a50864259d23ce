use Rattle.std.proofs.Common.{◌≡◌, Err, IsTrue, rules}
use Rattle.std.specs.Prelude.{◌↔◌}
use Rattle.reg_store.specs.declared.error.StoreError.TheVariants.{Disk}
use Rattle.reg_store.proofs.Keeping.{reads_failed, reads_store}
use Rattle.reg_store.proofs.store.Store.text_of.Goals as goal

pub returns-then-self : goal.returns-then-self
returns-then-self g c = reads_failed g.met.S.Store.settled c.args.self.now c.if-self.true

pub returns : goal.returns
returns g c =
    let failed_now : (c.text_with_id-text.result ≡ Err Disk) ↔ IsTrue c.match-matches.self = search rules in
    reads_store g.met.S.Store.settled c.if-self.false failed_now c.text_with_id-text.ensures
