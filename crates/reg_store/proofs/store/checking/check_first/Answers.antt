use Rattle.std.proofs.Common.{subst}
use Rattle.sqlite.specs.Held.{state}
use Rattle.reg_tables.specs.Frames.{ReadsInAutocommit}
use Rattle.reg_store.proofs.OpenLemmas.{unread_unlimited}
use Rattle.reg_store.proofs.store.checking.check_first.Goals as goal

pub returns-clause-frame : goal.returns-clause-frame
returns-clause-frame g c = subst (λ h. ReadsInAutocommit g.S.Store h c.check_layout_one-found.new.db.idle.conn c.check_layout_one-found.result) c.new-db.ensures.same c.check_layout_one-found.ensures.tests.frame

pub returns-clause-fails : goal.returns-clause-fails
returns-clause-fails g c clean =
    let it = c.check_layout_one-found.ensures in
    unread_unlimited g.S.Store c.args.connection c.new-db.result.idle.conn c.new-db.ensures.same (state g.S.Store c.check_layout_one-found.new.db.idle.conn) c.check_layout_one-found.result
    (it.tests.fault clean) (it.disk_cause clean) (it.meta_number clean) (it.other clean)
