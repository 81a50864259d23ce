use Rattle.std.proofs.Common.{arith}
use Rattle.sqlite.specs.Held.{state}
use Rattle.sqlite.specs.State.{HasCleanDisk}
use Rattle.reg_core.specs.declared.decision.Change.TheVariants.{AddRow}
use Rattle.reg_tables.proofs.Transactions.{on_ok, if_err}
use Rattle.reg_tables.proofs.WriteFaults.{erred_with, insert_fault_later}
use Rattle.reg_store.specs.Inside.Applying.{IsFaultOfChange}
use Rattle.reg_store.proofs.Additions.{number_is_free, id_has_text}
use Rattle.reg_store.proofs.NewVersions.{spells_row, row_fails}
use Rattle.reg_store.proofs.Writing.{fault_of_change}
use Rattle.reg_store.proofs.changes.put_row.Goals as goal

pub returns-in_err-put_version-clause-fault : goal.returns-in_err-put_version-clause-fault
returns-in_err-put_version-clause-fault g c clean =
    let old = state g.S.Store c.args.tx.now.conn.now in
    let new = state g.S.Store c.put_version.new.tx.conn.now in
    let e = c.in_err-put_version.field-0.0 in
    let row = c.args.row.now in
    let change = AddRow row c.args.evidence.now in
    let fails = rw (c.as_str-subject.ensures.text, c.subject.ensures, c.version.ensures, c.id.ensures) at (c.in_err-put_version.ensures.fault clean) in
    erred_with c.from_residual.result e (IsFaultOfChange old new change) c.from_residual.ensures.1
    (fault_of_change old new e (c.in_err-put_version.ensures.frame.shut clean) change (λ was it fit.
    fails it.schema it.known it.contents it.holds (number_is_free it.contents was.registry was.replies it.spelled.base row fit.0) (id_has_text it.contents was.registry was.replies it.spelled.base row fit.0)))

pub returns-clause-made : goal.returns-clause-made
returns-clause-made g c clean =
    let old = state g.S.Store c.args.tx.now.conn.now in
    let mid = state g.S.Store c.put_version.new.tx.conn.now in
    let early : HasCleanDisk mid = omega (arith, c.put_version_evidence.ensures.frame.keeps.survives.clean) in
    let placed = rw (c.as_str-subject.ensures.text, c.subject.ensures, c.version.ensures, c.id.ensures, c.deleted.ensures) at (c.in_ok-put_version.ensures.put early) in
    let within = rw (c.as_str-subject.ensures.text, c.subject.ensures) at c.as_str-subject.ensures.subject in
    on_ok c.put_version_evidence.result (λ given was s fits. spells_row old mid (state g.S.Store c.put_version_evidence.new.tx.conn.now) c.args.row.now c.args.evidence.now placed was s fits within given)
    (rw (c.as_str-subject.ensures.text, c.subject.ensures, c.version-2.ensures) at (c.put_version_evidence.ensures.put clean))

pub returns-clause-fault : goal.returns-clause-fault
returns-clause-fault g c clean =
    let old = state g.S.Store c.args.tx.now.conn.now in
    let mid = state g.S.Store c.put_version.new.tx.conn.now in
    let new = state g.S.Store c.put_version_evidence.new.tx.conn.now in
    let early : HasCleanDisk mid = omega (arith, c.put_version_evidence.ensures.frame.keeps.survives.clean) in
    let first = c.in_ok-put_version.ensures in
    let placed = rw (c.as_str-subject.ensures.text, c.subject.ensures, c.version.ensures, c.id.ensures, c.deleted.ensures) at (first.put early) in
    if_err c.put_version_evidence.result (λ e fails was over fits.
    insert_fault_later old mid new first.frame.keeps.survives early c.put_version_evidence.ensures.frame.keeps.survives.counts (first.frame.inside early) e
    (row_fails old mid new c.args.row.now c.args.evidence.now placed was (over (first.frame.was_open early)) fits e fails))
    (rw (c.as_str-subject.ensures.text, c.subject.ensures, c.version-2.ensures) at (c.put_version_evidence.ensures.fault clean))
