use Rattle.std.proofs.Common.{arith}
use Rattle.sqlite.specs.Held.{state}
use Rattle.sqlite.specs.State.{HasCleanDisk}
use Rattle.reg_core.specs.Levels.{level_text}
use Rattle.reg_core.specs.Registry.{RowKey}
use Rattle.reg_tables.specs.Changes.{with_evidence}
use Rattle.reg_tables.proofs.Transactions.{on_ok, if_err}
use Rattle.reg_tables.proofs.WriteFaults.{erred_with, insert_fault_later}
use Rattle.reg_store.specs.Inside.Applying.{PutsEvidence, IsFaultOfEvidence}
use Rattle.reg_store.proofs.changes.put_version_evidence.Goals as goal

pub returns-in_err-put_evidence-clause-fault : goal.returns-in_err-put_evidence-clause-fault
returns-in_err-put_evidence-clause-fault g c clean =
    let key : RowKey = (c.args.subject.now, c.args.number) in
    erred_with c.from_residual.result c.in_err-put_evidence.field-0.0 (IsFaultOfEvidence (state g.S.Store c.args.tx.now.conn.now) (state g.S.Store c.put_evidence.new.tx.conn.now) key c.args.evidence.now) c.from_residual.ensures.1
    (λ schema known contents holds none free has. c.in_err-put_evidence.ensures.fault clean schema known contents holds none has.version)

pub returns-clause-put : goal.returns-clause-put
returns-clause-put g c clean =
    let mid = state g.S.Store c.put_evidence.new.tx.conn.now in
    let early : HasCleanDisk mid = omega (arith, c.put_ids.ensures.frame.survives.clean) in
    let key : RowKey = (c.args.subject.now, c.args.number) in
    let own = c.args.evidence.now in
    let placed = rw (c.text.ensures.value, c.level.ensures) at (c.in_ok-put_evidence.ensures.put early) in
    on_ok c.put_ids.result (λ ids.
    let all : PutsEvidence (state g.S.Store c.args.tx.now.conn.now) (state g.S.Store c.put_ids.new.tx.conn.now) key own = record {
      few = ids.few;
      puts = λ schema known contents holds none free. ids.puts schema known (with_evidence key (level_text own.level) contents) (placed schema known contents holds none) free;
    } in
    all) (rw c.against.ensures at (c.put_ids.ensures.put clean))

pub returns-clause-fault : goal.returns-clause-fault
returns-clause-fault g c clean =
    let old = state g.S.Store c.args.tx.now.conn.now in
    let mid = state g.S.Store c.put_evidence.new.tx.conn.now in
    let new = state g.S.Store c.put_ids.new.tx.conn.now in
    let early : HasCleanDisk mid = omega (arith, c.put_ids.ensures.frame.survives.clean) in
    let key : RowKey = (c.args.subject.now, c.args.number) in
    let placed = rw (c.text.ensures.value, c.level.ensures) at (c.in_ok-put_evidence.ensures.put early) in
    if_err c.put_ids.result (λ e fails schema known contents holds none free has.
    insert_fault_later old mid new c.in_ok-put_evidence.ensures.frame.keeps.survives early c.put_ids.ensures.frame.survives.counts (c.in_ok-put_evidence.ensures.frame.inside early) e
    (fails schema known (with_evidence key (level_text c.args.evidence.now.level) contents) (placed schema known contents holds none) free (record { version = has.version; texts = has.texts })))
    (rw c.against.ensures at (c.put_ids.ensures.fault clean))
