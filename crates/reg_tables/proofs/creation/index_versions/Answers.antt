use Rattle.sqlite.specs.Held.{state}
use Rattle.reg_tables.proofs.Indexing.{indexes_versions, index_versions_fails}
use Rattle.reg_tables.proofs.Transactions.{on_ok, if_err}
use Rattle.reg_tables.proofs.WriteFaults.{as_write_fault}
use Rattle.reg_tables.proofs.creation.index_versions.Goals as goal

pub returns : goal.returns
returns g c =
    let first = state g.S.Store c.args.tx.now.conn.now in
    let last = state g.S.Store c.run.new.tx.conn.now in
    record {
      frame = c.run.ensures.frame;
      made = λ clean. on_ok c.run.result (λ ran about from. indexes_versions first last ran.0 ran.1.0 about.0 about.1 from.0 about.2 from.1) (c.run.ensures.runs clean);
      fault = λ clean. if_err c.run.result (λ e failed about from. as_write_fault first last e (λ ran. index_versions_fails first last e ran about.0 about.1 from.0 about.2 from.1) failed) (c.run.ensures.failed clean);
    }
