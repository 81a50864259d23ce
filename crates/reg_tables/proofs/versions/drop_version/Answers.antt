use Rattle.sqlite.specs.Held.{state}
use Rattle.reg_tables.proofs.Transactions.{on_ok, if_err}
use Rattle.reg_tables.proofs.WriteFaults.{as_write_fault}
use Rattle.reg_tables.proofs.Written.{drops_version_in, drop_version_fails_in}
use Rattle.reg_tables.proofs.versions.drop_version.Goals as goal

pub returns : goal.returns
returns g c =
    let first = state g.S.Store c.args.tx.now.conn.now in
    let last = state g.S.Store c.run.new.tx.conn.now in
    record {
      frame = c.run.ensures.frame;
      changed = λ clean. on_ok c.run.result (λ ran. drops_version_in first last ran.0 (c.args.subject.now, c.args.number) (rw (c.params-to_sql.ensures, c.params-to_sql-2.ensures) at ran.1.0)) (c.run.ensures.runs clean);
      fault = λ clean. if_err c.run.result
          (λ e failed schema written contents holds. as_write_fault first last e (λ ran. drop_version_fails_in first last e (c.args.subject.now, c.args.number) ran schema written contents holds) (rw (c.params-to_sql.ensures, c.params-to_sql-2.ensures) at failed))
          (c.run.ensures.failed clean);
    }
