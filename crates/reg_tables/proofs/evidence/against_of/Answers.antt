use Rattle.sqlite.specs.Held.{state}
use Rattle.reg_tables.proofs.TableLines.{asked_fault, asked_told}
use Rattle.reg_tables.proofs.VersionIds.{ids_sql, of_version, asks_ids, reads_ids, lists_ids}
use Rattle.reg_tables.specs.Inside.ReadableRows.{IsReadableAgainst}
use Rattle.reg_tables.proofs.Transactions.{if_ok, if_err}
use Rattle.reg_tables.proofs.evidence.against_of.Goals as goal

pub returns : goal.returns
returns g c = record {
  frame = c.list.ensures.frame;
  listed = λ clean. if_ok c.list.result (λ lines read. lists_ids (c.args.subject.now, c.args.number) _ _ lines.items read.1 (rw (c.params-to_sql.ensures, c.params-to_sql-2.ensures) at read.2) read.3) (c.list.ensures.read clean);
  fault = λ clean. if_err c.list.result (λ e why. λ can. asked_fault ids_sql _ _ (state g.S.Store c.list.new.db.conn) IsReadableAgainst e (of_version (c.args.subject.now, c.args.number)) (rw (c.params-to_sql.ensures, c.params-to_sql-2.ensures) at why.1)
      (λ is_open. reads_ids (c.args.subject.now, c.args.number) _ _ (can is_open))) (c.list.ensures.failed clean);
  fault_or_unreadable = λ clean. if_err c.list.result (λ e why. λ known. asked_told ids_sql _ _ (state g.S.Store c.list.new.db.conn) IsReadableAgainst e (of_version (c.args.subject.now, c.args.number)) (rw (c.params-to_sql.ensures, c.params-to_sql-2.ensures) at why.1)
      (λ is_open. asks_ids (c.args.subject.now, c.args.number) _ (known is_open))) (c.list.ensures.failed clean);
}
