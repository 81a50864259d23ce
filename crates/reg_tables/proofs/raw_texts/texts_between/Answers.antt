use Rattle.sqlite.specs.Held.{state}
use Rattle.reg_tables.specs.Inside.ReadableRows.{IsReadableText}
use Rattle.reg_tables.proofs.Statements.{asks_between}
use Rattle.reg_tables.proofs.TableLines.{list_fault, list_told}
use Rattle.reg_tables.proofs.RawTexts.{lists_between, readable_between}
use Rattle.reg_tables.proofs.Transactions.{if_ok, if_err}
use Rattle.reg_tables.proofs.raw_texts.texts_between.Goals as goal

pub returns : goal.returns
returns g c = record {
  frame = c.list.ensures.frame;
  listed = λ clean. if_ok c.list.result (λ lines read. lists_between _ _ read.1 c.args.low c.args.high (rw (c.params-to_sql.ensures, c.params-to_sql-2.ensures) at read.2) lines.items read.3) (c.list.ensures.read clean);
  fault = λ clean. if_err c.list.result (λ e why.
      list_fault (asks_between c.args.low c.args.high) IsReadableText _ _ (state g.S.Store c.list.new.db.conn)
      (λ found shown there. readable_between _ _ found c.args.low c.args.high shown there) e (rw (c.params-to_sql.ensures, c.params-to_sql-2.ensures) at why.1))
      (c.list.ensures.failed clean);
  fault_or_unreadable = λ clean. if_err c.list.result (λ e why. list_told (asks_between c.args.low c.args.high) IsReadableText _ _ (state g.S.Store c.list.new.db.conn) e (rw (c.params-to_sql.ensures, c.params-to_sql-2.ensures) at why.1)) (c.list.ensures.failed clean);
}
