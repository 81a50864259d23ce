use Rattle.sqlite.specs.Held.{state}
use Rattle.reg_tables.specs.Inside.ReadableRows.{IsReadableId}
use Rattle.reg_tables.proofs.Statements.{asks_all_ids}
use Rattle.reg_tables.proofs.TableLines.{list_fault, list_told}
use Rattle.reg_tables.proofs.RawTexts.{lists_ids, readable_ids}
use Rattle.reg_tables.proofs.Transactions.{if_ok, if_err}
use Rattle.reg_tables.proofs.raw_texts.text_ids.Goals as goal

pub returns : goal.returns
returns g c = record {
  frame = c.list.ensures.frame;
  listed = λ clean. if_ok c.list.result (λ ids read. lists_ids _ _ read.1 read.2 ids.items read.3) (c.list.ensures.read clean);
  fault = λ clean. if_err c.list.result (λ e why. list_fault asks_all_ids IsReadableId _ _ (state g.S.Store c.list.new.db.conn) (λ found shown there. readable_ids _ _ found shown there) e why.1)
      (c.list.ensures.failed clean);
  fault_or_unreadable = λ clean. if_err c.list.result (λ e why. list_told asks_all_ids IsReadableId _ _ (state g.S.Store c.list.new.db.conn) e why.1) (c.list.ensures.failed clean);
}
