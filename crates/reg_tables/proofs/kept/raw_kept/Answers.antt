use Rattle.sqlite.specs.Held.{state}
use Rattle.reg_tables.specs.Listings.{kept_entry}
use Rattle.reg_tables.proofs.TableLines.{shows_kept, lists_lines, lines_fault, lines_told}
use Rattle.reg_tables.proofs.Transactions.{if_ok, if_err}
use Rattle.reg_tables.proofs.kept.raw_kept.Goals as goal

pub returns : goal.returns
returns g c = record {
  frame = c.list.ensures.frame;
  listed = λ clean. if_ok c.list.result (λ lines read. lists_lines shows_kept _ _ kept_entry lines.items read.1 read.2 read.3) (c.list.ensures.read clean);
  fault = λ clean. if_err c.list.result (λ e why. lines_fault shows_kept _ _ (state g.S.Store c.list.new.db.conn) e why.1) (c.list.ensures.failed clean);
  fault_or_unreadable = λ clean. if_err c.list.result (λ e why. lines_told shows_kept _ _ (state g.S.Store c.list.new.db.conn) e why.1) (c.list.ensures.failed clean);
}
