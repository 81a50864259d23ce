use Rattle.sqlite.specs.Held.{state}
use Rattle.reg_tables.specs.Listings.{evidence_entry}
use Rattle.reg_tables.proofs.TableLines.{shows_evidence, lists_lines, lines_fault, lines_told}
use Rattle.reg_tables.proofs.Transactions.{if_ok, if_err}
use Rattle.reg_tables.proofs.evidence.raw_evidence.Goals as goal

pub returns : goal.returns
returns g c = record {
  frame = c.list.ensures.frame;
  listed = λ clean. if_ok c.list.result (λ lines read. lists_lines shows_evidence _ _ evidence_entry lines.items read.1 read.2 read.3) (c.list.ensures.read clean);
  fault = λ clean. if_err c.list.result (λ e why. lines_fault shows_evidence _ _ (state g.S.Store c.list.new.db.conn) e why.1) (c.list.ensures.failed clean);
  fault_or_unreadable = λ clean. if_err c.list.result (λ e why. lines_told shows_evidence _ _ (state g.S.Store c.list.new.db.conn) e why.1) (c.list.ensures.failed clean);
}
