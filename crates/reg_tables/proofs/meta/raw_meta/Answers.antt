use Rattle.std.proofs.Common.{sym, ◌∙◌}
use Rattle.reg_tables.proofs.Kit.{map-map}
use Rattle.sqlite.specs.Held.{state}
use Rattle.reg_tables.specs.Contents.{pair_form}
use Rattle.reg_tables.specs.Inside.ReadableRows.{IsReadablePair}
use Rattle.reg_tables.specs.Listings.{entry_parts, meta_entry}
use Rattle.reg_tables.proofs.AnyDatabase.{fails_anywhere, meta_select, selects}
use Rattle.reg_tables.proofs.TableLines.{shows_meta, lists_lines, lines_fault, lines_told}
use Rattle.reg_tables.proofs.Transactions.{if_ok, if_err}
use Rattle.reg_tables.proofs.meta.raw_meta.Goals as goal

pub returns-clause-lists : goal.returns-clause-lists
returns-clause-lists g c = record {
  frame = c.list.ensures.frame;
  listed = λ clean. if_ok c.list.result (λ lines read. lists_lines shows_meta _ _ meta_entry lines.items read.1 read.2 read.3) (c.list.ensures.read clean);
  fault = λ clean. if_err c.list.result (λ e why. lines_fault shows_meta _ _ (state g.S.Store c.list.new.db.conn) e why.1) (c.list.ensures.failed clean);
  fault_or_unreadable = λ clean. if_err c.list.result (λ e why. lines_told shows_meta _ _ (state g.S.Store c.list.new.db.conn) e why.1) (c.list.ensures.failed clean);
}

pub returns-clause-reads : goal.returns-clause-reads
returns-clause-reads g c clean = if_ok c.list.result (λ lines read. record { rows = read.1; shows = selects _ meta_select _ _ read.1 read.2; read = read.3 ∙ sym (map-map (entry_parts pair_form) meta_entry lines.items) }) (c.list.ensures.read clean)

pub returns-clause-fails : goal.returns-clause-fails
returns-clause-fails g c clean = if_err c.list.result (λ e why. fails_anywhere _ meta_select IsReadablePair _ _ (state g.S.Store c.list.new.db.conn) e why.1) (c.list.ensures.failed clean)
