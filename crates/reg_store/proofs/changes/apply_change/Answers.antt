use Rattle.std.proofs.Common.{inl}
use Rattle.sqlite.specs.Held.{state}
use Rattle.reg_tables.proofs.Transactions.{on_ok}
use Rattle.reg_store.proofs.Spelling.{respells_global, respells_level}
use Rattle.reg_core.specs.declared.decision.Change.TheVariants.{AddText}
use Rattle.reg_store.proofs.Additions.{makes_text, id_is_free, text_is_new}
use Rattle.reg_store.proofs.Deletions.{makes_deleted, makes_removed, makes_dropped}
use Rattle.reg_store.proofs.Modes.{makes_global_mode, makes_mode, makes_no_mode}
use Rattle.reg_store.proofs.Writing.{if_err_both, fault_of_change}
use Rattle.reg_store.proofs.changes.apply_change.Goals as goal

pub returns-in-SetGlobal-clause-made : goal.returns-in-SetGlobal-clause-made
returns-in-SetGlobal-clause-made g c clean =
    rw c.in-SetGlobal.is
    (on_ok c.set_global.result (respells_global (state g.S.Store c.args.tx.now.conn.now) (state g.S.Store c.set_global.new.tx.conn.now) c.in-SetGlobal.level)
    (rw c.text.ensures.value at (c.set_global.ensures.changed clean)))

pub returns-in-SetLevel-clause-made : goal.returns-in-SetLevel-clause-made
returns-in-SetLevel-clause-made g c clean =
    rw c.in-SetLevel.is
    (on_ok c.set_level.result
    (respells_level (state g.S.Store c.args.tx.now.conn.now) (state g.S.Store c.set_level.new.tx.conn.now) c.in-SetLevel.subject c.in-SetLevel.level (rw c.as_str.ensures.text at c.as_str.ensures.subject))
    (rw (c.as_str.ensures.text, c.text-in-SetLevel.ensures.value) at (c.set_level.ensures.changed clean)))

pub returns-in-SetGlobal-clause-fault : goal.returns-in-SetGlobal-clause-fault
returns-in-SetGlobal-clause-fault g c clean =
    if_err_both c.set_global.result (λ e fails shut. fault_of_change (state g.S.Store c.args.tx.now.conn.now) (state g.S.Store c.set_global.new.tx.conn.now) e shut c.args.change.now (λ was s fit. fails s.schema s.known s.contents s.holds))
    (c.set_global.ensures.fault clean) (c.set_global.ensures.frame.shut clean)

pub returns-in-SetLevel-clause-fault : goal.returns-in-SetLevel-clause-fault
returns-in-SetLevel-clause-fault g c clean =
    if_err_both c.set_level.result (λ e fails shut. fault_of_change (state g.S.Store c.args.tx.now.conn.now) (state g.S.Store c.set_level.new.tx.conn.now) e shut c.args.change.now (λ was s fit. fails s.schema s.known s.contents s.holds))
    (c.set_level.ensures.fault clean) (c.set_level.ensures.frame.shut clean)

pub returns-in-AddText-clause-made : goal.returns-in-AddText-clause-made
returns-in-AddText-clause-made g c clean =
    rw c.in-AddText.is
    (on_ok c.put_text.result
    (makes_text (state g.S.Store c.args.tx.now.conn.now) (state g.S.Store c.put_text.new.tx.conn.now) c.in-AddText.id c.in-AddText.text (rw c.as_str-in-AddText.ensures at c.as_str-in-AddText.utf8))
    (rw c.as_str-in-AddText.ensures at (c.put_text.ensures.put clean)))

pub returns-in-AddText-clause-fault : goal.returns-in-AddText-clause-fault
returns-in-AddText-clause-fault g c clean =
    rw c.in-AddText.is
    (if_err_both c.put_text.result (λ e fails shut. fault_of_change (state g.S.Store c.args.tx.now.conn.now) (state g.S.Store c.put_text.new.tx.conn.now) e shut (AddText c.in-AddText.id c.in-AddText.text) (λ was it fit.
    inl (fails it.schema it.known it.contents it.holds (id_is_free it.contents was.registry was.replies it.spelled.base c.in-AddText.id c.in-AddText.text fit) (text_is_new it.contents was.registry was.replies it.spelled.base c.in-AddText.id c.in-AddText.text fit))))
    (rw c.as_str-in-AddText.ensures at (c.put_text.ensures.fault clean)) (c.put_text.ensures.frame.shut clean))

pub returns-in-AddRow-clause-made : goal.returns-in-AddRow-clause-made
returns-in-AddRow-clause-made g c clean = rw c.in-AddRow.is (c.put_row.ensures.made clean)

pub returns-in-AddRow-clause-fault : goal.returns-in-AddRow-clause-fault
returns-in-AddRow-clause-fault g c clean = rw c.in-AddRow.is (c.put_row.ensures.fault clean)

pub returns-in-MarkDeleted-clause-made : goal.returns-in-MarkDeleted-clause-made
returns-in-MarkDeleted-clause-made g c clean =
    rw c.in-MarkDeleted.is
    (on_ok c.mark_deleted.result (makes_deleted (state g.S.Store c.args.tx.now.conn.now) (state g.S.Store c.mark_deleted.new.tx.conn.now) c.in-MarkDeleted.subject c.in-MarkDeleted.version) (rw c.as_str-in-MarkDeleted.ensures.text at (c.mark_deleted.ensures.changed clean)))

pub returns-in-MarkDeleted-clause-fault : goal.returns-in-MarkDeleted-clause-fault
returns-in-MarkDeleted-clause-fault g c clean =
    if_err_both c.mark_deleted.result (λ e fails shut. fault_of_change (state g.S.Store c.args.tx.now.conn.now) (state g.S.Store c.mark_deleted.new.tx.conn.now) e shut c.args.change.now (λ was s fit. fails s.schema s.known s.contents s.holds))
    (c.mark_deleted.ensures.fault clean) (c.mark_deleted.ensures.frame.shut clean)

pub returns-in-Remove-clause-made : goal.returns-in-Remove-clause-made
returns-in-Remove-clause-made g c clean =
    rw c.in-Remove.is
    (on_ok c.drop_version.result (makes_removed (state g.S.Store c.args.tx.now.conn.now) (state g.S.Store c.drop_version.new.tx.conn.now) c.in-Remove.subject c.in-Remove.version) (rw c.as_str-in-Remove.ensures.text at (c.drop_version.ensures.changed clean)))

pub returns-in-Remove-clause-fault : goal.returns-in-Remove-clause-fault
returns-in-Remove-clause-fault g c clean =
    if_err_both c.drop_version.result (λ e fails shut. fault_of_change (state g.S.Store c.args.tx.now.conn.now) (state g.S.Store c.drop_version.new.tx.conn.now) e shut c.args.change.now (λ was s fit. inl (inl (fails s.schema s.known s.contents s.holds))))
    (c.drop_version.ensures.fault clean) (c.drop_version.ensures.frame.shut clean)

pub returns-in-DropLevel-clause-made : goal.returns-in-DropLevel-clause-made
returns-in-DropLevel-clause-made g c clean =
    rw c.in-DropLevel.is
    (on_ok c.drop_level.result (makes_dropped (state g.S.Store c.args.tx.now.conn.now) (state g.S.Store c.drop_level.new.tx.conn.now) c.in-DropLevel.subject) (rw c.as_str-in-DropLevel.ensures.text at (c.drop_level.ensures.changed clean)))

pub returns-in-DropLevel-clause-fault : goal.returns-in-DropLevel-clause-fault
returns-in-DropLevel-clause-fault g c clean =
    if_err_both c.drop_level.result (λ e fails shut. fault_of_change (state g.S.Store c.args.tx.now.conn.now) (state g.S.Store c.drop_level.new.tx.conn.now) e shut c.args.change.now (λ was s fit. inl (inl (fails s.schema s.known s.contents s.holds))))
    (c.drop_level.ensures.fault clean) (c.drop_level.ensures.frame.shut clean)

pub returns-in-SetGlobalMode-clause-made : goal.returns-in-SetGlobalMode-clause-made
returns-in-SetGlobalMode-clause-made g c clean =
    rw c.in-SetGlobalMode.is
    (on_ok c.set_global_mode.result (makes_global_mode (state g.S.Store c.args.tx.now.conn.now) (state g.S.Store c.set_global_mode.new.tx.conn.now) c.in-SetGlobalMode.mode)
    (rw c.text-in-SetGlobalMode.ensures.value at (c.set_global_mode.ensures.changed clean)))

pub returns-in-SetGlobalMode-clause-fault : goal.returns-in-SetGlobalMode-clause-fault
returns-in-SetGlobalMode-clause-fault g c clean =
    if_err_both c.set_global_mode.result (λ e fails shut. fault_of_change (state g.S.Store c.args.tx.now.conn.now) (state g.S.Store c.set_global_mode.new.tx.conn.now) e shut c.args.change.now (λ was s fit. fails s.schema s.known s.contents s.holds))
    (c.set_global_mode.ensures.fault clean) (c.set_global_mode.ensures.frame.shut clean)

pub returns-in-SetMode-clause-made : goal.returns-in-SetMode-clause-made
returns-in-SetMode-clause-made g c clean =
    rw c.in-SetMode.is
    (on_ok c.set_mode.result
    (makes_mode (state g.S.Store c.args.tx.now.conn.now) (state g.S.Store c.set_mode.new.tx.conn.now) c.in-SetMode.subject c.in-SetMode.mode (rw c.as_str-in-SetMode.ensures.text at c.as_str-in-SetMode.ensures.subject))
    (rw (c.as_str-in-SetMode.ensures.text, c.text-in-SetMode.ensures.value) at (c.set_mode.ensures.changed clean)))

pub returns-in-SetMode-clause-fault : goal.returns-in-SetMode-clause-fault
returns-in-SetMode-clause-fault g c clean =
    if_err_both c.set_mode.result (λ e fails shut. fault_of_change (state g.S.Store c.args.tx.now.conn.now) (state g.S.Store c.set_mode.new.tx.conn.now) e shut c.args.change.now (λ was s fit. fails s.schema s.known s.contents s.holds))
    (c.set_mode.ensures.fault clean) (c.set_mode.ensures.frame.shut clean)

pub returns-in-DropMode-clause-made : goal.returns-in-DropMode-clause-made
returns-in-DropMode-clause-made g c clean =
    rw c.in-DropMode.is
    (on_ok c.drop_mode.result (makes_no_mode (state g.S.Store c.args.tx.now.conn.now) (state g.S.Store c.drop_mode.new.tx.conn.now) c.in-DropMode.subject) (rw c.as_str-in-DropMode.ensures.text at (c.drop_mode.ensures.changed clean)))

pub returns-in-DropMode-clause-fault : goal.returns-in-DropMode-clause-fault
returns-in-DropMode-clause-fault g c clean =
    if_err_both c.drop_mode.result (λ e fails shut. fault_of_change (state g.S.Store c.args.tx.now.conn.now) (state g.S.Store c.drop_mode.new.tx.conn.now) e shut c.args.change.now (λ was s fit. inl (inl (fails s.schema s.known s.contents s.holds))))
    (c.drop_mode.ensures.fault clean) (c.drop_mode.ensures.frame.shut clean)
