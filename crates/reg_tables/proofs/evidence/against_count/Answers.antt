use Rattle.std.proofs.Common.{◌⊎◌, [], sym, subst}
use Rattle.sqlite.specs.Held.{state}
use Rattle.reg_tables.specs.Layout.{HasEightTables}
use Rattle.reg_tables.specs.Reads.{CanBeReadIn, HasTablesIn}
use Rattle.reg_tables.specs.Listings.{HasAgainstRows}
use Rattle.reg_tables.specs.FailedCalls.{IsFault, IsUnreadable}
use Rattle.reg_tables.proofs.TableLines.{of_eight, asked_fault, asked_told}
use Rattle.reg_tables.proofs.Counts.{count_sql, asks_count, readable_count, count_told}
use Rattle.reg_tables.specs.Inside.ReadableRows.{IsReadableCount}
use Rattle.reg_tables.proofs.Faults.{if_passed}
use Rattle.reg_tables.proofs.evidence.against_count.Goals as goal

pub returns-in_err-found-clause-fault : goal.returns-in_err-found-clause-fault
returns-in_err-found-clause-fault g c clean =
    let why = c.in_err-found.ensures.failed clean in
    let old = state g.S.Store c.args.db.now.conn in
    let new = state g.S.Store c.first.new.db.conn in
    if_passed (λ e. CanBeReadIn HasEightTables old → IsFault old new e) c.from_residual.result c.in_err-found.field-0.0 c.from_residual.ensures.1 (λ can. asked_fault count_sql _ _ new IsReadableCount c.in_err-found.field-0.0 [] why.1 (λ is_open. let known = of_eight _ (can is_open) in (asks_count _ known, readable_count _ _ known)))

pub returns-in_err-found-clause-fault_or_unreadable : goal.returns-in_err-found-clause-fault_or_unreadable
returns-in_err-found-clause-fault_or_unreadable g c clean =
    let why = c.in_err-found.ensures.failed clean in
    let old = state g.S.Store c.args.db.now.conn in
    let new = state g.S.Store c.first.new.db.conn in
    if_passed (λ e. HasTablesIn HasEightTables old → IsFault old new e ⊎ IsUnreadable e) c.from_residual.result c.in_err-found.field-0.0 c.from_residual.ensures.1 (λ known. asked_told count_sql _ _ new IsReadableCount c.in_err-found.field-0.0 [] why.1 (λ is_open. asks_count _ (known is_open)))

pub returns-clause-counted : goal.returns-clause-counted
returns-clause-counted g c clean known =
    let read = c.in_ok-found.ensures.read clean in
    subst (HasAgainstRows (state g.S.Store c.args.db.now.conn).now) (sym c.unwrap_or.ensures) (count_told _ _ read.1 read.2 c.in_ok-found.found read.3 known)
