use Rattle.std.proofs.Common.{◌≡◌, ◌++◌, take}
use Rattle.reg_store.specs.Inside.TableChecks.{rowids_in}
use Rattle.reg_store.proofs.table_checks.added.add_rowids.Given as goal

abbrev pub invariant-loop-line : goal.invariant-loop-line
invariant-loop-line l = l.rowids.items ≡ l.initial.rowids.items ++ rowids_in (take l.line-index l.lines)
