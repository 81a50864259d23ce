use Rattle.std.proofs.Common.{◌≡◌, map, take}
use Rattle.reg_store.proofs.table_checks.rowids_of.Given as goal

abbrev pub invariant-loop-line : goal.invariant-loop-line
invariant-loop-line g l = l.rowids.items ≡ map g.L.CheckedRow.rowid_of (take l.line-index l.lines)
