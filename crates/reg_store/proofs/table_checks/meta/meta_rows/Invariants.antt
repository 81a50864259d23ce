use Rattle.std.proofs.Common.{◌≡◌, ◌++◌, map}
use Rattle.reg_store.specs.Opening.{meta_columns}
use Rattle.reg_store.proofs.table_checks.meta.meta_rows.Given as goal

abbrev pub invariant-loop-line : goal.invariant-loop-line
invariant-loop-line l = l.rows.items ++ map meta_columns l.line-iterator.rest.items ≡ map meta_columns l.fn.lines.items
