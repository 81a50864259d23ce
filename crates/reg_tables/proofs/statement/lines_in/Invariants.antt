use Rattle.std.proofs.Common.{◌≡◌, ◌++◌, map}
use Rattle.reg_tables.proofs.statement.lines_in.Given as goal

abbrev pub invariant-loop-row : goal.invariant-loop-row
invariant-loop-row g l = map g.L.FromRow.cells l.lines.items ++ map g.L.FromRow.cells_read l.row-iterator.rest.items ≡ map g.L.FromRow.cells_read l.fn.rows.items
