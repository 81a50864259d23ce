use Rattle.std.proofs.Common.{◌≡◌, map, take}
use Rattle.reg_rows.specs.Positions.{position_view}
use Rattle.reg_store.specs.Inside.TableChecks.{position_at}
use Rattle.reg_store.proofs.table_checks.added.positions_in.Given as goal

abbrev pub invariant-loop-line : goal.invariant-loop-line
invariant-loop-line l = map position_view l.positions.items ≡ map position_at (take l.line-index l.lines)
