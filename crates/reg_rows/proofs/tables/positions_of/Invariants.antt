use Rattle.std.proofs.Common.{◌≡◌, map, take}
use Rattle.reg_rows.specs.Positions.{position_view}
use Rattle.reg_rows.specs.Spelling.{version_position}
use Rattle.reg_rows.proofs.tables.positions_of.Given as goal

abbrev pub invariant-loop-row : goal.invariant-loop-row
invariant-loop-row l = map position_view l.positions.items ≡ map version_position (take l.row-index l.rows)
