use Rattle.std.proofs.Common.{◌≡◌, map, take}
use Rattle.reg_store.specs.Listings.{lines_of, version_line}
use Rattle.reg_store.proofs.store.lines.version_lines.Given as goal

abbrev pub invariant-loop-row : goal.invariant-loop-row
invariant-loop-row l = lines_of l.lines ≡ map version_line (take l.row-index l.rows)
