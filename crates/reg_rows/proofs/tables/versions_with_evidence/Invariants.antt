use Rattle.std.proofs.Common.{◌≡◌, map, take}
use Rattle.reg_rows.specs.Positions.{version_view}
use Rattle.reg_rows.specs.Spelling.{version_of}
use Rattle.reg_rows.proofs.tables.versions_with_evidence.Given as goal

abbrev pub invariant-loop-row : goal.invariant-loop-row
invariant-loop-row l = map version_view l.versions.items ≡ map version_of (take l.row-index l.evidence)
