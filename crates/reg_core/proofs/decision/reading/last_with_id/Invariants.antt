use Rattle.std.proofs.Common.{◌≡◌, map, take}
use Rattle.std.specs.Prelude.{None, option_copied}
use Rattle.std.specs.List.{last_or}
use Rattle.reg_core.specs.Rows.{rows_with}
use Rattle.reg_core.proofs.decision.reading.last_with_id.Given as goal

abbrev pub invariant-loop-row : goal.invariant-loop-row
invariant-loop-row l = option_copied l.last ≡ last_or None (rows_with l.id (map (λ row. row.now) (take l.row-index l.rows)))
