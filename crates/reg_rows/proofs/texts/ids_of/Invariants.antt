use Rattle.std.proofs.Common.{◌≡◌, map, take}
use Rattle.reg_rows.proofs.texts.ids_of.Given as goal

abbrev pub invariant-loop-row : goal.invariant-loop-row
invariant-loop-row l = l.ids.items ≡ map (λ row. row.0) (take l.row-index l.rows)
