use Rattle.std.proofs.Common.{◌≡◌, map, take}
use Rattle.reg_core.specs.Inside.Deleting.{version_change}
use Rattle.reg_core.proofs.decision.deleting.delete_all.Given as goal

abbrev pub invariant-loop-row : goal.invariant-loop-row
invariant-loop-row l = l.changes.items ≡ map (λ row. version_change l.permanent l.subject row.now.0.1) (take l.row-index l.rows)
