use Rattle.std.proofs.Common.{◌≡◌, drop, map}
use Rattle.reg_rows.specs.Meta.{value_of}
use Rattle.reg_rows.specs.Spelling.{meta_pair}
use Rattle.reg_rows.proofs.meta.value_of.Given as goal

abbrev pub invariant-loop-row : goal.invariant-loop-row
invariant-loop-row l = value_of l.name (map meta_pair (drop l.row-index l.rows)) ≡ value_of l.name (map meta_pair l.rows)
