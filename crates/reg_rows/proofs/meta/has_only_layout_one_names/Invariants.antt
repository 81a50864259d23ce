use Rattle.std.proofs.Common.{◌≡◌, drop, map}
use Rattle.reg_rows.specs.Meta.{layout_one_names, has_only_known_names}
use Rattle.reg_rows.specs.Spelling.{meta_pair}
use Rattle.reg_rows.proofs.meta.has_only_layout_one_names.Given as goal

abbrev pub invariant-loop-row : goal.invariant-loop-row
invariant-loop-row l = has_only_known_names layout_one_names (map meta_pair (drop l.row-index l.rows)) ≡ has_only_known_names layout_one_names (map meta_pair l.rows)
