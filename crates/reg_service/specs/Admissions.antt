-- Every added version was admitted by its subject's compatibility level.
use Rattle.std.specs.Prelude.{◌≡◌, IsTrue, List, ◌∷◌, ◌++◌}
use Rattle.reg_core.specs.Stored.{Stored}
use Rattle.reg_core.specs.Machine.{run_commands}
use Rattle.reg_core.specs.Additions.{AddsOnlyAdmitted}
use Rattle.reg_service.specs.Deliveries.{Exchange, firsts, is_first}

-- Schema Evolution and Compatibility, Compatibility Types: if a first delivery adds a version, the subject's level admits its schema after
-- the schemas of the live versions. Level and versions are those of the abstract machine after the earlier first deliveries
abbrev pub AllAdmitted : Stored → List Exchange → Type 0
AllAdmitted was xs = (before : List Exchange) (x : Exchange) (after : List Exchange)
    → xs ≡ before ++ x ∷ after → IsTrue (is_first was.replies before x.0) → AddsOnlyAdmitted (run_commands was.registry (firsts was.replies before)) x.0.command
