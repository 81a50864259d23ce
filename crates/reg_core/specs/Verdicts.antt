-- Which schemas a level admits, computed: each rule of Compatibility.antt as a test.
use Rattle.std.specs.Prelude.{Bool, true, ◌&&◌, List}
use Rattle.std.specs.List.{list_all}
use Rattle.avro_nodes.specs.Nodes.{NodeView}
use Rattle.avro_resolve.specs.Verdicts.{does_resolve}
use Rattle.reg_core.specs.declared.level.Level.{Level}
use Rattle.reg_core.specs.declared.level.Level.TheVariants.{Backward, BackwardTransitive, Forward, ForwardTransitive, Full, FullTransitive, Off}
use Rattle.reg_core.specs.Compatibility.{named_versions}

-- `Compatible` as a test
abbrev pub is_compatible : Level → List NodeView → List NodeView → Bool
is_compatible Backward earlier new = does_resolve earlier new
is_compatible BackwardTransitive earlier new = does_resolve earlier new
is_compatible Forward earlier new = does_resolve new earlier
is_compatible ForwardTransitive earlier new = does_resolve new earlier
is_compatible Full earlier new = does_resolve earlier new && does_resolve new earlier
is_compatible FullTransitive earlier new = does_resolve earlier new && does_resolve new earlier
is_compatible Off earlier new = true

-- `Admits` as a test
unfoldable pub is_admitted : Level → List (List NodeView) → List NodeView → Bool
is_admitted level live new = list_all (λ earlier. is_compatible level earlier new) (named_versions level live)
