-- The test `is_admitted` decides `Admits`.
use Rattle.std.proofs.Common.{List, refl}
use Rattle.std.specs.Prelude.{Decides, IsTrue, ◌↔◌}
use Rattle.std.specs.List.{list_all}
use Rattle.std.proofs.lemmas.Bool.Decides.{Decides-and, Decides-by_and}
use Rattle.avro_nodes.specs.Nodes.{NodeView}
use Rattle.avro_resolve.specs.Verdicts.{does_resolve}
use Rattle.avro_resolve.proofs.VerdictLemmas.{resolves_decided}
use Rattle.reg_core.specs.declared.level.Level.{Level}
use Rattle.reg_core.specs.declared.level.Level.TheVariants.{Backward, BackwardTransitive, Forward, ForwardTransitive, Full, FullTransitive, Off}
use Rattle.reg_core.specs.Compatibility.{Admits, Compatible, named_versions}
use Rattle.reg_core.specs.Verdicts.{is_compatible, is_admitted}

pub compatible_decides : (level : Level) (earlier new : List NodeView) → Decides (is_compatible level earlier new) (Compatible level earlier new)
compatible_decides Backward earlier new = resolves_decided earlier new
compatible_decides BackwardTransitive earlier new = resolves_decided earlier new
compatible_decides Forward earlier new = resolves_decided new earlier
compatible_decides ForwardTransitive earlier new = resolves_decided new earlier
compatible_decides Full earlier new = Decides-and (does_resolve earlier new) (does_resolve new earlier) (resolves_decided earlier new) (resolves_decided new earlier)
compatible_decides FullTransitive earlier new = Decides-and (does_resolve earlier new) (does_resolve new earlier) (resolves_decided earlier new) (resolves_decided new earlier)
compatible_decides Off earlier new = (λ h. tt, λ h. refl)

pub admits_decided : (level : Level) (live : List (List NodeView)) (new : List NodeView) → IsTrue (is_admitted level live new) ↔ Admits level live new
unfolding is_admitted
admits_decided level live new =
    Decides-by_and (λ earlier. is_compatible level earlier new) (λ earlier. Compatible level earlier new) (list_all (λ earlier. is_compatible level earlier new)) (λ earlier. compatible_decides level earlier new) refl (λ x xs. refl)
    (named_versions level live)
