use Rattle.std.proofs.Common.{Ok, take}
use Rattle.std.specs.Prelude.{All}
use Rattle.reg_store.specs.Inside.Reads.{MayRead}
use Rattle.reg_store.specs.Inside.Viewing.{HasText, AreTrueTexts}
use Rattle.reg_store.proofs.store.texts.texts_of.Given as goal

abbrev pub invariant-loop-id : goal.invariant-loop-id
invariant-loop-id g l = MayRead l.initial.db l.db (Ok l.texts) (λ was texts. All (HasText texts was.registry.schemas) (take l.id-index l.ids) × AreTrueTexts texts was.registry.schemas)
