-- The effect of a call on the stored state, for every state that the tables may spell.
use Rattle.sqlite.specs.State.{State}
use Rattle.reg_core.specs.Stored.{Stored}
use Rattle.reg_store.specs.Spells.{SpellsWhileOpen}

-- P is true of a stored state, which the tables spell if the connection is still open
pub record StoredSatisfies (new : State) (P : Stored → Type 0) : Type 0 where
  pub stored : Stored
  pub spells : SpellsWhileOpen new stored
  pub holds : P stored

-- from any state that the tables spelled, the call leads to a state that they spell, each while the connection is open; P is true of the two
abbrev pub StoredTransition : State → State → (Stored → Stored → Type 0) → Type 0
StoredTransition old new P = (was : Stored) → SpellsWhileOpen old was → StoredSatisfies new (P was)
