-- The store after a call that borrows it for its lines.
use Rattle.std.specs.Prelude.{◌≡◌, Result}
use Rattle.std.specs.Borrow.{Fml, RattleType, MutBor, RestsIfErr}
use Rattle.sqlite_trees.specs.declared.store.Store.{Ghosts}
use Rattle.reg_store.specs.declared.error.StoreError.{StoreError}
use Rattle.reg_store.specs.declared.store.Store.{Store}
use Rattle.reg_store.specs.declared.store.line_iterator.Lines.{Lines}
use Rattle.reg_store.specs.contracts.store.Store as store

module _ (S : RattleType) (g : Ghosts S.Denot) where
  -- a failed call leaves the store as it was; otherwise its final state is that of the lines
  abbrev pub StoreRests : {P : Type 0} → MutBor (Store S.Denot g) → Result (Lines S.Denot P g) StoreError → Fml
  StoreRests s r = RestsIfErr (store.the_row S g) s (λ lines. lines.store.ghost_name) r (λ last. last ≡ s.now)
