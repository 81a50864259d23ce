use Rattle.std.proofs.Common.{◌≡◌, ◌<◌, IsTrue, take}
use Rattle.reg_core.specs.Stored.{Stored}
use Rattle.reg_store.specs.Spells.{Spells}
use Rattle.sqlite.specs.Held.{state}
use Rattle.sqlite.specs.State.{HasCleanDisk, Survives, KeepsCommit}
use Rattle.reg_core.specs.Views.{ChangesFit}
use Rattle.reg_store.specs.Changes.{stored_after_changes, TransactionContinues}
use Rattle.reg_store.proofs.changes.apply_changes.Given as goal

abbrev pub invariant-loop-change : goal.invariant-loop-change
invariant-loop-change g l =
    let old = state g.S.Store l.initial.tx.conn.now in
    let now = state g.S.Store l.tx.conn.now in
    record {
      same : l.tx.conn.ghost_name ≡ l.initial.tx.conn.ghost_name;
      made : HasCleanDisk now → (was : Stored) → Spells old.now was → ChangesFit l.changes was.registry → Spells now.now (stored_after_changes (take l.change-index l.changes) was);
      was_open : HasCleanDisk now → 0 < l.change-index → IsTrue old.is_open;
      goes_on : HasCleanDisk now → TransactionContinues old now;
      commit_stays : HasCleanDisk now → KeepsCommit old now;
      survives : Survives old now (λ _. ⊥);
    }
