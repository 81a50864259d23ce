use Rattle.std.proofs.Common.{◌≡◌, ◌<◌, ◌^◌, take}
use Rattle.sqlite.specs.Held.{state}
use Rattle.sqlite.specs.Schema.{Schema}
use Rattle.sqlite.specs.State.{HasCleanDisk, Survives, KeepsCommit}
use Rattle.reg_tables.specs.Layout.{IsIndexedLayoutTwo}
use Rattle.reg_tables.specs.Contents.{Contents, HoldsContents}
use Rattle.reg_store.specs.Changes.{TransactionContinues}
use Rattle.reg_store.specs.Inside.Applying.{HasNoPositions, with_ids}
use Rattle.reg_store.proofs.changes.put_ids.Given as goal

abbrev pub invariant-loop-id : goal.invariant-loop-id
invariant-loop-id g l =
    let old = state g.S.Store l.initial.tx.conn.now in
    let now = state g.S.Store l.tx.conn.now in
    record {
      same : l.tx.conn.ghost_name ≡ l.initial.tx.conn.ghost_name;
      position : l.position ≡ l.id-index;
      few : l.id-index < 2 ^ 32;
      puts : HasCleanDisk now → (schema : Schema) → IsIndexedLayoutTwo schema → (contents : Contents) → HoldsContents schema old.now contents → HasNoPositions contents (l.subject, l.number) → HoldsContents schema now.now (with_ids (l.subject, l.number) 1 (take l.id-index l.ids) contents);
      goes_on : HasCleanDisk now → TransactionContinues old now;
      commit_stays : HasCleanDisk now → KeepsCommit old now;
      survives : Survives old now (λ _. ⊥);
    }
