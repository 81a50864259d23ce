use Rattle.std.proofs.Common.{Ok, ◌<◌, take, ℕ}
use Rattle.std.specs.Prelude.{All, IsTrue}
use Rattle.sqlite.specs.State.{HasCleanDisk}
use Rattle.avro_nodes.specs.Nodes.{nodes_view}
use Rattle.reg_core.specs.Evidence.{Evidence, IsCompatibleWith}
use Rattle.reg_store.specs.Inside.Auditing.{HasEvidence}
use Rattle.reg_store.specs.Inside.Reads.{MayRead, shown}
use Rattle.reg_store.proofs.store.auditing.is_compatible_with_all.Given as goal

abbrev pub invariant-loop-index : goal.invariant-loop-index
invariant-loop-index g l = record {
  so_far : MayRead {X = ℕ} l.initial.db l.db (Ok l.index) (λ was count. (one : Evidence) → HasEvidence was l.row.0 one → All (IsCompatibleWith was.registry.schemas l.level (nodes_view l.new)) (take count one.against));
  was_open : 0 < l.index → HasCleanDisk (shown l.db) → IsTrue (shown l.initial.db).is_open;
}
