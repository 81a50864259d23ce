use Rattle.std.proofs.Common.{◌*◌, ◌<◌, IsTrue}
use Rattle.sqlite.specs.State.{HasCleanDisk}
use Rattle.reg_tables.specs.Layout.{HasFiveTables, texts}
use Rattle.reg_tables.specs.Listings.{ListsTextsBetween}
use Rattle.reg_store.specs.Inside.TableChecks.{Judges}
use Rattle.reg_store.specs.Inside.Reads.{CommitsNothing, shown}
use Rattle.reg_store.proofs.TextParts.{HaveIds}
use Rattle.reg_store.proofs.table_checks.texts.judge_all.Given as goal

abbrev pub invariant-loop-chunk : goal.invariant-loop-chunk
invariant-loop-chunk g l = record {
  rests : CommitsNothing (shown l.initial.db) (shown l.db);
  was_open : 0 < l.chunk → HasCleanDisk (shown l.db) → IsTrue (shown l.initial.db).is_open;
  judged : HasCleanDisk (shown l.db) → HasFiveTables (shown l.initial.db).now.schema → HaveIds ((shown l.initial.db).now.trees texts.tree)
      → Judges (ListsTextsBetween 1 (l.chunk * 16) (shown l.initial.db).now) l.fit;
}
