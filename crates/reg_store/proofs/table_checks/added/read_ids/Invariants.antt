use Rattle.std.proofs.Common.{map, take}
use Rattle.sqlite.specs.State.{HasCleanDisk}
use Rattle.reg_tables.specs.Layout.{HasEightTables}
use Rattle.reg_store.specs.Inside.TableChecks.{version_at, JudgesVersions}
use Rattle.reg_store.specs.Inside.Reads.{CommitsNothing, shown}
use Rattle.reg_store.proofs.table_checks.added.read_ids.Given as goal

abbrev pub invariant-loop-version : goal.invariant-loop-version
invariant-loop-version g l = record {
  rests : CommitsNothing (shown l.initial.db) (shown l.db);
  judged : HasCleanDisk (shown l.db) → HasEightTables (shown l.initial.db).now.schema → JudgesVersions (map version_at (take l.version-index l.evidence)) (shown l.initial.db).now l.rowids.items l.fit;
}
