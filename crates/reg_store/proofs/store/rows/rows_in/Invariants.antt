use Rattle.std.proofs.Common.{◌≡◌, ◌++◌, map}
use Rattle.std.specs.Prelude.{All}
use Rattle.reg_tables.specs.declared.listed.ListedVersion.{ListedVersion}
use Rattle.reg_tables.specs.Entries.{listed_version_view}
use Rattle.reg_store.specs.Inside.Viewing.{row_spelled, HasSubject}
use Rattle.reg_store.proofs.store.rows.rows_in.Given as goal

abbrev pub invariant-loop-line : goal.invariant-loop-line
invariant-loop-line l =
    let row = λ (line : ListedVersion). row_spelled (listed_version_view line) in
    record {
      made : l.rows.items ++ map row l.line-iterator.rest.items ≡ map row l.fn.lines.items;
      subjects : All HasSubject l.fn.lines.items → All HasSubject l.line-iterator.rest.items;
    }
