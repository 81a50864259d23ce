use Rattle.std.proofs.Common.{◌≡◌, option_map, map, ◌++◌}
use Rattle.reg_tables.specs.declared.listed.ListedVersion.{ListedVersion}
use Rattle.reg_tables.specs.Entries.{listed_version_view}
use Rattle.reg_store.specs.Inside.Viewing.{IsLastShown, row_spelled}
use Rattle.reg_store.proofs.store.last_with_id.last_among.Given as goal

abbrev pub invariant-loop-line : goal.invariant-loop-line
invariant-loop-line l =
    let row = λ (line : ListedVersion). row_spelled (listed_version_view line) in
    record {
      read : l.yielded ++ l.line-iterator.rest.items ≡ l.fn.lines.items;
      last : IsLastShown l.fn.shows_deleted l.fn.subject (map row l.yielded) (option_map row l.last);
    }
