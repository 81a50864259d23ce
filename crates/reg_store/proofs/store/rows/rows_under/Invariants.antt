use Rattle.std.proofs.Common.{◌≡◌, ◌++◌, map}
use Rattle.reg_tables.specs.declared.listed.SubjectVersion.{SubjectVersion}
use Rattle.reg_tables.specs.Entries.{subject_version_view}
use Rattle.reg_store.specs.Inside.Viewing.{row_numbered}
use Rattle.reg_store.proofs.store.rows.rows_under.Given as goal

abbrev pub invariant-loop-line : goal.invariant-loop-line
invariant-loop-line l =
    let row = λ (line : SubjectVersion). row_numbered l.subject (subject_version_view line) in
    l.rows.items ++ map row l.line-iterator.rest.items ≡ map row l.fn.lines.items
