use Rattle.reg_tables.specs.Entries.{IsReadableSubjectVersion}
use Rattle.reg_tables.proofs.LastVersions.{last_line_with_id, readable_last_with_id}
use Rattle.reg_tables.proofs.Statements.{asks_last_with_id}
use Rattle.reg_tables.proofs.TableLines.{finds_versions}
use Rattle.reg_tables.proofs.with_id.last_version_with_id.Goals as goal

pub returns : goal.returns
returns g c = finds_versions (asks_last_with_id c.args.subject.now c.args.id c.args.deleted) IsReadableSubjectVersion _ c.args.db.now c.first.new.db c.first.result c.first.ensures.frame (rw (c.params-to_sql.ensures, c.params-to_sql-2.ensures, c.params-to_sql-3.ensures) at c.first.ensures.read) (rw (c.params-to_sql.ensures, c.params-to_sql-2.ensures, c.params-to_sql-3.ensures) at c.first.ensures.failed)
    (λ last schema contents holds known found shows. (λ line read. last_line_with_id _ _ schema contents holds known c.args.subject.now found c.args.id c.args.deleted shows line read, λ readable. readable_last_with_id _ _ schema contents holds known c.args.subject.now found c.args.id c.args.deleted shows readable))
