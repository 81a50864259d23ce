use Rattle.reg_tables.specs.Entries.{IsReadableSubjectVersion}
use Rattle.reg_tables.proofs.FirstVersions.{next_line, readable_next}
use Rattle.reg_tables.proofs.Statements.{asks_next}
use Rattle.reg_tables.proofs.TableLines.{finds_versions}
use Rattle.reg_tables.proofs.listed.next_version_of.Goals as goal

pub returns : goal.returns
returns g c = finds_versions (asks_next c.args.subject.now c.args.number) IsReadableSubjectVersion _ c.args.db.now c.first.new.db c.first.result c.first.ensures.frame (rw (c.params-to_sql.ensures, c.params-to_sql-2.ensures) at c.first.ensures.read) (rw (c.params-to_sql.ensures, c.params-to_sql-2.ensures) at c.first.ensures.failed)
    (λ last schema contents holds known found shows. (λ line read. next_line _ _ schema contents holds known c.args.subject.now found c.args.number shows line read, λ readable. readable_next _ _ schema contents holds known c.args.subject.now found c.args.number shows readable))
