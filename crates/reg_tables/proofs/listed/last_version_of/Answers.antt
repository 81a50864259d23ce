use Rattle.reg_tables.specs.Entries.{IsReadableSubjectVersion}
use Rattle.reg_tables.proofs.Statements.{asks_last_version}
use Rattle.reg_tables.proofs.TableLines.{finds_versions}
use Rattle.reg_tables.proofs.LastVersions.{last_line, readable_last_line}
use Rattle.reg_tables.proofs.listed.last_version_of.Goals as goal

pub returns : goal.returns
returns g c = finds_versions (asks_last_version c.args.subject.now) IsReadableSubjectVersion _ c.args.db.now c.first.new.db c.first.result c.first.ensures.frame (rw c.params-to_sql.ensures at c.first.ensures.read) (rw c.params-to_sql.ensures at c.first.ensures.failed)
    (λ last schema contents holds known found shows. (λ line read. last_line _ _ schema contents holds known c.args.subject.now found shows line read, λ readable. readable_last_line _ _ schema contents holds known c.args.subject.now found shows readable))
