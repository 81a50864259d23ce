use Rattle.reg_tables.specs.Entries.{IsReadableSubjectVersion}
use Rattle.reg_tables.proofs.Statements.{asks_versions}
use Rattle.reg_tables.proofs.TableLines.{finds_versions}
use Rattle.reg_tables.proofs.VersionLists.{numbered_lines, readable_numbered}
use Rattle.reg_tables.proofs.listed.versions_of.Goals as goal

pub returns : goal.returns
returns g c = finds_versions (asks_versions c.args.subject.now) IsReadableSubjectVersion _ c.args.db.now c.list.new.db c.list.result c.list.ensures.frame (rw c.params-to_sql.ensures at c.list.ensures.read) (rw c.params-to_sql.ensures at c.list.ensures.failed)
    (λ last schema contents holds known found shows. (λ lines read. numbered_lines _ _ schema contents holds known c.args.subject.now found shows lines.items read, λ readable. readable_numbered _ _ schema contents holds known c.args.subject.now found shows readable))
