use Rattle.reg_tables.specs.Entries.{IsReadableListedVersion}
use Rattle.reg_tables.proofs.FirstVersions.{line_after, readable_after}
use Rattle.reg_tables.proofs.Statements.{asks_after}
use Rattle.reg_tables.proofs.TableLines.{finds_versions}
use Rattle.reg_tables.proofs.listed.first_version_after.Goals as goal

pub returns : goal.returns
returns g c = finds_versions (asks_after c.args.subject.now) IsReadableListedVersion _ c.args.db.now c.first.new.db c.first.result c.first.ensures.frame (rw c.params-to_sql.ensures at c.first.ensures.read) (rw c.params-to_sql.ensures at c.first.ensures.failed)
    (λ last schema contents holds known found shows. (λ line read. line_after _ _ schema contents holds known c.args.subject.now found shows line read, λ readable. readable_after _ _ schema contents holds known c.args.subject.now found shows readable))
