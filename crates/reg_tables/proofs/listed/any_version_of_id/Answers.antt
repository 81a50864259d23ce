use Rattle.reg_tables.specs.Entries.{IsReadableListedVersion}
use Rattle.reg_tables.proofs.TableLines.{finds_versions}
use Rattle.reg_tables.proofs.Statements.{asks_one_of_id}
use Rattle.reg_tables.proofs.KeyedLists.{one_of_id, readable_one}
use Rattle.reg_tables.proofs.listed.any_version_of_id.Goals as goal

pub returns : goal.returns
returns g c = finds_versions (asks_one_of_id c.args.id) IsReadableListedVersion _ c.args.db.now c.first.new.db c.first.result c.first.ensures.frame (rw c.params-to_sql.ensures at c.first.ensures.read) (rw c.params-to_sql.ensures at c.first.ensures.failed)
    (λ last schema contents holds known found shows. (λ line read. one_of_id _ _ schema contents holds known found c.args.id shows line read, λ readable. readable_one _ _ schema contents holds known found c.args.id shows readable))
