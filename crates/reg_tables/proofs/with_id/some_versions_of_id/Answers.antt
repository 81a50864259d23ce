use Rattle.reg_tables.specs.Entries.{IsReadableListedVersion}
use Rattle.reg_tables.proofs.TableLines.{finds_versions}
use Rattle.reg_tables.proofs.Statements.{asks_some_of_id}
use Rattle.reg_tables.proofs.KeyedLists.{some_of_id, readable_some}
use Rattle.reg_tables.proofs.with_id.some_versions_of_id.Goals as goal

pub returns : goal.returns
returns g c = finds_versions (asks_some_of_id c.args.id) IsReadableListedVersion _ c.args.db.now c.list.new.db c.list.result c.list.ensures.frame (rw c.params-to_sql.ensures at c.list.ensures.read) (rw c.params-to_sql.ensures at c.list.ensures.failed)
    (λ last schema contents holds known found shows. (λ lines read. some_of_id _ _ schema contents holds known found c.args.id shows lines.items read, λ readable. readable_some _ _ schema contents holds known found c.args.id shows readable))
