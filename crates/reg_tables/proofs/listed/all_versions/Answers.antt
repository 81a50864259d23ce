use Rattle.reg_tables.specs.Entries.{IsReadableListedVersion}
use Rattle.reg_tables.proofs.TableLines.{finds_versions}
use Rattle.reg_tables.proofs.Statements.{asks_list}
use Rattle.reg_tables.proofs.KeyedLists.{all_lines, all_readable}
use Rattle.reg_tables.proofs.listed.all_versions.Goals as goal

pub returns : goal.returns
returns g c = finds_versions asks_list IsReadableListedVersion _ c.args.db.now c.list.new.db c.list.result c.list.ensures.frame c.list.ensures.read c.list.ensures.failed
    (λ last schema contents holds known found shows. (λ lines read. all_lines _ _ schema contents holds known found shows lines.items read, λ readable. all_readable _ _ schema contents holds known found shows readable))
