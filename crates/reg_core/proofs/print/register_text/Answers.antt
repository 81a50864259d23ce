use Rattle.std.proofs.Common.{◌≡◌, codes, rules}
use Rattle.serde_json.specs.Data.{boolean, string, array, item, no_items}
use Rattle.serde_json.specs.View.{view}
use Rattle.serde_json.specs.declared.value.Value.{the_lemmas}
use Rattle.serde_json.proofs.OnLiterals.{serde_json_on_literals}
use Rattle.reg_core.specs.CommandTexts.{command_text}
use Rattle.reg_core.proofs.print.register_text.Goals as goal

pub returns : goal.returns
unfolding serde_json_on_literals command_text
returns c =
    let built : view c.in_ok-array.array ≡ array (item (string (codes "register")) (item (string c.args.subject.now) (item (string c.args.text.now) (item (boolean c.args.supported) no_items)))) =
    search (rules, the_lemmas) in
    search rules
