use Rattle.std.proofs.Common.{◌≡◌, codes, rules}
use Rattle.serde_json.specs.Data.{string, array, item, no_items}
use Rattle.serde_json.specs.View.{view}
use Rattle.serde_json.specs.declared.value.Value.{the_lemmas}
use Rattle.serde_json.proofs.OnLiterals.{serde_json_on_literals}
use Rattle.reg_core.specs.CommandTexts.{command_text}
use Rattle.reg_core.proofs.print.set_global_mode_text.Goals as goal

pub returns : goal.returns
unfolding serde_json_on_literals command_text
returns c =
    let built : view c.in_ok-array.array ≡ array (item (string (codes "set-global-mode")) (item (string c.args.mode.now) no_items)) =
    search (rules, the_lemmas) in
    search rules
