use Rattle.std.proofs.Common.{◌≡◌, rules, codes}
use Rattle.serde_json.specs.Data.{boolean, object, member, no_members}
use Rattle.serde_json.specs.View.{view}
use Rattle.serde_json.specs.declared.value.Value.{the_lemmas}
use Rattle.serde_json.proofs.OnLiterals.{serde_json_on_literals}
use Rattle.reg_core.proofs.decision.registering.verdict_reply.Goals as goal

pub returns : goal.returns
unfolding serde_json_on_literals
returns c =
    let built : view c.in_ok-object.object ≡ object (member (codes "is_compatible") (boolean c.args.compatible) no_members) =
    search (rules, the_lemmas) in
    search rules
