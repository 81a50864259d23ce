use Rattle.std.proofs.Common.{◌∙◌}
use Rattle.std.proofs.lemmas.Result.{IfOk-weaker}
use Rattle.reg_core.proofs.CommandTextLemmas.{command_text-injective}
use Rattle.reg_core.proofs.print.print_of.Goals as goal

pub returns-clause-unique : goal.returns-clause-unique
returns-clause-unique c = IfOk-weaker c.text_of.result _ _ (λ text h other v w e. command_text-injective other c.args.command.now w v (e ∙ h)) c.text_of.ensures
