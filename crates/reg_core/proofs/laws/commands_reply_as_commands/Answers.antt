use Rattle.reg_core.proofs.StepReplies.{step-IsCommandReply}
use Rattle.reg_core.proofs.laws.commands_reply_as_commands.Goals as goal

pub returns : goal.returns
returns c = step-IsCommandReply
