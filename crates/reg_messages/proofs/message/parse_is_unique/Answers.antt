use Rattle.reg_messages.proofs.Unique.{Messages-unique}
use Rattle.reg_messages.proofs.message.parse_is_unique.Goals as goal

pub returns : goal.returns
returns c = Messages-unique
