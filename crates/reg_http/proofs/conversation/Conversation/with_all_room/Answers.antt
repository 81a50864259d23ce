use Rattle.reg_http.proofs.ConversationLemmas.{SoFar-new}
use Rattle.reg_http.proofs.conversation.Conversation.with_all_room.Goals as goal

pub returns : goal.returns
returns c = rw (c.new.ensures, c.in_ok-with_all_room.ensures) SoFar-new
