use Rattle.std.proofs.Common.{refl}
use Rattle.reg_http.proofs.ConversationLemmas.{SoFar-new}
use Rattle.reg_http.proofs.conversation.Conversation.new.Goals as goal

pub returns-clause-fresh : goal.returns-clause-fresh
returns-clause-fresh c = rw (c.new.ensures, c.new-2.ensures) SoFar-new

pub returns-clause-begins : goal.returns-clause-begins
returns-clause-begins c = rw (c.new.ensures, c.new-2.ensures) refl
