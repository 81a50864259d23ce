-- The session that a conversation was, whenever it is dropped.
use Rattle.std.proofs.Common.{◌≡◌, ℕ, List, refl}
use Rattle.std.specs.Prelude.{Option}
use Rattle.std.specs.Io.KnownBytes.{Appends, Consumes}
use Rattle.reg_service.specs.Deliveries.{Exchange}
use Rattle.reg_http.specs.declared.serving.Ended.TheVariants.{Memory}
use Rattle.reg_http.specs.declared.conversation.Conversation.{Conversation}
use Rattle.reg_http.specs.Sessions.{Session}
use Rattle.reg_http.specs.Conversations.{IsSoFar}
use Rattle.reg_http.proofs.ConversationLemmas.{SoFar-session}

pub IsSoFar-session : (xs : List Exchange) (input sent : List ℕ) (c : Conversation) (r r' w w' : Option (List ℕ)) → IsSoFar xs input sent c → Consumes r r' input → Appends w w' sent
    → Session (λ ys. ys ≡ xs) r r' w w' Memory
IsSoFar-session xs input sent c r r' w w' s reads writes = SoFar-session xs input sent c.held c.needs c.ended (λ ys. ys ≡ xs) r r' w w' c.outbox reads writes refl s
