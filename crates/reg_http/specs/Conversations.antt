-- A conversation with a client: the bytes that came in, the messages that were processed, and the bytes that went out.
use Rattle.std.specs.Prelude.{◌≡◌, ◌⊎◌, ℕ, ◌<◌, nat_lt, if◌then◌else◌, List, [], ◌∷◌, ◌++◌, length, map, Option, Some, None}
use Rattle.reg_core.specs.declared.code.Code.{Code}
use Rattle.reg_service.specs.Deliveries.{Exchange}
use Rattle.reg_messages.specs.Messages.{StartsWithMessages, Follows, Faulty}
use Rattle.reg_messages.specs.Responses.{fault_response}
use Rattle.reg_http.specs.declared.serving.Ended.{Ended}
use Rattle.reg_http.specs.declared.serving.Ended.TheVariants.{Memory}
use Rattle.reg_http.specs.declared.conversation.Step.{Step}
use Rattle.reg_http.specs.declared.conversation.Step.TheVariants.{Receive, Answer, Send, End}
use Rattle.reg_http.specs.declared.conversation.Conversation.{Conversation}
use Rattle.reg_http.specs.Output.{AnsweredMessage, response_to, exchanges, responses, AreFaultsIfRejected, NoneCloses}
use Rattle.reg_http.specs.Sessions.{EndsAs}
use Rattle.reg_http.specs.Inside.SessionSteps.{IsIncompleteUntil}

-- The next step: a response that wasn't sent in full comes first, then the end. Otherwise it depends on whether enough bytes are there.
abbrev pub step_in : List ℕ → List ℕ → ℕ → Option Ended → Step
step_in (byte ∷ bytes) held needs ended = Send
step_in [] held needs (Some ended) = End ended
step_in [] held needs None = if nat_lt (length held) needs then Receive else Answer

abbrev pub step_of : Conversation → Step
step_of c = step_in c.outbox c.held c.needs c.ended

-- `sent` has every response but the last in full, and `pending` is what it lacks of the last one
pub record LastPending (answered : List AnsweredMessage) (sent pending : List ℕ) : Type 0 where
  pub before : List AnsweredMessage
  pub last : AnsweredMessage
  pub part : List ℕ
  pub split : answered ≡ before ++ last ∷ []
  pub stay : NoneCloses before
  pub whole : part ++ pending ≡ response_to last.0 last.1
  pub written : sent ≡ responses before ++ part

-- `sent` has every response in full, and `pending` is what it lacks of the response to the fault that follows
pub record FaultPending (answered : List AnsweredMessage) (rest sent pending : List ℕ) : Type 0 where
  pub code : Code
  pub part : List ℕ
  pub stay : NoneCloses answered
  pub follows : Follows rest (Faulty code)
  pub whole : part ++ pending ≡ fault_response code
  pub written : sent ≡ responses answered ++ part

-- Only the last response may be pending. If none is, `sent` is as at the end `Memory`.
abbrev pub IsSentButLast : List AnsweredMessage → List ℕ → List ℕ → List ℕ → Type 0
IsSentButLast answered rest sent pending =
    ((pending ≡ []) × EndsAs None answered rest sent Memory) ⊎ (LastPending answered sent pending ⊎ FaultPending answered rest sent pending)

-- The facts while it continues. `due` is the output for the messages.
pub record IsOpenWith (answered : List AnsweredMessage) (rest due : List ℕ) (held : List ℕ) (needs : ℕ) : Type 0 where
  pub stay : NoneCloses answered
  pub left : rest ≡ held
  pub waits : length held < needs → IsIncompleteUntil held needs
  pub all : due ≡ responses answered

-- The facts while it continues, or that are true of its end
abbrev pub StageAs : List AnsweredMessage → List ℕ → List ℕ → List ℕ → ℕ → Option Ended → Type 0
StageAs answered rest due held needs None = IsOpenWith answered rest due held needs
StageAs answered rest due held needs (Some ended) = (reader : Option (List ℕ)) → EndsAs reader answered rest due ended

-- What such a conversation has done: it received `input`, processed messages with these exchanges, and sent `sent`.
pub record SoFar (xs : List Exchange) (input sent outbox held : List ℕ) (needs : ℕ) (ended : Option Ended) : Type 0 where
  pub answered : List AnsweredMessage
  pub rest : List ℕ
  pub leads : StartsWithMessages input (map (λ x. x.0) answered) rest
  pub rejected : AreFaultsIfRejected answered
  pub are : exchanges answered ≡ xs
  pub stage : StageAs answered rest (sent ++ outbox) held needs ended
  pub unsent : IsSentButLast answered rest sent outbox

-- A conversation that received `input`, processed messages with these exchanges, and sent `sent`. How reads cut the input and writes the output is no
-- part of it.
abbrev pub IsSoFar : List Exchange → List ℕ → List ℕ → Conversation → Type 0
IsSoFar xs input sent c = SoFar xs input sent c.outbox c.held c.needs c.ended

-- it received `more`
abbrev pub Receives : List ℕ → Conversation → Conversation → Type 0
Receives more old new = (xs : List Exchange) (input sent : List ℕ) → IsSoFar xs input sent old → IsSoFar xs (input ++ more) sent new

-- it processed a message with these exchanges, or none
abbrev pub Continues : List Exchange → Conversation → Conversation → Type 0
Continues ys old new = (xs : List Exchange) (input sent : List ℕ) → IsSoFar xs input sent old → IsSoFar (xs ++ ys) input sent new

-- it sent `front`
abbrev pub Sends : List ℕ → Conversation → Conversation → Type 0
Sends front old new = (xs : List Exchange) (input sent : List ℕ) → IsSoFar xs input sent old → IsSoFar xs input (sent ++ front) new

-- it processed a message, or none; `AreServed` is true of the exchanges
abbrev pub Answers : (List Exchange → Type 0) → Conversation → Conversation → Type 0
Answers AreServed old new = (ys : List Exchange) × AreServed ys × Continues ys old new
