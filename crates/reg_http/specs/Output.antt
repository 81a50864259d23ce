-- The bytes written for messages and their replies, and the replies to messages without a delivery.
use Rattle.std.specs.Prelude.{◌≡◌, ◌⊎◌, ℕ, true, false, List, [], ◌∷◌, ◌++◌, Result, Ok, Err}
use Rattle.std.specs.List.{flat_map}
use Rattle.reg_output.specs.Prefixes.{IsPrefix}
use Rattle.reg_core.specs.declared.code.Code.{Code}
use Rattle.reg_core.specs.declared.code.Code.TheVariants.{BackendFault}
use Rattle.reg_core.specs.Replies.{ReplyView, fault}
use Rattle.reg_core.specs.declared.delivery.Delivery.{Delivery}
use Rattle.reg_service.specs.Deliveries.{Exchange}
use Rattle.reg_messages.specs.Messages.{Message, Follows, Tail, End, Part, Faulty}
use Rattle.reg_messages.specs.Closing.{closes}
use Rattle.reg_messages.specs.Responses.{response_bytes, fault_response}
use Rattle.reg_routes.specs.Deliveries.{Rejection, delivery_of, allow_field}

-- a message and its reply
abbrev pub AnsweredMessage : Type 0
AnsweredMessage = Message × ReplyView

-- The response to a whole message with this reply. It has `Allow` if the reply is 405, and the path's resource lacks the message's method
-- (`allow_field`). It has `Connection: close` if the message ends the connection.
abbrev pub response_to : Message → ReplyView → List ℕ
response_to message reply = response_bytes reply (allow_field (delivery_of message) reply) (closes message)

-- the exchange of a message's delivery; none if the message has no delivery
abbrev pub exchange_of : Result Delivery Rejection → ReplyView → List Exchange
exchange_of (Ok delivery) reply = (delivery, reply) ∷ []
exchange_of (Err rejection) reply = []

-- If the message has no delivery, the reply is the fault of the rejection's code, or of `BackendFault` (50001). Of other messages this says nothing.
abbrev pub IsFaultIfRejected : Result Delivery Rejection → ReplyView → Type 0
IsFaultIfRejected (Ok delivery) reply = Unit {0}
IsFaultIfRejected (Err rejection) reply = (reply ≡ fault rejection.0) ⊎ (reply ≡ fault BackendFault)

-- the exchanges of the messages with a delivery, in order
abbrev pub exchanges : List AnsweredMessage → List Exchange
exchanges xs = flat_map (λ x. exchange_of (delivery_of x.0) x.1) xs

-- Each message without a delivery got the fault of the rejection's code, or of `BackendFault` (50001). Of other messages this says nothing.
abbrev pub AreFaultsIfRejected : List AnsweredMessage → Type 0
AreFaultsIfRejected [] = Unit {0}
AreFaultsIfRejected (x ∷ xs) = IsFaultIfRejected (delivery_of x.0) x.1 × AreFaultsIfRejected xs

-- no message ends the connection
abbrev pub NoneCloses : List AnsweredMessage → Type 0
NoneCloses [] = Unit {0}
NoneCloses (x ∷ xs) = (closes x.0 ≡ false) × NoneCloses xs

-- only the last message ends the connection
pub record LastCloses (xs : List AnsweredMessage) : Type 0 where
  pub before : List AnsweredMessage
  pub last : AnsweredMessage
  pub split : xs ≡ before ++ last ∷ []
  pub stay : NoneCloses before
  pub closes_it : closes last.0 ≡ true

-- one response for each message, in order
abbrev pub responses : List AnsweredMessage → List ℕ
responses xs = flat_map (λ x. response_to x.0 x.1) xs

-- the response to what follows the whole messages: that of the fault, or no bytes if nothing or a part of a message follows
abbrev pub tail_response : Tail → List ℕ
tail_response End = []
tail_response Part = []
tail_response (Faulty code) = fault_response code

-- the whole output if no message ends the connection: the responses in order, then the response to a fault
abbrev pub output : List AnsweredMessage → Tail → List ℕ
output xs tail = responses xs ++ tail_response tail

-- every earlier response was written in full, and a beginning of the last one
pub record LastCutShort (xs : List AnsweredMessage) (out : List ℕ) : Type 0 where
  pub before : List AnsweredMessage
  pub last : AnsweredMessage
  pub part : List ℕ
  pub split : xs ≡ before ++ last ∷ []
  pub stay : NoneCloses before
  pub front : IsPrefix part (response_to last.0 last.1)
  pub written : out ≡ responses before ++ part

-- every response was written in full, and a beginning of the response to the fault that follows
pub record FaultCutShort (xs : List AnsweredMessage) (rest out : List ℕ) : Type 0 where
  pub code : Code
  pub part : List ℕ
  pub stay : NoneCloses xs
  pub follows : Follows rest (Faulty code)
  pub front : IsPrefix part (fault_response code)
  pub written : out ≡ responses xs ++ part

-- every earlier response was written in full; of the last one, or of the response to the fault, a beginning, which may be empty or whole
abbrev pub IsCutShort : List AnsweredMessage → List ℕ → List ℕ → Type 0
IsCutShort xs rest out = LastCutShort xs out ⊎ FaultCutShort xs rest out
