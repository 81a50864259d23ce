-- The steps of a session: from one message to the next, until the responses stop.
use Rattle.std.specs.Prelude.{◌≡◌, ◌⊎◌, ℕ, ◌+◌, ◌<◌, ◌≤◌, Bool, true, false, List, [], ◌∷◌, ◌++◌, drop, length, Option}
use Rattle.std.specs.Io.KnownBytes.{Appends}
use Rattle.reg_core.specs.declared.code.Code.{Code}
use Rattle.reg_service.specs.Deliveries.{Exchange}
use Rattle.reg_http.specs.declared.answering.Stop.{Stop}
use Rattle.reg_http.specs.declared.answering.Stop.TheVariants.{Waiting, AtClose, AtFault, NotWritten, OutOfMemory}
use Rattle.reg_http.specs.declared.answering.StepOutcome.{StepOutcome}
use Rattle.reg_http.specs.declared.answering.StepOutcome.TheVariants.{Answered as AnsweredStep, Stopped}
use Rattle.reg_http.specs.declared.writing.WriteOutcome.{WriteOutcome}
use Rattle.reg_http.specs.declared.writing.WriteOutcome.TheVariants.{Whole, CutShort, OutOfMemory as NoMemory}
use Rattle.reg_messages.specs.Framing.{max_body}
use Rattle.reg_messages.specs.Messages.{max_head, Follows, Part, Faulty}
use Rattle.reg_messages.specs.Closing.{closes}
use Rattle.reg_messages.specs.Responses.{fault_response}
use Rattle.reg_output.specs.Prefixes.{IsPrefix, AppendsPrefix}
use Rattle.reg_http.specs.Output.{AnsweredMessage, NoneCloses, response_to, responses}
use Rattle.reg_http.specs.Sessions.{ProcessesMessages}

-- There are fewer than `needs` bytes, and the buffer has room for that many. Any bytes may be added: until there are `needs` bytes in all, they
-- are no bytes or a part of a message.
pub record IsIncompleteUntil (bytes : List ℕ) (needs : ℕ) : Type 0 where
  pub short : length bytes < needs
  pub fits : needs ≤ max_head + max_body
  pub part : (more : List ℕ) → length (bytes ++ more) < needs → (bytes ++ more ≡ []) ⊎ Follows (bytes ++ more) Part

-- One message of `size` bytes got its response, and the connection stays open.
pub record AnswersOne (AreServed : List Exchange → Type 0) (old new : Option (List ℕ)) (bytes : List ℕ) (size : ℕ) : Type 0 where
  pub answered : AnsweredMessage
  pub stays : closes answered.0 ≡ false
  pub processes : ProcessesMessages AreServed old new bytes (answered ∷ []) (drop size bytes) (responses (answered ∷ []))

-- One message got its response, and ends the connection.
pub record AnswersLast (AreServed : List Exchange → Type 0) (old new : Option (List ℕ)) (bytes : List ℕ) : Type 0 where
  pub answered : AnsweredMessage
  pub rest : List ℕ
  pub closes_it : closes answered.0 ≡ true
  pub processes : ProcessesMessages AreServed old new bytes (answered ∷ []) rest (responses (answered ∷ []))

-- A fault is at the front of the bytes, and a beginning of its response was written.
pub record AnswersFault (AreServed : List Exchange → Type 0) (old new : Option (List ℕ)) (bytes : List ℕ) : Type 0 where
  pub code : Code
  pub part : List ℕ
  pub none : AreServed []
  pub follows : Follows bytes (Faulty code)
  pub front : IsPrefix part (fault_response code)
  pub writes : Appends old new part

-- One message was processed, and a beginning of its response was written.
pub record AnswersPart (AreServed : List Exchange → Type 0) (old new : Option (List ℕ)) (bytes : List ℕ) : Type 0 where
  pub answered : AnsweredMessage
  pub rest : List ℕ
  pub part : List ℕ
  pub front : IsPrefix part (response_to answered.0 answered.1)
  pub processes : ProcessesMessages AreServed old new bytes (answered ∷ []) rest part

-- no message was processed, and nothing was written
abbrev pub DoesNothing : (List Exchange → Type 0) → Option (List ℕ) → Option (List ℕ) → Type 0
DoesNothing AreServed old new = AreServed [] × Appends old new []

-- the outcome of one step over these bytes: the first message got its response, or processing stopped
abbrev pub NextAs : (List Exchange → Type 0) → Option (List ℕ) → Option (List ℕ) → List ℕ → StepOutcome → Type 0
NextAs AreServed old new bytes (AnsweredStep size) = AnswersOne AreServed old new bytes size
NextAs AreServed old new bytes (Stopped (Waiting needs)) = DoesNothing AreServed old new × IsIncompleteUntil bytes needs
NextAs AreServed old new bytes (Stopped AtClose) = AnswersLast AreServed old new bytes
-- a fault got its response in full
NextAs AreServed old new bytes (Stopped AtFault) = (code : Code) × AreServed [] × Follows bytes (Faulty code) × Appends old new (fault_response code)
NextAs AreServed old new bytes (Stopped NotWritten) = AnswersPart AreServed old new bytes ⊎ AnswersFault AreServed old new bytes
NextAs AreServed old new bytes (Stopped OutOfMemory) = DoesNothing AreServed old new ⊎ (AnswersPart AreServed old new bytes ⊎ AnswersFault AreServed old new bytes)

-- if the stop is `Waiting needs`, the bytes are incomplete until there are `needs` of them (`IsIncompleteUntil`); at any other stop this says nothing
abbrev pub IsIncompleteIfWaiting : List ℕ → Stop → Type 0
IsIncompleteIfWaiting bytes (Waiting needs) = IsIncompleteUntil bytes needs
IsIncompleteIfWaiting bytes other = Unit {0}

-- the processed message has at least one byte, and at most all of the bytes; or processing stopped, and if it waits, too few bytes are there
abbrev pub IsWithin : List ℕ → StepOutcome → Type 0
IsWithin bytes (AnsweredStep size) = (0 < size) × (size ≤ length bytes)
IsWithin bytes (Stopped stop) = IsIncompleteIfWaiting bytes stop

-- The outcome of processing a message of `message_size` bytes, by the outcome of writing its response, and whether the message ends the connection.
-- If the response wasn't written in full, processing stops, whether or not the message ends the connection.
abbrev pub step_outcome : WriteOutcome → Bool → ℕ → StepOutcome
step_outcome Whole true message_size = Stopped AtClose
step_outcome Whole false message_size = AnsweredStep message_size
step_outcome CutShort close message_size = Stopped NotWritten
step_outcome NoMemory close message_size = Stopped OutOfMemory

-- what was written of the response to a fault, at each stop; `AtClose` and `Waiting` don't occur
abbrev pub FaultAs : Option (List ℕ) → Option (List ℕ) → Code → Stop → Type 0
FaultAs old new code AtFault = Appends old new (fault_response code)
FaultAs old new code NotWritten = AppendsPrefix old new (fault_response code)
FaultAs old new code OutOfMemory = AppendsPrefix old new (fault_response code)
FaultAs old new code AtClose = ⊥
FaultAs old new code (Waiting needs) = ⊥

-- the messages so far got their responses and keep the connection open, and the bytes in the buffer follow them
pub record AnsweredSoFar (AreServed : List Exchange → Type 0) (old new : Option (List ℕ)) (bytes buffered : List ℕ) : Type 0 where
  pub answered : List AnsweredMessage
  pub stay : NoneCloses answered
  pub processes : ProcessesMessages AreServed old new bytes answered buffered (responses answered)
