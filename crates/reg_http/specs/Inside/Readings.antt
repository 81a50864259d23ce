-- The results of a read and of a write, and how a session ends when its input ends.
use Rattle.std.specs.Prelude.{◌≡◌, ℕ, Bool, true, false, List, [], Option}
use Rattle.std.specs.Io.KnownBytes.{Appends, Consumes, IsAtEnd}
use Rattle.reg_http.specs.declared.serving.ReadOutcome.{ReadOutcome}
use Rattle.reg_http.specs.declared.serving.ReadOutcome.TheVariants.{Bytes, End, Failed}
use Rattle.reg_http.specs.declared.conversation.Step.TheVariants.{Receive, Send}
use Rattle.reg_http.specs.declared.conversation.Conversation.{Conversation}
use Rattle.reg_http.specs.Conversations.{Receives, Sends, step_of}

-- The effect of a read: the conversation receives its bytes. There are none at the end of the input, or if the read failed; `Bytes` may bring none.
-- `reader` and `reader'` are what the reader has left.
abbrev pub ReadsAs : Option (List ℕ) → Option (List ℕ) → Conversation → Conversation → ReadOutcome → Type 0
ReadsAs reader reader' old new Bytes = (more : List ℕ) × Receives more old new × Consumes reader reader' more
ReadsAs reader reader' old new End = Receives [] old new × (step_of new ≡ Receive) × Consumes reader reader' [] × IsAtEnd reader'
ReadsAs reader reader' old new Failed = Receives [] old new × (step_of new ≡ Receive) × Consumes reader reader' []

-- The effect of a write: the conversation sends a part of its outbox, perhaps none; if no more can be written, none.
abbrev pub WritesAs : Option (List ℕ) → Option (List ℕ) → Conversation → Conversation → Bool → Type 0
WritesAs writer writer' old new true = (front : List ℕ) × Sends front old new × Appends writer writer' front
WritesAs writer writer' old new false = Sends [] old new × (step_of new ≡ Send) × Appends writer writer' []
