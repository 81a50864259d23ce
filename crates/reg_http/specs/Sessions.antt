-- A whole session: the bytes that were read, the messages that were processed, and the bytes that were written.
use Rattle.std.specs.Prelude.{◌≡◌, ◌⊎◌, ℕ, List, map, Option}
use Rattle.std.specs.Io.KnownBytes.{Appends, Consumes, IsAtEnd}
use Rattle.reg_core.specs.declared.code.Code.{Code}
use Rattle.reg_service.specs.Deliveries.{Exchange}
use Rattle.reg_http.specs.declared.serving.Ended.{Ended}
use Rattle.reg_http.specs.declared.serving.Ended.TheVariants.{Closed, ReadFailed, WriteFailed, Malformed, Memory}
use Rattle.reg_messages.specs.Messages.{StartsWithMessages, Follows, End, Part, Faulty}
use Rattle.reg_http.specs.Output.{AnsweredMessage, AreFaultsIfRejected, NoneCloses, LastCloses, exchanges, responses, output, IsCutShort}

-- The messages at the front of `bytes` were processed, `rest` follows them, and `out` was written. `AreServed` is true of their exchanges.
pub record ProcessesMessages (AreServed : List Exchange → Type 0) (old new : Option (List ℕ)) (bytes : List ℕ) (xs : List AnsweredMessage) (rest out : List ℕ) : Type 0 where
  pub leads : StartsWithMessages bytes (map (λ x. x.0) xs) rest
  pub rejected : AreFaultsIfRejected xs
  pub serves : AreServed (exchanges xs)
  pub writes : Appends old new out

-- If the reader's bytes are known, it has none left (`reader`). Nothing follows the messages (`rest`). No message ends the connection, and each got its
-- response (`out`).
abbrev pub EndsBetween : Option (List ℕ) → List AnsweredMessage → List ℕ → List ℕ → Type 0
EndsBetween reader xs rest out = NoneCloses xs × IsAtEnd reader × Follows rest End × (out ≡ output xs End)

-- If the reader's bytes are known, it has none left (`reader`). A part of a further message follows the messages (`rest`), and gets no response. No
-- message before it ends the connection, and each got its response (`out`).
abbrev pub EndsInside : Option (List ℕ) → List AnsweredMessage → List ℕ → List ℕ → Type 0
EndsInside reader xs rest out = NoneCloses xs × IsAtEnd reader × Follows rest Part × (out ≡ output xs Part)

-- A fault follows the messages, and got its response. No message ends the connection, and each got its response.
abbrev pub EndsFaulty : List AnsweredMessage → List ℕ → List ℕ → Type 0
EndsFaulty xs rest out = (code : Code) × NoneCloses xs × Follows rest (Faulty code) × (out ≡ output xs (Faulty code))

-- The facts at each end of a session. `reader` is what the reader has left.
abbrev pub EndsAs : Option (List ℕ) → List AnsweredMessage → List ℕ → List ℕ → Ended → Type 0
-- the last message ends the connection, or the input ended, and no part of a message followed
EndsAs reader xs rest out Closed = (LastCloses xs × (out ≡ responses xs)) ⊎ EndsBetween reader xs rest out
-- a fault ended the session, or the input ended inside a message
EndsAs reader xs rest out Malformed = EndsFaulty xs rest out ⊎ EndsInside reader xs rest out
-- each whole message that was read got its response
EndsAs reader xs rest out ReadFailed = NoneCloses xs × (Follows rest End ⊎ Follows rest Part) × (out ≡ responses xs)
-- only a beginning of the last response, or of the response to a fault, was written; it may be empty or whole
EndsAs reader xs rest out WriteFailed = IsCutShort xs rest out
-- each processed message got its response, or the output is cut short as for `WriteFailed`
EndsAs reader xs rest out Memory = (NoneCloses xs × (out ≡ responses xs)) ⊎ IsCutShort xs rest out

-- A session. `reader` and `writer` are what the reader has left and what the writer contains, before it; with a prime, after it. `None` means that
-- these bytes aren't known. `AreServed` is true of the exchanges of the processed messages. How the reads cut the input is no part of it.
pub record Session (AreServed : List Exchange → Type 0) (reader reader' writer writer' : Option (List ℕ)) (ended : Ended) : Type 0 where
  -- everything that was read
  pub input : List ℕ
  pub reads : Consumes reader reader' input
  pub answered : List AnsweredMessage
  pub rest : List ℕ
  pub out : List ℕ
  pub processes : ProcessesMessages AreServed writer writer' input answered rest out
  pub ends : EndsAs reader' answered rest out ended
