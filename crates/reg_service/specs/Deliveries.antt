-- Deliveries and their retries: which deliveries are executed, and the reply to each. The guarantees are about whole lists. The Schema
-- Registry API reference has no retry keys, so each definition here is this project's choice.
use Rattle.std.specs.Prelude.{◌≡◌, ◌≢◌, ℕ, ◌==◌, Bool, true, false, not, ◌&&◌, IsTrue, IsFalse, List, [], ◌∷◌, ◌++◌, filter, find, map, bytes_eq, Option, Some, None, is_none, option_map, if◌then◌else◌}
use Rattle.std.specs.List.{list_any}
use Rattle.std.specs.Option.{option_or, option_map_or}
use Rattle.reg_core.specs.declared.code.Code.TheVariants.{KeyReused, BackendFault}
use Rattle.reg_core.specs.declared.command.Command.{Command}
use Rattle.reg_core.specs.CommandTexts.{command_text}
use Rattle.reg_core.specs.Machine.{is_write, step, run_commands}
use Rattle.reg_core.specs.Registry.{Registry}
use Rattle.reg_core.specs.Replies.{ReplyView, fault}
use Rattle.reg_core.specs.KeptReplies.{KeptEntry, Kept}
use Rattle.reg_core.specs.Evidence.{EvidenceMap, IsEvidenceAfter}
use Rattle.reg_core.specs.Stored.{Stored}
use Rattle.reg_core.specs.declared.delivery.Delivery.{Delivery}

-- A delivery and its reply.
abbrev pub Exchange : Type 0
Exchange = Delivery × ReplyView

-- The retry key of a write, or `None`. A read has none: the key that it was sent with is ignored.
abbrev pub key_of : Delivery → Option (List ℕ)
key_of d = if is_write d.command then d.key else None

-- Whether the delivery is a write with this key.
abbrev pub has_key : List ℕ → Delivery → Bool
has_key key d = option_map_or (bytes_eq key) (key_of d) false

-- Whether no reply is kept under the key, and no earlier write has it.
abbrev pub is_new_key : Kept → List Exchange → List ℕ → Bool
is_new_key k before key = is_none (k key) && not (list_any (λ x. has_key key x.0) before)

-- Whether a delivery is a first delivery after the kept replies k and the exchanges `before`: a write with a new key or none.
abbrev pub is_first : Kept → List Exchange → Delivery → Bool
is_first k before d = is_write d.command && option_map_or (is_new_key k before) (key_of d) true

-- The commands of the first deliveries in the second list, which comes after `before`, in order.
abbrev pub firsts_after : Kept → List Exchange → List Exchange → List Command
firsts_after k before [] = []
firsts_after k before (x ∷ xs) =
    (if is_first k before x.0 then x.0.command ∷ [] else []) ++ firsts_after k (before ++ x ∷ []) xs

-- The commands of the first deliveries in a whole list, in order.
abbrev pub firsts : Kept → List Exchange → List Command
firsts k xs = firsts_after k [] xs

-- The entry that an exchange leaves under its key: the command's text and the reply.
abbrev pub exchange_entry : Exchange → KeptEntry
exchange_entry x = record { command = command_text x.0.command; reply = x.1 }

-- The kept replies after the list: the earlier ones, and under each other key the text and the reply of the first write with it.
abbrev pub kept_after : Kept → List Exchange → Kept
kept_after k xs key = option_or (k key) (option_map exchange_entry (find (λ x. has_key key x.0) xs))

-- The abstract machine's reply to a command after the first deliveries in `before`.
abbrev pub reply_after : Stored → List Exchange → Command → ReplyView
reply_after was before command = (step (run_commands was.registry (firsts was.replies before)) command).1

-- This reply is due to a delivery after the exchanges `before`.
pub record IsDue (was : Stored) (before : List Exchange) (d : Delivery) (reply : ReplyView) : Type 0 where
  -- A read and a first delivery are executed.
  pub read : IsFalse (is_write d.command) → reply ≡ reply_after was before d.command
  pub first : IsTrue (is_first was.replies before d) → reply ≡ reply_after was before d.command
  -- A known key with its own command gets the kept reply.
  pub again : (key : List ℕ) (entry : KeptEntry) → key_of d ≡ Some key → kept_after was.replies before key ≡ Some entry
      → command_text d.command ≡ entry.command → reply ≡ entry.reply
  -- A known key with another command gets 42290.
  pub other : (key : List ℕ) (entry : KeptEntry) → key_of d ≡ Some key → kept_after was.replies before key ≡ Some entry
      → command_text d.command ≢ entry.command → reply ≡ fault KeyReused

-- Each exchange has the reply that is due at its position in the list.
abbrev pub Answers : Stored → List Exchange → Type 0
Answers was xs = (before : List Exchange) (x : Exchange) (after : List Exchange)
    → xs ≡ before ++ x ∷ after → IsDue was before x.0 x.1

-- The evidence of versions after the commands, applied one after another. A version that a command added has the level in force at that
-- time, and the ids that this level named. A removed version has none, and any other version keeps its own.
abbrev pub IsEvidenceAfterAll : Registry → List Command → EvidenceMap → EvidenceMap → Type 0
IsEvidenceAfterAll g [] old new = new ≡ old
IsEvidenceAfterAll g (command ∷ commands) old new =
    (mid : EvidenceMap) × IsEvidenceAfter g command old mid × IsEvidenceAfterAll (step g command).0 commands mid new

-- The exchanges lead from `was` to `now`. The registry is the abstract machine's after the first deliveries, each applied once. The replies to
-- those with a key are kept. The evidence of versions is what the registry named when each first delivery was executed.
pub record LeadsTo (was : Stored) (xs : List Exchange) (now : Stored) : Type 0 where
  pub registry : now.registry ≡ run_commands was.registry (firsts was.replies xs)
  pub kept : now.replies ≡ kept_after was.replies xs
  pub evidence : IsEvidenceAfterAll was.registry (firsts was.replies xs) was.evidence now.evidence

-- The exchanges lead from `was` to `now`, and each reply is due.
pub record Serves (was : Stored) (xs : List Exchange) (now : Stored) : Type 0 where
  pub leads : LeadsTo was xs now
  pub replies : Answers was xs

-- Whether the reply has the status and the body of 50001.
abbrev pub is_backend_fault : ReplyView → Bool
is_backend_fault reply = reply.status == (fault BackendFault).status && bytes_eq reply.body (fault BackendFault).body

-- The exchanges whose reply isn't 50001.
abbrev pub served : List Exchange → List Exchange
served xs = filter (λ x. not (is_backend_fault x.1)) xs

-- Two writes with the same key and the same command have the same reply.
abbrev pub RepeatsAgree : List Exchange → Type 0
RepeatsAgree xs =
    (before : List Exchange) (x : Exchange) (between : List Exchange) (y : Exchange) (after : List Exchange) (key : List ℕ)
    → xs ≡ before ++ x ∷ (between ++ y ∷ after) → key_of x.0 ≡ Some key → key_of y.0 ≡ Some key
    → command_text x.0.command ≡ command_text y.0.command → x.1 ≡ y.1

-- Only these replies are due to these deliveries.
abbrev pub NoOtherAnswers : Stored → List Exchange → Type 0
NoOtherAnswers was xs = (ys : List Exchange) → map (λ y. y.0) ys ≡ map (λ x. x.0) xs → Answers was ys → ys ≡ xs
