-- What `Store::apply` does to the registry, the evidence and the kept replies.
use Rattle.std.specs.Prelude.{◌≡◌, ◌≢◌, ◌⊎◌, List, [], Option, None, Some, IsSome, IsTrue, false, ⊤}
use Rattle.sqlite.specs.Tree.{Trees}
use Rattle.sqlite.specs.State.{State}
use Rattle.reg_core.specs.declared.decision.Change.{Change}
use Rattle.reg_core.specs.Replies.{IsKeptStatus}
use Rattle.reg_core.specs.Stored.{Stored, HasTrueEvidence}
use Rattle.reg_core.specs.Views.{ChangesFit, after_changes, evidence_after_changes}
use Rattle.reg_store.specs.declared.keep.Keep.{Keep}
use Rattle.reg_core.specs.KeptReplies.{KeptEntry, Kept, kept_with}
use Rattle.reg_store.specs.Spells.{Spells, RecoversTo, SpellsWhileOpen}

-- this project's choice: the kept command and its reply
abbrev pub keep_entry : Keep → KeptEntry
keep_entry keep = record { command = keep.command.now; reply = keep.reply.now }

-- this project's choice: the kept replies, with the new one, if any, under its key; it replaces a reply that the key had
abbrev pub with_reply : Option Keep → Kept → Kept
with_reply None k = k
with_reply (Some keep) k = kept_with k keep.key.now (keep_entry keep)

-- this project's choice: the key of the reply, if any, has no reply yet
abbrev pub IsNewTo : Kept → Option Keep → Type 0
IsNewTo k None = ⊤
IsNewTo k (Some keep) = k keep.key.now ≡ None

-- this project's choice: a reply with this status is kept
abbrev pub IsKeepable : Keep → Type 0
IsKeepable keep = IsKeptStatus keep.reply.now.status

-- this project's choice: there is a change or a reply to store
abbrev pub HasWork : List Change → Option Keep → Type 0
HasWork changes keep = (changes ≢ []) ⊎ IsSome keep

-- this project's choice: each change fits the registry after the changes before it, and the reply's key is new
pub record CanApply (changes : List Change) (keep : Option Keep) (was : Stored) : Type 0 where
  pub fit : ChangesFit changes was.registry
  pub fresh : IsNewTo was.replies keep

-- this project's choice: the stored state after the changes, which alter the registry and the evidence
abbrev pub stored_after_changes : List Change → Stored → Stored
stored_after_changes changes was = record was { registry = after_changes changes was.registry; evidence = evidence_after_changes changes was.evidence }

-- this project's choice: the stored state after the changes, with the reply
abbrev pub stored_after_apply : List Change → Option Keep → Stored → Stored
stored_after_apply changes keep was = record (stored_after_changes changes was) { replies = with_reply keep was.replies }

-- this project's choice: `P` is true of each stored state that the changes and the reply fit, and that the tables spell if the connection is open
abbrev pub WhenApplicable : State → List Change → Option Keep → (Stored → Type 0) → Type 0
WhenApplicable s changes keep P = (was : Stored) → SpellsWhileOpen s was → CanApply changes keep was → P was

-- this project's choice: `Holds` is true of the stored state after the changes and the reply, and true evidence stays true
pub record HoldsAfterChanges (changes : List Change) (keep : Option Keep) (was : Stored) (Holds : Stored → Type 0) : Type 0 where
  pub holds : Holds (stored_after_apply changes keep was)
  pub stays_true : HasTrueEvidence was → HasTrueEvidence (stored_after_apply changes keep was)

-- SQLite, transactions: a crash leaves the state after the changes and the reply, or a database that it could leave before; the latter spells the
-- state before them if the connection was open
abbrev pub RecoversToEither : State → State → List Change → Option Keep → Stored → Type 0
RecoversToEither old new changes keep was = (db : Trees) → new.may_leave db → (old.may_leave db × (IsTrue old.is_open → RecoversTo db was)) ⊎ HoldsAfterChanges changes keep was (RecoversTo db)

-- while the connection is open, its tables, with uncommitted changes, spell the stored state
abbrev pub SpellsInTransaction : State → Stored → Type 0
SpellsInTransaction s was = IsTrue s.is_open → Spells s.now was

-- the transaction doesn't end
abbrev pub TransactionContinues : State → State → Type 0
TransactionContinues old new = new.in_transaction ≡ false → old.in_transaction ≡ false
