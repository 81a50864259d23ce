-- The effect of one command on the stored state. (Everything here is this project's choice.)
use Rattle.std.specs.Prelude.{◌≡◌, ◌⊎◌, ⊤, ℕ, IsFalse, List, Option, None, Some, Result, Ok, Err, IfOk, OnErr}
use Rattle.sqlite.specs.Tree.{Trees}
use Rattle.sqlite.specs.State.{State}
use Rattle.reg_core.specs.declared.command.Command.{Command}
use Rattle.reg_core.specs.declared.decision.Decision.{Decision}
use Rattle.reg_core.specs.Machine.{is_write, step}
use Rattle.reg_core.specs.Replies.{ReplyView, IsCommandReply}
use Rattle.reg_core.specs.KeptReplies.{Kept, kept_with, entry_with}
use Rattle.reg_core.specs.Evidence.{IsEvidenceAfter}
use Rattle.reg_core.specs.Stored.{Stored, HasTrueEvidence}
use Rattle.reg_core.specs.Views.{ChangesFit}
use Rattle.reg_store.specs.Changes.{stored_after_changes}
use Rattle.reg_store.specs.Spells.{RecoversTo, SpellsWhileOpen}
use Rattle.reg_store.specs.Stores.{StillSpells}

-- the command leads from `was` to `now`, apart from the kept replies. The registry is the abstract machine's, and the evidence is what the
-- registry names
pub record StepsTo (was : Stored) (command : Command) (now : Stored) : Type 0 where
  pub registry : now.registry ≡ (step was.registry command).0
  pub evidence : IsEvidenceAfter was.registry command was.evidence now.evidence
  -- a read changes no evidence
  pub read : IsFalse (is_write command) → now.evidence ≡ was.evidence

-- `Holds` is true of the state after the command, with these kept replies
pub record HoldsAfterCommand (was : Stored) (command : Command) (kept : Kept) (Holds : Stored → Type 0) : Type 0 where
  pub now : Stored
  pub steps : StepsTo was command now
  pub replies : now.replies ≡ kept
  -- if all evidence was true, it still is
  pub stays_true : HasTrueEvidence was → HasTrueEvidence now
  pub holds : Holds now

-- the decision has the abstract machine's reply, and its changes fit the registry and lead from `was` to the state after the command
pub record IsDecisionOfStep (was : Stored) (command : Command) (d : Decision) : Type 0 where
  pub reply : d.reply ≡ (step was.registry command).1
  pub steps : StepsTo was command (stored_after_changes d.changes.items was)
  pub fit : ChangesFit d.changes.items was.registry

-- ---- executed commands

-- the retry key under which to keep a reply, with the command's text, or `None`
abbrev pub KeyAndText : Type 0
KeyAndText = Option (List ℕ × List ℕ)

-- if there is a key, no reply is kept under it
abbrev pub IsUnused : KeyAndText → Kept → Type 0
IsUnused None kept = ⊤
IsUnused (Some (key, text)) kept = kept key ≡ None

-- the kept replies; if there is a key, also this reply and the command's text under it
abbrev pub kept_under : KeyAndText → ReplyView → Kept → Kept
kept_under None reply kept = kept
kept_under (Some (key, text)) reply kept = kept_with kept key (entry_with text reply)

-- after an acknowledged command, a crash leaves its effect; after a failed one, its effect or what a crash before it may leave
abbrev pub RecoversCommand : {X E : Type 0} → Result X E → State → Trees → Stored → Command → Kept → Type 0
RecoversCommand (Ok x) old db was command kept = HoldsAfterCommand was command kept (RecoversTo db)
RecoversCommand (Err e) old db was command kept = old.may_leave db ⊎ HoldsAfterCommand was command kept (RecoversTo db)

-- If no reply is kept under the key, the command is executed, and its reply is kept under the key, if any. Or the command fails, and the tables
-- still spell what they spelled.
pub record ExecutesCommand {E : Type 0} (old new : State) (command : Command) (under : KeyAndText) (result : Result ReplyView E) : Type 0 where
  pub done : IfOk result (λ reply. (was : Stored) → SpellsWhileOpen old was → IsUnused under was.replies
      → (reply ≡ (step was.registry command).1) × HoldsAfterCommand was command (kept_under under reply was.replies) (SpellsWhileOpen new))
  -- the reply is a command's: neither 50001 nor the reply for a reused key
  pub own : IfOk result (λ reply. IsCommandReply reply)
  pub fails : OnErr result (StillSpells old new)
  pub crash : (was : Stored) → SpellsWhileOpen old was → IsUnused under was.replies → (db : Trees) → new.may_leave db
      → RecoversCommand result old db was command (kept_under under (step was.registry command).1 was.replies)
