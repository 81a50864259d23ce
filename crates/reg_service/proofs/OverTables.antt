-- What each kind of delivery serves, for every state that the tables may spell.
use Rattle.std.proofs.Common.{◌≡◌, ◌≢◌, ℕ, ◌<◌, ◌+◌, List, [], ◌∷◌, ◌++◌, length, take, zip, get_or, Some, None, Result, Ok, Err, ap, ◌∙◌}
use Rattle.std.specs.Prelude.{IfOk}
use Rattle.sqlite.specs.State.{State}
use Rattle.reg_core.specs.declared.code.Code.TheVariants.{KeyReused, BackendFault}
use Rattle.reg_core.specs.declared.delivery.Delivery.{Delivery}
use Rattle.reg_core.specs.CommandTexts.{command_text}
use Rattle.reg_core.specs.Replies.{ReplyView, fault}
use Rattle.reg_core.specs.KeptReplies.{KeptEntry, kept_with, entry_with}
use Rattle.reg_core.specs.Stored.{Stored, HasTrueEvidence}
use Rattle.reg_store.specs.Spells.{SpellsWhileOpen}
use Rattle.reg_store.specs.Stores.{StillSpells}
use Rattle.reg_service.specs.Deliveries.{Exchange, Serves, key_of, served}
use Rattle.reg_service.specs.Services.{ServesTo, ServesOver}
use Rattle.reg_service.specs.Inside.Steps.{ExecutesCommand}
use Rattle.reg_service.proofs.SingleDeliveries.{no_backend_fault, serves_keyless, serves_first, serves_again, serves_refused}
use Rattle.reg_service.proofs.JoinedExchanges.{serves_none}
use Rattle.reg_service.proofs.ExchangeLists.{serves_next}

served_to : {xs : List Exchange} {new : State} (was now : Stored) → Serves was xs now → (HasTrueEvidence was → HasTrueEvidence now) → SpellsWhileOpen new now → ServesTo was xs new
served_to was now s stays spells = record { now = now; serves = s; stays_true = stays; spells = spells }

-- exchanges that change nothing
stands : {xs : List Exchange} {new : State} (was : Stored) → Serves was xs was → SpellsWhileOpen new was → ServesTo was xs new
stands was s spells = served_to was was s (λ holds. holds) spells

module _ {E : Type 0} (old new : State) (d : Delivery) where
  -- a read, or a write without a key
  pub keyless_over : (r : Result ReplyView E) → key_of d ≡ None → ExecutesCommand old new d.command None r → IfOk r (λ reply. ServesOver old new (served ((d, reply) ∷ [])))
  keyless_over (Err e) keyless executes = tt
  keyless_over (Ok reply) keyless executes = λ was over.
      let it = executes.done was over tt in
      let after = it.1 in
      served_to was after.now (serves_keyless was after.now d reply keyless it.0 (no_backend_fault reply executes.own) after.steps after.replies) after.stays_true after.holds

  -- the first delivery of a key
  pub first_over : (r : Result ReplyView E) (mid : State) (key text : List ℕ) → key_of d ≡ Some key → text ≡ command_text d.command → ExecutesCommand mid new d.command (Some (key, text)) r
      → ((was : Stored) → SpellsWhileOpen old was → SpellsWhileOpen mid was × (was.replies key ≡ None)) → IfOk r (λ reply. ServesOver old new (served ((d, reply) ∷ [])))
  first_over (Err e) mid key text some is executes fresh = tt
  first_over (Ok reply) mid key text some is executes fresh = λ was over.
      let before = fresh was over in
      let it = executes.done was before.0 before.1 in
      let after = it.1 in
      let kept = after.replies ∙ ap (λ (t : List ℕ). kept_with was.replies key (entry_with t reply)) is in
      served_to was after.now (serves_first was after.now d key reply some before.1 it.0 (no_backend_fault reply executes.own) after.steps kept) after.stays_true after.holds

-- a later delivery of a key
pub again_over : (new : State) (d : Delivery) (reply : ReplyView) (key text : List ℕ) (was : Stored) (entry : KeptEntry) → key_of d ≡ Some key → text ≡ command_text d.command → was.replies key ≡ Some entry
    → (text ≡ entry.command → reply ≡ entry.reply) → (text ≢ entry.command → reply ≡ fault KeyReused) → SpellsWhileOpen new was → ServesTo was (served ((d, reply) ∷ [])) new
again_over new d reply key text was entry some is has same other spells =
    stands was (serves_again was d key entry reply some has (rw is at same) (rw is at other)) spells

-- a delivery that got 50001
pub refused_over : (old new : State) (d : Delivery) (reply : ReplyView) → reply ≡ fault BackendFault → StillSpells old new → ServesOver old new (served ((d, reply) ∷ []))
refused_over old new d reply is same = λ was over. stands was (serves_refused was d reply is) (same was over)

-- no exchanges
pub none_over : (old : State) → ServesOver old old []
none_over old = λ was over. stands was (serves_none was) over

-- the next delivery of a list
pub next_over : (old mid new : State) (list : List Delivery) (i : ℕ) (d : Delivery) (replies more : List ReplyView) (reply : ReplyView) → i < length list → d ≡ get_or list i d → length replies ≡ i → more ≡ replies ++ reply ∷ []
    → ServesOver old mid (served (zip (take i list) replies)) → ServesOver mid new (served ((d, reply) ∷ [])) → ServesOver old new (served (zip (take (i + 1) list) more))
next_over old mid new list i d replies more reply lt item count longer before one = λ was over.
    let first = before was over in
    let second = one first.now first.spells in
    served_to was second.now (serves_next list i d replies more reply was first.now second.now lt item count longer first.serves second.serves) (λ holds. second.stays_true (first.stays_true holds)) second.spells
