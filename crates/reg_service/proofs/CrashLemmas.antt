-- What a crash leaves of one exchange.
use Rattle.std.proofs.Common.{◌≡◌, ◌≢◌, ◌⊎◌, inl, inr, ℕ, ◌∙◌, true, List, [], ◌∷◌, ◌++◌, refl, sym, ap, subst}
use Rattle.std.specs.Prelude.{IsTrue, Some, None, is_none, Result, Ok, Err, OnOk}
use Rattle.std.proofs.lemmas.Bool.{cases_Bool}
use Rattle.sqlite.specs.Tree.{Trees}
use Rattle.sqlite.specs.State.{State}
use Rattle.reg_core.specs.declared.code.Code.TheVariants.{KeyReused, BackendFault}
use Rattle.reg_core.specs.declared.command.Command.{Command}
use Rattle.reg_core.specs.declared.delivery.Delivery.{Delivery}
use Rattle.reg_core.specs.CommandTexts.{command_text}
use Rattle.reg_core.specs.Machine.{is_write, step}
use Rattle.reg_core.specs.Replies.{ReplyView, fault}
use Rattle.reg_core.specs.KeptReplies.{Kept, KeptEntry, kept_with, entry_with}
use Rattle.reg_core.specs.Stored.{Stored, HasTrueEvidence}
use Rattle.reg_store.specs.Spells.{RecoversTo, SpellsWhileOpen}
use Rattle.reg_store.specs.Stores.{StillSpells}
use Rattle.reg_store.proofs.Committing.{leaves_if_open}
use Rattle.reg_service.specs.Deliveries.{Exchange, key_of, is_first, kept_after, served, LeadsTo}
use Rattle.reg_service.specs.Inside.Steps.{HoldsAfterCommand, KeyAndText, IsUnused, kept_under, ExecutesCommand}
use Rattle.reg_service.specs.Crashes.{RecoversExchanges, RecoversSpelled, reply_or_fault}
use Rattle.reg_service.specs.Inside.Crashing.{RecoversOne, RecoversOneInFlight}
use Rattle.reg_service.proofs.JoinedExchanges.{leads-append, leads_none}
use Rattle.reg_service.proofs.SingleDeliveries.{is_first-keyless, is_first-keyed, kept_after-known, kept_first, leads_first, no_backend_fault, steps_nowhere, served_fault, serves_keyless, serves_first, serves_again}

-- ---- lists

-- exchanges that lead from `was` to itself leave `was`
leaves_still : (was : Stored) (xs : List Exchange) (db : Trees) → LeadsTo was xs was → RecoversTo db was → RecoversExchanges was xs db
leaves_still was xs db leads leaves = record { now = was; leads = leads; stays_true = λ holds. holds; leaves = leaves }

pub leaves_none : (was : Stored) (db : Trees) → RecoversTo db was → RecoversExchanges was [] db
leaves_none was db leaves = leaves_still was [] db (leads_none was) leaves

-- the state after a command is the state after its exchange
leaves_made : (was : Stored) (d : Delivery) (kept : Kept) (xs : List Exchange) (db : Trees) (after : HoldsAfterCommand was d.command kept (RecoversTo db)) → LeadsTo was xs after.now → RecoversExchanges was xs db
leaves_made was d kept xs db after leads = record { now = after.now; leads = leads; stays_true = after.stays_true; leaves = after.holds }

-- exchanges after others: a crash leaves the result of both
pub leaves_later : (was mid : Stored) (xs ys : List Exchange) (db : Trees) → LeadsTo was xs mid → (HasTrueEvidence was → HasTrueEvidence mid) → RecoversExchanges mid ys db → RecoversExchanges was (xs ++ ys) db
leaves_later was mid xs ys db leads stays later = record {
  now = later.now;
  leads = leads-append was mid later.now xs ys leads later.leads;
  stays_true = λ holds. later.stays_true (stays holds);
  leaves = later.leaves;
}

-- ---- one exchange

-- while a connection is open, a crash leaves what its tables spell
pub leaves_open : (s : State) → ((db : Trees) → IsTrue s.is_open → s.may_leave db → db ≡ s.committed.trees) → RecoversSpelled s
leaves_open s settled was over db it = leaves_if_open s was (λ is_open tree there. settled tree is_open there) over db it

-- a failed command: the tables and a crash as its failure permits
pub carries_failed : {E : Type 0} (r : Result ReplyView E) (old new : State) (command : Command) (under : KeyAndText) → OnOk r ⊥ → StillSpells old new
    → ((was : Stored) → SpellsWhileOpen old was → IsUnused under was.replies → (db : Trees) → new.may_leave db → old.may_leave db ⊎ HoldsAfterCommand was command (kept_under under (step was.registry command).1 was.replies) (RecoversTo db))
    → ExecutesCommand old new command under r
carries_failed (Ok reply) old new command under none same left = absurd none
carries_failed (Err e) old new command under none same left = record { done = tt; own = tt; fails = same; crash = left }

module _ (was : Stored) (d : Delivery) (may_leave : Trees → Type 0) where
  unserved : (db : Trees) → RecoversTo db was → RecoversExchanges was (served ((d, fault BackendFault) ∷ [])) db
  unserved db leaves =
      let P : List Exchange → Type 0 = λ xs. RecoversExchanges was xs db in
      subst P (sym (served_fault d (fault BackendFault) refl)) (leaves_none was db leaves)

  -- a first delivery that got 50001 and may be preserved
  under_way : (kept : Kept) → is_first was.replies [] d ≡ true → kept ≡ kept_after was.replies ((d, (step was.registry d.command).1) ∷ [])
      → ((db : Trees) → may_leave db → RecoversTo db was ⊎ HoldsAfterCommand was d.command kept (RecoversTo db)) → RecoversOneInFlight was d (fault BackendFault) may_leave
  under_way kept first same leaves = record {
    unserved = refl;
    first = first;
    leaves = λ db it.
        let reply = (step was.registry d.command).1 in
        elim (leaves db it) [
          | inl before ↦ inl (unserved db before)
          | inr after ↦ inr (leaves_made was d kept ((d, reply) ∷ []) db after (leads_first was after.now d reply first after.steps (after.replies ∙ same)))
        ];
  }

  -- a delivery that got 50001 and changed nothing
  pub found_failed : {E : Type 0} (r : Result ReplyView E) → OnOk r ⊥ → ((db : Trees) → may_leave db → RecoversTo db was) → RecoversOne was d (reply_or_fault r) may_leave
  found_failed (Ok reply) none leaves = absurd none
  found_failed (Err e) none leaves = inl (λ db it. unserved db (leaves db it))

  -- a later delivery of a key
  pub found_again : (key text : List ℕ) (entry : KeptEntry) (reply : ReplyView) → key_of d ≡ Some key → text ≡ command_text d.command → was.replies key ≡ Some entry
      → (text ≡ entry.command → reply ≡ entry.reply) → (text ≢ entry.command → reply ≡ fault KeyReused) → ((db : Trees) → may_leave db → RecoversTo db was) → RecoversOne was d reply may_leave
  found_again key text entry reply some is has same other leaves =
      inl (λ db it. leaves_still was (served ((d, reply) ∷ [])) db (serves_again was d key entry reply some has (rw is at same) (rw is at other)).leads (leaves db it))

-- a read, or a write without a key
pub found_keyless : {E : Type 0} (was : Stored) (d : Delivery) (old new : State) (r : Result ReplyView E) → key_of d ≡ None → ((db : Trees) → old.may_leave db → RecoversTo db was) → SpellsWhileOpen old was
    → ExecutesCommand old new d.command None r → RecoversOne was d (reply_or_fault r) new.may_leave
found_keyless was d old new (Ok reply) keyless before over executes =
    inl (λ db it.
    let after = executes.crash was over tt db it in
    leaves_made was d was.replies (served ((d, reply) ∷ [])) db after (serves_keyless was after.now d reply keyless (executes.done was over tt).0 (no_backend_fault reply executes.own) after.steps after.replies).leads)
found_keyless was d old new (Err e) keyless before over executes =
    elim (cases_Bool (is_write d.command)) [
      | inl write ↦ inr (under_way was d new.may_leave was.replies (is_first-keyless was.replies [] d keyless ∙ write) (sym (kept_after-known was.replies d (step was.registry d.command).1 (λ key some. absurd (let none : None ≡ Some key = sym keyless ∙ some in cc))))
          (λ db it. elim (executes.crash was over tt db it) [ inl left ↦ inl (before db left) | inr after ↦ inr after ]))
      | inr read ↦ inl (λ db it. unserved was d new.may_leave db (elim (executes.crash was over tt db it) [
        | inl left ↦ before db left
        | inr after ↦ subst (λ (s : Stored). RecoversTo db s) (steps_nowhere was after.now d.command read after.steps after.replies) after.holds
      ]))
    ]

-- the first delivery of a key
pub found_first : {E : Type 0} (was : Stored) (d : Delivery) (mid new : State) (r : Result ReplyView E) (key text : List ℕ) → key_of d ≡ Some key → text ≡ command_text d.command → was.replies key ≡ None
    → ((db : Trees) → mid.may_leave db → RecoversTo db was) → SpellsWhileOpen mid was → ExecutesCommand mid new d.command (Some (key, text)) r → RecoversOne was d (reply_or_fault r) new.may_leave
found_first was d mid new (Ok reply) key text some is fresh before over executes =
    let e = (executes.done was over fresh).0 in
    let same : kept_with was.replies key (entry_with text (step was.registry d.command).1) ≡ kept_with was.replies key (entry_with (command_text d.command) reply) =
    λ i. kept_with was.replies key (entry_with (is i) (sym e i)) in
    inl (λ db it.
    let after = executes.crash was over fresh db it in
    leaves_made was d _ (served ((d, reply) ∷ [])) db after (serves_first was after.now d key reply some fresh e (no_backend_fault reply executes.own) after.steps (after.replies ∙ same)).leads)
found_first was d mid new (Err e) key text some is fresh before over executes =
    let reply = (step was.registry d.command).1 in
    let same = ap (λ (t : List ℕ). kept_with was.replies key (entry_with t reply)) is in
    inr (under_way was d new.may_leave (kept_with was.replies key (entry_with text reply)) (is_first-keyed was.replies d key some ∙ ap is_none fresh)
    (same ∙ kept_first was.replies d key reply some fresh)
    (λ db it. elim (executes.crash was over fresh db it) [ inl left ↦ inl (before db left) | inr after ↦ inr after ]))
