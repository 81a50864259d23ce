-- Exchanges before and after a crash are one list.
use Rattle.std.proofs.Common.{◌≡◌, ◌⊎◌, inl, inr, ◌∙◌, true, false, Bool, ◌&&◌, List, [], ◌∷◌, ◌++◌, append_assoc, append-nil, true≢false, ℕ, refl, sym, ap, subst}
use Rattle.std.specs.Prelude.{Some, is_none}
use Rattle.std.specs.Option.{option_map_or}
use Rattle.sqlite.specs.Tree.{Trees}
use Rattle.sqlite_trees.specs.declared.store.Store.{Ghosts}
use Rattle.reg_core.specs.declared.delivery.Delivery.{Delivery}
use Rattle.reg_core.specs.Machine.{is_write}
use Rattle.reg_core.specs.Replies.{ReplyView}
use Rattle.reg_core.specs.KeptReplies.{KeptEntry}
use Rattle.reg_core.specs.Stored.{Stored}
use Rattle.reg_store.specs.Spells.{IsOpenOver}
use Rattle.reg_service.specs.declared.service.Service.{Service}
use Rattle.reg_service.specs.Deliveries.{Exchange, key_of, is_first, is_new_key, kept_after, reply_after, served, IsDue, Answers, Serves}
use Rattle.reg_service.specs.Services.{state_in}
use Rattle.reg_service.specs.Crashes.{RecoversExchanges, RecoversAcknowledged, RecoversSpelled, ServesDurably}
use Rattle.reg_service.specs.Restarts.{WasInProgress, RestartsFrom}
use Rattle.reg_service.proofs.DurableLists.{durable_each}
use Rattle.reg_service.proofs.DueReplies.{repeats_agree}
use Rattle.reg_service.proofs.ExchangeLists.{served-append}
use Rattle.reg_service.proofs.JoinedExchanges.{is_none-kept_after, split, serves-append}

-- nothing is kept under the key of a first delivery
fresh : (was : Stored) (before : List Exchange) (d : Delivery) (key : List ℕ) (entry : KeptEntry) → is_first was.replies before d ≡ true → key_of d ≡ Some key → kept_after was.replies before key ≡ Some entry → ⊥
fresh was before d key entry first some has =
    let used : is_new_key was.replies before key ≡ false = sym (is_none-kept_after was.replies before key) ∙ ap is_none has in
    let stuck : is_write d.command && option_map_or (is_new_key was.replies before) (key_of d) true ≡ false =
    ap (λ o. is_write d.command && option_map_or (is_new_key was.replies before) o true) some ∙ (ap (λ b. is_write d.command && b) used ∙ and_false (is_write d.command)) in
    true≢false (sym first ∙ stuck)
  where
    and_false : (b : Bool) → b && false ≡ false
    and_false true = refl
    and_false false = refl

-- the abstract machine's reply is due to a first delivery
due_in_progress : (was : Stored) (before : List Exchange) (d : Delivery) → is_first was.replies before d ≡ true → IsDue was before d (reply_after was before d.command)
due_in_progress was before d first = record {
  read = λ _. refl;
  first = λ _. refl;
  again = λ key entry some has _. absurd (fresh was before d key entry first some has);
  other = λ key entry some has _. absurd (fresh was before d key entry first some has);
}

-- one more reply that is due
answers_then : (was : Stored) (xs : List Exchange) (d : Delivery) (reply : ReplyView) → Answers was xs → IsDue was xs d reply → Answers was (xs ++ (d, reply) ∷ [])
answers_then was xs d reply p due before x after e = by (split xs ((d, reply) ∷ []) before x after e)
  where
    last : (more : List Exchange) → xs ++ more ≡ before → (d, reply) ∷ [] ≡ more ++ x ∷ after → IsDue was before x.0 x.1
    last [] same is =
        let it : (d, reply) ≡ x = cc in
        let here : xs ≡ before = sym (append-nil xs) ∙ same in
        let one : IsDue was xs x.0 x.1 = subst (λ (y : Exchange). IsDue was xs y.0 y.1) it due in
        subst (λ (zs : List Exchange). IsDue was zs x.0 x.1) here one
    last (y ∷ []) same is = absurd (cc)
    last (y ∷ z ∷ more) same is = absurd (cc)

    by : ((rest : List Exchange) × (xs ≡ before ++ x ∷ rest)) ⊎ ((more : List Exchange) × (xs ++ more ≡ before) × ((d, reply) ∷ [] ≡ more ++ x ∷ after)) → IsDue was before x.0 x.1
    by (inl u) = p before x u.0 u.1
    by (inr u) = last u.0 u.1 u.2

module _ {S : Type 0} {g : Ghosts S} (next last : Service S g) (spelled : RecoversSpelled (state_in next)) where
  -- any exchanges after those that led to the state that a crash left continue them
  continued : (was : Stored) (xs between : List Exchange) (db : Trees) (had : RecoversExchanges was (served xs ++ between) db)
      → (between ≡ []) ⊎ ((one : Exchange) × (between ≡ one ∷ []) × WasInProgress was xs one) → Answers was (served xs ++ between) → RestartsFrom next last was xs db
  continued was xs between db had in_progress answers = record {
    left = had.now;
    leaves = had.leaves;
    continues = λ ys each clean over.
        let it = durable_each next last ys spelled each clean had.now (λ _. over) in
        let P : List Exchange → Type 0 = λ zs. Serves was zs it.stored in
        let all = serves-append was had.now it.stored (served xs ++ between) (served ys) (record { leads = had.leads; replies = answers }) it.holds.serves in
        let serves = subst P (append_assoc (served xs) between (served ys)) all in
        record {
          stored = it.stored;
          spells = it.spells;
          holds = record {
            between = between;
            in_progress = in_progress;
            serves = serves;
            repeats = repeats_agree was (served xs ++ (between ++ served ys)) serves.replies;
            stays_true = λ holds. it.holds.stays_true (had.stays_true holds);
          };
        };
  }

  -- each database that a crash may leave after exchanges has the acknowledged ones, and later exchanges continue them
  pub restarts : (old new : Service S g) (was now : Stored) (xs : List Exchange) → ServesDurably old new was now xs → IsOpenOver (state_in old) was
      → (db : Trees) → (state_in new).may_leave db → RestartsFrom next last was xs db
  restarts old new was now xs p over db it = by (p.crash over)
    where
      acknowledged : RecoversExchanges was (served xs) db → RestartsFrom next last was xs db
      acknowledged left =
          let P : List Exchange → Type 0 = λ zs. RecoversExchanges was zs db in
          let Q : List Exchange → Type 0 = λ zs. Answers was zs in
          let same : served xs ≡ served xs ++ [] = sym (append-nil (served xs)) in
          continued was xs [] db (subst P same left) (inl refl) (subst Q same p.serves.replies)

      with_one : (one : Exchange) (w : WasInProgress was xs one) → RecoversExchanges was (served w.before ++ (w.refused.0, reply_after was (served w.before) w.refused.0.command) ∷ []) db
          → RestartsFrom next last was xs db
      with_one one w left =
          let d = w.refused.0 in
          let reply = reply_after was (served w.before) d.command in
          let same : served xs ≡ served w.before = ap served w.split ∙ served-append w.before (w.refused ∷ w.after) ∙ ap (λ zs. served w.before ++ zs) w.unserved ∙ append-nil (served w.before) in
          let P : List Exchange → Type 0 = λ zs. RecoversExchanges was (zs ++ (d, reply) ∷ []) db in
          let D : List Exchange → Type 0 = λ zs. IsDue was zs d reply in
          let due : IsDue was (served xs) d reply = subst D (sym same) (due_in_progress was (served w.before) d w.first) in
          continued was xs ((d, reply) ∷ []) db (subst P (sym same) left)
          (inr ((d, reply), refl, record { before = w.before; refused = w.refused; after = w.after; split = w.split; unserved = w.unserved; first = w.first; is = refl }))
          (answers_then was (served xs) d reply p.serves.replies due)

      by : RecoversAcknowledged old new was xs → RestartsFrom next last was xs db
      by (inl leaves) = acknowledged (leaves db it)
      by (inr u) =
          let one : Exchange = (u.at.exchange.0, reply_after was (served u.at.before) u.at.exchange.0.command) in
          elim (u.leaves db it) [
            | inl left ↦ acknowledged left
            | inr left ↦ with_one one (record { before = u.at.before; refused = u.at.exchange; after = u.at.after; split = u.at.split; unserved = u.at.unserved; first = u.first; is = refl }) left
          ]
