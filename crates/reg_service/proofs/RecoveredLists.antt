-- What a crash leaves after a list of exchanges, one after another.
use Rattle.std.proofs.Common.{◌≡◌, ◌⊎◌, inl, inr, ℕ, ◌+◌, ◌<◌, ◌∙◌, true, false, List, [], ◌∷◌, ◌++◌, length, take, zip, get_or, append_assoc, append-nil, IsTrue, refl, sym, ap, subst, arith}
use Rattle.std.proofs.lemmas.Bool.{cases_Bool, both_ways}
use Rattle.std.proofs.lemmas.List.{take_more, length-take}
use Rattle.sqlite.specs.Tree.{Trees}
use Rattle.sqlite.specs.State.{HasCleanDisk}
use Rattle.sqlite_trees.specs.declared.store.Store.{Ghosts}
use Rattle.reg_core.specs.declared.code.Code.TheVariants.{BackendFault}
use Rattle.reg_core.specs.declared.delivery.Delivery.{Delivery}
use Rattle.reg_core.specs.Machine.{step}
use Rattle.reg_core.specs.Registry.{Registry}
use Rattle.reg_core.specs.Replies.{ReplyView, fault}
use Rattle.reg_core.specs.KeptReplies.{Kept}
use Rattle.reg_core.specs.Stored.{Stored, HasTrueEvidence}
use Rattle.reg_store.specs.Spells.{RecoversTo, IsOpenOver, SpellsWhileOpen}
use Rattle.reg_store.specs.Stores.{has_failed, AddsNoCrashState}
use Rattle.reg_service.specs.declared.service.Service.{Service}
use Rattle.reg_service.specs.Deliveries.{Exchange, is_first, reply_after, served, LeadsTo, Serves}
use Rattle.reg_service.specs.Services.{store_in, state_in, FailsDuring, PreservesService, ServesOver, ServesTo, SplitAt}
use Rattle.reg_service.specs.Crashes.{RecoversExchanges, RecoversSpelled, RecoversAcknowledged, ServesDurably}
use Rattle.reg_service.specs.Inside.Crashing.{RecoversOne}
use Rattle.reg_service.proofs.CrashLemmas.{leaves_later, leaves_none}
use Rattle.reg_service.proofs.ExchangeLists.{served-append, zip-push}
use Rattle.reg_service.proofs.JoinedExchanges.{is_led, is_first-append, registry-append, serves_none, serves-append}
use Rattle.reg_service.proofs.OpenConnections.{keeps_as, keeps_both, keeps_still}
use Rattle.reg_service.proofs.SingleDeliveries.{served_fault}

-- if nothing of both was served, nothing of their concatenation was
none_of_both : (xs ys : List Exchange) → served xs ≡ [] → served ys ≡ [] → served (xs ++ ys) ≡ []
none_of_both xs ys x y = served-append xs ys ∙ (λ i. x i ++ y i)

-- the exchanges with the next delivery of a list
pub zip_next : (list : List Delivery) (i : ℕ) (d : Delivery) (replies more : List ReplyView) (reply : ReplyView) → i < length list → d ≡ get_or list i d → length replies ≡ i → more ≡ replies ++ reply ∷ []
    → zip (take (i + 1) list) more ≡ zip (take i list) replies ++ (d, reply) ∷ []
zip_next list i d replies more reply lt item count longer =
    let front : take (i + 1) list ≡ take i list ++ d ∷ [] = take_more list i d lt ∙ ap (λ (x : Delivery). take i list ++ x ∷ []) (sym item) in
    let same : length (take i list) ≡ length replies = omega (arith, length-take i list) in
    (λ j. zip (front j) (longer j)) ∙ zip-push (take i list) replies d reply same

module _ {S : Type 0} {g : Ghosts S} where
  -- an exchange with reply 50001 isn't served
  keeps_one : (old new : Service S g) (d : Delivery) (reply : ReplyView) → PreservesService old new (reply ≡ fault BackendFault) → PreservesService old new (served ((d, reply) ∷ []) ≡ [])
  keeps_one old new d reply = keeps_as old new (served_fault d reply)

  -- exchanges after others
  pub passes_both : (old mid new : Service S g) (xs ys : List Exchange) → PreservesService old mid (served xs ≡ []) → PreservesService mid new (served ys ≡ []) → PreservesService old new (served (xs ++ ys) ≡ [])
  passes_both old mid new xs ys before later = keeps_both old mid new (none_of_both xs ys) before later

  -- one more exchange
  pub passes_next : (old mid new : Service S g) (xs : List Exchange) (d : Delivery) (reply : ReplyView) → PreservesService old mid (served xs ≡ []) → PreservesService mid new (reply ≡ fault BackendFault)
      → PreservesService old new (served (xs ++ (d, reply) ∷ []) ≡ [])
  passes_next old mid new xs d reply before one = passes_both old mid new xs ((d, reply) ∷ []) before (keeps_one mid new d reply one)

  -- ---- splits of a list

  -- a list of one exchange
  abbrev split_here : (old new : Service S g) (d : Delivery) (reply : ReplyView) → reply ≡ fault BackendFault → PreservesService old new (reply ≡ fault BackendFault) → SplitAt old new ((d, reply) ∷ [])
  split_here old new d reply is keeps = record {
    before = [];
    exchange = (d, reply);
    after = [];
    split = refl;
    unserved = served_fault d reply is;
    reached = old;
    left = new;
    earlier = keeps_still old (served [] ≡ []) refl;
    here = keeps_as old new (served_fault d reply) keeps;
    later = keeps_still new (served [] ≡ []) refl;
  }

  -- the same after other exchanges
  abbrev split_later : (old mid new : Service S g) (xs ys : List Exchange) → PreservesService old mid (served xs ≡ []) → SplitAt mid new ys → SplitAt old new (xs ++ ys)
  split_later old mid new xs ys keeps at = record {
    before = xs ++ at.before;
    exchange = at.exchange;
    after = at.after;
    split = ap (λ (zs : List Exchange). xs ++ zs) at.split ∙ sym (append_assoc xs at.before (at.exchange ∷ at.after));
    unserved = at.unserved;
    reached = at.reached;
    left = at.left;
    earlier = keeps_both old mid at.reached (none_of_both xs at.before) keeps at.earlier;
    here = at.here;
    later = at.later;
  }

  -- and before other exchanges with reply 50001
  abbrev split_still : (old mid new : Service S g) (xs ys : List Exchange) → served ys ≡ [] → PreservesService mid new (served ys ≡ []) → SplitAt old mid xs → SplitAt old new (xs ++ ys)
  split_still old mid new xs ys none keeps at = record {
    before = at.before;
    exchange = at.exchange;
    after = at.after ++ ys;
    split = ap (λ (zs : List Exchange). zs ++ ys) at.split ∙ append_assoc at.before (at.exchange ∷ at.after) ys;
    unserved = none_of_both (at.exchange ∷ at.after) ys at.unserved none;
    reached = at.reached;
    left = at.left;
    earlier = at.earlier;
    here = at.here;
    later = passes_both at.left mid new at.after ys at.later keeps;
  }

  -- ---- failures of the store

  -- the store failed at the next exchange, or had failed before
  pub fails_next : (old mid new : Service S g) (xs : List Exchange) (d : Delivery) (reply : ReplyView) → PreservesService old mid (served xs ≡ []) → PreservesService mid new (reply ≡ fault BackendFault)
      → (IsTrue (has_failed (store_in new)) → reply ≡ fault BackendFault) → (IsTrue (has_failed (store_in mid)) → IsTrue (has_failed (store_in old)) ⊎ FailsDuring old mid xs)
      → IsTrue (has_failed (store_in new)) → IsTrue (has_failed (store_in old)) ⊎ FailsDuring old new (xs ++ (d, reply) ∷ [])
  fails_next old mid new xs d reply passed one fails before failed = by (cases_Bool (has_failed (store_in mid)))
    where
      by : (has_failed (store_in mid) ≡ true) ⊎ (has_failed (store_in mid) ≡ false) → IsTrue (has_failed (store_in old)) ⊎ FailsDuring old new (xs ++ (d, reply) ∷ [])
      by (inl was) = elim (before was) [
        | inl first ↦ inl first
        | inr it ↦ inr (record { at = split_still old mid new xs ((d, reply) ∷ []) (served_fault d reply (fails failed)) (keeps_one mid new d reply one) it.at; not_failed = it.not_failed; fails = it.fails })
      ]
      by (inr not_failed) = inr (record { at = split_later old mid new xs ((d, reply) ∷ []) passed (split_here mid new d reply (fails failed) one); not_failed = not_failed; fails = failed })

  -- ---- crashes

  -- before the first exchange, a crash leaves the stored state
  pub found_none : (s : Service S g) (was : Stored) → ((db : Trees) → (state_in s).may_leave db → RecoversTo db was) → RecoversAcknowledged s s was []
  found_none s was leaves = inl (λ db it. leaves_none was db (leaves db it))

  -- after one exchange: over a connection that stayed open, a crash leaves what was acknowledged
  pub found_once : (old new : Service S g) (was : Stored) (d : Delivery) (reply : ReplyView) → PreservesService old new (reply ≡ fault BackendFault) → IsOpenOver (state_in old) was
      → ServesOver (state_in old) (state_in new) (served ((d, reply) ∷ [])) → RecoversSpelled (state_in new) → RecoversOne was d reply (state_in new).may_leave → RecoversAcknowledged old new was ((d, reply) ∷ [])
  found_once old new was d reply keeps over serves spelled found = by (cases_Bool (state_in new).is_open) found
    where
      by : ((state_in new).is_open ≡ true) ⊎ ((state_in new).is_open ≡ false) → RecoversOne was d reply (state_in new).may_leave → RecoversAcknowledged old new was ((d, reply) ∷ [])
      by still (inl leaves) = inl leaves
      by (inl is_open) (inr one) =
          let it = serves was (λ _. over) in
          inl (λ db left. record { now = it.now; leads = it.serves.leads; stays_true = it.stays_true; leaves = spelled it.now (it.spells is_open) db left })
      by (inr is_closed) (inr one) = inr (record {
        at = split_here old new d reply one.unserved keeps;
        was_open = over.is_open;
        closed = λ is_open. both_ways _ is_closed is_open;
        first = one.first;
        leaves = one.leaves;
      })

  -- what a crash leaves after exchanges that follow others, it leaves after both
  found_later : (old mid new : Service S g) (was now : Stored) (xs ys : List Exchange) → PreservesService old mid (served xs ≡ []) → LeadsTo was (served xs) now → (HasTrueEvidence was → HasTrueEvidence now)
      → RecoversAcknowledged mid new now ys → RecoversAcknowledged old new was (xs ++ ys)
  found_later old mid new was now xs ys passed leads stays found = by found
    where
      both : (db : Trees) → RecoversExchanges now (served ys) db → RecoversExchanges was (served (xs ++ ys)) db
      both db leaves =
          let P : List Exchange → Type 0 = λ zs. RecoversExchanges was zs db in
          subst P (sym (served-append xs ys)) (leaves_later was now (served xs) (served ys) db leads stays leaves)

      with_one : (before : List Exchange) (d : Delivery) (db : Trees) → RecoversExchanges now (served before ++ (d, reply_after now (served before) d.command) ∷ []) db
          → RecoversExchanges was (served (xs ++ before) ++ (d, reply_after was (served (xs ++ before)) d.command) ∷ []) db
      with_one before d db leaves =
          let front = served xs ++ served before in
          let old = reply_after now (served before) d.command in
          let all : RecoversExchanges was (served xs ++ (served before ++ (d, old) ∷ [])) db = leaves_later was now (served xs) (served before ++ (d, old) ∷ []) db leads stays leaves in
          let same : old ≡ reply_after was front d.command =
          ap (λ (s : Stored). reply_after s (served before) d.command) (is_led was now (served xs) leads)
          ∙ ap (λ (s : Registry). (step s d.command).1) (sym (registry-append was.registry was.replies (served xs) (served before))) in
          let P : List Exchange → Type 0 = λ zs. RecoversExchanges was zs db in
          let joined : RecoversExchanges was (front ++ (d, old) ∷ []) db = subst P (sym (append_assoc (served xs) (served before) ((d, old) ∷ []))) all in
          let replied : RecoversExchanges was (front ++ (d, reply_after was front d.command) ∷ []) db = subst P (ap (λ (t : ReplyView). front ++ (d, t) ∷ []) same) joined in
          let Q : List Exchange → Type 0 = λ zs. RecoversExchanges was (zs ++ (d, reply_after was zs d.command) ∷ []) db in
          subst Q (sym (served-append xs before)) replied

      by : RecoversAcknowledged mid new now ys → RecoversAcknowledged old new was (xs ++ ys)
      by (inl leaves) = inl (λ db it. both db (leaves db it))
      by (inr u) = inr (record {
        at = split_later old mid new xs ys passed u.at;
        was_open = u.was_open;
        closed = u.closed;
        first = ap (λ (zs : List Exchange). is_first was.replies zs u.at.exchange.0) (served-append xs u.at.before) ∙ is_first-append was.replies (served xs) (served u.at.before) u.at.exchange.0
            ∙ ap (λ (k : Kept). is_first k (served u.at.before) u.at.exchange.0) (sym leads.kept) ∙ u.first;
        leaves = λ db it. elim (u.leaves db it) [ inl leaves ↦ inl (both db leaves) | inr leaves ↦ inr (with_one u.at.before u.at.exchange.0 db leaves) ];
      })

  -- exchanges with reply 50001 that add no crash state change nothing
  found_still : (old mid new : Service S g) (was : Stored) (xs ys : List Exchange) → served ys ≡ [] → PreservesService mid new (served ys ≡ []) → AddsNoCrashState (state_in mid) (state_in new)
      → RecoversAcknowledged old mid was xs → RecoversAcknowledged old new was (xs ++ ys)
  found_still old mid new was xs ys none keeps no_more found = by found
    where
      still : (db : Trees) → RecoversExchanges was (served xs) db → RecoversExchanges was (served (xs ++ ys)) db
      still db leaves =
          let P : List Exchange → Type 0 = λ zs. RecoversExchanges was zs db in
          let same : served (xs ++ ys) ≡ served xs = served-append xs ys ∙ ap (λ zs. served xs ++ zs) none ∙ append-nil (served xs) in
          subst P (sym same) leaves

      by : RecoversAcknowledged old mid was xs → RecoversAcknowledged old new was (xs ++ ys)
      by (inl leaves) = inl (λ db it. still db (leaves db (no_more db it)))
      by (inr u) = inr (record {
        at = split_still old mid new xs ys none keeps u.at;
        was_open = u.was_open;
        closed = u.closed;
        first = u.first;
        leaves = λ db it. elim (u.leaves db (no_more db it)) [ inl leaves ↦ inl (still db leaves) | inr leaves ↦ inr leaves ];
      })

  -- over an open connection, exchanges are served from the state that the others led to; over a closed one they add no crash state
  pub found_both : (old mid new : Service S g) (was now : Stored) (xs ys : List Exchange) → LeadsTo was (served xs) now → (HasTrueEvidence was → HasTrueEvidence now) → SpellsWhileOpen (state_in mid) now
      → PreservesService old mid (served xs ≡ []) → PreservesService mid new (served ys ≡ []) → HasCleanDisk (state_in new)
      → RecoversAcknowledged old mid was xs → (IsOpenOver (state_in mid) now → RecoversAcknowledged mid new now ys) → RecoversAcknowledged old new was (xs ++ ys)
  found_both old mid new was now xs ys leads stays spells passed keeps clean found later = by (cases_Bool (state_in mid).is_open)
    where
      by : ((state_in mid).is_open ≡ true) ⊎ ((state_in mid).is_open ≡ false) → RecoversAcknowledged old new was (xs ++ ys)
      by (inl is_open) = found_later old mid new was now xs ys passed leads stays (later (spells is_open))
      by (inr is_closed) =
          let it = keeps.closed clean (λ is_open. both_ways _ is_closed is_open) in
          found_still old mid new was xs ys it.0 keeps it.1 found

  -- the same for the next exchange
  pub found_next : (old mid new : Service S g) (xs : List Exchange) (d : Delivery) (reply : ReplyView) (was : Stored) → IsOpenOver (state_in old) was → ServesOver (state_in old) (state_in mid) (served xs)
      → PreservesService old mid (served xs ≡ []) → PreservesService mid new (reply ≡ fault BackendFault) → HasCleanDisk (state_in new) → RecoversAcknowledged old mid was xs
      → ((was : Stored) → IsOpenOver (state_in mid) was → RecoversAcknowledged mid new was ((d, reply) ∷ [])) → RecoversAcknowledged old new was (xs ++ (d, reply) ∷ [])
  found_next old mid new xs d reply was over before passed one clean found once =
      let it = before was (λ _. over) in
      found_both old mid new was it.now xs ((d, reply) ∷ []) it.serves.leads it.stays_true it.spells passed (keeps_one mid new d reply one) clean found (once it.now)

  -- ---- durable exchanges

  -- exchanges with reply 50001, and a service that did nothing
  pub durable_none : (s : Service S g) (was : Stored) (xs : List Exchange) → served xs ≡ [] → RecoversSpelled (state_in s) → ServesDurably s s was was xs
  durable_none s was xs none spelled =
      let Q : List Exchange → Type 0 = λ zs. Serves was zs was in
      record {
        serves = subst Q (sym none) (serves_none was);
        stays_true = λ holds. holds;
        keeps = keeps_still s (served xs ≡ []) none;
        crash = λ over. inl (λ db it.
            let P : List Exchange → Type 0 = λ zs. RecoversExchanges was zs db in
            subst P (sym none) (leaves_none was db (spelled was over db it)));
      }

  -- one delivery
  pub durable_one : (old new : Service S g) (was : Stored) (d : Delivery) (reply : ReplyView) (it : ServesTo was (served ((d, reply) ∷ [])) (state_in new)) → PreservesService old new (reply ≡ fault BackendFault)
      → (IsOpenOver (state_in old) was → RecoversAcknowledged old new was ((d, reply) ∷ [])) → ServesDurably old new was it.now ((d, reply) ∷ [])
  durable_one old new was d reply it keeps crash = record { serves = it.serves; stays_true = it.stays_true; keeps = keeps_one old new d reply keeps; crash = crash }

  -- exchanges after others
  pub durable_both : (old mid new : Service S g) (was between now : Stored) → HasCleanDisk (state_in new) → SpellsWhileOpen (state_in mid) between
      → (xs ys : List Exchange) → ServesDurably old mid was between xs → ServesDurably mid new between now ys → ServesDurably old new was now (xs ++ ys)
  durable_both old mid new was between now clean spells xs ys p q =
      let P : List Exchange → Type 0 = λ zs. Serves was zs now in
      record {
        serves = subst P (sym (served-append xs ys)) (serves-append was between now (served xs) (served ys) p.serves q.serves);
        stays_true = λ holds. q.stays_true (p.stays_true holds);
        keeps = passes_both old mid new xs ys p.keeps q.keeps;
        crash = λ over. found_both old mid new was between xs ys p.serves.leads p.stays_true spells p.keeps q.keeps clean (p.crash over) q.crash;
      }
