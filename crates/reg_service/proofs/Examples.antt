-- The definitions on a few short lists.
use Rattle.std.proofs.Common.{◌≡◌, inl, inr, ℕ, List, [], ◌∷◌, ◌++◌, refl, ap, ◌∙◌, get_or, arith}
use Rattle.std.proofs.lemmas.Bool.{eqb-false}
use Rattle.std.specs.Prelude.{Some, None, unwrap_or, codes}
use Rattle.std.specs.FinMap.{get}
use Rattle.sqlite.specs.Tree.{Trees}
use Rattle.sqlite_trees.specs.declared.store.Store.{Ghosts}
use Rattle.reg_core.specs.declared.code.Code.TheVariants.{InvalidLevel, KeyReused, BackendFault}
use Rattle.reg_core.specs.declared.command.Command.{Command}
use Rattle.reg_core.specs.declared.command.Command.TheVariants.{SetGlobal, SetLevel, Global}
use Rattle.reg_core.specs.CommandTexts.{command_text}
use Rattle.reg_core.specs.Machine.{subject_of, step}
use Rattle.reg_core.specs.Registry.{Registry, RowKey, Version}
use Rattle.reg_core.specs.Replies.{ReplyView, fault, success}
use Rattle.reg_core.proofs.CommandTextLemmas.{command_text-injective}
use Rattle.reg_core.specs.declared.delivery.Delivery.{Delivery}
use Rattle.reg_core.specs.KeptReplies.{nothing_kept}
use Rattle.reg_core.specs.Evidence.{EvidenceMap, next_evidence, kept_or_new}
use Rattle.reg_core.specs.Stored.{Stored}
use Rattle.reg_service.specs.declared.service.Service.{Service}
use Rattle.reg_service.specs.Deliveries.{Exchange, firsts, exchange_entry, kept_after, served, IsEvidenceAfterAll, IsDue}
use Rattle.reg_service.specs.Services.{state_in}
use Rattle.reg_service.specs.Crashes.{RecoversExchanges, RecoversAcknowledged}

abbrev full : Command
full = SetGlobal (codes "FULL")

abbrev none : Command
none = SetGlobal (codes "NONE")

abbrev unknown : Command
unknown = SetGlobal (codes "full")

abbrev keyed : List ℕ → Command → Delivery
keyed key command = record { key = Some key; command = command }

abbrev keyless : Command → Delivery
keyless command = record { key = None; command = command }

abbrev done : ReplyView
done = success (codes "{\"compatibility\":\"FULL\"}")

-- a retry isn't a first delivery
repeat_is_not_first : firsts nothing_kept ((keyed (codes "k1") full, done) ∷ (keyed (codes "k1") full, done) ∷ []) ≡ full ∷ []
repeat_is_not_first = refl

-- nor is another command under the same key
mismatch_is_not_first : firsts nothing_kept ((keyed (codes "k1") full, done) ∷ (keyed (codes "k1") none, fault KeyReused) ∷ []) ≡ full ∷ []
mismatch_is_not_first = refl

-- and it leaves the kept reply as it is
mismatch_is_not_kept : kept_after nothing_kept ((keyed (codes "k1") full, done) ∷ (keyed (codes "k1") none, fault KeyReused) ∷ []) (codes "k1")
    ≡ Some (exchange_entry (keyed (codes "k1") full, done))
mismatch_is_not_kept = refl

-- two keys are independent, however their deliveries mix
keys_are_apart : firsts nothing_kept ((keyed (codes "a") full, done) ∷ (keyed (codes "b") none, done) ∷ (keyed (codes "a") full, done)
    ∷ (keyed (codes "b") none, done) ∷ []) ≡ full ∷ none ∷ []
keys_are_apart = refl

-- every write without a key is a first delivery
keyless_counts_anew : firsts nothing_kept ((keyless full, done) ∷ (keyless full, done) ∷ []) ≡ full ∷ full ∷ []
keyless_counts_anew = refl

-- the key of a read is ignored
key_of_read_is_ignored : firsts nothing_kept ((keyed (codes "k1") Global, done) ∷ (keyed (codes "k1") full, done) ∷ []) ≡ full ∷ []
key_of_read_is_ignored = refl

-- a key that was kept before the list has no first delivery in it
kept_key_is_not_first : firsts (kept_after nothing_kept ((keyed (codes "k1") full, done) ∷ [])) ((keyed (codes "k1") full, done) ∷ []) ≡ []
kept_key_is_not_first = refl

abbrev keeps_nothing : Registry → EvidenceMap → Stored
keeps_nothing g evidence = record { registry = g; replies = nothing_kept; evidence = evidence }

-- an error is a first reply too: the retry gets it, whichever commands came between
refusal_is_kept : (g : Registry) (evidence : EvidenceMap) (reply : ReplyView)
    → IsDue (keeps_nothing g evidence) ((keyed (codes "k5") unknown, fault InvalidLevel) ∷ (keyless full, done) ∷ []) (keyed (codes "k5") unknown) reply
    → reply ≡ fault InvalidLevel
refusal_is_kept g evidence reply due = due.again (codes "k5") (exchange_entry (keyed (codes "k5") unknown, fault InvalidLevel)) refl refl refl

abbrev full_of_s : Command
full_of_s = SetLevel (codes "s") (codes "FULL")

abbrev full_of_t : Command
full_of_t = SetLevel (codes "t") (codes "FULL")

other_texts : command_text full_of_t ≡ command_text full_of_s → ⊥
other_texts e =
    let same : full_of_t ≡ full_of_s = command_text-injective full_of_t full_of_s refl refl e in
    eqb-false 116 115 refl (ap (λ (command : Command). get_or (unwrap_or (subject_of command) []) 0 0) same)

-- a key that set one subject's level, with another subject: 42290
other_subject_is_refused : (g : Registry) (evidence : EvidenceMap) (reply : ReplyView)
    → IsDue (keeps_nothing g evidence) ((keyed (codes "k1") full_of_s, done) ∷ []) (keyed (codes "k1") full_of_t) reply → reply ≡ fault KeyReused
other_subject_is_refused g evidence reply due = due.other (codes "k1") (exchange_entry (keyed (codes "k1") full_of_s, done)) refl refl other_texts

-- a version that a command adds has the level and the ids that the registry named for it, and nothing else
addition_is_admitted_by : (g : Registry) (c : Command) (old new : EvidenceMap) (key : RowKey) (version : Version) → IsEvidenceAfterAll g (c ∷ []) old new
    → get g.rows key ≡ None → get (step g c).0.rows key ≡ Some version → get new key ≡ Some (next_evidence g key.0)
addition_is_admitted_by g c old new key version (mid, becomes, same) none there =
    ap (λ (e : EvidenceMap). get e key) same ∙ becomes key ∙ (λ i. kept_or_new (none i) (there i) (get old key) (next_evidence g key.0))

-- a version that a command doesn't touch keeps its evidence
old_one_is_admitted_by : (g : Registry) (c : Command) (old new : EvidenceMap) (key : RowKey) (before after : Version) → IsEvidenceAfterAll g (c ∷ []) old new
    → get g.rows key ≡ Some before → get (step g c).0.rows key ≡ Some after → get new key ≡ get old key
old_one_is_admitted_by g c old new key before after (mid, becomes, same) was there =
    ap (λ (e : EvidenceMap). get e key) same ∙ becomes key ∙ (λ i. kept_or_new (was i) (there i) (get old key) (next_evidence g key.0))

-- an acknowledged exchange is preserved: no delivery was in progress then
answered_stays : {S : Type 0} {g : Ghosts S} (old new : Service S g) (was : Stored) (d : Delivery) (body : List ℕ) → RecoversAcknowledged old new was ((d, success body) ∷ [])
    → (db : Trees) → (state_in new).may_leave db → RecoversExchanges was ((d, success body) ∷ []) db
answered_stays old new was d body (inl leaves) db it = leaves db it
answered_stays old new was d body (inr u) db it = absurd (none u.at.before u.at.split)
  where
    no_more : (before : List Exchange) (x : Exchange) (after : List Exchange) → [] ≡ before ++ x ∷ after → ⊥
    no_more [] x after e = absurd (cc)
    no_more (b ∷ before) x after e = absurd (cc)

    none : (before : List Exchange) → (d, success body) ∷ [] ≡ before ++ u.at.exchange ∷ u.at.after → ⊥
    none [] e = let nothing : (d, success body) ∷ [] ≡ [] = ap served e ∙ u.at.unserved in absurd (cc)
    none (b ∷ before) e = let rest : [] ≡ before ++ u.at.exchange ∷ u.at.after = cc in no_more before u.at.exchange u.at.after rest
