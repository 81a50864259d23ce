-- One delivery, and the state after it.
use Rattle.std.proofs.Common.{◌≡◌, ◌≢◌, ℕ, true, false, Bool, not, ◌&&◌, List, [], ◌∷◌, ◌++◌, refl, sym, ap, ◌∙◌, subst, true≢false}
use Rattle.std.specs.Prelude.{Option, Some, None, option_map, is_none, cond, bytes_eq, ◌==◌, if◌then◌else◌}
use Rattle.std.specs.Option.{option_or, option_map_or}
use Rattle.std.specs.Bool.{Decides}
use Rattle.std.proofs.lemmas.Bool.{both_ways}
use Rattle.std.specs.Cmp.Lexicographic.{nat_list_eq_equiv}
use Rattle.std.proofs.lemmas.Bool.Decides.{Decides-eqb}
use Rattle.std.proofs.lemmas.Slice.Eq.{bytes_eq-Decides}
use Rattle.reg_core.specs.declared.code.Code.TheVariants.{KeyReused, BackendFault}
use Rattle.reg_core.specs.CommandTexts.{command_text}
use Rattle.reg_core.specs.declared.command.Command.{Command}
use Rattle.reg_core.specs.Machine.{is_write, step, run_commands}
use Rattle.reg_core.specs.Replies.{ReplyView, IsKeptStatus, IsCommandReply, fault}
use Rattle.reg_core.specs.declared.delivery.Delivery.{Delivery}
use Rattle.reg_core.specs.KeptReplies.{Kept, KeptEntry, kept_with}
use Rattle.reg_core.specs.Stored.{Stored}
use Rattle.reg_core.proofs.UnchangedRegistries.{step-read}
use Rattle.reg_service.specs.Deliveries.{Exchange, key_of, has_key, is_new_key, is_first, firsts, exchange_entry, kept_after, IsDue, Answers, IsEvidenceAfterAll, LeadsTo, Serves, served, is_backend_fault}
use Rattle.reg_service.specs.Inside.Steps.{StepsTo}
use Rattle.reg_service.proofs.JoinedExchanges.{option_or-none, kept_after-nil, serves_none}

off : {A : Type 0} (b : Bool) → b ≡ true → b ≡ false → A
off b t f = absurd (true≢false (sym t ∙ f))

-- a delivery with a key is a write
pub key_of-write : (d : Delivery) (key : List ℕ) → key_of d ≡ Some key → is_write d.command ≡ true
key_of-write d key e = by (is_write d.command) e
  where
    by : (w : Bool) → cond w d.key None ≡ Some key → w ≡ true
    by true h = refl
    by false h = absurd (cc)

-- a delivery without a key is a first delivery exactly if it is a write
pub is_first-keyless : (k : Kept) (before : List Exchange) (d : Delivery) → key_of d ≡ None → is_first k before d ≡ is_write d.command
is_first-keyless k before d e = ap (λ o. is_write d.command && option_map_or (is_new_key k before) o true) e ∙ by (is_write d.command)
  where
    by : (w : Bool) → w && true ≡ w
    by true = refl
    by false = refl

-- a delivery with a key is one exactly if nothing is kept under the key
pub is_first-keyed : (k : Kept) (d : Delivery) (key : List ℕ) → key_of d ≡ Some key → is_first k [] d ≡ is_none (k key)
is_first-keyed k d key e =
    (λ i. key_of-write d key e i && option_map_or (is_new_key k []) (e i) true) ∙ by (is_none (k key))
  where
    by : (b : Bool) → b && true ≡ b
    by true = refl
    by false = refl

-- the reply that is due to a read, or to a write without a key
due_keyless : (was : Stored) (d : Delivery) (reply : ReplyView)
    → key_of d ≡ None → reply ≡ (step was.registry d.command).1 → IsDue was [] d reply
due_keyless was d reply keyless e = record {
  read = λ _. e;
  first = λ _. e;
  again = λ key entry some _ _. absurd (cc);
  other = λ key entry some _ _. absurd (cc);
}

-- the reply that is due if nothing is kept under the key
due_first : (was : Stored) (d : Delivery) (key : List ℕ) (reply : ReplyView)
    → key_of d ≡ Some key → was.replies key ≡ None → reply ≡ (step was.registry d.command).1 → IsDue was [] d reply
due_first was d key reply some new e = record {
  read = λ _. e;
  first = λ _. e;
  again = λ key2 entry some2 has _. absurd (none key2 entry some2 has);
  other = λ key2 entry some2 has _. absurd (none key2 entry some2 has);
}
  where
    none : (key2 : List ℕ) (entry : KeptEntry) → key_of d ≡ Some key2 → kept_after was.replies [] key2 ≡ Some entry → ⊥
    none key2 entry some2 has =
        let same : key ≡ key2 = cc in
        let at : was.replies key2 ≡ Some entry = (λ i. sym (kept_after-nil was.replies) i key2) ∙ has in
        let gone : was.replies key2 ≡ None = ap was.replies (sym same) ∙ new in
        cc

-- the reply that is due if an entry is kept under the key
due_again : (was : Stored) (d : Delivery) (key : List ℕ) (entry : KeptEntry) (reply : ReplyView)
    → key_of d ≡ Some key → was.replies key ≡ Some entry
    → (command_text d.command ≡ entry.command → reply ≡ entry.reply)
    → (command_text d.command ≢ entry.command → reply ≡ fault KeyReused)
    → IsDue was [] d reply
due_again was d key entry reply some has same other = record {
  read = λ f. off (is_write d.command) (key_of-write d key some) f;
  first = λ f. off (is_first was.replies [] d) f (is_first-keyed was.replies d key some ∙ ap is_none has);
  again = λ key2 entry2 some2 has2 text. let e : entry ≡ entry2 = one key2 entry2 some2 has2 in
      same (text ∙ ap (λ (x : KeptEntry). x.command) (sym e)) ∙ ap (λ (x : KeptEntry). x.reply) e;
  other = λ key2 entry2 some2 has2 text. let e : entry ≡ entry2 = one key2 entry2 some2 has2 in
      other (λ h. text (h ∙ ap (λ (x : KeptEntry). x.command) e));
}
  where
    one : (key2 : List ℕ) (entry2 : KeptEntry) → key_of d ≡ Some key2 → kept_after was.replies [] key2 ≡ Some entry2 → entry ≡ entry2
    one key2 entry2 some2 has2 =
        let e : key ≡ key2 = cc in
        let at : was.replies key2 ≡ Some entry2 = (λ i. sym (kept_after-nil was.replies) i key2) ∙ has2 in
        let f : was.replies key ≡ was.replies key2 = ap was.replies e in cc

-- the entry that a write leaves under its key
pub kept_after-keyed : (k : Kept) (d : Delivery) (reply : ReplyView) (key q : List ℕ) → key_of d ≡ Some key → k key ≡ None
    → kept_after k ((d, reply) ∷ []) q ≡ (if bytes_eq key q then Some (record { command = command_text d.command; reply = reply }) else k q)
kept_after-keyed k d reply key q some new =
    (λ i. option_or (k q) (option_map exchange_entry (cond (test i) (Some (d, reply)) None))) ∙ by (bytes_eq key q) (bytes_eq-Decides key q)
  where
    test : has_key q d ≡ bytes_eq key q
    test = ap (λ o. option_map_or (bytes_eq q) o false) some ∙ nat_list_eq_equiv.symm q key

    by : (b : Bool) → Decides b (key ≡ q)
        → option_or (k q) (option_map exchange_entry (cond b (Some (d, reply)) None)) ≡ (if b then Some (record { command = command_text d.command; reply = reply }) else k q)
    by true same = ap (λ o. option_or o (Some (record { command = command_text d.command; reply = reply }))) (ap k (sym (same.0 refl)) ∙ new)
    by false differs = option_or-none (k q)

-- a delivery without a key, or with a known one, leaves no entry
pub kept_after-known : (k : Kept) (d : Delivery) (reply : ReplyView) → ((key : List ℕ) → key_of d ≡ Some key → is_none (k key) ≡ false)
    → kept_after k ((d, reply) ∷ []) ≡ k
kept_after-known k d reply known = λ i q. at (key_of d) known q (k q) refl i
  where
    test : (b : Bool) → b ≡ false → option_map exchange_entry (cond b (Some (d, reply)) None) ≡ None
    test b e = ap (λ (c : Bool). option_map exchange_entry (cond c (Some (d, reply)) None)) e

    differs : (q key : List ℕ) (b : Bool) → Decides b (q ≡ key) → is_none (k key) ≡ false → k q ≡ None → b ≡ false
    differs q key true same old none = off (is_none (k key)) (ap is_none (ap k (sym (same.0 refl)) ∙ none)) old
    differs q key false same old none = refl

    at : (own : Option (List ℕ)) → ((key : List ℕ) → own ≡ Some key → is_none (k key) ≡ false) → (q : List ℕ) (o : Option KeptEntry) → k q ≡ o
        → option_or o (option_map exchange_entry (cond (option_map_or (bytes_eq q) own false) (Some (d, reply)) None)) ≡ o
    at own old q (Some entry) e = refl
    at None old q None e = refl
    at (Some key) old q None e = test (bytes_eq q key) (differs q key (bytes_eq q key) (bytes_eq-Decides q key) (old key refl) e)

-- the first deliveries of a list of one
firsts-one : (k : Kept) (d : Delivery) (reply : ReplyView) (b : Bool) → is_first k [] d ≡ b → firsts k ((d, reply) ∷ []) ≡ (if b then d.command ∷ [] else [])
firsts-one k d reply b e = ap (λ (t : Bool). (if t then d.command ∷ [] else []) ++ []) e ∙ by b
  where
    by : (t : Bool) → (if t then d.command ∷ [] else []) ++ [] ≡ (if t then d.command ∷ [] else [])
    by true = refl
    by false = refl

-- a first delivery leads to the state after its command, if its reply is kept as it is due
pub leads_first : (was now : Stored) (d : Delivery) (reply : ReplyView) → is_first was.replies [] d ≡ true → StepsTo was d.command now
    → now.replies ≡ kept_after was.replies ((d, reply) ∷ []) → LeadsTo was ((d, reply) ∷ []) now
leads_first was now d reply first steps kept =
    let one = firsts-one was.replies d reply true first in
    record {
      registry = steps.registry ∙ ap (run_commands was.registry) (sym one);
      kept = kept;
      evidence = subst (λ (cs : List Command). IsEvidenceAfterAll was.registry cs was.evidence now.evidence) (sym one) (now.evidence, steps.evidence, refl);
    }

-- a later delivery leads nowhere
leads_still : (was : Stored) (d : Delivery) (reply : ReplyView) → is_first was.replies [] d ≡ false
    → kept_after was.replies ((d, reply) ∷ []) ≡ was.replies → LeadsTo was ((d, reply) ∷ []) was
leads_still was d reply later kept =
    let none = firsts-one was.replies d reply false later in
    record {
      registry = ap (run_commands was.registry) (sym none);
      kept = sym kept;
      evidence = subst (λ (cs : List Command). IsEvidenceAfterAll was.registry cs was.evidence was.evidence) (sym none) refl;
    }

-- a read changes nothing of the stored state
pub steps_nowhere : (was now : Stored) (c : Command) → is_write c ≡ false → StepsTo was c now → now.replies ≡ was.replies → now ≡ was
steps_nowhere was now c read steps kept =
    λ i. record { registry = (steps.registry ∙ step-read was.registry c read) i; replies = kept i; evidence = steps.read read i }

serves_one : (was now : Stored) (d : Delivery) (reply : ReplyView) → LeadsTo was ((d, reply) ∷ []) now → IsDue was [] d reply → Serves was ((d, reply) ∷ []) now
serves_one was now d reply leads due = record { leads = leads; replies = alone }
  where
    alone : Answers was ((d, reply) ∷ [])
    alone [] x after e =
        let h : (d, reply) ≡ x = cc in
        subst (λ (y : Exchange). IsDue was [] y.0 y.1) h due
    alone (b ∷ []) x after e = absurd (cc)
    alone (b ∷ c ∷ before) x after e = absurd (cc)

-- a reply with another status than 500 isn't 50001
not_backend_fault : (reply : ReplyView) → reply.status ≢ 500 → is_backend_fault reply ≡ false
not_backend_fault reply differs = by (reply.status == 500) (Decides-eqb reply.status 500)
  where
    by : (b : Bool) → Decides b (reply.status ≡ 500) → b && bytes_eq reply.body (fault BackendFault).body ≡ false
    by true same = absurd (differs (same.0 refl))
    by false same = refl

-- nor is a reply of the registry's own
pub no_backend_fault : (reply : ReplyView) → IsCommandReply reply → reply.status ≢ 500
no_backend_fault reply own is = both_ways _ refl (subst IsKeptStatus is own.kept)

-- A read, or a write without a key, is executed.
pub serves_keyless : (was now : Stored) (d : Delivery) (reply : ReplyView) → key_of d ≡ None → reply ≡ (step was.registry d.command).1 → reply.status ≢ 500
    → StepsTo was d.command now → now.replies ≡ was.replies → Serves was (served ((d, reply) ∷ [])) now
serves_keyless was now d reply keyless e ok steps kept =
    rw (not_backend_fault reply ok) (serves_one was now d reply (by (is_write d.command) refl) (due_keyless was d reply keyless e))
  where
    nothing : kept_after was.replies ((d, reply) ∷ []) ≡ was.replies
    nothing = kept_after-known was.replies d reply (λ key some. absurd (let none : None ≡ Some key = sym keyless ∙ some in cc))

    by : (w : Bool) → is_write d.command ≡ w → LeadsTo was ((d, reply) ∷ []) now
    by true write = leads_first was now d reply (is_first-keyless was.replies [] d keyless ∙ write) steps (kept ∙ sym nothing)
    by false read =
        let P : Stored → Type 0 = λ s. LeadsTo was ((d, reply) ∷ []) s in
        subst P (sym (steps_nowhere was now d.command read steps kept)) (leads_still was d reply (is_first-keyless was.replies [] d keyless ∙ read) nothing)

-- the entry of a first delivery is what it leaves
pub kept_first : (k : Kept) (d : Delivery) (key : List ℕ) (reply : ReplyView) → key_of d ≡ Some key → k key ≡ None
    → kept_with k key (record { command = command_text d.command; reply = reply }) ≡ kept_after k ((d, reply) ∷ [])
kept_first k d key reply some new = λ i q. sym (kept_after-keyed k d reply key q some new) i

-- The first delivery of a key is executed, and its reply is kept.
pub serves_first : (was now : Stored) (d : Delivery) (key : List ℕ) (reply : ReplyView)
    → key_of d ≡ Some key → was.replies key ≡ None → reply ≡ (step was.registry d.command).1 → reply.status ≢ 500 → StepsTo was d.command now
    → now.replies ≡ kept_with was.replies key (record { command = command_text d.command; reply = reply }) → Serves was (served ((d, reply) ∷ [])) now
serves_first was now d key reply some new e ok steps kept =
    rw (not_backend_fault reply ok)
    (serves_one was now d reply
    (leads_first was now d reply (is_first-keyed was.replies d key some ∙ ap is_none new) steps (kept ∙ kept_first was.replies d key reply some new))
    (due_first was d key reply some new e))

-- A later delivery of a key changes nothing.
pub serves_again : (was : Stored) (d : Delivery) (key : List ℕ) (entry : KeptEntry) (reply : ReplyView)
    → key_of d ≡ Some key → was.replies key ≡ Some entry
    → (command_text d.command ≡ entry.command → reply ≡ entry.reply)
    → (command_text d.command ≢ entry.command → reply ≡ fault KeyReused)
    → Serves was (served ((d, reply) ∷ [])) was
serves_again was d key entry reply some has same other = by (is_backend_fault reply)
  where
    old : (key2 : List ℕ) → key_of d ≡ Some key2 → is_none (was.replies key2) ≡ false
    old key2 some2 = let e : key ≡ key2 = cc in ap is_none (ap was.replies (sym e) ∙ has)

    by : (b : Bool) → Serves was (cond (not b) ((d, reply) ∷ []) []) was
    by true = serves_none was
    by false = serves_one was was d reply
        (leads_still was d reply (is_first-keyed was.replies d key some ∙ ap is_none has) (kept_after-known was.replies d reply old))
        (due_again was d key entry reply some has same other)

-- an exchange with reply 50001 isn't served
pub served_fault : (d : Delivery) (reply : ReplyView) → reply ≡ fault BackendFault → served ((d, reply) ∷ []) ≡ []
served_fault d reply e =
    let is : is_backend_fault reply ≡ true = ap is_backend_fault e ∙ (bytes_eq-Decides (fault BackendFault).body (fault BackendFault).body).1 refl in
    ap (λ (b : Bool). cond (not b) ((d, reply) ∷ []) []) is

-- A delivery that got 50001.
pub serves_refused : (was : Stored) (d : Delivery) (reply : ReplyView) → reply ≡ fault BackendFault → Serves was (served ((d, reply) ∷ [])) was
serves_refused was d reply e =
    let P : List Exchange → Type 0 = λ xs. Serves was xs was in
    subst P (sym (served_fault d reply e)) (serves_none was)
