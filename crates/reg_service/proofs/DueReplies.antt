-- The same key and the same command get the same reply.
use Rattle.std.proofs.Common.{◌≡◌, ◌≢◌, ℕ, true, false, Bool, List, [], ◌∷◌, ◌++◌, refl, sym, ap, ◌∙◌, subst, map, ◌&&◌, append_assoc, true≢false, ◌⊎◌, inl, inr, ⊎_elim}
use Rattle.std.specs.Prelude.{Option, Some, None, find, option_map, is_none, cond, bytes_eq}
use Rattle.std.specs.Option.{option_or, option_map_or}
use Rattle.std.specs.Bool.{Decides}
use Rattle.std.proofs.lemmas.Slice.Eq.{bytes_eq-Decides}
use Rattle.reg_core.specs.CommandTexts.{command_text}
use Rattle.reg_core.specs.Machine.{is_write}
use Rattle.reg_core.specs.Replies.{ReplyView}
use Rattle.reg_core.specs.declared.delivery.Delivery.{Delivery}
use Rattle.reg_core.specs.KeptReplies.{Kept, KeptEntry}
use Rattle.reg_core.specs.Stored.{Stored}
use Rattle.reg_service.specs.Deliveries.{Exchange, key_of, has_key, exchange_entry, kept_after, is_first, is_new_key, IsDue, Answers, RepeatsAgree, NoOtherAnswers}
use Rattle.reg_service.proofs.JoinedExchanges.{kept_after-append, is_none-kept_after}

-- two texts are equal, or they aren't
same_or_other : (a b : List ℕ) → (a ≡ b) ⊎ (a ≢ b)
same_or_other a b = by (bytes_eq a b) (bytes_eq-Decides a b)
  where
    by : (t : Bool) → Decides t (a ≡ b) → (a ≡ b) ⊎ (a ≢ b)
    by true d = inl (d.0 refl)
    by false d = inr (λ e. true≢false (sym (d.1 e)))

-- a kept entry stays
kept_stays : (k : Kept) (xs : List Exchange) (key : List ℕ) (entry : KeptEntry) → k key ≡ Some entry → kept_after k xs key ≡ Some entry
kept_stays k xs key entry e = ap (λ o. option_or o (option_map exchange_entry (find (λ x. has_key key x.0) xs))) e

-- a write whose key is unused leaves its own entry
kept_here : (k : Kept) (x : Exchange) (xs : List Exchange) (key : List ℕ) → key_of x.0 ≡ Some key → k key ≡ None
    → kept_after k (x ∷ xs) key ≡ Some (exchange_entry x)
kept_here k x xs key some none =
    let found : has_key key x.0 ≡ true = ap (λ o. option_map_or (bytes_eq key) o false) some ∙ (bytes_eq-Decides key key).1 refl in
    λ i. option_or (none i) (option_map exchange_entry (cond (found i) (Some x) (find (λ y. has_key key y.0) xs)))

-- of two writes with one key and one command, the second gets the first reply, or both get 42290
pub repeats_agree : (was : Stored) (xs : List Exchange) → Answers was xs → RepeatsAgree xs
repeats_agree was xs due before x between y after key e some_x some_y text = by (kept_after k before key) refl
  where
    k : Kept
    k = was.replies

    due_x : IsDue was before x.0 x.1
    due_x = due before x (between ++ y ∷ after) e

    due_y : IsDue was (before ++ x ∷ between) y.0 y.1
    due_y = due (before ++ x ∷ between) y after (e ∙ sym (append_assoc before (x ∷ between) (y ∷ after)))

    then : kept_after k (before ++ x ∷ between) key ≡ kept_after (kept_after k before) (x ∷ between) key
    then = λ i. kept_after-append k before (x ∷ between) i key

    by : (o : Option KeptEntry) → kept_after k before key ≡ o → x.1 ≡ y.1
    by None none = sym (due_y.again key (exchange_entry x) some_y (then ∙ kept_here (kept_after k before) x between key some_x none) (sym text))
    by (Some entry) has =
        let later : kept_after k (before ++ x ∷ between) key ≡ Some entry = then ∙ kept_stays (kept_after k before) (x ∷ between) key entry has in
        ⊎_elim
        (λ (s : command_text x.0.command ≡ entry.command). due_x.again key entry some_x has s ∙ sym (due_y.again key entry some_y later (sym text ∙ s)))
        (λ (s : command_text x.0.command ≢ entry.command). due_x.other key entry some_x has s ∙ sym (due_y.other key entry some_y later (λ r. s (text ∙ r))))
        (same_or_other (command_text x.0.command) entry.command)

-- a write that isn't a first delivery has a key with a kept reply
known : (k : Kept) (before : List Exchange) (d : Delivery) → is_write d.command ≡ true → is_first k before d ≡ false
    → (key : List ℕ) × (entry : KeptEntry) × (key_of d ≡ Some key) × (kept_after k before key ≡ Some entry)
known k before d write later = by (key_of d) refl
  where
    new : (o : Option (List ℕ)) → key_of d ≡ o → option_map_or (is_new_key k before) o true ≡ false
    new o e = (λ i. sym write i && option_map_or (is_new_key k before) (sym e i) true) ∙ later

    at : (key : List ℕ) (o : Option KeptEntry) → key_of d ≡ Some key → kept_after k before key ≡ o
        → (key : List ℕ) × (entry : KeptEntry) × (key_of d ≡ Some key) × (kept_after k before key ≡ Some entry)
    at key (Some entry) some has = (key, entry, some, has)
    at key None some none = absurd (true≢false (sym (sym (is_none-kept_after k before key) ∙ ap is_none none) ∙ new (Some key) some))

    by : (o : Option (List ℕ)) → key_of d ≡ o
        → (key : List ℕ) × (entry : KeptEntry) × (key_of d ≡ Some key) × (kept_after k before key ≡ Some entry)
    by None none = absurd (true≢false (new None none))
    by (Some key) some = at key (kept_after k before key) some refl

-- only one reply is due
pub due_unique : (was : Stored) (before : List Exchange) (d : Delivery) (p q : ReplyView)
    → IsDue was before d p → IsDue was before d q → p ≡ q
due_unique was before d p q x y = by (is_write d.command) (is_first was.replies before d) refl refl
  where
    repeat : (key : List ℕ) × (entry : KeptEntry) × (key_of d ≡ Some key) × (kept_after was.replies before key ≡ Some entry) → p ≡ q
    repeat (key, entry, some, has) = ⊎_elim
        (λ (s : command_text d.command ≡ entry.command). x.again key entry some has s ∙ sym (y.again key entry some has s))
        (λ (s : command_text d.command ≢ entry.command). x.other key entry some has s ∙ sym (y.other key entry some has s))
        (same_or_other (command_text d.command) entry.command)

    by : (write first : Bool) → is_write d.command ≡ write → is_first was.replies before d ≡ first → p ≡ q
    by false first w f = x.read w ∙ sym (y.read w)
    by true true w f = x.first f ∙ sym (y.first f)
    by true false w f = repeat (known was.replies before d w f)

-- only these replies are due to the rest of a list
no_other_after : (was : Stored) (before xs ys : List Exchange) → Answers was (before ++ xs) → Answers was (before ++ ys)
    → map (λ y. y.0) ys ≡ map (λ x. x.0) xs → ys ≡ xs
no_other_after was before [] [] p q e = refl
no_other_after was before [] (y ∷ ys) p q e = absurd (cc)
no_other_after was before (x ∷ xs) [] p q e = absurd (cc)
no_other_after was before (x ∷ xs) (y ∷ ys) p q e =
    let d : y.0 ≡ x.0 = cc in
    let reply : y.1 ≡ x.1 = due_unique was before x.0 y.1 x.1 (subst (λ d. IsDue was before d y.1) d (q before y ys refl)) (p before x xs refl) in
    let same : y ≡ x = λ i. (d i, reply i) in
    let rest : ys ≡ xs = no_other_after was (before ++ x ∷ []) xs ys
    (subst (Answers was) (sym (append_assoc before (x ∷ []) xs)) p)
    (subst (Answers was) (ap (λ z. before ++ z ∷ ys) same ∙ sym (append_assoc before (x ∷ []) ys)) q) (cc) in
    λ i. same i ∷ rest i

-- only these replies are due to these deliveries
pub no_other_answers : (was : Stored) (xs : List Exchange) → Answers was xs → NoOtherAnswers was xs
no_other_answers was xs p ys e q = no_other_after was [] xs ys p q e
