-- Exchanges that follow others are served from the state that the others led to.
use Rattle.std.proofs.Common.{◌≡◌, ℕ, true, false, Bool, not, ◌&&◌, ◌||◌, List, [], ◌∷◌, ◌++◌, refl, sym, ap, ◌∙◌, subst, append_assoc, ◌⊎◌, inl, inr, ⊎_elim}
use Rattle.std.specs.Prelude.{Option, Some, None, find, option_map, is_none, cond, if◌then◌else◌}
use Rattle.std.specs.List.{list_any}
use Rattle.std.specs.Option.{option_or, option_map_or}
use Rattle.std.proofs.lemmas.List.{append-nil}
use Rattle.std.proofs.lemmas.List.Folds.{find-append, list_any-append}
use Rattle.reg_core.specs.declared.command.Command.{Command}
use Rattle.reg_core.specs.Machine.{is_write, step, run_commands}
use Rattle.reg_core.specs.Registry.{Registry}
use Rattle.reg_core.specs.declared.delivery.Delivery.{Delivery}
use Rattle.reg_core.specs.KeptReplies.{Kept}
use Rattle.reg_core.specs.Evidence.{EvidenceMap}
use Rattle.reg_core.specs.Stored.{Stored}
use Rattle.reg_service.specs.Deliveries.{Exchange, key_of, has_key, is_new_key, is_first, firsts_after, firsts, exchange_entry, kept_after, reply_after, IsDue, Answers, IsEvidenceAfterAll, LeadsTo, Serves}

option_or_assoc : {A : Type 0} (a b c : Option A) → option_or (option_or a b) c ≡ option_or a (option_or b c)
option_or_assoc (Some a) b c = refl
option_or_assoc None b c = refl

option_map-or : {A B : Type 0} (f : A → B) (a b : Option A) → option_map f (option_or a b) ≡ option_or (option_map f a) (option_map f b)
option_map-or f (Some a) b = refl
option_map-or f None b = refl

pub option_or-none : {A : Type 0} (o : Option A) → option_or o None ≡ o
option_or-none (Some a) = refl
option_or-none None = refl

-- without exchanges nothing more is kept
pub kept_after-nil : (k : Kept) → kept_after k [] ≡ k
kept_after-nil k = λ i key. option_or-none (k key) i

kept_at : (k : Kept) (xs ys : List Exchange) (key : List ℕ) → kept_after k (xs ++ ys) key ≡ kept_after (kept_after k xs) ys key
kept_at k xs ys key =
    let p = λ (x : Exchange). has_key key x.0 in
    ap (λ o. option_or (k key) (option_map exchange_entry o)) (find-append p xs ys)
    ∙ (ap (option_or (k key)) (option_map-or exchange_entry (find p xs) (find p ys))
    ∙ sym (option_or_assoc (k key) (option_map exchange_entry (find p xs)) (option_map exchange_entry (find p ys))))

-- the replies kept after both lists are those of the second after the first
pub kept_after-append : (k : Kept) (xs ys : List Exchange) → kept_after k (xs ++ ys) ≡ kept_after (kept_after k xs) ys
kept_after-append k xs ys = λ i key. kept_at k xs ys key i

-- `find` returns `None` exactly if no element passes
is_none-find : {A B : Type 0} (f : A → B) (p : A → Bool) (xs : List A) → is_none (option_map f (find p xs)) ≡ not (list_any p xs)
is_none-find f p [] = refl
is_none-find {A} f p (x ∷ xs) = by (p x) (is_none-find f p xs)
  where
    by : (b : Bool) → is_none (option_map f (find p xs)) ≡ not (list_any p xs)
        → is_none (option_map f (cond b (Some x) (find p xs))) ≡ not (b || list_any p xs)
    by true e = refl
    by false e = e

is_none-or : {A : Type 0} (a b : Option A) → is_none (option_or a b) ≡ is_none a && is_none b
is_none-or (Some a) b = refl
is_none-or None b = refl

not-or : (a b c : Bool) → a && not (b || c) ≡ (a && not b) && not c
not-or true true c = refl
not-or true false c = refl
not-or false b c = refl

-- a key is new exactly if nothing is kept under it at that time
pub is_none-kept_after : (k : Kept) (xs : List Exchange) (key : List ℕ) → is_none (kept_after k xs key) ≡ is_new_key k xs key
is_none-kept_after k xs key =
    let p = λ (x : Exchange). has_key key x.0 in
    is_none-or (k key) (option_map exchange_entry (find p xs)) ∙ ap (λ b. is_none (k key) && b) (is_none-find exchange_entry p xs)

-- a key is new after both lists if it is new to the second after the first
is_new_key-append : (k : Kept) (xs ys : List Exchange) (key : List ℕ) → is_new_key k (xs ++ ys) key ≡ is_new_key (kept_after k xs) ys key
is_new_key-append k xs ys key =
    let p = λ (x : Exchange). has_key key x.0 in
    ap (λ b. is_none (k key) && not b) (list_any-append p xs ys)
    ∙ (not-or (is_none (k key)) (list_any p xs) (list_any p ys)
    ∙ ap (λ b. b && not (list_any p ys)) (sym (is_none-kept_after k xs key)))

-- the same for a first delivery
pub is_first-append : (k : Kept) (xs ys : List Exchange) (d : Delivery) → is_first k (xs ++ ys) d ≡ is_first (kept_after k xs) ys d
is_first-append k xs ys d = ap (λ b. is_write d.command && b) (by (key_of d))
  where
    by : (o : Option (List ℕ)) → option_map_or (is_new_key k (xs ++ ys)) o true ≡ option_map_or (is_new_key (kept_after k xs) ys) o true
    by None = refl
    by (Some key) = is_new_key-append k xs ys key

-- earlier exchanges can be counted as kept replies
firsts-shift : (k : Kept) (front before xs : List Exchange) → firsts_after k (front ++ before) xs ≡ firsts_after (kept_after k front) before xs
firsts-shift k front before [] = refl
firsts-shift k front before (x ∷ xs) =
    let one = ap (λ (b : Bool). if b then x.0.command ∷ [] else []) (is_first-append k front before x.0) in
    let rest = ap (λ (ys : List Exchange). firsts_after k ys xs) (append_assoc front before (x ∷ []))
    ∙ firsts-shift k front (before ++ x ∷ []) xs in
    λ i. one i ++ rest i

-- the first deliveries of a rest in two parts
firsts_after-append : (k : Kept) (before xs ys : List Exchange)
    → firsts_after k before (xs ++ ys) ≡ firsts_after k before xs ++ firsts_after k (before ++ xs) ys
firsts_after-append k before [] ys = ap (λ zs. firsts_after k zs ys) (sym (append-nil before))
firsts_after-append k before (x ∷ xs) ys =
    let one = if is_first k before x.0 then x.0.command ∷ [] else [] in
    let rest = firsts_after-append k (before ++ x ∷ []) xs ys in
    let seam = ap (λ (zs : List Exchange). firsts_after k zs ys) (append_assoc before (x ∷ []) xs) in
    ap (λ cs. one ++ cs) rest
    ∙ (sym (append_assoc one (firsts_after k (before ++ x ∷ []) xs) _)
    ∙ ap (λ cs. (one ++ firsts_after k (before ++ x ∷ []) xs) ++ cs) seam)

-- the first deliveries of both lists are those of the first, and those of the second after the replies kept by then
pub firsts-append : (k : Kept) (xs ys : List Exchange) → firsts k (xs ++ ys) ≡ firsts k xs ++ firsts (kept_after k xs) ys
firsts-append k xs ys =
    firsts_after-append k [] xs ys
    ∙ ap (λ cs. firsts k xs ++ cs)
    (ap (λ (zs : List Exchange). firsts_after k zs ys) (sym (append-nil xs)) ∙ firsts-shift k xs [] ys)

-- commands in two parts
pub run_commands-append : (g : Registry) (a b : List Command) → run_commands g (a ++ b) ≡ run_commands (run_commands g a) b
run_commands-append g [] b = refl
run_commands-append g (c ∷ a) b = run_commands-append (step g c).0 a b

-- the registry after both
pub registry-append : (g : Registry) (k : Kept) (xs ys : List Exchange)
    → run_commands g (firsts k (xs ++ ys)) ≡ run_commands (run_commands g (firsts k xs)) (firsts (kept_after k xs) ys)
registry-append g k xs ys = ap (run_commands g) (firsts-append k xs ys) ∙ run_commands-append g (firsts k xs) (firsts (kept_after k xs) ys)

-- evidence after commands in two parts
admitted-append : (g : Registry) (a b : List Command) (old mid new : EvidenceMap)
    → IsEvidenceAfterAll g a old mid → IsEvidenceAfterAll (run_commands g a) b mid new → IsEvidenceAfterAll g (a ++ b) old new
admitted-append g [] b old mid new p q = subst (λ (had : EvidenceMap). IsEvidenceAfterAll g b had new) p q
admitted-append g (c ∷ a) b old mid new p q = (p.0, p.1, admitted-append (step g c).0 a b p.0 mid new p.2 q)

-- the stored state after exchanges, with this evidence
abbrev pub led : Stored → List Exchange → EvidenceMap → Stored
led was xs evidence = record { registry = run_commands was.registry (firsts was.replies xs); replies = kept_after was.replies xs; evidence = evidence }

-- exchanges lead to that state
pub is_led : (was now : Stored) (xs : List Exchange) → LeadsTo was xs now → now ≡ led was xs now.evidence
is_led was now xs h = λ i. record { registry = h.registry i; replies = h.kept i; evidence = now.evidence }

-- exchanges that follow others lead on from the state that the others led to
pub leads-append : (was mid now : Stored) (xs ys : List Exchange) → LeadsTo was xs mid → LeadsTo mid ys now → LeadsTo was (xs ++ ys) now
leads-append was mid now xs ys p q =
    let P : Stored → Type 0 = λ s. LeadsTo s ys now in
    let h : LeadsTo (led was xs mid.evidence) ys now = subst P (is_led was mid xs p) q in
    let both = admitted-append was.registry (firsts was.replies xs) (firsts (kept_after was.replies xs) ys) was.evidence mid.evidence now.evidence p.evidence h.evidence in
    record {
      registry = h.registry ∙ sym (registry-append was.registry was.replies xs ys);
      kept = h.kept ∙ sym (kept_after-append was.replies xs ys);
      evidence = subst (λ (cs : List Command). IsEvidenceAfterAll was.registry cs was.evidence now.evidence) (sym (firsts-append was.replies xs ys)) both;
    }

-- a reply that is due in the second list is due there in both
due_later : (was : Stored) (evidence : EvidenceMap) (xs more : List Exchange) (x : Exchange)
    → IsDue (led was xs evidence) more x.0 x.1 → IsDue was (xs ++ more) x.0 x.1
due_later was evidence xs more x h = record {
  read = λ f. h.read f ∙ later;
  first = λ f. h.first (sym (is_first-append was.replies xs more x.0) ∙ f) ∙ later;
  again = λ key entry some has. h.again key entry some (sym (kept_at was.replies xs more key) ∙ has);
  other = λ key entry some has. h.other key entry some (sym (kept_at was.replies xs more key) ∙ has);
}
  where
    later : reply_after (led was xs evidence) more x.0.command ≡ reply_after was (xs ++ more) x.0.command
    later = ap (λ (state : Registry). (step state x.0.command).1) (sym (registry-append was.registry was.replies xs more))

-- an element of two lists is one of the first or one of the second
pub split : {A : Type 0} (xs ys before : List A) (x : A) (after : List A) → xs ++ ys ≡ before ++ x ∷ after
    → ((rest : List A) × (xs ≡ before ++ x ∷ rest)) ⊎ ((more : List A) × (xs ++ more ≡ before) × (ys ≡ more ++ x ∷ after))
split [] ys before x after e = inr (before, refl, e)
split (y ∷ xs) ys [] x after e = let h : y ≡ x = cc in inl (xs, ap (λ z. z ∷ xs) h)
split {A} (y ∷ xs) ys (b ∷ before) x after e =
    let h : y ≡ b = cc in
    let t : xs ++ ys ≡ before ++ x ∷ after = cc in
    ⊎_elim
    (λ (u : (rest : List A) × (xs ≡ before ++ x ∷ rest)). inl (u.0, λ i. h i ∷ u.1 i))
    (λ (u : (more : List A) × (xs ++ more ≡ before) × (ys ≡ more ++ x ∷ after)). inr (u.0, (λ i. h i ∷ u.1 i), u.2))
    (split xs ys before x after t)

-- if the replies in each part are due, they are due in both
answers-append : (was : Stored) (evidence : EvidenceMap) (xs ys : List Exchange)
    → Answers was xs → Answers (led was xs evidence) ys → Answers was (xs ++ ys)
answers-append was evidence xs ys p q before x after e =
    ⊎_elim
    (λ (u : (rest : List Exchange) × (xs ≡ before ++ x ∷ rest)). p before x u.0 u.1)
    (λ (u : (more : List Exchange) × (xs ++ more ≡ before) × (ys ≡ more ++ x ∷ after)).
    let P : List Exchange → Type 0 = λ zs. IsDue was zs x.0 x.1 in
    subst P u.1 (due_later was evidence xs u.0 x (q u.0 x after u.2)))
    (split xs ys before x after e)

-- Exchanges served from one state to a second, and more from there to a third, are served from the first to the third.
pub serves-append : (was mid now : Stored) (xs ys : List Exchange) → Serves was xs mid → Serves mid ys now → Serves was (xs ++ ys) now
serves-append was mid now xs ys p q =
    let P : Stored → Type 0 = λ s. Answers s ys in
    record {
      leads = leads-append was mid now xs ys p.leads q.leads;
      replies = answers-append was mid.evidence xs ys p.replies (subst P (is_led was mid xs p.leads) q.replies);
    }

-- evidence after commands in two parts is evidence after each
admitted_parts : (g : Registry) (a b : List Command) (old new : EvidenceMap) → IsEvidenceAfterAll g (a ++ b) old new
    → (mid : EvidenceMap) × IsEvidenceAfterAll g a old mid × IsEvidenceAfterAll (run_commands g a) b mid new
admitted_parts g [] b old new p = (old, refl, p)
admitted_parts g (c ∷ a) b old new p =
    let (mid, first, rest) = admitted_parts (step g c).0 a b p.0 new p.2 in
    (mid, (p.0, p.1, first), rest)

-- a reply that is due in both lists is due in the second
due_among : (was : Stored) (evidence : EvidenceMap) (xs more : List Exchange) (x : Exchange)
    → IsDue was (xs ++ more) x.0 x.1 → IsDue (led was xs evidence) more x.0 x.1
due_among was evidence xs more x h = record {
  read = λ f. h.read f ∙ earlier;
  first = λ f. h.first (is_first-append was.replies xs more x.0 ∙ f) ∙ earlier;
  again = λ key entry some has. h.again key entry some (kept_at was.replies xs more key ∙ has);
  other = λ key entry some has. h.other key entry some (kept_at was.replies xs more key ∙ has);
}
  where
    earlier : reply_after was (xs ++ more) x.0.command ≡ reply_after (led was xs evidence) more x.0.command
    earlier = ap (λ (state : Registry). (step state x.0.command).1) (registry-append was.registry was.replies xs more)

-- Exchanges that are served as one list are served in two parts.
pub serves_parts : (was now : Stored) (xs ys : List Exchange) → Serves was (xs ++ ys) now → (mid : Stored) × Serves was xs mid × Serves mid ys now
serves_parts was now xs ys p =
    let all = subst (λ (cs : List Command). IsEvidenceAfterAll was.registry cs was.evidence now.evidence) (firsts-append was.replies xs ys) p.leads.evidence in
    let (evidence, first, rest) = admitted_parts was.registry (firsts was.replies xs) (firsts (kept_after was.replies xs) ys) was.evidence now.evidence all in (
      led was xs evidence,
      record {
        leads = record { registry = refl; kept = refl; evidence = first };
        replies = λ before x after e. p.replies before x (after ++ ys) (ap (λ zs. zs ++ ys) e ∙ append_assoc before (x ∷ after) ys);
      },
      record {
        leads = record {
          registry = p.leads.registry ∙ registry-append was.registry was.replies xs ys;
          kept = p.leads.kept ∙ kept_after-append was.replies xs ys;
          evidence = rest;
        };
        replies = λ before x after e. due_among was evidence xs before x (p.replies (xs ++ before) x after (ap (λ zs. xs ++ zs) e ∙ sym (append_assoc xs before (x ∷ after))));
      },
    )

-- No exchange leads from a stored state to itself.
pub leads_none : (was : Stored) → LeadsTo was [] was
leads_none was = record { registry = refl; kept = sym (kept_after-nil was.replies); evidence = refl }

pub serves_none : (was : Stored) → Serves was [] was
serves_none was = record { leads = leads_none was; replies = none }
  where
    none : Answers was []
    none [] x after h = absurd (cc)
    none (b ∷ before) x after h = absurd (cc)
