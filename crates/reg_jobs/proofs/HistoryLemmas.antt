-- What the connections of a table have done: one is taken out, goes on, and is put back or closed; another one is accepted.
use Rattle.std.proofs.Common.{◌≡◌, ◌≢◌, ◌⊎◌, ◌∙◌, ◌+◌, ◌<◌, ◌≤◌, ℕ, zero, suc, Bool, true, false, nat_eq, List, [], ◌∷◌, ◌++◌, length, map, refl, sym, ap, subst, append_assoc, append-nil, inl, inr, arith}
use Rattle.std.specs.Prelude.{Option, Some, None, if◌then◌else◌, slice_get}
use Rattle.std.specs.List.{All}
use Rattle.std.proofs.lemmas.Bool.{eqb-true, eq-eqb, cases_eq}
use Rattle.std.proofs.lemmas.List.{map-append, length-append}
use Rattle.std.proofs.lemmas.List.Elements.{All-nil, All-cons, All-head, All-tail, All-push, All-weaker}
use Rattle.slab.specs.Slab.{Slab, get, slab_len, Updates}
use Rattle.reg_service.specs.Deliveries.{Exchange}
use Rattle.reg_jobs.specs.declared.listening.connection.Connection.{Connection}
use Rattle.reg_jobs.specs.Listening.{Numbered, of_number, IsVisit, IsEnd, AreDistinct}
use Rattle.reg_jobs.specs.Connections.{IsUnderWay, Stays, Goes, IsOpen, IsNotClosed, IsHistory}
use Rattle.reg_jobs.proofs.ConnectionLemmas.{IsUnderWay-visit}

-- ---- the exchanges of one connection

abbrev pub numbered : ℕ → List Exchange → List Numbered
numbered n ys = map (λ y. (n, y)) ys

of_number-append : (n : ℕ) (xs ys : List Numbered) → of_number n (xs ++ ys) ≡ of_number n xs ++ of_number n ys
of_number-append n [] ys = refl
of_number-append n (x ∷ xs) ys = by (nat_eq x.0 n) (of_number-append n xs ys)
  where
    by : (b : Bool) → of_number n (xs ++ ys) ≡ of_number n xs ++ of_number n ys
        → (if b then x.1 ∷ of_number n (xs ++ ys) else of_number n (xs ++ ys)) ≡ (if b then x.1 ∷ of_number n xs else of_number n xs) ++ of_number n ys
    by true later = ap (λ t. x.1 ∷ t) later
    by false later = later

of_number-own : (n : ℕ) (ys : List Exchange) → of_number n (numbered n ys) ≡ ys
of_number-own n [] = refl
of_number-own n (y ∷ ys) = by (nat_eq n n) (eq-eqb n n refl) (of_number-own n ys)
  where
    by : (b : Bool) → b ≡ true → of_number n (numbered n ys) ≡ ys → (if b then y ∷ of_number n (numbered n ys) else of_number n (numbered n ys)) ≡ y ∷ ys
    by true e later = ap (λ t. y ∷ t) later
    by false e later = absurd (cc)

of_number-other : (n m : ℕ) (ys : List Exchange) → (m ≡ n → ⊥) → of_number n (numbered m ys) ≡ []
of_number-other n m [] differs = refl
of_number-other n m (y ∷ ys) differs = by (nat_eq m n) refl (of_number-other n m ys differs)
  where
    by : (b : Bool) → nat_eq m n ≡ b → of_number n (numbered m ys) ≡ [] → (if b then y ∷ of_number n (numbered m ys) else of_number n (numbered m ys)) ≡ []
    by true e later = absurd (differs (eqb-true m n e))
    by false e later = later

pub map-numbered : (n : ℕ) (ys : List Exchange) → map (λ (x : Numbered). x.1) (numbered n ys) ≡ ys
map-numbered n [] = refl
map-numbered n (y ∷ ys) = ap (λ t. y ∷ t) (map-numbered n ys)

-- the exchanges of one number, after more of that number
joined_own : (n : ℕ) (all : List Numbered) (ys : List Exchange) → of_number n (all ++ numbered n ys) ≡ of_number n all ++ ys
joined_own n all ys = of_number-append n all (numbered n ys) ∙ ap (λ t. of_number n all ++ t) (of_number-own n ys)

-- and of any other number
joined_other : (n m : ℕ) (all : List Numbered) (ys : List Exchange) → (m ≡ n → ⊥) → of_number n (all ++ numbered m ys) ≡ of_number n all
joined_other n m all ys differs = of_number-append n all (numbered m ys) ∙ (ap (λ t. of_number n all ++ t) (of_number-other n m ys differs) ∙ append-nil (of_number n all))

-- ---- lists

-- the element at a position stays there in a longer list
slice_get-more : {A : Type 0} (xs ys : List A) (n : ℕ) (x : A) → slice_get xs n ≡ Some x → slice_get (xs ++ ys) n ≡ Some x
slice_get-more [] ys n x e = absurd (cc)
slice_get-more (y ∷ xs) ys zero x e = e
slice_get-more (y ∷ xs) ys (suc n) x e = slice_get-more xs ys n x e

-- the element after a list
slice_get-last : {A : Type 0} (xs : List A) (x : A) → slice_get (xs ++ x ∷ []) (length xs) ≡ Some x
slice_get-last [] x = refl
slice_get-last (y ∷ xs) x = slice_get-last xs x

-- a position with an element is within the list
slice_get-within : {A : Type 0} (xs : List A) (n : ℕ) (x : A) → slice_get xs n ≡ Some x → n < length xs
slice_get-within [] n x e = absurd (cc)
slice_get-within (y ∷ xs) zero x e = omega arith
slice_get-within (y ∷ xs) (suc n) x e = let h = slice_get-within xs n x e in omega (arith, h)

All-both : {A : Type 0} (P Q R : A → Type 0) (xs : List A) → ((x : A) → P x → Q x → R x) → All P xs → All Q xs → All R xs
All-both P Q R [] f p q = All-nil R
All-both P Q R (x ∷ xs) f p q = All-cons R x xs (f x (All-head P x xs p) (All-head Q x xs q)) (All-both P Q R xs f (All-tail P x xs p) (All-tail Q x xs q))

AreDistinct-last : {A : Type 0} (es : List (ℕ × A)) (e : ℕ × A) → AreDistinct es → All (λ d. d.0 ≢ e.0) es → AreDistinct (es ++ e ∷ [])
AreDistinct-last [] e p q = (All-nil (λ d. d.0 ≢ e.0), tt)
AreDistinct-last (d ∷ es) e p q = (
  All-push (λ x. x.0 ≢ d.0) es e p.0 (λ same. All-head (λ x. x.0 ≢ e.0) d es q (sym same)),
  AreDistinct-last es e p.1 (All-tail (λ x. x.0 ≢ e.0) d es q),
)

module _ {I O : Type 0} (remaining : I → Option (List ℕ)) (contents : O → Option (List ℕ)) where
  -- ---- one connection is out of the table

  -- the history of the others, and of this one
  pub record IsHistoryWith (connections : Slab (Connection I O)) (accepted : ℕ) (all : List Numbered) (streams : List (I × O)) (ends : List (ℕ × (I × O))) (c : Connection I O) : Type 0 where
    pub history : IsHistory remaining contents 1 connections accepted all streams ends
    pub opened : IsOpen remaining contents all streams c
    pub alone : (other : ℕ) (d : Connection I O) → get connections other ≡ Some d → c.number ≡ d.number → ⊥
    pub fresh : IsNotClosed remaining contents ends c.number

  -- with more exchanges of another connection, a connection is still open
  IsOpen-other : (all : List Numbered) (streams : List (I × O)) (c : Connection I O) (m : ℕ) (ys : List Exchange) → (m ≡ c.number → ⊥)
      → IsOpen remaining contents all streams c → IsOpen remaining contents (all ++ numbered m ys) streams c
  IsOpen-other all streams c m ys differs o =
      (o.0, o.1, subst (λ (xs : List Exchange). IsUnderWay remaining contents xs o.0 c) (sym (joined_other c.number m all ys differs)) o.2)

  IsEnd-other : (all : List Numbered) (streams : List (I × O)) (e : ℕ × (I × O)) (m : ℕ) (ys : List Exchange) → (m ≡ e.0 → ⊥)
      → IsEnd remaining contents all streams e → IsEnd remaining contents (all ++ numbered m ys) streams e
  IsEnd-other all streams e m ys differs o =
      (o.0, o.1, subst (λ (xs : List Exchange). IsVisit remaining contents xs o.0 e.1) (sym (joined_other e.0 m all ys differs)) o.2)

  number_within : (all : List Numbered) (streams : List (I × O)) (c : Connection I O) → IsOpen remaining contents all streams c → c.number < length streams
  number_within all streams c o = slice_get-within streams c.number o.0 o.1

  -- a removal leaves the others
  removed : (old new : Slab (Connection I O)) (gone : ℕ) → Updates old new gone None → (key : ℕ) (c : Connection I O) → get new key ≡ Some c → (key ≡ gone → ⊥) × (get old key ≡ Some c)
  removed old new gone updates key c found = (differs, sym (updates.others key differs) ∙ found)
    where
      differs : key ≡ gone → ⊥
      differs same =
          let none : get new key ≡ None = ap (get new) same ∙ updates.changed in
          absurd (cc)

  pub IsHistoryWith-taken : (old new : Slab (Connection I O)) (gone accepted : ℕ) (all : List Numbered) (streams : List (I × O)) (ends : List (ℕ × (I × O))) (c : Connection I O)
      → Updates old new gone None → get old gone ≡ Some c → slab_len new + 1 ≡ slab_len old
      → IsHistory remaining contents 0 old accepted all streams ends → IsHistoryWith new accepted all streams ends c
  IsHistoryWith-taken old new gone accepted all streams ends c updates held fewer h = record {
    history = record {
      count = h.count;
      later = h.later;
      opens = λ key d found. h.opens key d (removed old new gone updates key d found).1;
      alone = λ key other d e found also same. h.alone key other d e (removed old new gone updates key d found).1 (removed old new gone updates other e also).1 same;
      fresh = λ key d found. h.fresh key d (removed old new gone updates key d found).1;
      visits = h.visits;
      once = h.once;
      total = omega (arith, h.total, fewer);
    };
    opened = h.opens gone c held;
    alone = λ other d found same.
        let was = removed old new gone updates other d found in
        was.0 (sym (h.alone gone other c d held was.1 same));
    fresh = h.fresh gone c held;
  }

  -- it goes on
  pub IsHistoryWith-goes : (s : Slab (Connection I O)) (accepted : ℕ) (all : List Numbered) (streams : List (I × O)) (ends : List (ℕ × (I × O))) (old new : Connection I O) (ys : List Exchange)
      → Goes remaining contents ys old new → IsHistoryWith s accepted all streams ends old → IsHistoryWith s accepted (all ++ numbered old.number ys) streams ends new
  IsHistoryWith-goes s accepted all streams ends old new ys goes h =
      let o = h.opened in
      let own = goes.1 (of_number old.number all) o.0 o.2 in
      let within = number_within all streams old o in
      let count = h.history.count in
      record {
        history = record {
          count = h.history.count;
          later = λ n le. joined_other n old.number all ys (λ same. omega (arith, same, le, within, count)) ∙ h.history.later n le;
          opens = λ key c found. IsOpen-other all streams c old.number ys (λ same. h.alone key c found same) (h.history.opens key c found);
          alone = h.history.alone;
          fresh = h.history.fresh;
          visits = All-both (λ e. e.0 ≢ old.number) (IsEnd remaining contents all streams) (IsEnd remaining contents (all ++ numbered old.number ys) streams) ends
              (λ e differs v. IsEnd-other all streams e old.number ys (λ same. differs (sym same)) v) h.fresh h.history.visits;
          once = h.history.once;
          total = h.history.total;
        };
        opened = (
          o.0,
          subst (λ (n : ℕ). slice_get streams n ≡ Some o.0) (sym goes.0) o.1,
          subst (λ (n : ℕ). IsUnderWay remaining contents (of_number n (all ++ numbered old.number ys)) o.0 new) (sym goes.0)
              (subst (λ (xs : List Exchange). IsUnderWay remaining contents xs o.0 new) (sym (joined_own old.number all ys)) own),
        );
        alone = λ other d found same. h.alone other d found (sym goes.0 ∙ same);
        fresh = subst (λ (n : ℕ). IsNotClosed remaining contents ends n) (sym goes.0) h.fresh;
      }

  -- it is put back
  pub IsHistory-put : (old new : Slab (Connection I O)) (at accepted : ℕ) (all : List Numbered) (streams : List (I × O)) (ends : List (ℕ × (I × O))) (c : Connection I O)
      → Updates old new at (Some c) → slab_len new ≡ slab_len old + 1
      → IsHistoryWith old accepted all streams ends c → IsHistory remaining contents 0 new accepted all streams ends
  IsHistory-put old new at accepted all streams ends c updates more h = record {
    count = h.history.count;
    later = h.history.later;
    opens = λ key d found. opens_at key d found (cases_eq key at);
    alone = λ key other d e found also same. alone_at key other d e found also same (cases_eq key at) (cases_eq other at);
    fresh = λ key d found. fresh_at key d found (cases_eq key at);
    visits = h.history.visits;
    once = h.history.once;
    total = omega (arith, h.history.total, more);
  }
    where
      is_it : (key : ℕ) (d : Connection I O) → get new key ≡ Some d → key ≡ at → c ≡ d
      is_it key d found same =
          let it : Some c ≡ Some d = sym updates.changed ∙ (ap (get new) (sym same) ∙ found) in
          cc

      was : (key : ℕ) (d : Connection I O) → get new key ≡ Some d → key ≢ at → get old key ≡ Some d
      was key d found differs = sym (updates.others key differs) ∙ found

      opens_at : (key : ℕ) (d : Connection I O) → get new key ≡ Some d → (key ≡ at) ⊎ (key ≢ at) → IsOpen remaining contents all streams d
      opens_at key d found (inl same) = subst (λ (x : Connection I O). IsOpen remaining contents all streams x) (is_it key d found same) h.opened
      opens_at key d found (inr differs) = h.history.opens key d (was key d found differs)

      fresh_at : (key : ℕ) (d : Connection I O) → get new key ≡ Some d → (key ≡ at) ⊎ (key ≢ at) → IsNotClosed remaining contents ends d.number
      fresh_at key d found (inl same) = subst (λ (x : Connection I O). IsNotClosed remaining contents ends x.number) (is_it key d found same) h.fresh
      fresh_at key d found (inr differs) = h.history.fresh key d (was key d found differs)

      alone_at : (key other : ℕ) (d e : Connection I O) → get new key ≡ Some d → get new other ≡ Some e → d.number ≡ e.number
          → (key ≡ at) ⊎ (key ≢ at) → (other ≡ at) ⊎ (other ≢ at) → key ≡ other
      alone_at key other d e found also same (inl k) (inl o) = k ∙ sym o
      alone_at key other d e found also same (inl k) (inr o) =
          absurd (h.alone other e (was other e also o) (ap (λ (x : Connection I O). x.number) (is_it key d found k) ∙ same))
      alone_at key other d e found also same (inr k) (inl o) =
          absurd (h.alone key d (was key d found k) (ap (λ (x : Connection I O). x.number) (is_it other e also o) ∙ sym same))
      alone_at key other d e found also same (inr k) (inr o) = h.history.alone key other d e (was key d found k) (was other e also o) same

  -- it is closed
  pub IsHistory-closed : (s : Slab (Connection I O)) (accepted : ℕ) (all : List Numbered) (streams : List (I × O)) (ends : List (ℕ × (I × O))) (c : Connection I O)
      → IsHistoryWith s accepted all streams ends c → IsHistory remaining contents 0 s accepted all streams (ends ++ (c.number, (c.input, c.output)) ∷ [])
  IsHistory-closed s accepted all streams ends c h =
      let e : ℕ × (I × O) = (c.number, (c.input, c.output)) in
      let o = h.opened in
      let longer = length-append ends (e ∷ []) in
      record {
        count = h.history.count;
        later = h.history.later;
        opens = h.history.opens;
        alone = h.history.alone;
        fresh = λ key d found. All-push (λ x. x.0 ≢ d.number) ends e (h.history.fresh key d found) (λ same. h.alone key d found same);
        visits = All-push (IsEnd remaining contents all streams) ends e h.history.visits (o.0, o.1, IsUnderWay-visit remaining contents (of_number c.number all) o.0 c o.2);
        once = AreDistinct-last ends e h.history.once h.fresh;
        total = omega (arith, h.history.total, longer);
      }

  -- ---- another connection was accepted

  pub IsHistoryWith-new : (s : Slab (Connection I O)) (accepted : ℕ) (all : List Numbered) (streams : List (I × O)) (ends : List (ℕ × (I × O))) (was : I × O) (c : Connection I O)
      → c.number ≡ accepted → IsUnderWay remaining contents [] was c
      → IsHistory remaining contents 0 s accepted all streams ends → IsHistoryWith s (accepted + 1) all (streams ++ was ∷ []) ends c
  IsHistoryWith-new s accepted all streams ends was c is begins h =
      let longer = length-append streams (was ∷ []) in
      let none : of_number c.number all ≡ [] = ap (λ n. of_number n all) is ∙ h.later accepted (omega arith) in
      let here : c.number ≡ length streams = is ∙ sym h.count in
      record {
        history = record {
          count = omega (arith, longer, h.count);
          later = λ n le. h.later n (omega (arith, le));
          opens = λ key d found. more_streams d (h.opens key d found);
          alone = h.alone;
          fresh = h.fresh;
          visits = All-weaker (IsEnd remaining contents all streams) (IsEnd remaining contents all (streams ++ was ∷ []))
              (λ e v. (v.0, slice_get-more streams (was ∷ []) e.0 v.0 v.1, v.2)) ends h.visits;
          once = h.once;
          total = omega (arith, h.total);
        };
        opened = (was, ap (λ n. slice_get (streams ++ was ∷ []) n) here ∙ slice_get-last streams was, subst (λ (xs : List Exchange). IsUnderWay remaining contents xs was c) (sym none) begins);
        alone = λ other d found same.
            let within = number_within all streams d (h.opens other d found) in
            omega (arith, within, same, is, h.count);
        fresh = All-weaker (IsEnd remaining contents all streams) (λ e. e.0 ≢ c.number)
            (λ e v same. let within = slice_get-within streams e.0 v.0 v.1 in omega (arith, within, same, is, h.count)) ends h.visits;
      }
    where
      more_streams : (d : Connection I O) → IsOpen remaining contents all streams d → IsOpen remaining contents all (streams ++ was ∷ []) d
      more_streams d o = (o.0, slice_get-more streams (was ∷ []) d.number o.0 o.1, o.2)

  -- ---- the beginning and the end

  pub IsHistory-new : (s : Slab (Connection I O)) → s.slots ≡ [] → IsHistory remaining contents 0 s 0 [] [] []
  IsHistory-new s none = record {
    count = refl;
    later = λ n le. refl;
    opens = λ key c found. absurd (nothing key c found);
    alone = λ key other c d found also same. absurd (nothing key c found);
    fresh = λ key c found. absurd (nothing key c found);
    visits = All-nil (IsEnd remaining contents [] []);
    once = tt;
    total = ap (λ slots. length {A = ℕ × (I × O)} [] + slab_len (record s { slots = slots }) + 0) none;
  }
    where
      nothing : (key : ℕ) (c : Connection I O) → get s key ≡ Some c → ⊥
      nothing key c found = absurd (cc)
