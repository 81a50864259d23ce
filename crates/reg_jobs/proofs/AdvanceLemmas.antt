-- A table and a network, one step after another.
use Rattle.std.proofs.Common.{◌≡◌, ◌∙◌, ◌+◌, ◌≤◌, ◌<◌, ℕ, zero, suc, List, [], ◌∷◌, ◌++◌, length, map, refl, sym, ap, subst, append_assoc, append-nil, arith}
use Rattle.std.specs.Prelude.{Option, Some, None, is_some, count_by}
use Rattle.std.proofs.lemmas.List.{map-append}
use Rattle.slab.specs.Slab.{Slab, get, slab_len, Updates}
use Rattle.reg_service.specs.Deliveries.{Exchange}
use Rattle.reg_jobs.specs.declared.listening.connection.Connection.{Connection}
use Rattle.reg_jobs.specs.declared.listening.table.Table.{Table}
use Rattle.reg_jobs.specs.Networks.{Adds, ChangesNothing}
use Rattle.reg_jobs.specs.Listening.{Numbered}
use Rattle.reg_jobs.specs.Connections.{IsNothing, IsHistory, IsUnderWay, Goes, Enters, Advances}
use Rattle.reg_jobs.proofs.HistoryLemmas.{numbered, map-numbered, IsHistoryWith, IsHistoryWith-taken, IsHistoryWith-goes, IsHistoryWith-new, IsHistory-put, IsHistory-closed}

pub Adds-none : {A : Type 0} (a : Option (List A)) → Adds a a []
Adds-none None = tt
Adds-none (Some xs) = sym (append-nil xs)

pub Adds-both : {A : Type 0} (a b c : Option (List A)) (xs ys : List A) → Adds a b xs → Adds b c ys → Adds a c (xs ++ ys)
Adds-both None b c xs ys p q = tt
Adds-both (Some us) None c xs ys p q = absurd p
Adds-both (Some us) (Some vs) None xs ys p q = absurd q
Adds-both (Some us) (Some vs) (Some ws) xs ys p q = q ∙ (ap (λ t. t ++ ys) p ∙ append_assoc us xs ys)

module _ {I O N : Type 0} (remaining : I → Option (List ℕ)) (contents : O → Option (List ℕ)) (accepted closed : N → Option (List (I × O))) where
  -- only the network changed, and nothing of its connections
  pub Advances-nothing : (P : List Exchange → Type 0) (table : Table I O) (network network' : N) → P [] → ChangesNothing accepted closed network network'
      → Advances remaining contents accepted closed P table network table network'
  Advances-nothing P table network network' none same = record {
    more = [];
    streams = [];
    ends = [];
    served = none;
    accepts = same.0;
    closes = same.1;
    goes = λ all before gone h.
        let At : List Numbered × (List (I × O) × List (ℕ × (I × O))) → Type 0 = λ p. IsHistory remaining contents 0 table.connections table.accepted p.0 p.1.0 p.1.1 in
        subst At (λ i. (sym (append-nil all) i, (sym (append-nil before) i, sym (append-nil gone) i))) h;
  }

  pub Advances-none : (P : List Exchange → Type 0) (table : Table I O) (network : N) → P [] → Advances remaining contents accepted closed P table network table network
  Advances-none P table network none = Advances-nothing P table network network none (Adds-none (accepted network), Adds-none (closed network))

  -- one step after another
  pub Advances-both : (P Q R : List Exchange → Type 0) → ((xs ys : List Exchange) → P xs → Q ys → R (xs ++ ys)) → (a b c : Table I O) (n m k : N)
      → Advances remaining contents accepted closed P a n b m → Advances remaining contents accepted closed Q b m c k → Advances remaining contents accepted closed R a n c k
  Advances-both P Q R joins a b c n m k s t = record {
    more = s.more ++ t.more;
    streams = s.streams ++ t.streams;
    ends = s.ends ++ t.ends;
    served = subst R (sym (map-append (λ (x : Numbered). x.1) s.more t.more)) (joins (map (λ (x : Numbered). x.1) s.more) (map (λ (x : Numbered). x.1) t.more) s.served t.served);
    accepts = Adds-both (accepted n) (accepted m) (accepted k) s.streams t.streams s.accepts t.accepts;
    closes = subst (Adds (closed n) (closed k)) (sym (map-append (λ (e : ℕ × (I × O)). e.1) s.ends t.ends))
        (Adds-both (closed n) (closed m) (closed k) (map (λ (e : ℕ × (I × O)). e.1) s.ends) (map (λ (e : ℕ × (I × O)). e.1) t.ends) s.closes t.closes);
    goes = λ all before gone h.
        let At : List Numbered × (List (I × O) × List (ℕ × (I × O))) → Type 0 = λ p. IsHistory remaining contents 0 c.connections c.accepted p.0 p.1.0 p.1.1 in
        subst At (λ i. (append_assoc all s.more t.more i, (append_assoc before s.streams t.streams i, append_assoc gone s.ends t.ends i)))
        (t.goes (all ++ s.more) (before ++ s.streams) (gone ++ s.ends) (s.goes all before gone h));
  }

  -- nothing was processed in the second step, or in the first
  pub Advances-then : (P : List Exchange → Type 0) (a b c : Table I O) (n m k : N)
      → Advances remaining contents accepted closed P a n b m → Advances remaining contents accepted closed IsNothing b m c k → Advances remaining contents accepted closed P a n c k
  Advances-then P a b c n m k s t = Advances-both P IsNothing P (λ xs ys p e. subst P (sym (ap (λ zs. xs ++ zs) e ∙ append-nil xs)) p) a b c n m k s t

  -- Another table with the same connections.
  pub Advances-same : (P : List Exchange → Type 0) (a b c : Table I O) (n m : N) → c.connections ≡ b.connections → c.accepted ≡ b.accepted
      → Advances remaining contents accepted closed P a n b m → Advances remaining contents accepted closed P a n c m
  Advances-same P a b c n m same count s = record {
    more = s.more;
    streams = s.streams;
    ends = s.ends;
    served = s.served;
    accepts = s.accepts;
    closes = s.closes;
    goes = λ all before gone h.
        let At : Slab (Connection I O) × ℕ → Type 0 = λ p. IsHistory remaining contents 0 p.0 p.1 (all ++ s.more) (before ++ s.streams) (gone ++ s.ends) in
        subst At (λ i. (sym same i, sym count i)) (s.goes all before gone h);
  }

  -- a connection is taken out, goes on with these exchanges, and is put back
  pub Advances-turn : (P : List Exchange → Type 0) (old new : Table I O) (mid : Slab (Connection I O)) (key at : ℕ) (c d : Connection I O) (network : N) (ys : List Exchange)
      → Updates old.connections mid key None → get old.connections key ≡ Some c → slab_len mid + 1 ≡ slab_len old.connections
      → P ys → Goes remaining contents ys c d
      → Updates mid new.connections at (Some d) → slab_len new.connections ≡ slab_len mid + 1 → new.accepted ≡ old.accepted
      → Advances remaining contents accepted closed P old network new network
  Advances-turn P old new mid key at c d network ys taken held fewer p goes put more same = record {
    more = numbered c.number ys;
    streams = [];
    ends = [];
    served = subst P (sym (map-numbered c.number ys)) p;
    accepts = Adds-none (accepted network);
    closes = Adds-none (closed network);
    goes = λ all before gone h.
        let At : ℕ × (List (I × O) × List (ℕ × (I × O))) → Type 0 = λ q. IsHistory remaining contents 0 new.connections q.0 (all ++ numbered c.number ys) q.1.0 q.1.1 in
        let out = IsHistoryWith-taken remaining contents old.connections mid key old.accepted all before gone c taken held fewer h in
        let on = IsHistoryWith-goes remaining contents mid old.accepted all before gone c d ys goes out in
        subst At (λ i. (sym same i, (sym (append-nil before) i, sym (append-nil gone) i)))
        (IsHistory-put remaining contents mid new.connections at old.accepted (all ++ numbered c.number ys) before gone d put more on);
  }

  -- a connection is taken out, goes on with these exchanges, and is closed
  pub Advances-close : (P : List Exchange → Type 0) (old new : Table I O) (key : ℕ) (c d : Connection I O) (network network' : N) (ys : List Exchange)
      → Updates old.connections new.connections key None → get old.connections key ≡ Some c → slab_len new.connections + 1 ≡ slab_len old.connections
      → P ys → Goes remaining contents ys c d → new.accepted ≡ old.accepted
      → Adds (accepted network) (accepted network') [] → Adds (closed network) (closed network') ((d.input, d.output) ∷ [])
      → Advances remaining contents accepted closed P old network new network'
  Advances-close P old new key c d network network' ys taken held fewer p goes same opens closes = record {
    more = numbered c.number ys;
    streams = [];
    ends = (d.number, (d.input, d.output)) ∷ [];
    served = subst P (sym (map-numbered c.number ys)) p;
    accepts = opens;
    closes = closes;
    goes = λ all before gone h.
        let At : ℕ × List (I × O) → Type 0 = λ q. IsHistory remaining contents 0 new.connections q.0 (all ++ numbered c.number ys) q.1 (gone ++ (d.number, (d.input, d.output)) ∷ []) in
        let out = IsHistoryWith-taken remaining contents old.connections new.connections key old.accepted all before gone c taken held fewer h in
        let on = IsHistoryWith-goes remaining contents new.connections old.accepted all before gone c d ys goes out in
        subst At (λ i. (sym same i, sym (append-nil before) i))
        (IsHistory-closed remaining contents new.connections old.accepted (all ++ numbered c.number ys) before gone d on);
  }

  -- an accepted connection enters the table
  pub Enters-put : (old new : Table I O) (at : ℕ) (was : I × O) (c : Connection I O) (network : N) → c.number ≡ old.accepted → IsUnderWay remaining contents [] was c
      → Updates old.connections new.connections at (Some c) → slab_len new.connections ≡ slab_len old.connections + 1 → new.accepted ≡ old.accepted + 1
      → Enters remaining contents accepted closed old network was new network
  Enters-put old new at was c network is begins put more count = record {
    ends = [];
    accepts = Adds-none (accepted network);
    closes = Adds-none (closed network);
    goes = λ all before gone h.
        let At : ℕ × List (ℕ × (I × O)) → Type 0 = λ q. IsHistory remaining contents 0 new.connections q.0 all (before ++ was ∷ []) q.1 in
        subst At (λ i. (sym count i, sym (append-nil gone) i))
        (IsHistory-put remaining contents old.connections new.connections at (old.accepted + 1) all (before ++ was ∷ []) gone c put more
        (IsHistoryWith-new remaining contents old.connections old.accepted all before gone was c is begins h));
  }

  -- or is closed at once
  pub Enters-closed : (old new : Table I O) (was : I × O) (c : Connection I O) (network network' : N) → c.number ≡ old.accepted → IsUnderWay remaining contents [] was c
      → new.connections ≡ record old.connections { capacity = new.connections.capacity } → new.accepted ≡ old.accepted + 1
      → Adds (accepted network) (accepted network') [] → Adds (closed network) (closed network') ((c.input, c.output) ∷ [])
      → Enters remaining contents accepted closed old network was new network'
  Enters-closed old new was c network network' is begins same count opens closes = record {
    ends = (c.number, (c.input, c.output)) ∷ [];
    accepts = opens;
    closes = closes;
    goes = λ all before gone h.
        let ends = gone ++ (c.number, (c.input, c.output)) ∷ [] in
        let s = IsHistory-closed remaining contents old.connections (old.accepted + 1) all (before ++ was ∷ []) gone c (IsHistoryWith-new remaining contents old.connections old.accepted all before gone was c is begins h) in
        let At : Slab (Connection I O) × ℕ → Type 0 = λ q. IsHistory remaining contents 0 q.0 q.1 all (before ++ was ∷ []) ends in
        let wide : IsHistory remaining contents 0 (record old.connections { capacity = new.connections.capacity }) (old.accepted + 1) all (before ++ was ∷ []) ends =
        record { count = s.count; later = s.later; opens = s.opens; alone = s.alone; fresh = s.fresh; visits = s.visits; once = s.once; total = s.total } in
        subst At (λ i. (sym same i, sym count i)) wide;
  }

  -- The network accepts a connection, which enters the table. `mid` is the table between the two.
  pub Advances-enters : (old mid new : Table I O) (was : I × O) (n m k : N) → mid.connections ≡ old.connections → mid.accepted ≡ old.accepted
      → Adds (accepted n) (accepted m) (was ∷ []) → Adds (closed n) (closed m) []
      → Enters remaining contents accepted closed mid m was new k → Advances remaining contents accepted closed IsNothing old n new k
  Advances-enters old mid new was n m k same count opens closes e = record {
    more = [];
    streams = was ∷ [];
    ends = e.ends;
    served = refl;
    accepts = Adds-both (accepted n) (accepted m) (accepted k) (was ∷ []) [] opens e.accepts;
    closes = Adds-both (closed n) (closed m) (closed k) [] (map (λ (x : ℕ × (I × O)). x.1) e.ends) closes e.closes;
    goes = λ all before gone h.
        let At : List Numbered → Type 0 = λ q. IsHistory remaining contents 0 new.connections new.accepted q (before ++ was ∷ []) (gone ++ e.ends) in
        let From : Slab (Connection I O) × ℕ → Type 0 = λ q. IsHistory remaining contents 0 q.0 q.1 all before gone in
        subst At (sym (append-nil all)) (e.goes all before gone (subst From (λ i. (sym same i, sym count i)) h));
  }

-- past its slots, a slab has no value
pub get-past : {A : Type 0} (s : Slab A) (key : ℕ) → length s.slots ≤ key → get s key ≡ None
get-past {A = A} s key past = by s.slots key past
  where
    by : (slots : List (Option A)) (k : ℕ) → length slots ≤ k → get (record s { slots = slots }) k ≡ None
    by [] k le = refl
    by (x ∷ slots) zero le = absurd (omega (arith, le))
    by (x ∷ slots) (suc k) le = by slots k (omega (arith, le))

-- a slab without a value
pub slab_len-none : {A : Type 0} (s : Slab A) → ((key : ℕ) → get s key ≡ None) → slab_len s ≡ 0
slab_len-none {A = A} s none = by s.slots (λ key. none key)
  where
    by : (slots : List (Option A)) → ((key : ℕ) → get (record s { slots = slots }) key ≡ None) → count_by is_some slots ≡ 0
    by [] empty = refl
    by (None ∷ slots) empty = by slots (λ key. empty (suc key))
    by (Some x ∷ slots) empty = let e = empty zero in absurd (cc)
