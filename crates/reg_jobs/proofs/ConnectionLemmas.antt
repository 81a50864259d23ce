-- What one connection does, one step after another.
use Rattle.std.proofs.Common.{◌≡◌, ◌∙◌, ℕ, Bool, true, false, List, [], ◌∷◌, ◌++◌, refl, sym, ap, subst, append_assoc, append-nil, take}
use Rattle.std.specs.Prelude.{Option, Some, None, Result, Ok, Err, IfOk, OnErr, MatchResult}
use Rattle.std.specs.Io.KnownBytes.{Appends, Consumes, Keeps, prepend_known, ReadConsumes}
use Rattle.std.proofs.KnownBytes.{Consumes-nil, Consumes-trans, Consumes-kept, Appends-nil, Appends-trans, Appends-kept}
use Rattle.reg_service.specs.Deliveries.{Exchange}
use Rattle.reg_http.specs.declared.conversation.Conversation.{Conversation}
use Rattle.reg_http.specs.Conversations.{IsSoFar, Receives, Sends, Continues}
use Rattle.reg_jobs.proofs.SessionEnds.{IsSoFar-session}
use Rattle.reg_jobs.specs.declared.listening.connection.Connection.{Connection}
use Rattle.reg_jobs.specs.Connections.{IsUnderWay, Stays, Goes, ConnectionGoes}
use Rattle.reg_jobs.specs.Listening.{IsVisit}

-- bytes that were read in two parts
consumes_parts : (r r' : Option (List ℕ)) (a b : List ℕ) → Consumes r r' (a ++ b) → Consumes r (prepend_known b r') a × Consumes (prepend_known b r') r' b
consumes_parts None None a b e = (tt, tt)
consumes_parts None (Some ys) a b e = (tt, refl)
consumes_parts (Some xs) None a b e = absurd e
consumes_parts (Some xs) (Some ys) a b e = (e ∙ append_assoc a b ys, refl)

-- a result of either kind
pub either_way : {T E : Type 0} {X : Type 0} {P : T → Type 0} {Q : Type 0} (r : Result T E) → IfOk r P → OnErr r Q → ((x : T) → P x → X) → (Q → X) → X
either_way (Ok x) p q f h = f x p
either_way (Err e) p q f h = h q

module _ {I O : Type 0} (remaining : I → Option (List ℕ)) (contents : O → Option (List ℕ)) where
  pub Stays-none : (c : Connection I O) → Stays remaining contents c c
  Stays-none c = (refl, λ xs was u. u)

  pub Stays-goes : (old new : Connection I O) → Stays remaining contents old new → Goes remaining contents [] old new
  Stays-goes old new s = (s.0, λ xs was u. subst (λ (ys : List Exchange). IsUnderWay remaining contents ys was new) (sym (append-nil xs)) (s.1 xs was u))

  pub Stays-both : (a b c : Connection I O) → Stays remaining contents a b → Stays remaining contents b c → Stays remaining contents a c
  Stays-both a b c s t = (t.0 ∙ s.0, λ xs was u. t.1 xs was (s.1 xs was u))

  pub Goes-before : (a b c : Connection I O) (ys : List Exchange) → Stays remaining contents a b → Goes remaining contents ys b c → Goes remaining contents ys a c
  Goes-before a b c ys s t = (t.0 ∙ s.0, λ xs was u. t.1 xs was (s.1 xs was u))

  pub Goes-after : (a b c : Connection I O) (ys : List Exchange) → Goes remaining contents ys a b → Stays remaining contents b c → Goes remaining contents ys a c
  Goes-after a b c ys s t = (t.0 ∙ s.0, λ xs was u. t.1 (xs ++ ys) was (s.1 xs was u))

  -- it goes on with exchanges, and stays before or after
  pub ConnectionGoes-stays : (P : List Exchange → Type 0) (old new : Connection I O) → P [] → Stays remaining contents old new → ConnectionGoes remaining contents P old new
  ConnectionGoes-stays P old new none s = ([], none, Stays-goes old new s)

  pub ConnectionGoes-before : (P : List Exchange → Type 0) (a b c : Connection I O) → Stays remaining contents a b → ConnectionGoes remaining contents P b c → ConnectionGoes remaining contents P a c
  ConnectionGoes-before P a b c s t = (t.0, t.1, Goes-before a b c t.0 s t.2)

  pub ConnectionGoes-after : (P : List Exchange → Type 0) (a b c : Connection I O) → ConnectionGoes remaining contents P a b → Stays remaining contents b c → ConnectionGoes remaining contents P a c
  ConnectionGoes-after P a b c s t = (s.0, s.1, Goes-after a b c s.0 s.2 t)

  -- its conversation received bytes
  pub Stays-receives : (c : Connection I O) (talk : Conversation) (input : I) (more : List ℕ) → c.lingers ≡ false → Receives more c.conversation talk
      → Consumes (remaining c.input) (remaining input) more → Stays remaining contents c (record c { input = input; conversation = talk })
  Stays-receives c talk input more talks receives reads = (
    refl,
    λ xs was u.
        let none = u.talks talks in
        let P : List ℕ → Type 0 = λ bs. Consumes (remaining was.0) (remaining c.input) bs in
        let before = subst P (ap (λ t. u.input ++ t) none ∙ append-nil u.input) u.reads in
        let Q : List ℕ → Type 0 = λ bs. Consumes (remaining was.0) (remaining input) bs in
        record {
          input = u.input ++ more;
          sent = u.sent;
          dropped = [];
          so_far = receives xs u.input u.sent u.so_far;
          reads = subst Q (sym (append-nil (u.input ++ more))) (Consumes-trans (remaining was.0) (remaining c.input) (remaining input) u.input more before reads);
          writes = u.writes;
          talks = λ _. refl;
        },
  )

  -- its conversation sent bytes
  pub Stays-sends : (c : Connection I O) (talk : Conversation) (output : O) (front : List ℕ) → Sends front c.conversation talk
      → Appends (contents c.output) (contents output) front → Stays remaining contents c (record c { output = output; conversation = talk })
  Stays-sends c talk output front sends writes = (
    refl,
    λ xs was u. record {
      input = u.input;
      sent = u.sent ++ front;
      dropped = u.dropped;
      so_far = sends xs u.input u.sent u.so_far;
      reads = u.reads;
      writes = Appends-trans (contents was.1) (contents c.output) (contents output) u.sent front u.writes writes;
      talks = u.talks;
    },
  )

  -- its input and output changed, but their bytes didn't
  pub Stays-kept : (c : Connection I O) (talk : Conversation) (input : I) (output : O) → talk ≡ c.conversation
      → Keeps (remaining c.input) (remaining input) → Keeps (contents c.output) (contents output) → Stays remaining contents c (record c { input = input; output = output; conversation = talk })
  Stays-kept c talk input output same reads writes = (
    refl,
    λ xs was u. record {
      input = u.input;
      sent = u.sent;
      dropped = u.dropped;
      so_far = subst (λ (t : Conversation). IsSoFar xs u.input u.sent t) (sym same) u.so_far;
      reads = Consumes-kept (remaining was.0) (remaining c.input) (remaining input) (u.input ++ u.dropped) u.reads reads;
      writes = Appends-kept (contents was.1) (contents c.output) (contents output) u.sent u.writes writes;
      talks = u.talks;
    },
  )

  -- the session is over
  pub Stays-lingers : (c : Connection I O) → Stays remaining contents c (record c { lingers = true })
  Stays-lingers c = (
    refl,
    λ xs was u. record {
      input = u.input;
      sent = u.sent;
      dropped = u.dropped;
      so_far = u.so_far;
      reads = u.reads;
      writes = u.writes;
      talks = λ e. absurd (cc);
    },
  )

  -- bytes were dropped after it
  pub Stays-drops : (c : Connection I O) (input : I) (more : List ℕ) → c.lingers ≡ true → Consumes (remaining c.input) (remaining input) more → Stays remaining contents c (record c { input = input })
  Stays-drops c input more lingers reads = (
    refl,
    λ xs was u.
        let Q : List ℕ → Type 0 = λ bs. Consumes (remaining was.0) (remaining input) bs in
        record {
          input = u.input;
          sent = u.sent;
          dropped = u.dropped ++ more;
          so_far = u.so_far;
          reads = subst Q (append_assoc u.input u.dropped more) (Consumes-trans (remaining was.0) (remaining c.input) (remaining input) (u.input ++ u.dropped) more u.reads reads);
          writes = u.writes;
          talks = λ e. let clash : true ≡ false = sym lingers ∙ e in absurd (cc);
        },
  )

  -- a message was processed
  pub Goes-answers : (c : Connection I O) (talk : Conversation) (ys : List Exchange) → Continues ys c.conversation talk → Goes remaining contents ys c (record c { conversation = talk })
  Goes-answers c talk ys answers = (
    refl,
    λ xs was u. record {
      input = u.input;
      sent = u.sent;
      dropped = u.dropped;
      so_far = answers xs u.input u.sent u.so_far;
      reads = u.reads;
      writes = u.writes;
      talks = u.talks;
    },
  )

  -- a connection that begins
  pub IsUnderWay-new : (c : Connection I O) (was : I × O) → c.input ≡ was.0 → c.output ≡ was.1 → IsSoFar [] [] [] c.conversation → IsUnderWay remaining contents [] was c
  IsUnderWay-new c was i o s = record {
    input = [];
    sent = [];
    dropped = [];
    so_far = s;
    reads = subst (λ (x : I). Consumes (remaining was.0) (remaining x) []) (sym i) (Consumes-nil (remaining was.0));
    writes = subst (λ (x : O). Appends (contents was.1) (contents x) []) (sym o) (Appends-nil (contents was.1));
    talks = λ _. refl;
  }

  -- a connection that is closed had a session
  pub IsUnderWay-visit : (xs : List Exchange) (was : I × O) (c : Connection I O) → IsUnderWay remaining contents xs was c → IsVisit remaining contents xs was (c.input, c.output)
  IsUnderWay-visit xs was c u =
      let parts = consumes_parts (remaining was.0) (remaining c.input) u.input u.dropped u.reads in
      record {
        left = prepend_known u.dropped (remaining c.input);
        session = IsSoFar-session xs u.input u.sent c.conversation (remaining was.0) (prepend_known u.dropped (remaining c.input)) (contents was.1) (contents c.output) u.so_far parts.0 u.writes;
        dropped = u.dropped;
        drops = parts.1;
      }

-- the bytes of a read
pub read_bytes : {E : Type 0} {X : Type 0} (r r' : Option (List ℕ)) (result : Result ℕ E) (buf : List ℕ) → ReadConsumes r r' result buf
    → ((more : List ℕ) → Consumes r r' more → X) → X
read_bytes r r' (Ok n) buf reads f = f (take n buf) reads.0
read_bytes r r' (Err e) buf reads f = f [] (Consumes-kept r r r' [] (Consumes-nil r) reads)
