-- The steps of a conversation, and its end.
use Rattle.std.proofs.Common.{◌≡◌, ◌⊎◌, ◌<◌, ℕ, Bool, true, false, List, [], ◌∷◌, ◌++◌, length, map, drop, refl, sym, ap, ◌∙◌, inl, inr, subst, append_assoc, append-nil, arith}
use Rattle.std.specs.Prelude.{Option, None, Some, nat_lt, if◌then◌else◌}
use Rattle.std.specs.Io.KnownBytes.{Appends, Consumes}
use Rattle.std.proofs.lemmas.Bool.{ltb-true, lt-ltb}
use Rattle.std.proofs.lemmas.List.{map-append}
use Rattle.reg_core.specs.declared.code.Code.{Code}
use Rattle.reg_service.specs.Deliveries.{Exchange}
use Rattle.reg_messages.specs.Messages.{Message, StartsWithMessages, Follows, Faulty}
use Rattle.reg_messages.specs.Responses.{fault_response}
use Rattle.reg_http.specs.declared.serving.Ended.{Ended}
use Rattle.reg_http.specs.declared.serving.Ended.TheVariants.{Closed, Malformed, WriteFailed, Memory}
use Rattle.reg_http.specs.declared.conversation.Step.TheVariants.{Receive, Answer, Send, End}
use Rattle.reg_http.specs.declared.answering.Stop.TheVariants.{Waiting, AtClose, AtFault, NotWritten, OutOfMemory}
use Rattle.reg_http.specs.declared.answering.StepOutcome.TheVariants.{Answered as AnsweredStep, Stopped}
use Rattle.reg_http.specs.declared.conversation.Conversation.{Conversation}
use Rattle.reg_http.specs.Output.{AnsweredMessage, response_to, exchanges, responses, IsCutShort}
use Rattle.reg_http.specs.Sessions.{EndsAs, Session}
use Rattle.reg_http.specs.Inside.SessionSteps.{IsIncompleteUntil, AnswersOne, AnswersLast, AnswersPart, AnsweredSoFar, NextAs}
use Rattle.reg_http.specs.Conversations.{step_in, LastPending, FaultPending, IsSentButLast, StageAs, SoFar, IsSoFar, Receives, Sends}
use Rattle.reg_http.proofs.SessionLemmas.{message_of, StartsWithMessages-append, StartsWithMessages-more, AreFaultsIfRejected-append, exchanges-append, responses-append, NoneCloses-append}
use Rattle.reg_http.proofs.EndLemmas.{IsIncompleteUntil-nothing, IsIncompleteUntil-more}

-- ---- which step comes next

pub record IsReceive (outbox held : List ℕ) (needs : ℕ) (ended : Option Ended) : Type 0 where
  pub sent : outbox ≡ []
  pub stays : ended ≡ None
  pub short : length held < needs

pub at_receive : (outbox held : List ℕ) (needs : ℕ) (ended : Option Ended) → step_in outbox held needs ended ≡ Receive → IsReceive outbox held needs ended
at_receive (byte ∷ bytes) held needs ended e = absurd (cc)
at_receive [] held needs (Some ended) e = absurd (cc)
at_receive [] held needs None e = by (nat_lt (length held) needs) refl e
  where
    by : (b : Bool) → nat_lt (length held) needs ≡ b → (if b then Receive else Answer) ≡ Receive → IsReceive [] held needs None
    by true is test = record { sent = refl; stays = refl; short = ltb-true (length held) needs is }
    by false is test = absurd (cc)

pub record IsAnswer (outbox held : List ℕ) (needs : ℕ) (ended : Option Ended) : Type 0 where
  pub sent : outbox ≡ []
  pub stays : ended ≡ None

pub at_answer : (outbox held : List ℕ) (needs : ℕ) (ended : Option Ended) → step_in outbox held needs ended ≡ Answer → IsAnswer outbox held needs ended
at_answer (byte ∷ bytes) held needs ended e = absurd (cc)
at_answer [] held needs (Some ended) e = absurd (cc)
at_answer [] held needs None e = record { sent = refl; stays = refl }

pub record IsEnd (outbox : List ℕ) (ended : Option Ended) (end : Ended) : Type 0 where
  pub sent : outbox ≡ []
  pub ends : ended ≡ Some end

pub at_end : (outbox held : List ℕ) (needs : ℕ) (ended : Option Ended) (end : Ended) → step_in outbox held needs ended ≡ End end → IsEnd outbox ended end
at_end (byte ∷ bytes) held needs ended end e = absurd (cc)
at_end [] held needs (Some ended) end e = record { sent = refl; ends = cc }
at_end [] held needs None end e = by (nat_lt (length held) needs) e
  where
    by : (b : Bool) → (if b then Receive else Answer) ≡ End end → IsEnd [] None end
    by true test = absurd (cc)
    by false test = absurd (cc)

pub at_send : (outbox held : List ℕ) (needs : ℕ) (ended : Option Ended) → step_in outbox held needs ended ≡ Send → outbox ≡ [] → ⊥
at_send (byte ∷ bytes) held needs ended e none = absurd (cc)
at_send [] held needs (Some ended) e none = absurd (cc)
at_send [] held needs None e none = by (nat_lt (length held) needs) e
  where
    by : (b : Bool) → (if b then Receive else Answer) ≡ Send → ⊥
    by true test = absurd (cc)
    by false test = absurd (cc)

-- a conversation that has ended answers no more
pub answers_no_more : (outbox held : List ℕ) (needs : ℕ) (ended : Option Ended) (end : Ended) → ended ≡ Some end → step_in outbox held needs ended ≡ Answer → ⊥
answers_no_more (byte ∷ bytes) held needs ended end is e = absurd (cc)
answers_no_more [] held needs (Some other) end is e = absurd (cc)
answers_no_more [] held needs None end is e = absurd (cc)

-- nor does one with too few bytes
pub answers_few : (outbox held : List ℕ) (needs : ℕ) (ended : Option Ended) → length held < needs → step_in outbox held needs ended ≡ Answer → ⊥
answers_few (byte ∷ bytes) held needs ended short e = absurd (cc)
answers_few [] held needs (Some end) short e = absurd (cc)
answers_few [] held needs None short e = by (nat_lt (length held) needs) (lt-ltb (length held) needs short) e
  where
    by : (b : Bool) → b ≡ true → (if b then Receive else Answer) ≡ Answer → ⊥
    by true is test = absurd (cc)
    by false is test = absurd (cc)

-- ---- the beginning

pub SoFar-new : SoFar [] [] [] [] [] 1 None
SoFar-new = record {
  answered = [];
  rest = [];
  leads = refl;
  rejected = tt;
  are = refl;
  stage = record { stay = tt; left = refl; waits = λ few. IsIncompleteUntil-nothing [] refl; all = refl };
  unsent = inl (refl, inl (tt, refl));
}

module _ (xs : List Exchange) (input sent held : List ℕ) (needs : ℕ) where
  -- with an empty outbox, every response was sent in full
  all_sent : (s : SoFar xs input sent [] held needs None) → sent ≡ responses s.answered
  all_sent s = sym (append-nil sent) ∙ s.stage.all

  -- it receives bytes
  pub SoFar-receives : (more : List ℕ) → length held < needs → SoFar xs input sent [] held needs None → SoFar xs (input ++ more) sent [] (held ++ more) needs None
  SoFar-receives more short s = record {
    answered = s.answered;
    rest = s.rest ++ more;
    leads = StartsWithMessages-more input s.rest more (map message_of s.answered) s.leads;
    rejected = s.rejected;
    are = s.are;
    stage = record {
      stay = s.stage.stay;
      left = ap (λ t. t ++ more) s.stage.left;
      waits = λ few. IsIncompleteUntil-more held more needs (s.stage.waits short) few;
      all = s.stage.all;
    };
    unsent = inl (refl, inl (s.stage.stay, all_sent s));
  }

  -- no whole message was there
  pub SoFar-waits : (needs' : ℕ) → IsIncompleteUntil held needs' → SoFar xs input sent [] held needs None → SoFar xs input sent [] held needs' None
  SoFar-waits needs' waits s = record {
    answered = s.answered;
    rest = s.rest;
    leads = s.leads;
    rejected = s.rejected;
    are = s.are;
    stage = record { stay = s.stage.stay; left = s.stage.left; waits = λ few. waits; all = s.stage.all };
    unsent = s.unsent;
  }

  -- the messages with one more
  joined_leads : (s : SoFar xs input sent [] held needs None) (m : AnsweredMessage) (rest : List ℕ) → StartsWithMessages held (map message_of (m ∷ [])) rest
      → StartsWithMessages input (map message_of (s.answered ++ m ∷ [])) rest
  joined_leads s m rest one =
      let at = subst (λ (bytes : List ℕ). StartsWithMessages bytes (map message_of (m ∷ [])) rest) (sym s.stage.left) one in
      subst (λ (ms : List Message). StartsWithMessages input ms rest) (sym (map-append message_of s.answered (m ∷ [])))
      (StartsWithMessages-append input s.rest rest (map message_of s.answered) (map message_of (m ∷ [])) s.leads at)

  joined_are : (s : SoFar xs input sent [] held needs None) (m : AnsweredMessage) → exchanges (s.answered ++ m ∷ []) ≡ xs ++ exchanges (m ∷ [])
  joined_are s m = exchanges-append s.answered (m ∷ []) ∙ ap (λ ys. ys ++ exchanges (m ∷ [])) s.are

  joined_due : (s : SoFar xs input sent [] held needs None) (m : AnsweredMessage) (bytes : List ℕ) → bytes ≡ responses (m ∷ []) → sent ++ bytes ≡ responses (s.answered ++ m ∷ [])
  joined_due s m bytes is = (λ i. all_sent s i ++ is i) ∙ sym (responses-append s.answered (m ∷ []))

  one_response : (m : AnsweredMessage) (bytes : List ℕ) → bytes ≡ responses (m ∷ []) → bytes ≡ response_to m.0 m.1
  one_response m bytes is = is ∙ append-nil (response_to m.0 m.1)

  pending_last : (s : SoFar xs input sent [] held needs None) (m : AnsweredMessage) (bytes : List ℕ) → bytes ≡ responses (m ∷ []) → LastPending (s.answered ++ m ∷ []) sent bytes
  pending_last s m bytes is = record {
    before = s.answered;
    last = m;
    part = [];
    split = refl;
    stay = s.stage.stay;
    whole = one_response m bytes is;
    written = all_sent s ∙ sym (append-nil (responses s.answered));
  }

  -- a message got its response, which waits in the outbox
  pub SoFar-answered : (P : List Exchange → Type 0) (bytes : List ℕ) (size : ℕ) → (a : AnswersOne P (Some []) (Some bytes) held size) → SoFar xs input sent [] held needs None
      → SoFar (xs ++ exchanges (a.answered ∷ [])) input sent bytes (drop size held) 1 None
  SoFar-answered P bytes size a s =
      let m = a.answered in
      let is : bytes ≡ responses (m ∷ []) = a.processes.writes in
      record {
        answered = s.answered ++ m ∷ [];
        rest = drop size held;
        leads = joined_leads s m (drop size held) a.processes.leads;
        rejected = AreFaultsIfRejected-append s.answered (m ∷ []) s.rejected a.processes.rejected;
        are = joined_are s m;
        stage = record {
          stay = NoneCloses-append s.answered (m ∷ []) s.stage.stay (a.stays, tt);
          left = refl;
          waits = λ few. none_left few;
          all = joined_due s m bytes is;
        };
        unsent = inr (inl (pending_last s m bytes is));
      }
    where
      none_of : (ys : List ℕ) → length ys < 1 → IsIncompleteUntil ys 1
      none_of [] few = IsIncompleteUntil-nothing [] refl
      none_of (y ∷ ys) few = absurd (omega (arith, few))

      none_left : length (drop size held) < 1 → IsIncompleteUntil (drop size held) 1
      none_left few = none_of (drop size held) few

  -- the last message got its response
  pub SoFar-closes : (P : List Exchange → Type 0) (bytes : List ℕ) → (a : AnswersLast P (Some []) (Some bytes) held) → SoFar xs input sent [] held needs None
      → SoFar (xs ++ exchanges (a.answered ∷ [])) input sent bytes held needs (Some Closed)
  SoFar-closes P bytes a s =
      let m = a.answered in
      let is : bytes ≡ responses (m ∷ []) = a.processes.writes in
      record {
        answered = s.answered ++ m ∷ [];
        rest = a.rest;
        leads = joined_leads s m a.rest a.processes.leads;
        rejected = AreFaultsIfRejected-append s.answered (m ∷ []) s.rejected a.processes.rejected;
        are = joined_are s m;
        stage = λ reader. inl (record { before = s.answered; last = m; split = refl; stay = s.stage.stay; closes_it = a.closes_it }, joined_due s m bytes is);
        unsent = inr (inl (pending_last s m bytes is));
      }

  follows_rest : (s : SoFar xs input sent [] held needs None) (code : Code) → Follows held (Faulty code) → Follows s.rest (Faulty code)
  follows_rest s code f = subst (λ (bytes : List ℕ). Follows bytes (Faulty code)) (sym s.stage.left) f

  -- a fault got its response
  pub SoFar-faulty : (code : Code) (bytes : List ℕ) → Follows held (Faulty code) → bytes ≡ fault_response code → SoFar xs input sent [] held needs None
      → SoFar xs input sent bytes held needs (Some Malformed)
  SoFar-faulty code bytes f is s = record {
    answered = s.answered;
    rest = s.rest;
    leads = s.leads;
    rejected = s.rejected;
    are = s.are;
    stage = λ reader. inl (code, s.stage.stay, follows_rest s code f, λ i. all_sent s i ++ is i);
    unsent = inr (inr (record {
      code = code;
      part = [];
      stay = s.stage.stay;
      follows = follows_rest s code f;
      whole = is;
      written = all_sent s ∙ sym (append-nil (responses s.answered));
    }));
  }

  -- nothing was processed, since an allocation failed
  pub SoFar-fails : SoFar xs input sent [] held needs None → SoFar xs input sent [] held needs (Some Memory)
  SoFar-fails s = record {
    answered = s.answered;
    rest = s.rest;
    leads = s.leads;
    rejected = s.rejected;
    are = s.are;
    stage = λ reader. inl (s.stage.stay, s.stage.all);
    unsent = inl (refl, inl (s.stage.stay, all_sent s));
  }

  -- a message was processed, and allocating its response failed
  pub SoFar-cut : (P : List Exchange → Type 0) (bytes : List ℕ) → (a : AnswersPart P (Some []) (Some bytes) held) → SoFar xs input sent [] held needs None
      → SoFar (xs ++ exchanges (a.answered ∷ [])) input sent [] held needs (Some Memory)
  SoFar-cut P bytes a s =
      let m = a.answered in
      let cut : (out : List ℕ) → out ≡ responses s.answered → IsCutShort (s.answered ++ m ∷ []) a.rest out = λ out is. inl (record {
        before = s.answered;
        last = m;
        part = [];
        split = refl;
        stay = s.stage.stay;
        front = (response_to m.0 m.1, refl);
        written = is ∙ sym (append-nil (responses s.answered));
      }) in
      record {
        answered = s.answered ++ m ∷ [];
        rest = a.rest;
        leads = joined_leads s m a.rest a.processes.leads;
        rejected = AreFaultsIfRejected-append s.answered (m ∷ []) s.rejected a.processes.rejected;
        are = joined_are s m;
        stage = λ reader. inr (cut (sent ++ []) s.stage.all);
        unsent = inl (refl, inr (cut sent (all_sent s)));
      }

module _ (xs : List Exchange) (input sent held : List ℕ) (needs : ℕ) (ended : Option Ended) where
  -- it sends a part of its outbox
  pub SoFar-sends : (outbox front left : List ℕ) → outbox ≡ front ++ left → (outbox ≡ [] → ⊥) → SoFar xs input sent outbox held needs ended
      → SoFar xs input (sent ++ front) left held needs ended
  SoFar-sends outbox front left split some s =
      let e : sent ++ outbox ≡ (sent ++ front) ++ left = ap (λ t. sent ++ t) split ∙ sym (append_assoc sent front left) in
      record {
        answered = s.answered;
        rest = s.rest;
        leads = s.leads;
        rejected = s.rejected;
        are = s.are;
        stage = subst (λ (due : List ℕ). StageAs s.answered s.rest due held needs ended) e s.stage;
        unsent = later s.unsent;
      }
    where
      longer : (part whole : List ℕ) → part ++ outbox ≡ whole → (part ++ front) ++ left ≡ whole
      longer part whole is = append_assoc part front left ∙ (ap (λ t. part ++ t) (sym split) ∙ is)

      further : (before part : List ℕ) → sent ≡ before ++ part → sent ++ front ≡ before ++ (part ++ front)
      further before part is = ap (λ t. t ++ front) is ∙ append_assoc before part front

      later : {answered : List AnsweredMessage} {rest : List ℕ} → IsSentButLast answered rest sent outbox → IsSentButLast answered rest (sent ++ front) left
      later (inl none) = absurd (some none.0)
      later (inr (inl p)) = inr (inl (record {
        before = p.before;
        last = p.last;
        part = p.part ++ front;
        split = p.split;
        stay = p.stay;
        whole = longer p.part (response_to p.last.0 p.last.1) p.whole;
        written = further (responses p.before) p.part p.written;
      }))
      later {answered} (inr (inr p)) = inr (inr (record {
        code = p.code;
        part = p.part ++ front;
        stay = p.stay;
        follows = p.follows;
        whole = longer p.part (fault_response p.code) p.whole;
        written = further (responses answered) p.part p.written;
      }))

  module _ (P : List Exchange → Type 0) (r r' w w' : Option (List ℕ)) (outbox : List ℕ) (reads : Consumes r r' input) (writes : Appends w w' sent) (p : P xs) where
    -- the session up to here, which ends so
    session : (s : SoFar xs input sent outbox held needs ended) (end : Ended) → EndsAs r' s.answered s.rest sent end → Session P r r' w w' end
    session s end ends = record {
      input = input;
      reads = reads;
      answered = s.answered;
      rest = s.rest;
      out = sent;
      processes = record { leads = s.leads; rejected = s.rejected; serves = subst P (sym s.are) p; writes = writes };
      ends = ends;
    }

    cut_last : {answered : List AnsweredMessage} {rest : List ℕ} → LastPending answered sent outbox ⊎ FaultPending answered rest sent outbox → IsCutShort answered rest sent
    cut_last (inl l) = inl (record { before = l.before; last = l.last; part = l.part; split = l.split; stay = l.stay; front = (outbox, l.whole); written = l.written })
    cut_last (inr f) = inr (record { code = f.code; part = f.part; stay = f.stay; follows = f.follows; front = (outbox, f.whole); written = f.written })

    -- Whenever it is dropped, it was a session.
    pub SoFar-session : SoFar xs input sent outbox held needs ended → Session P r r' w w' Memory
    SoFar-session s = by s.unsent
      where
        by : IsSentButLast s.answered s.rest sent outbox → Session P r r' w w' Memory
        by (inl none) = session s Memory none.1
        by (inr cut) = session s Memory (inr (cut_last cut))

    -- a write failed
    pub SoFar-write_failed : (outbox ≡ [] → ⊥) → SoFar xs input sent outbox held needs ended → Session P r r' w w' WriteFailed
    SoFar-write_failed some s = by s.unsent
      where
        by : IsSentButLast s.answered s.rest sent outbox → Session P r r' w w' WriteFailed
        by (inl none) = absurd (some none.0)
        by (inr cut) = session s WriteFailed (cut_last cut)

module _ (xs : List Exchange) (input sent held : List ℕ) (needs : ℕ) (P : List Exchange → Type 0) (r r' w w' : Option (List ℕ)) (reads : Consumes r r' input) (writes : Appends w w' sent) (p : P xs) where
  -- it ended, and every response was sent in full
  pub SoFar-ended : (end : Ended) → SoFar xs input sent [] held needs (Some end) → Session P r r' w w' end
  SoFar-ended end s = session xs input sent held needs (Some end) P r r' w w' [] reads writes p s end (subst (λ (out : List ℕ). EndsAs r' s.answered s.rest out end) (append-nil sent) (s.stage r'))

  -- it continues, and every response was sent in full
  pub SoFar-open : SoFar xs input sent [] held needs None → AnsweredSoFar P w w' input held
  SoFar-open s =
      let e = all_sent xs input sent held needs s in
      record {
        answered = s.answered;
        stay = s.stage.stay;
        processes = record {
          leads = subst (λ (rest : List ℕ). StartsWithMessages input (map message_of s.answered) rest) s.stage.left s.leads;
          rejected = s.rejected;
          serves = subst P (sym s.are) p;
          writes = subst (λ (out : List ℕ). Appends w w' out) e writes;
        };
      }

  pub SoFar-incomplete : length held < needs → SoFar xs input sent [] held needs None → IsIncompleteUntil held needs
  SoFar-incomplete short s = s.stage.waits short

-- ---- the steps of the code

-- it received `more`
pub received : (outbox held held' more : List ℕ) (needs : ℕ) (ended : Option Ended) → step_in outbox held needs ended ≡ Receive → held' ≡ held ++ more
    → (xs : List Exchange) (input sent : List ℕ) → SoFar xs input sent outbox held needs ended → SoFar xs (input ++ more) sent outbox held' needs ended
received (byte ∷ bytes) held held' more needs ended step is xs input sent s = absurd (cc)
received [] held held' more needs (Some end) step is xs input sent s = absurd (cc)
received [] held held' more needs None step is xs input sent s =
    let at = at_receive [] held needs None step in
    subst (λ (h : List ℕ). SoFar xs (input ++ more) sent [] h needs None) (sym is) (SoFar-receives xs input sent held needs more at.short s)

-- if nothing changed, nothing was received
pub received_none : (outbox held held' : List ℕ) (needs : ℕ) (ended : Option Ended) → held' ≡ held
    → (xs : List Exchange) (input sent : List ℕ) → SoFar xs input sent outbox held needs ended → SoFar xs (input ++ []) sent outbox held' needs ended
received_none outbox held held' needs ended is xs input sent s =
    subst (λ (i : List ℕ). SoFar xs i sent outbox held' needs ended) (sym (append-nil input)) (subst (λ (h : List ℕ). SoFar xs input sent outbox h needs ended) (sym is) s)

-- it sent `front`
pub sent_front : (outbox held front left : List ℕ) (needs : ℕ) (ended : Option Ended) → step_in outbox held needs ended ≡ Send → outbox ≡ front ++ left
    → (xs : List Exchange) (input sent : List ℕ) → SoFar xs input sent outbox held needs ended → SoFar xs input (sent ++ front) left held needs ended
sent_front outbox held front left needs ended step split xs input sent s = SoFar-sends xs input sent held needs ended outbox front left split (at_send outbox held needs ended step) s

-- one message was processed, or none
abbrev pub StepsTo : (List Exchange → Type 0) → List ℕ → List ℕ → ℕ → Option Ended → List ℕ → List ℕ → ℕ → Option Ended → Type 0
StepsTo P outbox held needs ended outbox' held' needs' ended' =
    (ys : List Exchange) × P ys × ((xs : List Exchange) (input sent : List ℕ) → SoFar xs input sent outbox held needs ended → SoFar (xs ++ ys) input sent outbox' held' needs' ended')

-- the state in which a message is processed
at_message : (outbox held : List ℕ) (needs : ℕ) (ended : Option Ended) → step_in outbox held needs ended ≡ Answer
    → (xs : List Exchange) (input sent : List ℕ) → SoFar xs input sent outbox held needs ended → SoFar xs input sent [] held needs None
at_message outbox held needs ended step xs input sent s =
    let at = at_answer outbox held needs ended step in
    let At : List ℕ × Option Ended → Type 0 = λ p. SoFar xs input sent p.0 held needs p.1 in
    subst At (λ i. (at.sent i, at.stays i)) s

module _ (P : List Exchange → Type 0) (outbox held : List ℕ) (needs : ℕ) (ended : Option Ended) (step : step_in outbox held needs ended ≡ Answer) (bytes : List ℕ) where
  no_exchange : (held' : List ℕ) (needs' : ℕ) (ended' : Option Ended) → P []
      → ((xs : List Exchange) (input sent : List ℕ) → SoFar xs input sent [] held needs None → SoFar xs input sent bytes held' needs' ended') → StepsTo P outbox held needs ended bytes held' needs' ended'
  no_exchange held' needs' ended' none goes = (
    [],
    none,
    λ xs input sent s.
        subst (λ (ys : List Exchange). SoFar ys input sent bytes held' needs' ended') (sym (append-nil xs)) (goes xs input sent (at_message outbox held needs ended step xs input sent s)),
  )

  pub step_answered : (size : ℕ) → NextAs P (Some []) (Some bytes) held (AnsweredStep size) → StepsTo P outbox held needs ended bytes (drop size held) 1 None
  step_answered size a = (
    exchanges (a.answered ∷ []),
    a.processes.serves,
    λ xs input sent s. SoFar-answered xs input sent held needs P bytes size a (at_message outbox held needs ended step xs input sent s),
  )

  pub step_waiting : (needs' : ℕ) → NextAs P (Some []) (Some bytes) held (Stopped (Waiting needs')) → StepsTo P outbox held needs ended bytes held needs' None
  step_waiting needs' a =
      no_exchange held needs' None a.0.0 (λ xs input sent s.
      subst (λ (out : List ℕ). SoFar xs input sent out held needs' None) (sym a.0.1) (SoFar-waits xs input sent held needs needs' a.1 s))

  pub step_closes : NextAs P (Some []) (Some bytes) held (Stopped AtClose) → StepsTo P outbox held needs ended bytes held needs (Some Closed)
  step_closes a = (
    exchanges (a.answered ∷ []),
    a.processes.serves,
    λ xs input sent s. SoFar-closes xs input sent held needs P bytes a (at_message outbox held needs ended step xs input sent s),
  )

  pub step_faulty : NextAs P (Some []) (Some bytes) held (Stopped AtFault) → StepsTo P outbox held needs ended bytes held needs (Some Malformed)
  step_faulty a = no_exchange held needs (Some Malformed) a.1 (λ xs input sent s. SoFar-faulty xs input sent held needs a.0 bytes a.2 a.3 s)

module _ (P : List Exchange → Type 0) (outbox held : List ℕ) (needs : ℕ) (ended : Option Ended) (step : step_in outbox held needs ended ≡ Answer) (bytes : List ℕ) where
  step_nothing : P [] → StepsTo P outbox held needs ended [] held needs (Some Memory)
  step_nothing none = no_exchange P outbox held needs ended step [] held needs (Some Memory) none (λ xs input sent s. SoFar-fails xs input sent held needs s)

  step_part : AnswersPart P (Some []) (Some bytes) held → StepsTo P outbox held needs ended [] held needs (Some Memory)
  step_part a = (
    exchanges (a.answered ∷ []),
    a.processes.serves,
    λ xs input sent s. SoFar-cut xs input sent held needs P bytes a (at_message outbox held needs ended step xs input sent s),
  )

  pub step_cut : NextAs P (Some []) (Some bytes) held (Stopped NotWritten) → StepsTo P outbox held needs ended [] held needs (Some Memory)
  step_cut (inl a) = step_part a
  step_cut (inr a) = step_nothing a.none

  pub step_fails : NextAs P (Some []) (Some bytes) held (Stopped OutOfMemory) → StepsTo P outbox held needs ended [] held needs (Some Memory)
  step_fails (inl a) = step_nothing a.0
  step_fails (inr a) = step_cut a

-- the same with other names of what is left
pub steps_same : (P : List Exchange → Type 0) (outbox held : List ℕ) (needs : ℕ) (ended : Option Ended) (o o' h h' : List ℕ) (n n' : ℕ) (e e' : Option Ended)
    → o' ≡ o → h' ≡ h → n' ≡ n → e' ≡ e → StepsTo P outbox held needs ended o h n e → StepsTo P outbox held needs ended o' h' n' e'
steps_same P outbox held needs ended o o' h h' n n' e e' oo hh nn ee s =
    let At : List ℕ × (List ℕ × (ℕ × Option Ended)) → Type 0 = λ p. StepsTo P outbox held needs ended p.0 p.1.0 p.1.1.0 p.1.1.1 in
    subst At (λ i. (sym oo i, (sym hh i, (sym nn i, sym ee i)))) s

-- nothing changed
pub receives_nothing : (old new : Conversation) → new ≡ old → Receives [] old new
receives_nothing old new e xs input sent s =
    subst (λ (c : Conversation). IsSoFar xs (input ++ []) sent c) (sym e) (subst (λ (i : List ℕ). IsSoFar xs i sent old) (sym (append-nil input)) s)

pub sends_nothing : (old new : Conversation) → new ≡ old → Sends [] old new
sends_nothing old new e xs input sent s =
    subst (λ (c : Conversation). IsSoFar xs input (sent ++ []) c) (sym e) (subst (λ (i : List ℕ). IsSoFar xs input i old) (sym (append-nil sent)) s)
