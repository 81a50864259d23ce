-- From the stop of the responses to the end of the session.
use Rattle.std.proofs.Common.{◌≡◌, ◌⊎◌, ◌<◌, ℕ, List, [], ◌∷◌, ◌++◌, length, inl, inr, refl, sym, ap, subst, append-nil, append_assoc, arith}
use Rattle.std.specs.Prelude.{Option}
use Rattle.std.specs.Io.KnownBytes.{Consumes, IsAtEnd}
use Rattle.std.proofs.KnownBytes.{Consumes-nil}
use Rattle.reg_service.specs.Deliveries.{Exchange}
use Rattle.reg_messages.specs.Messages.{Follows, Part}
use Rattle.reg_messages.specs.ParseOutcomes.{IsPartialUntil}
use Rattle.reg_http.specs.declared.serving.Ended.{Ended}
use Rattle.reg_http.specs.declared.serving.Ended.TheVariants.{Closed, ReadFailed, Malformed, Memory}
use Rattle.reg_http.specs.Output.{responses, exchanges}
use Rattle.reg_http.specs.Inside.InputEnds.{end_of}
use Rattle.reg_http.specs.Sessions.{EndsAs, Session}
use Rattle.reg_http.specs.Inside.SessionSteps.{IsIncompleteUntil, AnsweredSoFar}
use Rattle.reg_http.proofs.SessionLemmas.{ProcessesMessages-nil}

-- the buffer, if it has less than a whole message
held : (bytes : List ℕ) (needs : ℕ) → IsIncompleteUntil bytes needs → (bytes ≡ []) ⊎ Follows bytes Part
held bytes needs w =
    let e : bytes ++ [] ≡ bytes = append-nil bytes in
    subst (λ (b : List ℕ). (b ≡ []) ⊎ Follows b Part) e (w.part [] (omega (arith, w.short, ap length e)))

-- the buffer is empty
pub IsIncompleteUntil-nothing : (bytes : List ℕ) → bytes ≡ [] → IsIncompleteUntil bytes 1
IsIncompleteUntil-nothing bytes none = record {
  short = omega (arith, ap length none);
  fits = omega arith;
  part = λ more few. inl (no_bytes (bytes ++ more) few);
}
  where
    no_bytes : (xs : List ℕ) → length xs < 1 → xs ≡ []
    no_bytes [] few = refl
    no_bytes (x ∷ xs) few = absurd (omega arith)

-- the buffer has a part of a message
pub IsIncompleteUntil-part : (bytes : List ℕ) (needs : ℕ) → IsPartialUntil bytes needs → IsIncompleteUntil bytes needs
IsIncompleteUntil-part bytes needs p = record {
  short = p.short;
  fits = omega (arith, p.fits);
  part = λ more few. inr (p.part more few);
}

-- more bytes, but still too few
pub IsIncompleteUntil-more : (bytes more : List ℕ) (needs : ℕ) → IsIncompleteUntil bytes needs → length (bytes ++ more) < needs → IsIncompleteUntil (bytes ++ more) needs
IsIncompleteUntil-more bytes more needs w short = record {
  short = short;
  fits = w.fits;
  part = λ others few.
      let e = append_assoc bytes more others in
      subst (λ (b : List ℕ). (b ≡ []) ⊎ Follows b Part) (sym e) (w.part (more ++ others) (omega (arith, few, ap length e)));
}

module _ (P : List Exchange → Type 0) (r r' w w' : Option (List ℕ)) (input rest : List ℕ) (reads : Consumes r r' input) (s : AnsweredSoFar P w w' input rest) where
  -- a session so far
  so_far : (ended : Ended) → EndsAs r' s.answered rest (responses s.answered) ended → Session P r r' w w' ended
  so_far ended e = record {
    input = input;
    reads = reads;
    answered = s.answered;
    rest = rest;
    out = responses s.answered;
    processes = s.processes;
    ends = e;
  }

  whole : responses s.answered ≡ responses s.answered ++ []
  whole = sym (append-nil (responses s.answered))

  -- the input ended
  pub Session-ended : (needs : ℕ) → IsIncompleteUntil rest needs → IsAtEnd r' → Session P r r' w w' (end_of rest)
  Session-ended needs waits end = by rest refl
    where
      by : (held_now : List ℕ) → rest ≡ held_now → Session P r r' w w' (end_of held_now)
      by [] e = so_far Closed (inr (s.stay, end, e, whole))
      by (byte ∷ bytes) e = inside (held rest needs waits)
        where
          inside : (rest ≡ []) ⊎ Follows rest Part → Session P r r' w w' Malformed
          inside (inl none) = absurd (cc)
          inside (inr part) = so_far Malformed (inr (s.stay, end, part, whole))

  -- a read failed
  pub Session-failed : (needs : ℕ) → IsIncompleteUntil rest needs → Session P r r' w w' ReadFailed
  Session-failed needs waits = by (held rest needs waits)
    where
      by : (rest ≡ []) ⊎ Follows rest Part → Session P r r' w w' ReadFailed
      by (inl none) = so_far ReadFailed (s.stay, inl none, refl)
      by (inr part) = so_far ReadFailed (s.stay, inr part, refl)

-- an allocation failed before anything was read
pub Session-unread : (P : List Exchange → Type 0) (r w : Option (List ℕ)) → P [] → Session P r r w w Memory
Session-unread P r w none =
    record { input = []; reads = Consumes-nil r; answered = []; rest = []; out = []; processes = ProcessesMessages-nil P w [] none; ends = inl (tt, refl) }

-- a consequence of what is true of the exchanges
pub Session-map : (P Q : List Exchange → Type 0) → ((xs : List Exchange) → P xs → Q xs) → (r r' w w' : Option (List ℕ)) (ended : Ended) → Session P r r' w w' ended → Session Q r r' w w' ended
Session-map P Q follows r r' w w' ended s = record {
  input = s.input;
  reads = s.reads;
  answered = s.answered;
  rest = s.rest;
  out = s.out;
  processes = record { leads = s.processes.leads; rejected = s.processes.rejected; serves = follows (exchanges s.answered) s.processes.serves; writes = s.processes.writes };
  ends = s.ends;
}

-- the exchanges of a session
pub Session-same : (P : List Exchange → Type 0) (r r' w w' : Option (List ℕ)) (ended : Ended) (s : Session P r r' w w' ended) → Session (λ xs. xs ≡ exchanges s.answered) r r' w w' ended
Session-same P r r' w w' ended s = record {
  input = s.input;
  reads = s.reads;
  answered = s.answered;
  rest = s.rest;
  out = s.out;
  processes = record { leads = s.processes.leads; rejected = s.processes.rejected; serves = refl; writes = s.processes.writes };
  ends = s.ends;
}
