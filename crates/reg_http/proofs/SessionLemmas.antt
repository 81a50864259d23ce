-- Sessions in parts: one message after another.
use Rattle.std.proofs.Common.{◌≡◌, ℕ, Bool, true, false, List, [], ◌∷◌, ◌++◌, drop, refl, sym, ap, inl, inr, subst, append-nil}
use Rattle.std.specs.Prelude.{Option}
use Rattle.std.specs.Io.KnownBytes.{Appends}
use Rattle.std.proofs.KnownBytes.{Appends-nil}
use Rattle.std.proofs.lemmas.List.Concat.{flat_map-append}
use Rattle.reg_core.specs.declared.code.Code.{Code}
use Rattle.reg_core.specs.Replies.{ReplyView}
use Rattle.reg_service.specs.Deliveries.{Exchange}
use Rattle.reg_http.specs.declared.writing.WriteOutcome.{WriteOutcome}
use Rattle.reg_http.specs.declared.writing.WriteOutcome.TheVariants.{Whole, CutShort, OutOfMemory as NoMemory}
use Rattle.reg_http.specs.declared.answering.Stop.{Stop}
use Rattle.reg_http.specs.declared.answering.StepOutcome.TheVariants.{Stopped}
use Rattle.reg_http.specs.declared.answering.Stop.TheVariants.{Waiting, AtClose, AtFault, NotWritten, OutOfMemory}
use Rattle.reg_messages.specs.Messages.{Message, StartsWithMessage, StartsWithMessages, Follows, Faulty}
use Rattle.reg_messages.specs.Closing.{closes}
use Rattle.reg_messages.proofs.Fronts.{StartsWithMessage-more}
use Rattle.reg_routes.specs.Deliveries.{delivery_of}
use Rattle.reg_http.specs.Output.{AnsweredMessage, response_to, exchange_of, exchanges, AreFaultsIfRejected, NoneCloses, responses}
use Rattle.reg_output.specs.Prefixes.{IsPrefix}
use Rattle.reg_http.specs.Inside.Replying.{IsReplyTo}
use Rattle.reg_http.specs.Sessions.{ProcessesMessages}
use Rattle.reg_http.specs.Inside.SessionSteps.{FaultAs, NextAs, step_outcome}

-- the message of an exchange
abbrev pub message_of : AnsweredMessage → Message
message_of x = x.0

pub StartsWithMessages-append : (bytes mid rest : List ℕ) (ms ks : List Message) → StartsWithMessages bytes ms mid → StartsWithMessages mid ks rest → StartsWithMessages bytes (ms ++ ks) rest
StartsWithMessages-append bytes mid rest [] ks e p = subst (λ (t : List ℕ). StartsWithMessages t ks rest) (sym e) p
StartsWithMessages-append bytes mid rest (m ∷ ms) ks p q = (p.0, p.1, StartsWithMessages-append p.0 mid rest ms ks p.2 q)

pub AreFaultsIfRejected-append : (xs ys : List AnsweredMessage) → AreFaultsIfRejected xs → AreFaultsIfRejected ys → AreFaultsIfRejected (xs ++ ys)
AreFaultsIfRejected-append [] ys p q = q
AreFaultsIfRejected-append (x ∷ xs) ys p q = (p.0, AreFaultsIfRejected-append xs ys p.1 q)

pub exchanges-append : (xs ys : List AnsweredMessage) → exchanges (xs ++ ys) ≡ exchanges xs ++ exchanges ys
exchanges-append xs ys = flat_map-append (λ (x : AnsweredMessage). exchange_of (delivery_of x.0) x.1) xs ys

pub responses-append : (xs ys : List AnsweredMessage) → responses (xs ++ ys) ≡ responses xs ++ responses ys
responses-append xs ys = flat_map-append (λ (x : AnsweredMessage). response_to x.0 x.1) xs ys

-- no message
pub ProcessesMessages-nil : (P : List Exchange → Type 0) (w : Option (List ℕ)) (bytes : List ℕ) → P [] → ProcessesMessages P w w bytes [] bytes []
ProcessesMessages-nil P w bytes none = record { leads = refl; rejected = tt; serves = none; writes = Appends-nil w }

-- one message
ProcessesMessages-one : (P : List Exchange → Type 0) (w w' : Option (List ℕ)) (bytes rest out : List ℕ) (m : Message) (reply : ReplyView)
    → StartsWithMessage bytes m rest → IsReplyTo P (delivery_of m) reply → Appends w w' out → ProcessesMessages P w w' bytes ((m, reply) ∷ []) rest out
ProcessesMessages-one P w w' bytes rest out m reply p r a = record {
  leads = (rest, p, refl);
  rejected = (r.rejected, tt);
  serves = subst P (sym (append-nil (exchange_of (delivery_of m) reply))) r.serves;
  writes = a;
}

-- the same with its whole response
all_of : (P : List Exchange → Type 0) (w w' : Option (List ℕ)) (bytes : List ℕ) (size : ℕ) (m : Message) (reply : ReplyView)
    → StartsWithMessage bytes m (drop size bytes) → IsReplyTo P (delivery_of m) reply → Appends w w' (response_to m reply)
    → ProcessesMessages P w w' bytes ((m, reply) ∷ []) (drop size bytes) (responses ((m, reply) ∷ []))
all_of P w w' bytes size m reply is r a =
    let Q : List ℕ → Type 0 = λ out. ProcessesMessages P w w' bytes ((m, reply) ∷ []) (drop size bytes) out in
    subst Q (sym (append-nil (response_to m reply))) (ProcessesMessages-one P w w' bytes (drop size bytes) (response_to m reply) m reply is r a)

pub NoneCloses-append : (xs ys : List AnsweredMessage) → NoneCloses xs → NoneCloses ys → NoneCloses (xs ++ ys)
NoneCloses-append [] ys p q = q
NoneCloses-append (x ∷ xs) ys p q = (p.0, NoneCloses-append xs ys p.1 q)

-- a fault got its response, or a beginning of it
pub NextAs-fault : (P : List Exchange → Type 0) (w w' : Option (List ℕ)) (bytes : List ℕ) (code : Code) (stop : Stop)
    → P [] → Follows bytes (Faulty code) → FaultAs w w' code stop → NextAs P w w' bytes (Stopped stop)
NextAs-fault P w w' bytes code AtFault none f a = (code, none, f, a)
NextAs-fault P w w' bytes code NotWritten none f a = inr (record { code = code; part = a.0; none = none; follows = f; front = a.1; writes = a.2 })
NextAs-fault P w w' bytes code OutOfMemory none f a = inr (inr (record { code = code; part = a.0; none = none; follows = f; front = a.1; writes = a.2 }))
NextAs-fault P w w' bytes code AtClose none f a = absurd a
NextAs-fault P w w' bytes code (Waiting needs) none f a = absurd a

-- a whole message got its response, or a beginning of it
pub NextAs-message : (P : List Exchange → Type 0) (w w' : Option (List ℕ)) (bytes : List ℕ) (size : ℕ) (m : Message) (reply : ReplyView)
    (sent : WriteOutcome) (close : Bool) → StartsWithMessage bytes m (drop size bytes) → IsReplyTo P (delivery_of m) reply → closes m ≡ close
    → (part : List ℕ) → IsPrefix part (response_to m reply) → Appends w w' part → (sent ≡ Whole → Appends w w' (response_to m reply))
    → NextAs P w w' bytes (step_outcome sent close size)
NextAs-message P w w' bytes size m reply Whole true is r c part front a whole = record {
  answered = (m, reply);
  rest = drop size bytes;
  closes_it = c;
  processes = all_of P w w' bytes size m reply is r (whole refl);
}
NextAs-message P w w' bytes size m reply Whole false is r c part front a whole = record {
  answered = (m, reply);
  stays = c;
  processes = all_of P w w' bytes size m reply is r (whole refl);
}
NextAs-message P w w' bytes size m reply CutShort close is r c part front a whole =
    inl (record { answered = (m, reply); rest = drop size bytes; part = part; front = front; processes = ProcessesMessages-one P w w' bytes (drop size bytes) part m reply is r a })
NextAs-message P w w' bytes size m reply NoMemory close is r c part front a whole =
    inr (inl (record { answered = (m, reply); rest = drop size bytes; part = part; front = front; processes = ProcessesMessages-one P w w' bytes (drop size bytes) part m reply is r a }))

pub StartsWithMessages-more : (bytes rest more : List ℕ) (ms : List Message) → StartsWithMessages bytes ms rest → StartsWithMessages (bytes ++ more) ms (rest ++ more)
StartsWithMessages-more bytes rest more [] e = ap (λ t. t ++ more) e
StartsWithMessages-more bytes rest more (m ∷ ms) p = (p.0 ++ more, StartsWithMessage-more bytes p.0 more m p.1, StartsWithMessages-more p.0 rest more ms p.2)
