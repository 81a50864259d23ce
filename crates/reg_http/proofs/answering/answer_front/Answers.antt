use Rattle.std.proofs.Common.{◌≡◌, ℕ, ◌+◌, List, inl, refl, sym, ap, ◌∙◌, subst}
use Rattle.std.specs.Prelude.{Result, option_map}
use denote.Ref.{Bor}
use Rattle.std.specs.Io.KnownBytes.{Appends}
use Rattle.std.proofs.KnownBytes.{Appends-nil}
use Rattle.reg_core.specs.declared.delivery.Delivery.{Delivery}
use Rattle.reg_service.specs.Processing.{ProcessesEach}
use Rattle.reg_messages.specs.Responses.{response_bytes}
use Rattle.reg_messages.specs.Closing.{closes}
use Rattle.reg_routes.specs.Deliveries.{Rejection, allow_field}
use Rattle.reg_http.specs.Output.{response_to}
use Rattle.reg_http.specs.Inside.Replying.{IsReplyTo}
use Rattle.reg_http.proofs.ReplyLemmas.{requested_of_borrowed, closes_of_borrowed}
use Rattle.reg_http.proofs.SessionLemmas.{NextAs-fault, NextAs-message}
use Rattle.reg_http.proofs.EndLemmas.{IsIncompleteUntil-nothing, IsIncompleteUntil-part}
use Rattle.reg_http.proofs.answering.answer_front.Goals as goal

pub returns-in-Whole-clause-next : goal.returns-in-Whole-clause-next
returns-in-Whole-clause-next g c =
    let m = c.in-Whole.ensures.0 in
    let w = c.in-Whole.ensures.1 in
    let request = c.from_spans-request.result in
    let borrowed = c.from_spans-request.ensures m w in
    let reply = c.reply_to-reply.result.0 in
    let what = requested_of_borrowed request m borrowed in
    let closing : closes m ≡ c.closes-close.result = sym (c.closes-close.ensures ∙ closes_of_borrowed request m borrowed) in
    let P : Result Delivery Rejection → Type 0 = λ requested. IsReplyTo (ProcessesEach c.args.service.now c.reply_to-reply.new.service) requested reply in
    let replies = subst P what c.reply_to-reply.ensures.replies in
    let bytes : response_bytes reply (option_map (λ (text : Bor (List ℕ)). text.now) c.reply_to-reply.result.1) c.closes-close.result ≡ response_to m reply =
    (λ i. response_bytes reply (c.reply_to-reply.ensures.allow i) (sym closing i)) ∙ ap (λ requested. response_bytes reply (allow_field requested reply) (closes m)) what in
    let front = c.send-sent.ensures.front in
    let Q : List ℕ → Type 0 = λ out. Appends (g.W.Write.contents c.args.writer.now) (g.W.Write.contents c.send-sent.new.writer) out in
    let next = NextAs-message _ _ _ c.args.bytes.now (c.in-Whole.whole.head.len + c.in-Whole.whole.body) m reply c.send-sent.result c.closes-close.result
    w.reads replies closing front.0 (front.1.0, front.1.1 ∙ bytes) front.2 (λ h. subst Q bytes (c.send-sent.ensures.whole h)) in
    rw c.step_outcome.ensures next

pub returns-in-Nothing-clause-within : goal.returns-in-Nothing-clause-within
returns-in-Nothing-clause-within g c = IsIncompleteUntil-nothing c.args.bytes.now c.in-Nothing.ensures

pub returns-in-Nothing-clause-next : goal.returns-in-Nothing-clause-next
returns-in-Nothing-clause-next g c = ((refl, Appends-nil _), IsIncompleteUntil-nothing c.args.bytes.now c.in-Nothing.ensures)

pub returns-in-Part-clause-within : goal.returns-in-Part-clause-within
returns-in-Part-clause-within g c = IsIncompleteUntil-part c.args.bytes.now c.in-Part.needs c.in-Part.ensures

pub returns-in-Part-clause-next : goal.returns-in-Part-clause-next
returns-in-Part-clause-next g c = ((refl, Appends-nil _), IsIncompleteUntil-part c.args.bytes.now c.in-Part.needs c.in-Part.ensures)

pub returns-in-Faulty-clause-next : goal.returns-in-Faulty-clause-next
returns-in-Faulty-clause-next g c =
    NextAs-fault (ProcessesEach c.args.service.now c.args.service.now) (g.W.Write.contents c.args.writer.now) (g.W.Write.contents c.answer_fault.new.writer) c.args.bytes.now c.in-Faulty.code c.answer_fault.result refl
    c.in-Faulty.ensures c.answer_fault.ensures

pub returns-in-TooManyFields-clause-next : goal.returns-in-TooManyFields-clause-next
returns-in-TooManyFields-clause-next g c = inl (refl, Appends-nil _)
