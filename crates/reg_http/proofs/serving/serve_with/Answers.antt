use Rattle.std.proofs.Common.{◌∙◌, ◌++◌, ℕ, List, [], refl, sym, subst}
use Rattle.std.specs.Prelude.{Option}
use Rattle.std.proofs.KnownBytes.{Appends-nil, Appends-trans, Consumes-nil, Consumes-trans}
use Rattle.reg_service.specs.Processing.{ProcessesEach}
use Rattle.reg_service.proofs.Chains.{processes_append}
use Rattle.reg_http.specs.declared.serving.Ended.{Ended}
use Rattle.reg_http.specs.Conversations.{SoFar}
use Rattle.reg_http.proofs.EndLemmas.{Session-ended, Session-failed}
use Rattle.reg_http.proofs.ConversationLemmas.{at_receive, at_send, at_end, SoFar-ended, SoFar-session, SoFar-write_failed, SoFar-open, SoFar-incomplete}
use Rattle.reg_http.proofs.serving.serve_with.Goals as goal
use Rattle.reg_http.proofs.serving.serve_with.Goals.{in-Receive+in-Bytes, in-Answer, in-Send+else-not-write_more}

pub loop-init : goal.loop-init
loop-init g c = record {
  xs = [];
  input = [];
  sent = [];
  reads = Consumes-nil (g.R.Read.remaining c.args.reader.now);
  writes = Appends-nil (g.W.Write.contents c.args.writer.now);
  each = refl;
  so_far = c.requires;
}

pub loop-preserved : goal.loop-preserved
loop-preserved g c =
    let inv = c.loop.invariant in
    elim c.match-next_step.branch [
      | in-Receive+in-Bytes w ↦
          let (more, goes, read) = w.in-Bytes.ensures in
          rw (w.reader-is, w.writer-is, w.service-is, w.conversation-is) (record {
            xs = inv.xs;
            input = inv.input ++ more;
            sent = inv.sent;
            reads = Consumes-trans _ _ _ _ _ inv.reads read;
            writes = inv.writes;
            each = inv.each;
            so_far = goes inv.xs inv.input inv.sent inv.so_far;
          })
      | in-Answer w ↦
          let (ys, one, goes) = w.answer.ensures.answers in
          rw (w.reader-is, w.writer-is, w.service-is, w.conversation-is) (record {
            xs = inv.xs ++ ys;
            input = inv.input;
            sent = inv.sent;
            reads = inv.reads;
            writes = inv.writes;
            each = processes_append c.args.service.now c.loop.service w.answer.new.service inv.xs ys inv.each one;
            so_far = goes inv.xs inv.input inv.sent inv.so_far;
          })
      | in-Send+else-not-write_more w ↦
          let (front, goes, wrote) = w.if-not-write_more.ensures in
          rw (w.reader-is, w.writer-is, w.service-is, w.conversation-is) (record {
            xs = inv.xs;
            input = inv.input;
            sent = inv.sent ++ front;
            reads = inv.reads;
            writes = Appends-trans _ _ _ _ _ inv.writes wrote;
            each = inv.each;
            so_far = goes inv.xs inv.input inv.sent inv.so_far;
          })
    ]

pub returns-in-End-read_more : goal.returns-in-End-read_more
returns-in-End-read_more g c =
    let inv = c.loop.invariant in
    let (goes, step, read, end) = c.in-End-read_more.ensures in
    let now = c.read_more.new.conversation in
    let P = ProcessesEach c.args.service.now c.loop.service in
    let at = at_receive now.outbox now.held now.needs now.ended step in
    let At : List ℕ × Option Ended → Type 0 = λ p. SoFar inv.xs (inv.input ++ []) inv.sent p.0 now.held now.needs p.1 in
    let s = subst At (λ i. (at.sent i, at.stays i)) (goes inv.xs inv.input inv.sent inv.so_far) in
    let reads = Consumes-trans _ _ _ _ _ inv.reads read in
    let answered = SoFar-open inv.xs (inv.input ++ []) inv.sent now.held now.needs P _ _ _ _ reads inv.writes inv.each s in
    let waits = SoFar-incomplete inv.xs (inv.input ++ []) inv.sent now.held now.needs P _ _ _ _ reads inv.writes inv.each at.short s in
    rw c.end_of_input.ensures (Session-ended P _ _ _ _ (inv.input ++ []) now.held reads answered now.needs waits end)

pub returns-in-Failed : goal.returns-in-Failed
returns-in-Failed g c =
    let inv = c.loop.invariant in
    let (goes, step, read) = c.in-Failed.ensures in
    let now = c.read_more.new.conversation in
    let P = ProcessesEach c.args.service.now c.loop.service in
    let at = at_receive now.outbox now.held now.needs now.ended step in
    let At : List ℕ × Option Ended → Type 0 = λ p. SoFar inv.xs (inv.input ++ []) inv.sent p.0 now.held now.needs p.1 in
    let s = subst At (λ i. (at.sent i, at.stays i)) (goes inv.xs inv.input inv.sent inv.so_far) in
    let reads = Consumes-trans _ _ _ _ _ inv.reads read in
    let answered = SoFar-open inv.xs (inv.input ++ []) inv.sent now.held now.needs P _ _ _ _ reads inv.writes inv.each s in
    let waits = SoFar-incomplete inv.xs (inv.input ++ []) inv.sent now.held now.needs P _ _ _ _ reads inv.writes inv.each at.short s in
    Session-failed P _ _ _ _ (inv.input ++ []) now.held reads answered now.needs waits

pub returns-then-not-write_more : goal.returns-then-not-write_more
returns-then-not-write_more g c =
    let inv = c.loop.invariant in
    let (goes, step, wrote) = c.if-not-write_more.ensures in
    let now = c.write_more.new.conversation in
    let P = ProcessesEach c.args.service.now c.loop.service in
    let writes = Appends-trans _ _ _ _ _ inv.writes wrote in
    SoFar-write_failed inv.xs inv.input (inv.sent ++ []) now.held now.needs now.ended P _ _ _ _ now.outbox inv.reads writes inv.each
    (at_send now.outbox now.held now.needs now.ended step) (goes inv.xs inv.input inv.sent inv.so_far)

pub returns-in-End : goal.returns-in-End
returns-in-End g c =
    let inv = c.loop.invariant in
    let now = c.loop.conversation in
    let P = ProcessesEach c.args.service.now c.loop.service in
    let at = at_end now.outbox now.held now.needs now.ended c.in-End.ended (sym c.next_step.ensures ∙ c.in-End.is) in
    let At : List ℕ × Option Ended → Type 0 = λ p. SoFar inv.xs inv.input inv.sent p.0 now.held now.needs p.1 in
    SoFar-ended inv.xs inv.input inv.sent now.held now.needs P _ _ _ _ inv.reads inv.writes inv.each c.in-End.ended
    (subst At (λ i. (at.sent i, at.ends i)) inv.so_far)

pub returns : goal.returns
returns g c =
    let inv = c.loop.invariant in
    let now = c.loop.conversation in
    let P = ProcessesEach c.args.service.now c.loop.service in
    SoFar-session inv.xs inv.input inv.sent now.held now.needs now.ended P _ _ _ _ now.outbox inv.reads inv.writes inv.each inv.so_far
