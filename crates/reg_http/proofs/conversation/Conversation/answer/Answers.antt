use Rattle.std.proofs.Common.{◌∙◌, ℕ, List, [], length, drop, ap, subst, arith, length-drop}
use Rattle.std.specs.Prelude.{Some, None}
use Rattle.reg_service.specs.Processing.{ProcessesEach}
use Rattle.reg_http.specs.declared.answering.Stop.{Stop}
use Rattle.reg_http.specs.declared.answering.StepOutcome.TheVariants.{Answered as AnsweredStep, Stopped}
use Rattle.reg_http.specs.declared.serving.Ended.TheVariants.{Closed, Malformed, Memory}
use Rattle.reg_http.specs.Inside.SessionSteps.{NextAs, IsWithin}
use Rattle.reg_http.proofs.ConversationLemmas.{at_answer, answers_no_more, answers_few, steps_same, step_answered, step_waiting, step_closes, step_faulty, step_cut, step_fails}
use Rattle.reg_http.proofs.conversation.Conversation.answer.Goals as goal
use Rattle.reg_http.proofs.conversation.Conversation.answer.Goals.{in-Answered, in-Stopped-Waiting, in-Stopped-AtClose, in-Stopped-AtFault, in-Stopped-NotWritten, in-Stopped-OutOfMemory}

pub returns-clause-answers : goal.returns-clause-answers
returns-clause-answers g c =
    let old = c.args.self.now in
    let out = c.answer_front.new.writer.items in
    let at = at_answer old.outbox old.held old.needs old.ended c.requires in
    let P = ProcessesEach c.args.service.now c.answer_front.new.service in
    elim c.match-answer_front.branch [
      | in-Answered w ↦
          let At : List ℕ × List ℕ → Type 0 = λ p. NextAs P (Some p.0) (Some out) p.1 (AnsweredStep w.in-Answered.size) in
          let next = subst At (λ i. (c.into_empty-out.ensures i, c.held-held.ensures i)) w.in-Answered.ensures.next in
          steps_same P old.outbox old.held old.needs old.ended out _ (drop w.in-Answered.size old.held) _ 1 _ None _
          (c.of.ensures ∙ ap (λ v. v.items) w.out-is) (ap (λ s. s.1.0) w.self-is ∙ w.consume.ensures) (ap (λ s. s.1.1.1.0) w.self-is) (ap (λ s. s.1.1.1.1.0) w.self-is ∙ at.stays)
          (step_answered P old.outbox old.held old.needs old.ended c.requires out w.in-Answered.size next)
      | in-Stopped-Waiting w ↦
          let At : List ℕ × (List ℕ × Stop) → Type 0 = λ p. NextAs P (Some p.0) (Some out) p.1.0 (Stopped p.1.1) in
          let next = subst At (λ i. (c.into_empty-out.ensures i, (c.held-held.ensures i, w.in-Stopped-Waiting.field-0-is i))) w.in-Stopped-Waiting.ensures.next in
          steps_same P old.outbox old.held old.needs old.ended out _ old.held _ w.in-Stopped-Waiting.needs _ None _
          (c.of.ensures ∙ ap (λ v. v.items) w.out-is) (ap (λ s. s.1.0) w.self-is) (ap (λ s. s.1.1.1.0) w.self-is) (ap (λ s. s.1.1.1.1.0) w.self-is ∙ at.stays)
          (step_waiting P old.outbox old.held old.needs old.ended c.requires out w.in-Stopped-Waiting.needs next)
      | in-Stopped-AtClose w ↦
          let At : List ℕ × (List ℕ × Stop) → Type 0 = λ p. NextAs P (Some p.0) (Some out) p.1.0 (Stopped p.1.1) in
          let next = subst At (λ i. (c.into_empty-out.ensures i, (c.held-held.ensures i, w.in-Stopped-AtClose.field-0-is i))) w.in-Stopped-AtClose.ensures.next in
          steps_same P old.outbox old.held old.needs old.ended out _ old.held _ old.needs _ (Some Closed) _
          (c.of.ensures ∙ ap (λ v. v.items) w.out-is) (ap (λ s. s.1.0) w.self-is) (ap (λ s. s.1.1.1.0) w.self-is) (ap (λ s. s.1.1.1.1.0) w.self-is)
          (step_closes P old.outbox old.held old.needs old.ended c.requires out next)
      | in-Stopped-AtFault w ↦
          let At : List ℕ × (List ℕ × Stop) → Type 0 = λ p. NextAs P (Some p.0) (Some out) p.1.0 (Stopped p.1.1) in
          let next = subst At (λ i. (c.into_empty-out.ensures i, (c.held-held.ensures i, w.in-Stopped-AtFault.field-0-is i))) w.in-Stopped-AtFault.ensures.next in
          steps_same P old.outbox old.held old.needs old.ended out _ old.held _ old.needs _ (Some Malformed) _
          (c.of.ensures ∙ ap (λ v. v.items) w.out-is) (ap (λ s. s.1.0) w.self-is) (ap (λ s. s.1.1.1.0) w.self-is) (ap (λ s. s.1.1.1.1.0) w.self-is)
          (step_faulty P old.outbox old.held old.needs old.ended c.requires out next)
      | in-Stopped-NotWritten w ↦
          let At : List ℕ × (List ℕ × Stop) → Type 0 = λ p. NextAs P (Some p.0) (Some out) p.1.0 (Stopped p.1.1) in
          let next = subst At (λ i. (c.into_empty-out.ensures i, (c.held-held.ensures i, w.in-Stopped-NotWritten.field-0-is i))) w.in-Stopped-NotWritten.ensures.next in
          steps_same P old.outbox old.held old.needs old.ended [] _ old.held _ old.needs _ (Some Memory) _
          (c.of.ensures ∙ (ap (λ v. v.items) w.out-is ∙ w.clear.ensures.items)) (ap (λ s. s.1.0) w.self-is) (ap (λ s. s.1.1.1.0) w.self-is) (ap (λ s. s.1.1.1.1.0) w.self-is)
          (step_cut P old.outbox old.held old.needs old.ended c.requires out next)
      | in-Stopped-OutOfMemory w ↦
          let At : List ℕ × (List ℕ × Stop) → Type 0 = λ p. NextAs P (Some p.0) (Some out) p.1.0 (Stopped p.1.1) in
          let next = subst At (λ i. (c.into_empty-out.ensures i, (c.held-held.ensures i, w.in-Stopped-OutOfMemory.field-0-is i))) w.in-Stopped-OutOfMemory.ensures.next in
          steps_same P old.outbox old.held old.needs old.ended [] _ old.held _ old.needs _ (Some Memory) _
          (c.of.ensures ∙ (ap (λ v. v.items) w.out-is ∙ w.clear-in-Stopped-OutOfMemory.ensures.items)) (ap (λ s. s.1.0) w.self-is) (ap (λ s. s.1.1.1.0) w.self-is) (ap (λ s. s.1.1.1.1.0) w.self-is)
          (step_fails P old.outbox old.held old.needs old.ended c.requires out next)
    ]

pub returns-clause-progress : goal.returns-clause-progress
returns-clause-progress g c =
    let out = c.of.result in
    let now = c.match-answer_front.self.1 in
    elim c.match-answer_front.branch [
      | in-Answered w ↦ λ step.
          let held = ap (λ s. s.1.0) w.self-is ∙ w.consume.ensures in
          let within = w.in-Answered.ensures.within in
          omega (arith, within.0, within.1, ap length c.held-held.ensures, ap length held, length-drop w.in-Answered.size c.args.self.now.held)
      | in-Stopped-Waiting w ↦ λ step.
          let At : List ℕ × Stop → Type 0 = λ p. IsWithin p.0 (Stopped p.1) in
          let waits = subst At (λ i. (c.held-held.ensures i, w.in-Stopped-Waiting.field-0-is i)) w.in-Stopped-Waiting.ensures.within in
          absurd (answers_few out now.0 now.1.1.0 now.1.1.1.0 (omega (arith, waits.short, ap length (ap (λ s. s.1.0) w.self-is), ap (λ s. s.1.1.1.0) w.self-is)) step)
      | in-Stopped-AtClose w ↦ λ step. absurd (answers_no_more out now.0 now.1.1.0 now.1.1.1.0 Closed (ap (λ s. s.1.1.1.1.0) w.self-is) step)
      | in-Stopped-AtFault w ↦ λ step. absurd (answers_no_more out now.0 now.1.1.0 now.1.1.1.0 Malformed (ap (λ s. s.1.1.1.1.0) w.self-is) step)
      | in-Stopped-NotWritten w ↦ λ step. absurd (answers_no_more out now.0 now.1.1.0 now.1.1.1.0 Memory (ap (λ s. s.1.1.1.1.0) w.self-is) step)
      | in-Stopped-OutOfMemory w ↦ λ step. absurd (answers_no_more out now.0 now.1.1.0 now.1.1.1.0 Memory (ap (λ s. s.1.1.1.1.0) w.self-is) step)
    ]
