use Rattle.std.proofs.Common.{◌≡◌, ◌∙◌, ℕ, List, ◌++◌, ap, subst}
use Rattle.reg_http.specs.declared.conversation.Step.TheVariants.{Send}
use Rattle.reg_http.specs.Conversations.{step_in}
use Rattle.reg_http.proofs.Ranges.{IfOk-map, empty_of_length}
use Rattle.reg_http.proofs.ConversationLemmas.{sent_front}
use Rattle.reg_http.proofs.conversation.Conversation.send.Goals as goal

pub returns-clause-ok : goal.returns-clause-ok
returns-clause-ok g c =
    let old = c.args.self.now in
    let left = c.write_to.new.self in
    IfOk-map c.write_to.result (λ n got. (
      got.0,
      got.2,
      sent_front old.outbox old.held got.0 left old.needs old.ended c.requires got.1,
      got.3,
      λ none.
          let same : old.outbox ≡ left = got.1 ∙ ap (λ t. t ++ left) (empty_of_length got.0 (got.2 ∙ none)) in
          subst (λ (o : List ℕ). step_in o old.held old.needs old.ended ≡ Send) same c.requires,
    )) c.write_to.ensures.ok
