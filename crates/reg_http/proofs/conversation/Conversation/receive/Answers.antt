use Rattle.std.proofs.Common.{◌≡◌, ◌∙◌, ℕ, List, ◌++◌, ap, subst, sym, append-nil}
use Rattle.reg_http.specs.declared.conversation.Step.TheVariants.{Receive}
use Rattle.reg_http.specs.Conversations.{step_in}
use Rattle.reg_http.proofs.Ranges.{IfOk-map, empty_of_length}
use Rattle.reg_http.proofs.ConversationLemmas.{received}
use Rattle.reg_http.proofs.conversation.Conversation.receive.Goals as goal

pub returns-clause-ok : goal.returns-clause-ok
returns-clause-ok g c =
    let old = c.args.self.now in
    IfOk-map c.fill.result (λ n got. (
      got.0,
      got.2,
      received old.outbox old.held c.fill.new.self got.0 old.needs old.ended c.requires got.1,
      got.3,
      λ none.
          let same : c.fill.new.self ≡ old.held = got.1 ∙ (ap (λ t. old.held ++ t) (empty_of_length got.0 (got.2 ∙ none)) ∙ append-nil old.held) in
          (got.4 none, subst (λ (h : List ℕ). step_in old.outbox h old.needs old.ended ≡ Receive) (sym same) c.requires),
    )) c.fill.ensures.ok
