use Rattle.std.proofs.Common.{subst, arith, take}
use Rattle.std.specs.Prelude.{All}
use Rattle.std.proofs.lemmas.List.{take_all}
use Rattle.std.proofs.lemmas.List.Elements.{All-more, All-weaker}
use Rattle.reg_store.specs.Inside.Viewing.{HasText}
use Rattle.reg_store.proofs.ReadLemmas.{may_go_on, may_stop, may_retell}
use Rattle.reg_store.proofs.store.texts.texts_of.Goals as goal

pub loop-id-preserved : goal.loop-id-preserved
loop-id-preserved g c =
    let ids = c.args.ids.now in
    let i = c.loop-id.id-index in
    may_go_on c.loop-id.invariant c.in_ok-add_text.ensures (λ was over before more. (
      All-more (HasText c.add_text.new.texts was.registry.schemas) ids i 0 (omega arith)
          (All-weaker (HasText c.loop-id.texts was.registry.schemas) (HasText c.add_text.new.texts was.registry.schemas) (λ id h. more.kept before.1 id h) (take i ids) before.0)
          (more.here before.1),
      more.true_texts before.1,
    ))

pub returns-in_err-add_text : goal.returns-in_err-add_text
returns-in_err-add_text g c = may_stop c.loop-id.invariant c.in_err-add_text.ensures c.from_residual.ensures.1

pub returns : goal.returns
returns g c =
    may_retell c.loop-id.invariant (λ was texts shown. (subst (All (HasText texts was.registry.schemas)) (take_all c.loop-id.id-index c.args.ids.now (omega arith)) shown.0, shown.1))
