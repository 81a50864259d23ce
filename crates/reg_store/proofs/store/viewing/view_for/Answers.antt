use Rattle.std.proofs.Common.{subst}
use Rattle.std.specs.Prelude.{All}
use Rattle.reg_store.specs.Inside.Viewing.{HasText}
use Rattle.reg_store.proofs.ReadLemmas.{fail, go_on, refuse, stop}
use Rattle.reg_store.proofs.ViewTexts.{whole_view}
use Rattle.reg_store.proofs.store.viewing.view_for.Goals as goal

pub returns-in_err-view : goal.returns-in_err-view
returns-in_err-view g c = fail c.in_err-view.ensures c.from_residual.ensures.1

pub returns-in_err-ids : goal.returns-in_err-ids
returns-in_err-ids g c = refuse c.in_ok-view.ensures c.from_residual-in_err-ids.ensures.1

pub returns-in_err-texts : goal.returns-in_err-texts
returns-in_err-texts g c = stop c.in_ok-view.ensures c.in_err-texts.ensures c.from_residual-in_err-texts.ensures.1

pub returns : goal.returns
returns g c =
    go_on c.in_ok-view.ensures c.in_ok-texts.ensures (λ was over view texts sent.
    whole_view c.in_ok-view.view c.in_ok-texts.texts was.registry c.args.command.now c.in_ok-ids.ids.items (view sent) c.in_ok-ids.ensures
    (subst (All (HasText c.in_ok-texts.texts was.registry.schemas)) c.as_slice.ensures.value texts.0) texts.1)
