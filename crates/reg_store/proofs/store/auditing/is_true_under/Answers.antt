use Rattle.std.proofs.Common.{◌∙◌, subst}
use Rattle.std.specs.Prelude.{◌↔◌, All, List, IsTrue}
use Rattle.std.proofs.lemmas.Option.{none-some, same_Some}
use Rattle.avro_nodes.specs.Nodes.{NodeView}
use Rattle.reg_core.specs.Evidence.{IsCompatibleWith}
use Rattle.reg_store.proofs.ReadLemmas.{fail, tell, go_on, match_each}
use Rattle.reg_store.proofs.store.auditing.is_true_under.Goals as goal

pub returns-in_err-schema_with_id : goal.returns-in_err-schema_with_id
returns-in_err-schema_with_id g c = fail c.in_err-schema_with_id.ensures c.from_residual.ensures.1

pub returns-in-None : goal.returns-in-None
returns-in-None g c =
    tell c.in_ok-schema_with_id.ensures (λ was over found nodes one schema had.
    absurd (none-some nodes (rw (c.in-None.is, c.id.ensures) at found ∙ schema)))

pub returns-in-Some : goal.returns-in-Some
returns-in-Some g c =
    go_on c.in_ok-schema_with_id.ensures c.is_compatible_with_all.ensures (λ was over found.
    match_each c.is_compatible_with_all.result (λ yes told nodes one schema had.
    (let same = same_Some _ _ (rw (c.in-Some.is, c.id.ensures) at found ∙ schema) in
    subst (λ (new : List NodeView). IsTrue yes ↔ All (IsCompatibleWith was.registry.schemas c.args.level new) one.against) same (told one had)))
    (λ e h. h))
