use Rattle.std.proofs.Common.{◌∙◌, sym, ap}
use Rattle.std.specs.Prelude.{string_bytes}
use Rattle.avro_nodes.specs.Identity.{identity}
use Rattle.avro_schema.specs.DenotedNodes.{denoted_nodes}
use Rattle.reg_core.specs.Registry.{schema_at}
use Rattle.reg_store.proofs.AuditLemmas.{text-denotes}
use Rattle.reg_store.proofs.ReadBack.{none_written}
use Rattle.reg_store.proofs.ReadLemmas.{fail, tell, refuse}
use Rattle.reg_store.proofs.store.auditing.schema_with_id.Goals as goal

pub returns-in_err-text_with_id : goal.returns-in_err-text_with_id
returns-in_err-text_with_id g c = fail c.in_err-text_with_id.ensures c.from_residual.ensures.1

pub returns-in-None : goal.returns-in-None
returns-in-None g c =
    tell c.in_ok-text_with_id.ensures (λ was over found.
    sym (none_written identity (schema_at was.registry.schemas c.args.id) (sym (rw c.in-None.is at found))))

pub returns-in_err-schema_of-in-Some : goal.returns-in_err-schema_of-in-Some
returns-in_err-schema_of-in-Some g c = refuse c.in_ok-text_with_id.ensures c.from_residual-in_err-schema_of-in-Some.ensures.1

pub returns-in_ok-schema_of-in-Some : goal.returns-in_ok-schema_of-in-Some
returns-in_ok-schema_of-in-Some g c =
    tell c.in_ok-text_with_id.ensures (λ was over found.
    c.in_ok-schema_of-in-Some.ensures ∙ ap denoted_nodes c.as_str.ensures.value
    ∙ text-denotes was.registry.schemas over.spells.spelled.base.registry.schemas c.args.id (string_bytes c.in-Some.text) (sym (rw c.in-Some.is at found)))
