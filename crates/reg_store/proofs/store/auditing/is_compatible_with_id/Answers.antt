use Rattle.std.proofs.Common.{◌∙◌, sym, ap}
use Rattle.std.specs.Prelude.{string_bytes}
use Rattle.avro_nodes.specs.Nodes.{nodes_view}
use Rattle.avro_schema.specs.DenotedNodes.{denoted_nodes}
use Rattle.reg_store.proofs.AuditLemmas.{goes_by_text, goes_not}
use Rattle.reg_store.proofs.ReadLemmas.{fail, tell, refuse}
use Rattle.reg_store.proofs.store.auditing.is_compatible_with_id.Goals as goal

pub returns-in_err-text_with_id : goal.returns-in_err-text_with_id
returns-in_err-text_with_id g c = fail c.in_err-text_with_id.ensures c.from_residual.ensures.1

pub returns-in-None : goal.returns-in-None
returns-in-None g c =
    tell c.in_ok-text_with_id.ensures (λ was over found.
    (λ h. absurd (cc), λ goes. absurd (goes_not was.registry.schemas c.args.id c.args.level (nodes_view c.args.new.now) (sym (rw c.in-None.is at found)) goes)))

pub returns-in_err-is_compatible_with-in-Some : goal.returns-in_err-is_compatible_with-in-Some
returns-in_err-is_compatible_with-in-Some g c = refuse c.in_ok-text_with_id.ensures c.from_residual-in_err-is_compatible_with-in-Some.ensures.1

pub returns-in_ok-is_compatible_with-in-Some : goal.returns-in_ok-is_compatible_with-in-Some
returns-in_ok-is_compatible_with-in-Some g c =
    tell c.in_ok-text_with_id.ensures (λ was over found.
    goes_by_text was.registry.schemas over.spells.spelled.base.registry.schemas c.args.id (string_bytes c.in-Some.text) (sym (rw c.in-Some.is at found)) c.args.level (nodes_view c.args.new.now) c.in_ok-is_compatible_with-in-Some.field-0
    (λ earlier denotes. c.in_ok-is_compatible_with-in-Some.ensures.schema earlier (ap denoted_nodes c.as_str.ensures.value ∙ denotes)))
