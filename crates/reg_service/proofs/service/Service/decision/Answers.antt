use Rattle.std.proofs.Common.{rules, ◌≡◌, ◌∙◌, ap}
use Rattle.std.specs.Prelude.{OnOk, option_copied, option_map}
use Rattle.avro_nodes.specs.Nodes.{nodes_view}
use Rattle.avro_nodes.specs.Identity.{identity}
use Rattle.reg_core.specs.Machine.{command_schema}
use Rattle.reg_core.specs.Views.{IsDecisionInput, schema_if_supported}
use Rattle.reg_core.proofs.ViewLemmas.{schema_if_supported-sent}
use Rattle.reg_store.proofs.EvidenceOwners.{is_of_versions}
use Rattle.reg_service.proofs.StoreCalls.{decided_for}
use Rattle.reg_service.proofs.OpenConnections.{goes_on, keeps_reading}
use Rattle.reg_service.proofs.service.Service.decision.Goals as goal

pub returns-clause-decided : goal.returns-clause-decided
returns-clause-decided g c clean was over =
    let command = c.args.command.now in
    let text : option_copied c.as_deref.result ≡ option_map identity (command_schema command) = search rules in
    let sent : option_map nodes_view (option_copied c.as_ref-2.result) ≡ command_schema command = search rules in
    let spells = (over (c.in_ok-view.ensures.frame.was_open clean)).spells in
    let ground : IsDecisionInput was.registry command (schema_if_supported command (option_map nodes_view (option_copied c.as_ref-2.result))) c.in_ok-view.view = record {
      registry = spells.spelled.base.registry;
      sent = ap (schema_if_supported command) sent ∙ schema_if_supported-sent command;
      shows = (c.in_ok-view.ensures.tells clean).answers was over (λ _. text);
    } in
    decided_for was command _ c.in_ok-view.view c.in_ok-decision.decision c.in_ok-decision.ensures ground (is_of_versions _ was spells)

pub returns-in_err-view-clause-frame : goal.returns-in_err-view-clause-frame
returns-in_err-view-clause-frame g c =
    let none : OnOk c.from_residual-in_err-view.result ⊥ = search rules in
    keeps_reading c.view.ensures (λ _. none)

pub returns-in_err-decision-clause-frame : goal.returns-in_err-decision-clause-frame
returns-in_err-decision-clause-frame g c = keeps_reading c.in_ok-view.ensures (λ none. absurd none)

pub returns-clause-frame : goal.returns-clause-frame
returns-clause-frame g c = keeps_reading c.in_ok-view.ensures (λ none. none)

pub returns-in_err-view-clause-same : goal.returns-in_err-view-clause-same
returns-in_err-view-clause-same g c clean = (c.view.ensures.tells clean).same

pub returns-in_err-decision-clause-same : goal.returns-in_err-decision-clause-same
returns-in_err-decision-clause-same g c clean = (c.view.ensures.tells clean).same

pub returns-clause-same : goal.returns-clause-same
returns-clause-same g c clean = (c.view.ensures.tells clean).same

pub returns-in_err-view-clause-crash : goal.returns-in_err-view-clause-crash
returns-in_err-view-clause-crash g c clean = (c.view.ensures.tells clean).crash

pub returns-in_err-decision-clause-crash : goal.returns-in_err-decision-clause-crash
returns-in_err-decision-clause-crash g c clean = (c.view.ensures.tells clean).crash

pub returns-clause-crash : goal.returns-clause-crash
returns-clause-crash g c clean = (c.view.ensures.tells clean).crash

pub returns-clause-fails : goal.returns-clause-fails
returns-clause-fails g c failed = goes_on c.in_ok-view.ensures.frame failed
