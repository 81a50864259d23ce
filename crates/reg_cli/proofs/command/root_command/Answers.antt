use Rattle.std.proofs.Common.{◌∙◌, ap, true}
use Rattle.std.proofs.lemmas.Result.{IfOk-weaker}
use Rattle.clap.specs.Simple.{Shape, app_of_fields, on_top}
use Rattle.reg_cli.proofs.command.root_command.Goals as goal

pub returns : goal.returns
returns c = IfOk-weaker c.bin_name.result _ _ (λ r named. record {
  shape = ap app_of_fields named.0 ∙ (ap app_of_fields c.after_help.ensures ∙ (ap app_of_fields c.about.ensures
      ∙ (ap app_of_fields c.subcommand_required.ensures
      ∙ (ap (on_top (λ (top : Shape). record top { subcommand_required = true })) (ap app_of_fields c.no_binary_name.ensures)
      ∙ ap (on_top (λ (top : Shape). record top { no_binary_name = true; subcommand_required = true })) c.new.ensures.app))));
  local = rw (named.0, c.after_help.ensures, c.about.ensures, c.subcommand_required.ensures, c.no_binary_name.ensures) c.new.ensures.local;
}) c.bin_name.ensures
