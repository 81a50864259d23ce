use Rattle.std.proofs.Common.{ap, sym, ◌∙◌}
use Rattle.std.specs.Prelude.{option_map, option_and_then}
use Rattle.serde_json.specs.Find.{as_str, get}
use Rattle.serde_json.specs.View.{view}
use Rattle.serde_json.proofs.Views.{view-lookup, view-Object}
use Rattle.reg_routes.proofs.body.string_member.Goals as goal

pub returns-in-Object : goal.returns-in-Object
returns-in-Object c =
    c.as_string.ensures ∙ ap (option_and_then as_str) (ap (option_map view) c.remove.ensures.value ∙ view-lookup c.args.name.now c.in-Object.members.entries
    ∙ ap (get c.args.name.now) (sym (view-Object c.in-Object.members) ∙ ap view (sym c.in-Object.is)))
