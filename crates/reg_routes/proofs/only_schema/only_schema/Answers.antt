use Rattle.std.proofs.Common.{◌≡◌, string_bytes, ap, ◌∙◌, rules}
use Rattle.std.proofs.lemmas.Str.{IsUtf8-string_bytes}
use Rattle.json.specs.Print.{escape}
use Rattle.reg_routes.proofs.OnlySchemaBodies.{only_schema_read}
use Rattle.reg_routes.proofs.only_schema.only_schema.Goals as goal

pub returns-in-Ok : goal.returns-in-Ok
returns-in-Ok c =
    let same : string_bytes c.in-Ok.text ≡ c.in-Some-2.bytes.items = search rules in
    let spells = rw c.in-Some-2.is at c.in_ok-bytes.ensures in
    only_schema_read c.args.body.now c.in-Some.escaped.now (string_bytes c.in-Ok.text) (IsUtf8-string_bytes c.in-Ok.text) (ap escape same ∙ spells) c.in-Some.ensures
