use Rattle.std.proofs.Common.{◌≡◌, Some, option_map, sym, ap, ◌∙◌}
use Rattle.std.specs.Prelude.{slice_get}
use Rattle.std.proofs.lemmas.Option.{slice_get-get_or}
use Rattle.avro_schema.specs.Inside.Borrowed.{value_data}
use Rattle.avro_schema.proofs.BorrowedMembers.{Entry}
use Rattle.avro_schema.proofs.borrowed.find.Goals as goal

pub returns-in-Some : goal.returns-in-Some
returns-in-Some c =
    let xs = c.args.object.now.reserved.items in
    let m = c.index.result.now in
    let here : slice_get xs c.in-Some.at ≡ Some m = slice_get-get_or xs c.in-Some.at m c.in-Some.ensures.0 ∙ ap (λ (y : Entry). Some y) (sym c.index.ensures) in
    sym (c.in-Some.ensures.2 ∙ ap (option_map (λ (y : Entry). value_data y.1)) here)
