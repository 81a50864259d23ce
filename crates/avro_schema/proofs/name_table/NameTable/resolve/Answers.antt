use Rattle.std.proofs.Common.{sym, ◌∙◌}
use Rattle.avro_schema.proofs.NameTableLemmas.{found_inside, found_outside}
use Rattle.avro_schema.proofs.name_table.NameTable.resolve.Goals as goal

pub returns-in-Some : goal.returns-in-Some
returns-in-Some c =
    let space = c.args.space.now in
    found_inside c.args.self.now space.text.now c.args.name.now space.number (sym c.has_dot.ensures ∙ c.if-has_dot.false) c.requires _ c.in-Some.ensures

pub returns-in-None : goal.returns-in-None
returns-in-None c =
    let space = c.args.space.now in
    c.place_of-in-None.ensures
    ∙ found_outside c.args.self.now space.text.now c.args.name.now space.number (sym c.has_dot.ensures ∙ c.if-has_dot.false) c.requires c.in-None.ensures
