use Rattle.std.proofs.Common.{◌∙◌, Some, sym, ap, subst}
use Rattle.std.specs.Prelude.{option_map, IsSome}
use Rattle.reg_store.specs.Listings.{schema_line}
use Rattle.reg_store.proofs.store.schema_lines.listed_schema.Goals as goal

pub returns-in_ok-schema_line-in-Some-clause-answers : goal.returns-in_ok-schema_line-in-Some-clause-answers
returns-in_ok-schema_line-in-Some-clause-answers g c clean was over there =
    let found = rw c.in-Some.is at (c.in_ok-text_with_id.ensures.may.answers clean was over) in
    ap (option_map (schema_line c.args.id)) (sym found) ∙ ap Some (sym c.in_ok-schema_line-in-Some.ensures)

pub returns-in-None-clause-answers : goal.returns-in-None-clause-answers
returns-in-None-clause-answers g c clean was over there =
    let found = rw c.in-None.is at (c.in_ok-text_with_id.ensures.may.answers clean was over) in
    let none = subst IsSome (sym found) there in
    absurd (cc)
