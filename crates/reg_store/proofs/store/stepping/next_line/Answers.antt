use Rattle.std.proofs.Common.{rules, sym, subst}
use Rattle.reg_store.specs.NextLines.{IsCursorAt, IsNextLine}
use Rattle.reg_store.specs.declared.store.cursor.Cursor.TheVariants.{Version, Schema}
use Rattle.reg_store.proofs.NextLineLemmas.{of_versions, of_schemas}
use Rattle.reg_store.proofs.ReadLemmas.{retell}
use Rattle.reg_store.proofs.store.stepping.next_line.Goals as goal

pub returns-in-Version : goal.returns-in-Version
returns-in-Version g c =
    retell c.next_version_line.ensures (λ was over found leads kind count at.
    let there = subst (IsCursorAt kind was.registry count) c.in-Version.is at in
    let its = of_versions kind was.registry count c.in-Version.last there in
    subst (λ kind. IsNextLine kind was.registry count found) (sym its) (leads count (subst (λ kind. IsCursorAt kind was.registry count (Version c.in-Version.last)) its there)))

pub returns-in-Schema : goal.returns-in-Schema
returns-in-Schema g c =
    retell c.next_schema_line.ensures (λ was over found leads kind count at.
    let there = subst (IsCursorAt kind was.registry count) c.in-Schema.is at in
    let its = of_schemas kind was.registry count c.in-Schema.id there in
    subst (λ kind. IsNextLine kind was.registry count found) (sym its) (leads count (subst (λ kind. IsCursorAt kind was.registry count (Schema c.in-Schema.id)) its there)))

pub returns-in-Subject : goal.returns-in-Subject
returns-in-Subject g c = retell c.next_subject_line.ensures (λ was over found leads kind count at. search rules)
