use Rattle.std.proofs.Common.{List, sym, subst, ◌∙◌}
use Rattle.std.proofs.lemmas.List.{length-map}
use Rattle.avro_resolve.proofs.Eliminates.{eliminated_pair}
use Rattle.avro_resolve.proofs.KeptSupport.{fewer_eliminated, lists_eliminated}
use Rattle.avro_resolve.specs.Witnesses.{Pair}
use Rattle.avro_resolve.specs.Inside.Remaining.{QueuesEliminated}
use Rattle.avro_resolve.specs.Inside.Schemas.{columns, rows}
use Rattle.avro_resolve.proofs.rows.eliminate_pair.Goals as goal

pub returns-clause-eliminates : goal.returns-clause-eliminates
returns-clause-eliminates c =
    let w = rows c.args.schemas.now in let r = columns c.args.schemas.now in let t = c.args.progress.now.table in let v = c.eliminate.new.self in let ps = c.args.progress.now.eliminated.items in
    let rest = eliminated_pair w r t v c.args.i c.args.j c.requires.rest.0.writer.whole c.requires.rest.0.reader.whole c.requires.rest.1.rest
    (rw length-map c.requires.i_in) (rw length-map c.requires.j_in) (sym c.has.ensures ∙ c.if-not-has.false) c.requires.unsupported c.eliminate.ensures.shape c.eliminate.ensures.others c.eliminate.ensures.fewer in
    let lists = lists_eliminated t v ps c.args.i c.args.j c.eliminate.ensures.others c.eliminate.ensures.fewer in (
      record { rest = rest; agreed = λ a b l k h. c.requires.rest.1.agreed a b l k (fewer_eliminated t v c.args.i c.args.j c.eliminate.ensures.others a b h) },
      subst (λ (qs : List Pair). QueuesEliminated t ps v qs) (sym c.in_ok-push.ensures.items) lists,
    )
