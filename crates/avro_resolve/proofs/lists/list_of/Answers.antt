use Rattle.std.proofs.Common.{sym, ap, ◌∙◌}
use Rattle.std.specs.Prelude.{Vec}
use Rattle.std.specs.declared.alloc.Global.{Global}
use Rattle.avro_resolve.proofs.ListLemmas.{list_in, list_past}
use Rattle.avro_resolve.proofs.lists.list_of.Goals as goal

pub returns-in-Some : goal.returns-in-Some
returns-in-Some g c =
    let d = c.in-Some.list.now in let h = c.in-Some.ensures.lookup in
    c.as_slice.ensures.value ∙ ap (λ (v : Vec g.row.T.Denot Global). v.items) (h.3.1 d) ∙ sym (list_in c.args.lists.now c.args.place d h.3.0)

pub returns-in-None : goal.returns-in-None
returns-in-None g c = let h = c.in-None.ensures.lookup in sym (list_past c.args.lists.now c.args.place h.3)
