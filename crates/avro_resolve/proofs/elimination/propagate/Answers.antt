use Rattle.std.proofs.Common.{◌<◌, ℕ, List, ap, get_or, subst, sym, ◌∙◌, arith}
use Rattle.std.specs.Prelude.{Contains, Vec}
use Rattle.std.specs.declared.alloc.Global.{Global}
use Rattle.std.proofs.lemmas.List.{length-map}
use Rattle.std.proofs.lemmas.List.Elements.{Contains-get_or}
use Rattle.avro_nodes.specs.Nodes.{node_view}
use Rattle.avro_resolve.specs.declared.links.Link.{Link}
use Rattle.avro_resolve.specs.Witnesses.{Pair}
use Rattle.avro_resolve.specs.Inside.Referrers.{Joins, LinkKindsMatch}
use Rattle.avro_resolve.specs.Inside.Remaining.{AreRun, StillSupported}
use Rattle.avro_resolve.specs.Inside.Lists.{list_at}
use Rattle.avro_resolve.specs.Inside.Schemas.{columns, rows}
use Rattle.avro_resolve.proofs.ListLemmas.{each_more}
use Rattle.avro_resolve.proofs.Dependence.{rests_by_links}
use Rattle.avro_resolve.proofs.KeptSupport.{all_settled_on, lists_then, settled_gone, settled_on, stays_out}
use Rattle.avro_resolve.proofs.Propagation.{told}
use Rattle.avro_resolve.proofs.elimination.propagate.Goals as goal

pub eliminate_joined-requires-clause-rests : goal.eliminate_joined-requires-clause-rests
eliminate_joined-requires-clause-rests c = λ x y hx hy one asks.
    let p = c.args.row in let q = c.from-in-loop-j.result in
    let above_are = c.list_of-writer_links.ensures ∙ ap (λ (ls : List (Vec Link Global)). list_at ls p) c.deref.ensures.value in
    let beside_are = c.list_of-reader_links.ensures ∙ ap (λ (ls : List (Vec Link Global)). list_at ls c.from.result) c.deref-in-loop-j.ensures.value ∙ ap (list_at c.args.dependents.now.columns.lists.items) (c.from.ensures ∙ sym c.from-in-loop-j.ensures) in
    rests_by_links c.args.schemas.now c.requires.rest.0 c.args.dependents.now.rows c.args.dependents.now.columns c.args.dependents.now.sources.items c.requires.referrers p q x y
    (subst (λ (ls : List Link). Contains ls x) above_are hx) (subst (λ (ls : List Link). Contains ls y) beside_are hy) one
    (subst (λ (table : List (Vec ℕ Global)). LinkKindsMatch table p x y) c.deref-in-loop-j-2.ensures.value asks)

pub eliminate_joined-requires-clause-writer_links_in : goal.eliminate_joined-requires-clause-writer_links_in
eliminate_joined-requires-clause-writer_links_in c = λ k d l.
    let xs = c.list_of-writer_links.result.now in
    let there = c.list_of-writer_links.ensures ∙ ap (λ (ls : List (Vec Link Global)). list_at ls c.args.row) c.deref.ensures.value in
    let m = c.requires.referrers.writer.links.within (get_or xs k d) c.args.row (subst (λ (ys : List Link). Contains ys (get_or xs k d)) there (Contains-get_or xs k d l)) in
    subst (λ (n : ℕ). (get_or xs k d).referrer < n) (length-map c.args.schemas.now.writer.schema.now node_view) m

pub eliminate_joined-requires-clause-reader_links_in : goal.eliminate_joined-requires-clause-reader_links_in
eliminate_joined-requires-clause-reader_links_in c = λ k d l.
    let xs = c.list_of-reader_links.result.now in
    let there = c.list_of-reader_links.ensures ∙ ap (λ (ls : List (Vec Link Global)). list_at ls c.from.result) c.deref-in-loop-j.ensures.value in
    let m = c.requires.referrers.reader.links.within (get_or xs k d) c.from.result (subst (λ (ys : List Link). Contains ys (get_or xs k d)) there (Contains-get_or xs k d l)) in
    subst (λ (n : ℕ). (get_or xs k d).referrer < n) (length-map c.args.schemas.now.reader.schema.now node_view) m

pub loop-j-preserved : goal.loop-j-preserved
loop-j-preserved c =
    let w = rows c.args.schemas.now in let r = columns c.args.schemas.now in let p = c.args.row in let run = c.args.run.now in let inv = c.loop-j.invariant in let done = c.in_ok-eliminate_joined.ensures in
    let sources = c.args.dependents.now.sources.items in let mine = c.args.dependents.now.rows.lists.items in let theirs = c.args.dependents.now.columns.lists.items in
    let u = c.loop-j.progress.table in let v = c.eliminate_joined.new.progress.table in let qs = c.loop-j.progress.eliminated.items in let rs = c.eliminate_joined.new.progress.eliminated.items in
    let above_are = c.list_of-writer_links.ensures ∙ ap (λ (ls : List (Vec Link Global)). list_at ls p) c.deref.ensures.value in
    let beside_are = c.list_of-reader_links.ensures ∙ ap (λ (ls : List (Vec Link Global)). list_at ls c.from.result) c.deref-in-loop-j.ensures.value ∙ ap (list_at theirs) c.from.ensures in
    let here : Joins sources p (StillSupported w r v rs) (list_at mine p) (list_at theirs (get_or run c.loop-j.j-index (0, 0)).1) =
    subst (λ (ls : List Link). Joins sources p (StillSupported w r v rs) ls (list_at theirs (get_or run c.loop-j.j-index (0, 0)).1)) above_are (subst (λ (ls : List Link). Joins sources p (StillSupported w r v rs) c.list_of-writer_links.result.now ls) beside_are
    (subst (λ (table : List (Vec ℕ Global)). Joins table p (StillSupported w r v rs) c.list_of-writer_links.result.now c.list_of-reader_links.result.now) c.deref-in-loop-j-2.ensures.value done.still_supported)) in
    record {
      rest = done.eliminates.0;
      lists = lists_then c.propagate_to_unions.new.progress.table u v c.propagate_to_unions.new.progress.eliminated.items qs rs inv.lists done.eliminates.1;
      joined = each_more (λ (x : Pair). Joins sources p (StillSupported w r v rs) (list_at mine p) (list_at theirs x.1)) run c.loop-j.j-index (0, 0) c.loop-j-test.true
          (λ k d l x y hx hy one asks. settled_on w r u v qs rs x.referrer y.referrer c.requires.rest.0.writer.whole c.requires.rest.0.reader.whole done.eliminates.1 (inv.joined k d l x y hx hy one asks)) here;
    }

pub returns-clause-still_supported : goal.returns-clause-still_supported
returns-clause-still_supported c =
    let w = rows c.args.schemas.now in let r = columns c.args.schemas.now in let p = c.args.row in let run = c.args.run.now in let inv = c.loop-j.invariant in let first = c.in_ok-propagate_to_unions.ensures in
    let t = c.args.progress.now.table in let u = c.propagate_to_unions.new.progress.table in let v = c.loop-j.progress.table in let ps = c.args.progress.now.eliminated.items in let qs = c.propagate_to_unions.new.progress.eliminated.items in let rs = c.loop-j.progress.eliminated.items in
    let ww = c.requires.rest.0.writer.whole in let wr = c.requires.rest.0.reader.whole in
    let dependents = c.args.dependents.now in let later = lists_then t u v ps qs rs first.eliminates.1 inv.lists in
    let run_out : AreRun v p run = λ k d l. (let one = c.requires.run k d l in (one.0, stays_out t v ps rs (get_or run k d).0 (get_or run k d).1 later one.1)) in
    told c.args.schemas.now c.requires.rest.0 dependents.rows dependents.columns dependents.sources.items c.requires.referrers v p rs run run_out (all_settled_on w r t v ps rs run ww wr later c.requires.before)
    (λ k d l. record {
      down = λ m e n. (let x = get_or (list_at dependents.rows.unions.items p) m e in let q = (get_or run k d).1 in settled_gone w r v rs x q (stays_out u v qs rs x q inv.lists (first.down m e n k d l)));
      along = λ no m e n. settled_on w r u v qs rs p (get_or (list_at dependents.columns.unions.items (get_or run k d).1) m e) ww wr inv.lists (first.along no k d l m e n);
      joined = inv.joined k d (let past = c.loop-j-test.false in omega (arith, past, l));
    })

pub returns-clause-eliminates : goal.returns-clause-eliminates
returns-clause-eliminates c =
    let first = c.in_ok-propagate_to_unions.ensures in
    (c.loop-j.invariant.rest, lists_then c.args.progress.now.table c.propagate_to_unions.new.progress.table c.loop-j.progress.table c.args.progress.now.eliminated.items c.propagate_to_unions.new.progress.eliminated.items c.loop-j.progress.eliminated.items first.eliminates.1 c.loop-j.invariant.lists)
