use Rattle.std.proofs.Common.{◌≡◌, ◌<◌, ◌*◌, ◌+◌, ℕ, List, Some, false, ap, get_or, length, subst, sym, ◌∙◌, arith}
use Rattle.std.specs.Prelude.{All, Contains, slice_get, Vec}
use Rattle.std.specs.declared.alloc.Global.{Global}
use Rattle.std.proofs.lemmas.List.{length-map}
use Rattle.std.proofs.lemmas.List.Elements.{All-contains, Contains-get_or}
use Rattle.std.proofs.lemmas.Option.{same_Some}
use Rattle.avro_nodes.specs.Nodes.{NodeView, node_view, union}
use Rattle.avro_resolve.specs.declared.rows.Progress.{Progress}
use Rattle.avro_resolve.specs.declared.table.Table.{Table}
use Rattle.avro_resolve.specs.Witnesses.{Pair}
use Rattle.avro_resolve.specs.Inside.Referrers.{HasUnions}
use Rattle.avro_resolve.specs.Inside.Remaining.{remains, IsAgreedRemainder, QueuesEliminated, StillSupported}
use Rattle.avro_resolve.specs.Inside.Lists.{list_at, IsListedAt}
use Rattle.avro_resolve.specs.Inside.Schemas.{columns, rows}
use Rattle.avro_resolve.proofs.Flags.{flag_past, flag_row}
use Rattle.avro_resolve.proofs.ListLemmas.{each_more, list_past}
use Rattle.avro_resolve.proofs.Dependence.{rests_by_branch, union_of}
use Rattle.avro_resolve.proofs.KeptSupport.{lists_then, settled_on, stays_out}
use Rattle.avro_resolve.proofs.Sourcing.{nth}
use Rattle.avro_resolve.proofs.ViewLemmas.{no_union}
use Rattle.avro_resolve.proofs.elimination.propagate_to_unions.Goals.{then-to-places+in_ok-eliminate_pair, else-to-places}
use Rattle.avro_resolve.proofs.elimination.propagate_to_unions.Goals as goal

-- the state after the first n pairs of the run
abbrev Kept : List NodeView → List NodeView → Table → List Pair → ℕ → List Pair → ℕ → Progress → Type 0
Kept w r t ps i run n p = record { rest : IsAgreedRemainder w r p.table; lists : QueuesEliminated t ps p.table p.eliminated.items; gone : (k : ℕ) (d : Pair) → k < n → remains p.table i (get_or run k d).1 ≡ false }

pub returns-then-row-places-clause-down : goal.returns-then-row-places-clause-down
returns-then-row-places-clause-down c = λ k d l.
    let lists = c.args.dependents.now.rows.unions.items in let view = length-map c.args.schemas.now.writer.schema.now node_view in
    let none = list_past lists c.args.row (let long = c.requires.referrers.writer.unions.long in let past = c.if-row-places.true in omega (arith, long, past, view, c.places.ensures.places)) in
    absurd (let few = ap length none in omega (arith, l, few))

pub returns-then-row-places-clause-along : goal.returns-then-row-places-clause-along
returns-then-row-places-clause-along c = λ n k d l k2 d2 l2 h.
    let t = c.args.progress.now.table in let rest = c.requires.rest.1.rest in let view = length-map c.args.schemas.now.writer.schema.now node_view in
    let size : length t.flags.items ≡ t.writers * t.readers = omega (arith, t.sized, t.flags.ok.0) in
    let row = flag_row t.flags.items t.writers t.readers c.args.row (get_or (list_at c.args.dependents.now.columns.unions.items (get_or c.args.run.now k d).1) k2 d2) size h in
    absurd (let past = c.if-row-places.true in omega (arith, row, rest.writers, view, past, c.places.ensures.places))

-- the writer's unions that have the row's place as a branch
pub eliminate_by_branch-requires-clause-union_in : goal.eliminate_by_branch-requires-clause-union_in
eliminate_by_branch-requires-clause-union_in c =
    let xs = c.list_of-union-items.result.now in let k = c.loop-union.union-index in
    let there = c.list_of-union-items.ensures ∙ ap (λ (ls : List (Vec ℕ Global)). list_at ls c.args.row) c.deref.ensures.value in
    let m = c.requires.referrers.writer.unions.within (get_or xs k 0) c.args.row (subst (λ (ys : List ℕ). Contains ys (get_or xs k 0)) there (Contains-get_or xs k 0 c.loop-union-test.true)) in
    subst (λ (n : ℕ). get_or xs k 0 < n) (length-map c.args.schemas.now.writer.schema.now node_view) m

pub eliminate_pair-requires-clause-i_in : goal.eliminate_pair-requires-clause-i_in
eliminate_pair-requires-clause-i_in c =
    let xs = c.list_of-union-items.result.now in let k = c.loop-union.union-index in
    let there = c.list_of-union-items.ensures ∙ ap (λ (ls : List (Vec ℕ Global)). list_at ls c.args.row) c.deref.ensures.value in
    let m = c.requires.referrers.writer.unions.within (get_or xs k 0) c.args.row (subst (λ (ys : List ℕ). Contains ys (get_or xs k 0)) there (Contains-get_or xs k 0 c.loop-union-test.true)) in
    subst (λ (n : ℕ). get_or xs k 0 < n) (length-map c.args.schemas.now.writer.schema.now node_view) m

pub eliminate_pair-requires-clause-unsupported : goal.eliminate_pair-requires-clause-unsupported
eliminate_pair-requires-clause-unsupported c =
    let xs = c.list_of-union-items.result.now in let x = get_or xs c.loop-union.union-index 0 in
    let there = c.list_of-union-items.ensures ∙ ap (λ (ls : List (Vec ℕ Global)). list_at ls c.args.row) c.deref.ensures.value in
    let meant = c.requires.referrers.writer.unions.meant x c.args.row (subst (λ (ys : List ℕ). Contains ys x) there (Contains-get_or xs c.loop-union.union-index 0 c.loop-union-test.true)) in
    let p : Pair = get_or c.args.run.now c.loop-to.to-index (0, 0) in let one = c.requires.run c.loop-to.to-index (0, 0) c.loop-to-test.true in let t = c.args.progress.now.table in let u = c.loop-union.progress.table in let v = c.loop-to.progress.table in
    let out : remains t c.args.row p.1 ≡ false = subst (λ (z : ℕ). remains t z p.1 ≡ false) one.0 one.1 in
    let lists = lists_then t u v c.args.progress.now.eliminated.items c.loop-union.progress.eliminated.items c.loop-to.progress.eliminated.items c.loop-union.invariant.lists c.loop-to.invariant.lists in
    rests_by_branch (rows c.args.schemas.now) (columns c.args.schemas.now) x c.args.row c.from-to.result meant (remains v)
    (ap (remains v c.args.row) c.from-to.ensures ∙ stays_out t v c.args.progress.now.eliminated.items c.loop-to.progress.eliminated.items c.args.row p.1 lists out)

pub loop-to-preserved : goal.loop-to-preserved
loop-to-preserved c =
    let w = rows c.args.schemas.now in let r = columns c.args.schemas.now in let i = get_or c.list_of-union-items.result.now c.loop-union.union-index 0 in let run = c.args.run.now in let at = c.loop-to.to-index in let inv = c.loop-to.invariant in
    let t = c.loop-union.progress.table in let u = c.loop-to.progress.table in let ps = c.loop-union.progress.eliminated.items in let qs = c.loop-to.progress.eliminated.items in let is = c.from-to.ensures in
    elim c.if-to-places.branch [
      | then-to-places+in_ok-eliminate_pair b ↦ (
          let v = b.eliminate_pair.new.progress.table in let rs = b.eliminate_pair.new.progress.eliminated.items in let done = b.in_ok-eliminate_pair.ensures in
          subst (Kept w r t ps i run (at + 1)) (sym b.progress-is) (record {
            rest = done.eliminates.0;
            lists = lists_then t u v ps qs rs inv.lists done.eliminates.1;
            gone = each_more (λ (p : Pair). remains v i p.1 ≡ false) run at (0, 0) c.loop-to-test.true (λ k d l. stays_out u v qs rs i (get_or run k d).1 done.eliminates.1 (inv.gone k d l)) (ap (remains v i) (sym is) ∙ done.gone);
          }))
      | else-to-places b ↦ (
          let readers = inv.rest.rest.readers in let view = length-map c.args.schemas.now.reader.schema.now node_view in
          subst (Kept w r t ps i run (at + 1)) (sym b.progress-is) (record {
            rest = inv.rest;
            lists = inv.lists;
            gone = each_more (λ (p : Pair). remains u i p.1 ≡ false) run at (0, 0) c.loop-to-test.true inv.gone (flag_past u.flags.items u.readers i (get_or run at (0, 0)).1 (let past = b.if-to-places.false in omega (arith, past, is, readers, view, c.places-in-loop-to.ensures.places)));
          }))
    ]

pub loop-union-preserved-then-run-ge-LONG_RUN : goal.loop-union-preserved-then-run-ge-LONG_RUN
loop-union-preserved-then-run-ge-LONG_RUN c =
    let run = c.args.run.now in let xs = c.list_of-union-items.result.now in let inv = c.loop-union.invariant in let done = c.in_ok-eliminate_by_branch.ensures in let t = c.args.progress.now.table in
    let u = c.loop-union.progress.table in let v = c.eliminate_by_branch.new.progress.table in let ps = c.args.progress.now.eliminated.items in let qs = c.loop-union.progress.eliminated.items in let rs = c.eliminate_by_branch.new.progress.eliminated.items in
    record {
      rest = done.eliminates.0;
      lists = lists_then t u v ps qs rs inv.lists done.eliminates.1;
      gone = each_more (λ x. All (λ (p : Pair). remains v x p.1 ≡ false) run) xs c.loop-union.union-index 0 c.loop-union-test.true
          (λ k d l m e n. stays_out u v qs rs (get_or xs k d) (get_or run m e).1 done.eliminates.1 (inv.gone k d l m e n))
          (λ m e n. (let one = c.requires.run m e n in let q = (get_or run m e).1 in done.gone q (stays_out t u ps qs c.args.row q inv.lists (subst (λ (z : ℕ). remains t z q ≡ false) one.0 one.1))));
    }

pub loop-union-preserved : goal.loop-union-preserved
loop-union-preserved c =
    let run = c.args.run.now in let xs = c.list_of-union-items.result.now in let inv = c.loop-union.invariant in let done = c.loop-to.invariant in
    let u = c.loop-union.progress.table in let v = c.loop-to.progress.table in let qs = c.loop-union.progress.eliminated.items in let rs = c.loop-to.progress.eliminated.items in
    record {
      rest = done.rest;
      lists = lists_then c.args.progress.now.table u v c.args.progress.now.eliminated.items qs rs inv.lists done.lists;
      gone = each_more (λ x. All (λ (p : Pair). remains v x p.1 ≡ false) run) xs c.loop-union.union-index 0 c.loop-union-test.true
          (λ k d l m e n. stays_out u v qs rs (get_or xs k d) (get_or run m e).1 done.lists (inv.gone k d l m e n))
          (λ m e n. done.gone m e (let past = c.loop-to-test.false in omega (arith, past, n)));
    }

-- a property of each union that has the place as a branch
each_union : (r : List NodeView) (lists : List (Vec ℕ Global)) → HasUnions r lists → (q : ℕ) (P : ℕ → Type 0) → ((u : ℕ) → IsListedAt lists u q → (bs : List ℕ) → slice_get r u ≡ Some (union bs) → P u) → All P (list_at lists q)
each_union r lists is q P each = λ k d l.
    let u = get_or (list_at lists q) k d in let stands = Contains-get_or (list_at lists q) k d l in
    let b = nth r u (is.within u q stands) in let x = union_of b.0 q (is.meant u q stands b.0 b.1) in
    each u stands x.0 (b.1 ∙ ap (λ (y : NodeView). Some y) x.1)

pub returns-then-run-len : goal.returns-then-run-len
returns-then-run-len c =
    let w = rows c.args.schemas.now in let r = columns c.args.schemas.now in let p = c.args.row in let run = c.args.run.now in let inv = c.loop-union.invariant in let done = c.in_ok-examine_unions.ensures in
    let u = c.loop-union.progress.table in let v = c.examine_unions.new.progress.table in let qs = c.loop-union.progress.eliminated.items in let rs = c.examine_unions.new.progress.eliminated.items in
    let xs = c.list_of-union-items.result.now in let there = c.list_of-union-items.ensures ∙ ap (λ (ls : List (Vec ℕ Global)). list_at ls p) c.deref.ensures.value in
    let gone : All (λ x. All (λ (q : Pair). remains v x q.1 ≡ false) run) xs = λ k d l m e n. stays_out u v qs rs (get_or xs k d) (get_or run m e).1 done.eliminates.1 (inv.gone k d (let past = c.loop-union-test.false in omega (arith, past, l)) m e n) in
    let Looked = λ (j : ℕ). (bs : List ℕ) → slice_get r j ≡ Some (union bs) → StillSupported w r v rs p j in
    record {
      eliminates = (done.eliminates.0, lists_then c.args.progress.now.table u v c.args.progress.now.eliminated.items qs rs inv.lists done.eliminates.1);
      down = subst (All (λ x. All (λ (q : Pair). remains v x q.1 ≡ false) run)) there gone;
      along = λ n k d l. each_union r c.args.dependents.now.columns.unions.items c.requires.referrers.reader.unions (get_or run k d).1 (StillSupported w r v rs p)
          (λ x stands bs e. All-contains Looked c.args.dependents.now.unions.items x (subst (All Looked) c.deref-then-run-len.ensures.value done.still_supported) (c.requires.unions.all x bs e) bs e);
    }

pub examine_unions-requires-in-loop-j : goal.examine_unions-requires-in-loop-j
examine_unions-requires-in-loop-j c =
    let q = c.from.result in let xs = c.list_of-unions.result.now in
    let there = c.list_of-unions.ensures ∙ ap (λ (ls : List (Vec ℕ Global)). list_at ls q) c.deref-in-loop-j.ensures.value in
    let view = length-map c.args.schemas.now.writer.schema.now node_view in
    record {
      rest = (c.requires.rest.0, c.loop-j.invariant.rest);
      i_in = (let here = c.if-row-places.false in omega (arith, here, c.places.ensures.places));
      apart = λ bs e. no_union c.node.result.now bs c.in_default.not-Union (same_Some (node_view c.node.result.now) (union bs) (sym c.node.ensures.node ∙ e));
      within = λ k d l. subst (λ (n : ℕ). get_or xs k d < n) (length-map c.args.schemas.now.reader.schema.now node_view)
          (c.requires.referrers.reader.unions.within (get_or xs k d) q (subst (λ (ys : List ℕ). Contains ys (get_or xs k d)) there (Contains-get_or xs k d l)));
    }

pub loop-j-preserved : goal.loop-j-preserved
loop-j-preserved c =
    let w = rows c.args.schemas.now in let r = columns c.args.schemas.now in let p = c.args.row in let run = c.args.run.now in let inv = c.loop-j.invariant in let done = c.in_ok-examine_unions-2.ensures in
    let lists = c.args.dependents.now.columns.unions.items in let ww = c.requires.rest.0.writer.whole in let wr = c.requires.rest.0.reader.whole in
    let u = c.loop-j.progress.table in let v = c.examine_unions-in-loop-j.new.progress.table in let qs = c.loop-j.progress.eliminated.items in let rs = c.examine_unions-in-loop-j.new.progress.eliminated.items in
    let there = c.list_of-unions.ensures ∙ ap (λ (ls : List (Vec ℕ Global)). list_at ls c.from.result) c.deref-in-loop-j.ensures.value ∙ ap (list_at lists) c.from.ensures in
    let Looked = λ (j : ℕ). (bs : List ℕ) → slice_get r j ≡ Some (union bs) → StillSupported w r v rs p j in
    let looked : All Looked (list_at lists (get_or run c.loop-j.j-index (0, 0)).1) = subst (All Looked) there done.still_supported in
    record {
      rest = done.eliminates.0;
      lists = lists_then c.loop-union.progress.table u v c.loop-union.progress.eliminated.items qs rs inv.lists done.eliminates.1;
      along = each_more (λ (x : Pair). All (StillSupported w r v rs p) (list_at lists x.1)) run c.loop-j.j-index (0, 0) c.loop-j-test.true
          (λ k d l m e n. settled_on w r u v qs rs p (get_or (list_at lists (get_or run k d).1) m e) ww wr done.eliminates.1 (inv.along k d l m e n))
          (each_union r lists c.requires.referrers.reader.unions (get_or run c.loop-j.j-index (0, 0)).1 (StillSupported w r v rs p) (λ x stands bs e. All-contains Looked (list_at lists (get_or run c.loop-j.j-index (0, 0)).1) x looked stands bs e));
    }
