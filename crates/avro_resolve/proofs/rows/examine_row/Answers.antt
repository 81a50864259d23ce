use Rattle.std.proofs.Common.{◌≡◌, ◌<◌, ℕ, List, Some, ap, get_or, length, subst, sym, ◌∙◌, inl, inr, arith, true≢false}
use Rattle.std.specs.Prelude.{All, slice_get}
use Rattle.std.proofs.lemmas.Bool.{cases_lt}
use Rattle.std.proofs.lemmas.List.{length-map}
use Rattle.std.proofs.lemmas.List.Elements.{Contains-get_or}
use Rattle.std.proofs.lemmas.Option.{same_Some}
use Rattle.avro_nodes.specs.Nodes.{NodeView, node_view, union}
use Rattle.avro_resolve.specs.Inside.Referrers.{HasBranch}
use Rattle.avro_resolve.specs.Inside.Remaining.{NeedsBranch, StillSupported, remains_or_queued}
use Rattle.avro_resolve.specs.Inside.Places.{IsSelfContained, RefersBelow}
use Rattle.avro_resolve.specs.Inside.Schemas.{columns, rows}
use Rattle.avro_resolve.proofs.ListLemmas.{each_more}
use Rattle.avro_resolve.proofs.Monotone.{at_place, supports_at}
use Rattle.avro_resolve.proofs.KeptSupport.{goes_gone, goes_on, lists_then, settled_gone, settled_on, settled_supported}
use Rattle.avro_resolve.proofs.Sourcing.{nth}
use Rattle.avro_resolve.proofs.rows.examine_row.Goals.{then-not-has-via-then-not-has, then-not-has-via-else-not-has+then-supports}
use Rattle.avro_resolve.proofs.rows.examine_row.Goals as goal

pub supports-requires-clause-over : goal.supports-requires-clause-over
supports-requires-clause-over c =
    let schemas = c.args.schemas.now in let t = c.loop-j.invariant.rest.rest in let lr = length-map schemas.reader.schema.now node_view in
    record { both = c.requires.rest.0; is = c.requires.row; writers = t.writers ∙ length-map schemas.writer.schema.now node_view; readers = t.readers ∙ lr; within = omega (arith, t.readers, lr) }

pub supports-requires-clause-agreed : goal.supports-requires-clause-agreed
supports-requires-clause-agreed c =
    let lr = length-map c.args.schemas.now.reader.schema.now node_view in
    c.loop-j.invariant.rest.agreed c.args.row.now.place c.loop-j.j (rw length-map c.requires.row.within) (omega (arith, lr)) (sym c.has.ensures ∙ c.if-not-has.false)

pub eliminate_pair-requires-clause-unsupported : goal.eliminate_pair-requires-clause-unsupported
eliminate_pair-requires-clause-unsupported c = λ s. true≢false (sym (c.supports.ensures.1 s) ∙ c.if-supports.false)

pub loop-j-preserved-then-not-has : goal.loop-j-preserved-then-not-has
loop-j-preserved-then-not-has c =
    let w = rows c.args.schemas.now in let r = columns c.args.schemas.now in let i = c.args.row.now.place in let j = c.loop-j.j in let u = c.loop-j.progress.table in let qs = c.loop-j.progress.eliminated.items in
    let here : StillSupported w r u qs i j = elim c.then-not-has.branch [
      | then-not-has-via-then-not-has b ↦ settled_gone w r u qs i j (sym c.has.ensures ∙ b.if-not-has.true)
      | then-not-has-via-else-not-has+then-supports b ↦ settled_supported w r u qs i j c.requires.rest.0.writer.whole c.requires.rest.0.reader.whole (b.supports.ensures.0 b.if-supports.true)
    ] in
    record {
      rest = c.loop-j.invariant.rest;
      lists = c.loop-j.invariant.lists;
      still_supported = λ b lo. elim (cases_lt b j) [
        | inl g ↦ c.loop-j.invariant.still_supported b g
        | inr g ↦ (let e : j ≡ b = omega arith in subst (λ (x : ℕ). StillSupported w r u qs i x) e here)
      ];
    }

pub loop-j-preserved : goal.loop-j-preserved
loop-j-preserved c =
    let w = rows c.args.schemas.now in let r = columns c.args.schemas.now in let i = c.args.row.now.place in let j = c.loop-j.j in
    let u = c.loop-j.progress.table in let v = c.eliminate_pair.new.progress.table in let qs = c.loop-j.progress.eliminated.items in let rs = c.eliminate_pair.new.progress.eliminated.items in
    let done = c.in_ok-eliminate_pair.ensures in
    record {
      rest = done.eliminates.0;
      lists = lists_then c.args.progress.now.table u v c.args.progress.now.eliminated.items qs rs c.loop-j.invariant.lists done.eliminates.1;
      still_supported = λ b lo. elim (cases_lt b j) [
        | inl g ↦ settled_on w r u v qs rs i b c.requires.rest.0.writer.whole c.requires.rest.0.reader.whole done.eliminates.1 (c.loop-j.invariant.still_supported b g)
        | inr g ↦ (let e : j ≡ b = omega arith in subst (λ (x : ℕ). StillSupported w r v rs i x) e done.still_supported)
      ];
    }

-- each branch of a union is a place
branch_in : (w : List NodeView) (n i : ℕ) (branches is : List ℕ) → length w ≡ n → IsSelfContained w → slice_get w i ≡ Some (union branches) → is ≡ branches → (k : ℕ) → k < length is → get_or is k 0 < n
branch_in w n i branches is long whole here same k l = subst (λ (ps : List ℕ). All (λ p. p < n) ps) (sym same) (subst (λ (m : ℕ). RefersBelow m (union branches)) long (at_place w (RefersBelow (length w)) i (union branches) whole here)) k 0 l

pub eliminate_by_branch-requires-clause-branch_in : goal.eliminate_by_branch-requires-clause-branch_in
eliminate_by_branch-requires-clause-branch_in c =
    let s = c.args.schemas.now.writer.schema.now in let w = rows c.args.schemas.now in
    branch_in w (length s) c.args.row.now.place c.in-Union.branches.items c.deref-branch-items.result.now (length-map s node_view) c.requires.rest.0.writer.whole (c.node.ensures.node ∙ ap (λ n. Some (node_view n)) c.in-Union.is) c.deref-branch-items.ensures.value c.loop-branch.branch-index c.loop-branch-test.true

pub eliminate_by_branch-requires-clause-meant : goal.eliminate_by_branch-requires-clause-meant
eliminate_by_branch-requires-clause-meant c = λ a e.
    let is = c.deref-branch-items.result.now in let k = c.loop-branch.branch-index in
    subst (λ (x : NodeView). HasBranch x (get_or is k 0)) (same_Some (union is) a (sym (rw (← c.deref-branch-items.ensures.value) at (c.node.ensures.node ∙ ap (λ n. Some (node_view n)) c.in-Union.is)) ∙ e)) (Contains-get_or is k 0 c.loop-branch-test.true)

pub loop-branch-preserved : goal.loop-branch-preserved
loop-branch-preserved c =
    let i = c.args.row.now.place in let is = c.deref-branch-items.result.now in let at = c.loop-branch.branch-index in let inv = c.loop-branch.invariant in let done = c.in_ok-eliminate_by_branch.ensures in
    let u = c.loop-branch.progress.table in let v = c.eliminate_by_branch.new.progress.table in let qs = c.loop-branch.progress.eliminated.items in let rs = c.eliminate_by_branch.new.progress.eliminated.items in
    let within : at < length is = c.loop-branch-test.true in let more = done.eliminates.1 in
    record {
      rest = done.eliminates.0;
      lists = lists_then c.args.progress.now.table u v c.args.progress.now.eliminated.items qs rs inv.lists more;
      goes = λ k d b l. each_more (λ x. NeedsBranch v rs i x b) is at 0 within (λ m e g. goes_on u v qs rs i (get_or is m e) b more (inv.goes m e b g)) (goes_gone u v qs rs i (get_or is at 0) b more (done.gone b)) k d l;
    }

pub returns-in-Union-clause-still_supported : goal.returns-in-Union-clause-still_supported
returns-in-Union-clause-still_supported c = λ j l h.
    let w = rows c.args.schemas.now in let r = columns c.args.schemas.now in let is = c.deref-branch-items.result.now in
    let b = nth r j (rw length-map l) in
    (supports_at w r (remains_or_queued c.loop-branch.progress.table c.loop-branch.progress.eliminated.items) c.args.row.now.place j (union is) b.0 (rw (← c.deref-branch-items.ensures.value) at (c.node.ensures.node ∙ ap (λ n. Some (node_view n)) c.in-Union.is)) b.1).1 (λ k d m. c.loop-branch.invariant.goes k d j (let done = c.loop-branch-test.false in omega arith) h)
