use Rattle.std.proofs.Common.{◌≡◌, ℕ, List, Some, ap, get_or, sym, ◌∙◌, true≢false}
use Rattle.std.specs.Prelude.{slice_get}
use Rattle.std.proofs.lemmas.List.{length-map}
use Rattle.std.proofs.lemmas.Option.{same_Some}
use Rattle.avro_nodes.specs.Nodes.{node_view, union}
use Rattle.avro_resolve.specs.Inside.Remaining.{remains, StillSupported}
use Rattle.avro_resolve.specs.Inside.Schemas.{columns, rows}
use Rattle.avro_resolve.proofs.ListLemmas.{each_more}
use Rattle.avro_resolve.proofs.Dependence.{supports_any}
use Rattle.avro_resolve.proofs.KeptSupport.{lists_then, settled_gone, settled_on, settled_supported}
use Rattle.avro_resolve.proofs.ViewLemmas.{no_union}
use Rattle.avro_resolve.proofs.elimination.examine_unions.Goals as goal

pub loop-j-preserved-then-not-has : goal.loop-j-preserved-then-not-has
loop-j-preserved-then-not-has c =
    let w = rows c.args.schemas.now in let r = columns c.args.schemas.now in let i = c.args.i in let js = c.args.unions.now in let inv = c.loop-j.invariant in
    let u = c.loop-j.progress.table in let qs = c.loop-j.progress.eliminated.items in
    record {
      rest = inv.rest;
      lists = inv.lists;
      still_supported = each_more (λ x. (bs : List ℕ) → slice_get r x ≡ Some (union bs) → StillSupported w r u qs i x) js c.loop-j.j-index 0 c.loop-j-test.true inv.still_supported
          (λ bs e. settled_gone w r u qs i (get_or js c.loop-j.j-index 0) (sym c.has.ensures ∙ c.if-not-has.true));
    }

pub loop-j-preserved-in_default : goal.loop-j-preserved-in_default
loop-j-preserved-in_default c =
    let w = rows c.args.schemas.now in let r = columns c.args.schemas.now in let i = c.args.i in let js = c.args.unions.now in let inv = c.loop-j.invariant in
    let u = c.loop-j.progress.table in let qs = c.loop-j.progress.eliminated.items in
    record {
      rest = inv.rest;
      lists = inv.lists;
      still_supported = each_more (λ x. (bs : List ℕ) → slice_get r x ≡ Some (union bs) → StillSupported w r u qs i x) js c.loop-j.j-index 0 c.loop-j-test.true inv.still_supported
          (λ bs e. absurd (no_union c.node.result.now bs c.in_default.not-Union (same_Some (node_view c.node.result.now) (union bs) (sym c.node.ensures.node ∙ e))));
    }

pub loop-j-preserved-then-any_remaining : goal.loop-j-preserved-then-any_remaining
loop-j-preserved-then-any_remaining c =
    let w = rows c.args.schemas.now in let r = columns c.args.schemas.now in let i = c.args.i in let js = c.args.unions.now in let inv = c.loop-j.invariant in
    let u = c.loop-j.progress.table in let qs = c.loop-j.progress.eliminated.items in let j = get_or js c.loop-j.j-index 0 in
    let here : slice_get r j ≡ Some (union c.in-Union.branches.items) = c.node.ensures.node ∙ ap (λ n. Some (node_view n)) c.in-Union.is in
    let told = supports_any w r (remains u) i j c.in-Union.branches.items (rw length-map c.requires.i_in) c.requires.apart here in
    record {
      rest = inv.rest;
      lists = inv.lists;
      still_supported = each_more (λ x. (bs : List ℕ) → slice_get r x ≡ Some (union bs) → StillSupported w r u qs i x) js c.loop-j.j-index 0 c.loop-j-test.true inv.still_supported
          (λ bs e. settled_supported w r u qs i j c.requires.rest.0.writer.whole c.requires.rest.0.reader.whole (told.1 (rw c.deref.ensures.value at (c.any_remaining.ensures.0 c.if-any_remaining.true))));
    }

pub eliminate_pair-requires-clause-unsupported : goal.eliminate_pair-requires-clause-unsupported
eliminate_pair-requires-clause-unsupported c = λ s.
    let w = rows c.args.schemas.now in let r = columns c.args.schemas.now in let i = c.args.i in let j = get_or c.args.unions.now c.loop-j.j-index 0 in
    let here : slice_get r j ≡ Some (union c.in-Union.branches.items) = c.node.ensures.node ∙ ap (λ n. Some (node_view n)) c.in-Union.is in
    let told = supports_any w r (remains c.loop-j.progress.table) i j c.in-Union.branches.items (rw length-map c.requires.i_in) c.requires.apart here in
    true≢false (sym (c.any_remaining.ensures.1 (rw c.deref.ensures.value (told.0 s))) ∙ c.if-any_remaining.false)

pub loop-j-preserved : goal.loop-j-preserved
loop-j-preserved c =
    let w = rows c.args.schemas.now in let r = columns c.args.schemas.now in let i = c.args.i in let js = c.args.unions.now in let inv = c.loop-j.invariant in
    let u = c.loop-j.progress.table in let v = c.eliminate_pair.new.progress.table in let qs = c.loop-j.progress.eliminated.items in let rs = c.eliminate_pair.new.progress.eliminated.items in
    let done = c.in_ok-eliminate_pair.ensures in let more = done.eliminates.1 in
    record {
      rest = done.eliminates.0;
      lists = lists_then c.args.progress.now.table u v c.args.progress.now.eliminated.items qs rs inv.lists more;
      still_supported = each_more (λ x. (bs : List ℕ) → slice_get r x ≡ Some (union bs) → StillSupported w r v rs i x) js c.loop-j.j-index 0 c.loop-j-test.true
          (λ k d l bs e. settled_on w r u v qs rs i (get_or js k d) c.requires.rest.0.writer.whole c.requires.rest.0.reader.whole more (inv.still_supported k d l bs e)) (λ bs e. done.still_supported);
    }
