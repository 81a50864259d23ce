use Rattle.std.proofs.Common.{rules, ◌≡◌, ◌<◌, ◌*◌, ◌+◌, ◌++◌, List, [], ◌∷◌, ap, length-append, length, subst, sym, ◌∙◌, arith}
use Rattle.std.proofs.lemmas.List.{length-map}
use Rattle.avro_nodes.specs.Nodes.{node_view, nodes_view}
use Rattle.avro_resolve.specs.Resolution.{Closed}
use Rattle.avro_resolve.specs.Witnesses.{Pair}
use Rattle.avro_resolve.specs.Inside.Remaining.{remains, AllStillSupported, AreEliminated, AreRun, IsRemainder}
use Rattle.avro_resolve.specs.Inside.Schemas.{columns, rows}
use Rattle.avro_resolve.proofs.Flags.{flag_row, flag_column}
use Rattle.avro_resolve.proofs.KeptSupport.{back_out, front_out, none_held}
use Rattle.avro_resolve.proofs.Eliminates.{all_left}
use Rattle.avro_resolve.proofs.ViewLemmas.{both}
use Rattle.avro_resolve.proofs.elimination.largest_closed.Goals as goal

pub eliminate_disagreeing-requires-clause-rest : goal.eliminate_disagreeing-requires-clause-rest
eliminate_disagreeing-requires-clause-rest c =
    let w = c.args.writer.now in let r = c.args.reader.now in
    let lw : length (nodes_view w) ≡ length w = length-map w node_view in
    let lr : length (nodes_view r) ≡ length r = length-map r node_view in
    both (λ x y. IsRemainder x y c.in_ok-table.table) (nodes_view w) (rows c.in_ok-schemas.schemas) (nodes_view r) (columns c.in_ok-schemas.schemas) (ap nodes_view (sym c.in_ok-schemas.ensures.writer)) (ap nodes_view (sym c.in_ok-schemas.ensures.reader)) (
    all_left (nodes_view w) (nodes_view r) c.in_ok-table.table (c.in_ok-table.ensures.writers ∙ c.places.ensures.places ∙ sym lw) (c.in_ok-table.ensures.readers ∙ c.places-2.ensures.places ∙ sym lr)
    (λ i j li lj. c.in_ok-table.ensures.whole i j (subst (λ n. i < n) (lw ∙ sym c.places.ensures.places) li) (subst (λ n. j < n) (lr ∙ sym c.places-2.ensures.places) lj)) (rw (lw, lr, ← c.places.ensures.places, ← c.places-2.ensures.places) c.in_ok-table.ensures.count))

pub returns-clause-rest : goal.returns-clause-rest
returns-clause-rest c =
    let schemas = c.in_ok-schemas.schemas in
    both (λ x y. IsRemainder x y c.loop-last.progress.table) (rows schemas) (nodes_view c.args.writer.now) (columns schemas) (nodes_view c.args.reader.now) (ap nodes_view c.in_ok-schemas.ensures.writer) (ap nodes_view c.in_ok-schemas.ensures.reader) c.loop-last.invariant.rest.rest

pub returns-clause-closed : goal.returns-clause-closed
returns-clause-closed c =
    let schemas = c.in_ok-schemas.schemas in let is = c.in_ok-schemas.ensures.schemas in let w = rows schemas in let r = columns schemas in
    let u = c.loop-last.progress.table in let rest = c.loop-last.invariant.rest.rest in
    let size : length u.flags.items ≡ u.writers * u.readers = omega (arith, u.sized, u.flags.ok.0) in
    let still_supported : AllStillSupported w r u [] = search rules in
    let closed : Closed w r (remains u) = λ i j h. (
    let below : i < u.writers = flag_row u.flags.items u.writers u.readers i j size h in
    let row : i < length w = omega (arith, rest.writers) in
    let before : j < u.readers = flag_column u.flags.items u.readers i j h in
    let column : j < length r = omega (arith, rest.readers) in
    none_held w r u i j is.writer.whole is.reader.whole (still_supported i j row column) h
    ) in
    both (λ x y. Closed x y (remains u)) w (nodes_view c.args.writer.now) r (nodes_view c.args.reader.now) (ap nodes_view c.in_ok-schemas.ensures.writer) (ap nodes_view c.in_ok-schemas.ensures.reader) closed

pub loop-last-init : goal.loop-last-init
loop-last-init c = record {
  rest = c.in_ok-sources.ensures.eliminates.0;
  out = c.in_ok-sources.ensures.eliminates.1.out (λ k d l. absurd (omega (arith, ap length c.new.ensures.items)));
  still_supported = c.in_ok-sources.ensures.still_supported;
}

pub propagate-requires-clause-run : goal.propagate-requires-clause-run
propagate-requires-clause-run c =
    let u = c.loop-last.progress.table in let ps = c.pop_run.new.eliminated.items in let run = c.pop_run.new.run.items in
    let all = c.in-Some.ensures.items ∙ c.in_ok-pop_run.ensures.all in
    let out = back_out u ps run (subst (AreEliminated u) all c.loop-last.invariant.out) in
    let is : AreRun u c.from.result run = λ k d l. (c.in_ok-pop_run.ensures.one k d l ∙ sym c.from.ensures, out k d l) in
    subst (AreRun u c.from.result) (sym c.deref-in-Some.ensures.value) is

pub propagate-requires-clause-before : goal.propagate-requires-clause-before
propagate-requires-clause-before c =
    let all = c.in-Some.ensures.items ∙ c.in_ok-pop_run.ensures.all ∙ ap (λ (xs : List Pair). c.pop_run.new.eliminated.items ++ xs) (sym c.deref-in-Some.ensures.value) in
    subst (AllStillSupported (rows c.in_ok-schemas.schemas) (columns c.in_ok-schemas.schemas) c.loop-last.progress.table) all c.loop-last.invariant.still_supported

pub loop-last-preserved : goal.loop-last-preserved
loop-last-preserved c =
    let u = c.loop-last.progress.table in let ps = c.pop_run.new.eliminated.items in let run = c.pop_run.new.run.items in let told = c.in_ok-propagate.ensures in
    record {
      rest = told.eliminates.0;
      out = told.eliminates.1.out (front_out u ps run (subst (AreEliminated u) (c.in-Some.ensures.items ∙ c.in_ok-pop_run.ensures.all) c.loop-last.invariant.out));
      still_supported = told.still_supported;
    }

pub loop-last-smaller : goal.loop-last-smaller
loop-last-smaller c =
    let count = c.in_ok-propagate.ensures.eliminates.1.count in let fewer = c.in_ok-pop_run.ensures.fewer in let items = ap length c.in-Some.ensures.items in
    let long : length (c.pop.new.self.items ++ c.in-Some.last ∷ []) ≡ length c.pop.new.self.items + 1 = length-append c.pop.new.self.items (c.in-Some.last ∷ []) in
    omega (arith, count, fewer, items, long)
