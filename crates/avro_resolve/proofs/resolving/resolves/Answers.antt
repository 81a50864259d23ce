use Rattle.std.proofs.Common.{◌≡◌, ◌*◌, ◌<◌, ◌≤◌, [], List, false, true≢false, ap, length, refl, sym, subst, ◌∙◌, arith}
use Rattle.std.specs.Prelude.{◌↔◌, IsTrue}
use Rattle.std.proofs.lemmas.List.{length-map}
use Rattle.avro_nodes.specs.Nodes.{NodeView, node_view, nodes_view}
use Rattle.avro_resolve.specs.declared.recursion.Walk.{Walk}
use Rattle.avro_resolve.specs.Asking.{ContainsAsked}
use Rattle.avro_resolve.specs.Witnesses.{Pair, HasClosedSet, HasRefutation}
use Rattle.avro_resolve.specs.Resolution.{Resolves}
use Rattle.avro_resolve.specs.Inside.Walking.{WalkInvariant, Represents, IsReady, RootAnswerProves}
use Rattle.avro_resolve.specs.Inside.Schemas.{columns, rows}
use Rattle.avro_resolve.proofs.Denoted.{some_node, is_whole}
use Rattle.avro_resolve.proofs.MarkLemmas.{marks_none}
use Rattle.avro_resolve.proofs.Reaching.{is_small}
use Rattle.avro_resolve.proofs.ViewLemmas.{both}
use Rattle.avro_resolve.proofs.WalkLemmas.{roots_reachable}
use Rattle.avro_resolve.proofs.WalkEnds.{good_start, ended, reached_hold}
use Rattle.avro_resolve.proofs.resolving.resolves.Goals as goal
use Rattle.avro_resolve.proofs.resolving.resolves.Goals.{in-Yes, in-No, in-Unfinished+in_ok-yes-in-Unfinished}

pub check_pair-requires-clause-ready : goal.check_pair-requires-clause-ready
check_pair-requires-clause-ready c =
    let w = nodes_view c.args.writer.now in let r = nodes_view c.args.reader.now in
    let lw : length w ≡ length c.args.writer.now = length-map c.args.writer.now node_view in
    let lr : length r ≡ length c.args.reader.now = length-map c.args.reader.now node_view in
    let ww = is_whole w c.places-rows.ensures.schema in let wr = is_whole r c.places-columns.ensures.schema in
    let few_rows : length w < 65536 = omega (arith, lw, c.places-rows.ensures.places, c.places-rows.ensures.few) in
    let few_columns : length r < 65536 = omega (arith, lr, c.places-columns.ensures.places, c.places-columns.ensures.few) in
    let m : c.places-columns.result ≡ length r = c.places-columns.ensures.places ∙ sym lr in
    let walk : Walk = record { alloc = c.args.alloc; assumed = c.new.result; failed = c.new-2.result; assumed_set = c.none.result; failed_set = c.none-2.result; visits = 0; meter = c.none-3.result } in
    let ready : IsReady w r 0 walk = record {
      writer = ww;
      reader = wr;
      small = is_small w r ww wr (some_node w c.places-rows.ensures.schema) (some_node r c.places-columns.ensures.schema) few_rows few_columns;
      low = omega arith;
      opened = omega arith;
      good = subst (λ (x : List Pair). WalkInvariant w r x c.new-2.result.items 0) (sym c.new.ensures.items) (subst (λ (x : List Pair). WalkInvariant w r [] x 0) (sym c.new-2.ensures.items) (good_start w r));
      assumed = subst (λ (x : List Pair). Represents (length r) c.none.result x) (sym c.new.ensures.items) (marks_none (length r) c.none.result (c.none.ensures.readers ∙ m) c.none.ensures.empty);
      failed = subst (λ (x : List Pair). Represents (length r) c.none-2.result x) (sym c.new-2.ensures.items) (marks_none (length r) c.none-2.result (c.none-2.ensures.readers ∙ m) c.none-2.ensures.empty);
    } in
    (c.in_ok-schemas.ensures.schemas, both (λ x y. IsReady x y 0 walk) w (rows c.in_ok-schemas.schemas) r (columns c.in_ok-schemas.schemas) (ap nodes_view (sym c.in_ok-schemas.ensures.writer)) (ap nodes_view (sym c.in_ok-schemas.ensures.reader)) ready)

pub check_pair-requires-clause-reachable : goal.check_pair-requires-clause-reachable
check_pair-requires-clause-reachable c = record {
  row = subst (λ (x : List NodeView). 0 < length x) (ap nodes_view (sym c.in_ok-schemas.ensures.writer)) (some_node (nodes_view c.args.writer.now) c.places-rows.ensures.schema);
  column = subst (λ (x : List NodeView). 0 < length x) (ap nodes_view (sym c.in_ok-schemas.ensures.reader)) (some_node (nodes_view c.args.reader.now) c.places-columns.ensures.schema);
  reached = roots_reachable (rows c.in_ok-schemas.schemas) (columns c.in_ok-schemas.schemas);
}

pub returns : goal.returns
returns c =
    let w = rows c.in_ok-schemas.schemas in let r = columns c.in_ok-schemas.schemas in let wn = nodes_view c.args.writer.now in let rn = nodes_view c.args.reader.now in
    let s : Walk = record { alloc = c.args.alloc; assumed = c.new.result; failed = c.new-2.result; assumed_set = c.none.result; failed_set = c.none-2.result; visits = 0; meter = c.none-3.result } in
    let t = c.check_pair.new.walk in let answer = c.in_ok-answer.answer in let n = t.visits in let yes = c.match-answer.yes in
    let end = both (λ x y. RootAnswerProves x y n answer × (1 ≤ n) × ((ps : List Pair) → ContainsAsked x y ps → n ≤ length ps * length ps)) w wn r rn (ap nodes_view c.in_ok-schemas.ensures.writer) (ap nodes_view c.in_ok-schemas.ensures.reader)
    (ended w r s t c.new.ensures.items c.new-2.ensures.items answer c.in_ok-answer.ensures) in
    let told : (IsTrue yes ↔ Resolves wn rn) × (IsTrue yes → n < 1000 → HasClosedSet wn rn n) × (yes ≡ false → n < 1000 → HasRefutation wn rn n) = elim c.match-answer.branch [
      | in-Yes q ↦ (let shows = rw q.in-Yes.is at end.0 in rw q.yes-is (((λ h. shows.0), (λ h. refl)), (λ h l. shows.1), (λ h l. absurd (true≢false h))))
      | in-No q ↦ (let shows = rw q.in-No.is at end.0 in rw q.yes-is (((λ h. absurd (true≢false (sym h))), (λ h. absurd (shows.0 h))), (λ h l. absurd (true≢false (sym h))), (λ h l. shows.1)))
      | in-Unfinished+in_ok-yes-in-Unfinished q ↦ (let far = rw q.in-Unfinished.is at end.0 in rw q.yes-is (q.in_ok-yes-in-Unfinished.ensures, (λ h l. absurd (omega (arith, far, l))), (λ h l. absurd (omega (arith, far, l)))))
    ] in
    record {
      yes = told.0;
      at_least = end.1;
      closed = told.1;
      refuted = told.2;
      reached = λ ps h. end.2 ps (reached_hold wn rn ps h);
      at_most = end.2;
    }
