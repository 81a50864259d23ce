use Rattle.std.proofs.Common.{rules, ◌≡◌, ℕ, ◌+◌, ◌<◌, ◌≤◌, List, [], ◌∷◌, ◌++◌, None, Some, true, false, not, true≢false, length, map, take, take_all, get_or, take-take, take_at, All, IsTrue, refl, sym, subst, ap, ◌∙◌, arith}
use Rattle.std.proofs.lemmas.List.{get_or_default, length-map, length_push}
use Rattle.std.specs.Prelude.{◌↔◌, ◌==◌, ◌&&◌, if◌then◌else◌, Any, Contains, Option, Vec, slice_get}
use Rattle.std.proofs.lemmas.Option.{same_Some, slice_get-get_or, slice_get_within}
use Rattle.std.proofs.lemmas.List.Elements.{All-map, All-more, All-weaker}
use Rattle.serde_json.specs.View.{view}
use Rattle.std.specs.declared.alloc.Global.{Global}
use Rattle.avro_nodes.specs.declared.node.Field.{Field}
use Rattle.avro_nodes.specs.declared.node.Node.{Node}
use Rattle.avro_nodes.specs.declared.node.Node.TheVariants.{Primitive, Array, Map, Union, Enum, Fixed, Rec}
use Rattle.avro_nodes.specs.Nodes.{FieldView, NodeView, union, node_view, nodes_view, field_view}
use Rattle.avro_resolve.specs.Asking.{source_place, AsksFor}
use Rattle.avro_resolve.specs.Resolution.{Fits, Pairs, Readable, Supports}
use Rattle.avro_resolve.specs.declared.recursion.Walk.{Walk}
use Rattle.avro_resolve.specs.declared.recursion.Answer.TheVariants.{No}
use Rattle.avro_resolve.specs.declared.pair_set.PairSet.{PairSet}
use Rattle.avro_resolve.specs.Inside.PairSets.{has}
use Rattle.avro_resolve.specs.Inside.Reachable.{AreReachable, IsReachablePair, IsSourceReachable}
use Rattle.avro_resolve.specs.Inside.Schemas.{columns, rows}
use Rattle.avro_resolve.specs.Inside.Walking.{CanContinue, WalkInvariant, ExtendsWalk, Represents, IsReady, AnswerHolds}
use Rattle.avro_resolve.specs.Inside.Agreeing.{Agree}
use Rattle.avro_resolve.specs.Inside.FieldSlots.{AreFieldSources}
use Rattle.avro_resolve.specs.Witnesses.{Pair, member, without, AreDistinct}
use Rattle.avro_resolve.proofs.ViewLemmas.{view_got}
use Rattle.avro_resolve.proofs.Agreement.{fits_agree}
use Rattle.avro_resolve.proofs.MarkLemmas.{marks_pop, marks_push, differ_front}
use Rattle.avro_resolve.proofs.PairLists.{member_last}
use Rattle.avro_resolve.proofs.WalkSteps.{opened}
use Rattle.avro_resolve.proofs.Monotone.{supports_at}
use Rattle.avro_resolve.proofs.WalkLemmas.{reachable_from, grown0, grown2, within2, readable_source, readable_default, held_more, ask_told, ask_no, not_without, tells_on, tells_no, tells_yes, told_ok, any_never, fields_reachable, some_mapped}
use Rattle.avro_resolve.proofs.recursion.+walk.Goals as goal
use Rattle.avro_resolve.proofs.recursion.+walk.Goals.{all_readable-in-Some+in_ok-outcome-in-Some+in-Yes, all_readable-in-None+else-is_none}

pub check_pair-returns-in_default : goal.check_pair-returns-in_default
check_pair-returns-in_default t c =
    let w = nodes_view c.args.schemas.now.writer.schema.now in let r = nodes_view c.args.schemas.now.reader.schema.now in let s = c.args.walk.now in let v = c.is_supported.new.walk in let i = c.args.i in let j = c.args.j in let same = c.walk.view_is in
    let pushed : c.push.new.self.items ≡ s.assumed.items ++ (i, j) ∷ [] = c.in_ok-push.ensures.items ∙ ap (λ (x : Walk). x.assumed.items ++ (i, j) ∷ []) same in
    let u : Walk = record s { assumed = c.push.new.self } in
    ask_told w r c.args.depth s u v i j (Supports w r (without v.failed.items) i j → ⊥) _ c.requires.ready.1 pushed refl c.in_ok-outcome.outcome c.in_default.not-No
    (subst (λ (x : Walk). AnswerHolds w r (c.args.depth + 1) c.push.new.self.items x.failed.items v (Supports w r (member v.assumed.items) i j) (Supports w r (without v.failed.items) i j → ⊥) c.in_ok-outcome.outcome) same c.in_ok-outcome.ensures)

pub check_pair-loop-walk-init : goal.check_pair-loop-walk-init
check_pair-loop-walk-init t c =
    let w = nodes_view c.args.schemas.now.writer.schema.now in let r = nodes_view c.args.schemas.now.reader.schema.now in let s = c.args.walk.now in let v = c.is_supported.new.walk in let i = c.args.i in let j = c.args.j in let same = c.walk.view_is in
    let pushed : c.push.new.self.items ≡ s.assumed.items ++ (i, j) ∷ [] = c.in_ok-push.ensures.items ∙ ap (λ (x : Walk). x.assumed.items ++ (i, j) ∷ []) same in
    let outcome = rw c.in-No.is at c.in_ok-outcome.ensures in
    let long : length c.push.new.self.items ≡ length s.assumed.items + 1 = ap length pushed ∙ length_push s.assumed.items (i, j) in
    let more = outcome.1.longer in let lists = ap (λ (x : Walk). length x.assumed.items) same in
    record {
      front = take_all (length v.assumed.items) v.assumed.items (omega arith);
      low = omega (arith, s.assumed.ok.0, long, more, lists);
      distinct = outcome.0.good.assumed_distinct;
      marks = outcome.0.assumed;
      failed = refl;
      failed_set = refl;
      visits = refl;
    }

pub check_pair-remove-requires : goal.check_pair-remove-requires
check_pair-remove-requires t c =
    let inv = c.loop-walk.invariant in
    let k = inv.marks.within c.in-Some.i c.in-Some.j (subst (λ (ps : List Pair). member ps c.in-Some.i c.in-Some.j ≡ true) (sym c.in-Some.ensures.items) (member_last c.pop.new.self.items c.in-Some.i c.in-Some.j)) in
    subst (λ (n : ℕ). c.in-Some.j < n) (sym inv.marks.readers) k

pub check_pair-loop-walk-preserved-in-Some : goal.check_pair-loop-walk-preserved-in-Some
check_pair-loop-walk-preserved-in-Some t c =
    let inv = c.loop-walk.invariant in let m = length (columns c.args.schemas.now) in let all = c.is_supported.new.walk.assumed.items in let x = c.loop-walk.walk in let ps = c.pop.new.self.items in
    let p : Pair = (c.in-Some.i, c.in-Some.j) in
    let is : x.assumed.items ≡ ps ++ p ∷ [] = c.in-Some.ensures.items in
    let l : length x.assumed.items ≡ length ps + 1 = ap length is ∙ length_push ps p in
    let le : length ps ≤ length x.assumed.items = omega arith in
    let long : length x.assumed.items ≡ c.len.result = omega (arith, x.assumed.ok.0) in
    record {
      front = sym (take-take (length ps) (length x.assumed.items) all le) ∙ ap (λ (y : List Pair). take (length ps) y) (inv.front ∙ is) ∙ take_at ps (p ∷ []) (length ps) refl;
      low = omega (arith, l, long, c.loop-walk-test.true);
      distinct = differ_front ps p (subst AreDistinct is inv.distinct);
      marks = marks_pop m x.assumed_set c.remove.new.self ps c.in-Some.i c.in-Some.j (subst (λ (y : List Pair). Represents m x.assumed_set y) is inv.marks) (subst AreDistinct is inv.distinct) c.remove.ensures.readers c.remove.ensures.others;
      failed = inv.failed;
      failed_set = inv.failed_set;
      visits = inv.visits;
    }

pub check_pair-insert-requires-2 : goal.check_pair-insert-requires-2
check_pair-insert-requires-2 t c =
    let outcome = rw c.in-No.is at c.in_ok-outcome.ensures in let inv = c.loop-walk.invariant in
    subst (λ (n : ℕ). c.args.j < n) (sym (ap (λ (y : PairSet). y.readers) inv.failed_set ∙ outcome.0.failed.readers)) c.requires.reachable.column

pub check_pair-returns : goal.check_pair-returns
check_pair-returns t c =
    let w = nodes_view c.args.schemas.now.writer.schema.now in let r = nodes_view c.args.schemas.now.reader.schema.now in let s = c.args.walk.now in let v = c.is_supported.new.walk in let i = c.args.i in let j = c.args.j in let same = c.walk.view_is in
    let pushed : c.push.new.self.items ≡ s.assumed.items ++ (i, j) ∷ [] = c.in_ok-push.ensures.items ∙ ap (λ (x : Walk). x.assumed.items ++ (i, j) ∷ []) same in
    let out : member s.assumed.items i j ≡ false = sym (c.requires.ready.1.assumed.exact i j c.requires.reachable.column) ∙ sym (c.has.ensures ∙ ap (λ (x : Walk). has x.assumed_set i j) same) ∙ c.if-has.false in
    let inv = c.loop-walk.invariant in
    let u : Walk = record s { assumed = c.push.new.self } in
    let x : Walk = record c.loop-walk.walk { failed = c.push-2.new.self; failed_set = c.insert-2.new.self } in
    let outcome : IsReady w r (c.args.depth + 1) v × ExtendsWalk w r u v × (Supports w r (without v.failed.items) i j → ⊥) = subst (λ (x : Walk). AnswerHolds w r (c.args.depth + 1) c.push.new.self.items x.failed.items v (Supports w r (member v.assumed.items) i j) (Supports w r (without v.failed.items) i j → ⊥) No) same (rw c.in-No.is at c.in_ok-outcome.ensures) in
    let lists = ap (λ (y : Walk). length y.assumed.items) same in
    let back : length x.assumed.items ≡ length s.assumed.items = omega (arith, s.assumed.ok.0, x.assumed.ok.0, inv.low, lists, c.loop-walk-test.false) in
    let failed : x.failed.items ≡ v.failed.items ++ (i, j) ∷ [] = c.in_ok-push-2.ensures.items ∙ ap (λ (y : Vec Pair Global). y.items ++ (i, j) ∷ []) inv.failed in
    let marks : Represents (length r) x.failed_set (v.failed.items ++ (i, j) ∷ []) = marks_push (length r) v.failed_set x.failed_set v.failed.items i j outcome.0.failed c.requires.reachable.column (c.in_ok-insert-2.ensures.readers ∙ ap (λ (y : PairSet). y.readers) inv.failed_set)
    (subst (λ (z : PairSet). (a b : ℕ) → b < z.readers → has x.failed_set a b ≡ (if a == i && b == j then true else has z a b)) inv.failed_set c.in_ok-insert-2.ensures.others) in
    ask_no w r c.args.depth s u v x i j c.requires.ready.1 c.requires.reachable.reached out pushed refl outcome.0 outcome.1 outcome.2
    (sym (subst (λ (n : ℕ). take n v.assumed.items ≡ x.assumed.items) back inv.front)) failed inv.visits inv.marks
    (subst (λ (y : List Pair). Represents (length r) x.failed_set y) (sym failed) marks)

pub check_pair-is_supported-requires : goal.check_pair-is_supported-requires
check_pair-is_supported-requires t c =
    let w = nodes_view c.args.schemas.now.writer.schema.now in let r = nodes_view c.args.schemas.now.reader.schema.now in let s = c.args.walk.now in let i = c.args.i in let j = c.args.j in let same = c.walk.view_is in
    let reachable = c.requires.reachable in let all = c.push.new.self.items in
    let ready : IsReady w r c.args.depth s = c.requires.ready.1 in
    let pushed : c.push.new.self.items ≡ s.assumed.items ++ (i, j) ∷ [] = c.in_ok-push.ensures.items ∙ ap (λ (x : Walk). x.assumed.items ++ (i, j) ∷ []) same in
    let out : member s.assumed.items i j ≡ false = sym (c.requires.ready.1.assumed.exact i j c.requires.reachable.column) ∙ sym (c.has.ensures ∙ ap (λ (x : Walk). has x.assumed_set i j) same) ∙ c.if-has.false in
    let never : member s.failed.items i j ≡ false = sym (ready.failed.exact i j reachable.column) ∙ sym (c.has-2.ensures ∙ ap (λ (x : Walk). has x.failed_set i j) same) ∙ c.if-has-2.false in
    let long : length all ≡ length s.assumed.items + 1 = ap length pushed ∙ length_push s.assumed.items (i, j) in
    let o = ready.opened in let low = ready.low in
    let others = subst (λ (z : Walk). (a b : ℕ) → b < z.assumed_set.readers → has c.insert.new.self a b ≡ (if a == i && b == j then true else has z.assumed_set a b)) same c.in_ok-insert.ensures.others in
    let going : CanContinue w r (c.args.depth + 1) all s.failed.items c.insert.new.self s.failed_set (s.visits + 1) = record {
      writer = ready.writer;
      reader = ready.reader;
      small = ready.small;
      low = omega arith;
      opened = omega (arith, long, o);
      good = subst (λ (x : List Pair). WalkInvariant w r x s.failed.items (s.visits + 1)) (sym pushed) (opened w r s.assumed.items s.failed.items s.visits i j ready.good reachable.reached out never);
      assumed = subst (λ (x : List Pair). Represents (length r) c.insert.new.self x) (sym pushed) (marks_push (length r) s.assumed_set c.insert.new.self s.assumed.items i j ready.assumed reachable.column (c.in_ok-insert.ensures.readers ∙ ap (λ (x : Walk). x.assumed_set.readers) same) others);
      failed = ready.failed;
    } in
    let went = subst (λ (x : Walk). CanContinue w r (c.args.depth + 1) all x.failed.items c.insert.new.self x.failed_set (x.visits + 1)) (sym same) going in
    search rules

pub is_supported-fits-requires : goal.is_supported-fits-requires
is_supported-fits-requires t c =
    let w = nodes_view c.args.schemas.now.writer.schema.now in let r = nodes_view c.args.schemas.now.reader.schema.now in
    let a = node_view c.node-a.result.now in let b = node_view c.node-b.result.now in
    let reachable : AreReachable w r c.args.at.0 c.args.at.1 a b = reachable_from w r c.args.at.0 c.args.at.1 a b c.requires.ready.1.writer c.requires.ready.1.reader c.node-a.ensures.node c.node-b.ensures.node c.requires.reachable.reached in
    search rules

pub is_supported-returns-then-not-agreed : goal.is_supported-returns-then-not-agreed
is_supported-returns-then-not-agreed t c =
    let w = nodes_view c.args.schemas.now.writer.schema.now in let r = nodes_view c.args.schemas.now.reader.schema.now in let s = c.args.walk.now in
    let a = node_view c.node-a.result.now in let b = node_view c.node-b.result.now in let R = without s.failed.items in
    let at = supports_at w r R c.args.at.0 c.args.at.1 a b c.node-a.ensures.node c.node-b.ensures.node in
    (c.requires.ready.1, grown0 w r s, (λ h. true≢false (sym (c.in_ok-agreed.ensures.1 (fits_agree R c.args.at.0 c.args.at.1 a b (at.0 h))) ∙ c.if-not-agreed.true)))

pub is_supported-returns : goal.is_supported-returns
is_supported-returns t c =
    let w = nodes_view c.args.schemas.now.writer.schema.now in let r = nodes_view c.args.schemas.now.reader.schema.now in let s = c.args.walk.now in let v = c.fits.new.walk in
    let a = node_view c.node-a.result.now in let b = node_view c.node-b.result.now in
    let yes = supports_at w r (member v.assumed.items) c.args.at.0 c.args.at.1 a b c.node-a.ensures.node c.node-b.ensures.node in
    let no = supports_at w r (without v.failed.items) c.args.at.0 c.args.at.1 a b c.node-a.ensures.node c.node-b.ensures.node in
    told_ok c.fits.result _ _ (λ answer. tells_on w r c.args.depth s.assumed.items s.failed.items v _ _ _ _ (λ h. yes.1 h) (λ l h. l (no.0 h)) answer) c.fits.ensures

pub fits-sources-requires-clause-i_in : goal.fits-sources-requires-clause-i_in
fits-sources-requires-clause-i_in t c =
    let within = slice_get_within (rows c.args.schemas.now) c.args.at.0 (node_view c.args.a.now) c.requires.a_at in
    let long = length-map c.args.schemas.now.writer.schema.now node_view in
    omega (arith, within, long)

pub fits-sources-requires-clause-j_in : goal.fits-sources-requires-clause-j_in
fits-sources-requires-clause-j_in t c =
    let within = slice_get_within (columns c.args.schemas.now) c.args.at.1 (node_view c.args.b.now) c.requires.b_at in
    let long = length-map c.args.schemas.now.reader.schema.now node_view in
    omega (arith, within, long)

pub fits-check_pair-requires-in-Array-Array : goal.fits-check_pair-requires-in-Array-Array
fits-check_pair-requires-in-Array-Array t c =
    let reachable : IsReachablePair (rows c.args.schemas.now) (columns c.args.schemas.now) c.in-Array-Array.p c.in-Array-Array.q = (rw (c.in-Array-Array.is-0, c.in-Array-Array.is-1) at c.requires.reachable) c.in-Array-Array.p c.in-Array-Array.q (refl, refl) in
    search rules

pub fits-check_pair-requires-in-Map-Map : goal.fits-check_pair-requires-in-Map-Map
fits-check_pair-requires-in-Map-Map t c =
    let reachable : IsReachablePair (rows c.args.schemas.now) (columns c.args.schemas.now) c.in-Map-Map.p c.in-Map-Map.q = (rw (c.in-Map-Map.is-0, c.in-Map-Map.is-1) at c.requires.reachable) c.in-Map-Map.p c.in-Map-Map.q (refl, refl) in
    search rules

pub fits-all_readable-requires : goal.fits-all_readable-requires
fits-all_readable-requires t c =
    let w = nodes_view c.args.schemas.now.writer.schema.now in let r = nodes_view c.args.schemas.now.reader.schema.now in let fs = c.in-Rec-Rec.fields.items in let gs = c.in-Rec-Rec.wanted.items in
    let e = sym c.deref.ensures.value in let e2 = sym c.deref-in-Rec-Rec-2.ensures.value in
    let read : AreFieldSources (map field_view fs) (map field_view gs) c.in_ok-sources-in-Rec-Rec.sources.items = rw (c.in-Rec-Rec.is-0, c.in-Rec-Rec.is-1) at (c.in_ok-sources-in-Rec-Rec.ensures (node_view c.args.a.now) (node_view c.args.b.now) c.requires.a_at c.requires.b_at) in
    let outcome : AreFieldSources (map field_view c.deref.result.now) (map field_view c.deref-in-Rec-Rec-2.result.now) c.deref-in-Rec-Rec.result.now =
    c.deref-in-Rec-Rec.ensures.value ∙ subst (λ (xs : List Field). AreFieldSources (map field_view xs) (map field_view c.deref-in-Rec-Rec-2.result.now) c.in_ok-sources-in-Rec-Rec.sources.items) e
    (subst (λ (ys : List Field). AreFieldSources (map field_view fs) (map field_view ys) c.in_ok-sources-in-Rec-Rec.sources.items) e2 read) in
    let asked0 : All (λ (f : Field). IsSourceReachable w r (map field_view fs) (field_view f)) gs = fields_reachable w r (map field_view fs) gs (rw (c.in-Rec-Rec.is-0, c.in-Rec-Rec.is-1) at c.requires.reachable) in
    let reachable : All (λ (f : Field). IsSourceReachable w r (map field_view c.deref.result.now) (field_view f)) c.deref-in-Rec-Rec-2.result.now =
    subst (λ (xs : List Field). All (λ (f : Field). IsSourceReachable w r (map field_view xs) (field_view f)) c.deref-in-Rec-Rec-2.result.now) e (subst (λ (ys : List Field). All (λ (f : Field). IsSourceReachable w r (map field_view fs) (field_view f)) ys) e2 asked0) in
    search rules

pub fits-returns-in_ok-sources-in-Rec-Rec : goal.fits-returns-in_ok-sources-in-Rec-Rec
fits-returns-in_ok-sources-in-Rec-Rec t c =
    let w = nodes_view c.args.schemas.now.writer.schema.now in let r = nodes_view c.args.schemas.now.reader.schema.now in let s = c.args.walk.now in let v = c.all_readable.new.walk in
    let fs = map field_view c.in-Rec-Rec.fields.items in let gs = c.in-Rec-Rec.wanted.items in
    let names = (rw (c.in-Rec-Rec.is-0, c.in-Rec-Rec.is-1) at c.requires.agreed).0 in
    let outcome = rw (c.deref.ensures.value, c.deref-in-Rec-Rec-2.ensures.value) at c.all_readable.ensures in
    rw (c.in-Rec-Rec.is-0, c.in-Rec-Rec.is-1) (told_ok c.all_readable.result _ _ (λ answer. tells_on w r c.args.depth s.assumed.items s.failed.items v _ _ _ _ (λ h. (names, All-map (Readable (member v.assumed.items) fs) field_view gs h)) (λ l h. any_never (Readable (without v.failed.items) fs) gs l h.1) answer) outcome)

pub fits-loop-p-preserved : goal.fits-loop-p-preserved
fits-loop-p-preserved t c =
    let w = rows c.args.schemas.now in let r = columns c.args.schemas.now in let s = c.args.walk.now in let u = c.loop-p.walk in let v = c.check_pair.new.walk in
    let outcome = rw c.in-Yes.is at c.in_ok-outcome.ensures in
    let places = c.deref-p-items.result.now in let j = c.args.at.1 in
    let l : c.loop-p.p-index < length places = c.loop-p-test.true in
    record {
      ready = outcome.0;
      grown = grown2 w r s u v c.loop-p.invariant.grown outcome.1;
      held = All-more (λ p. IsTrue (member v.assumed.items p j)) places c.loop-p.p-index 0 l
          (All-weaker (λ p. IsTrue (member u.assumed.items p j)) (λ p. IsTrue (member v.assumed.items p j)) (λ p. within2 w r u v outcome.1 p j) (take c.loop-p.p-index places) c.loop-p.invariant.held) outcome.2;
    }

pub fits-returns-in-Union : goal.fits-returns-in-Union
fits-returns-in-Union t c =
    let R = member c.loop-p.walk.assumed.items in
    let places = c.deref-p-items.result.now in let held = λ (x : List ℕ). All (λ p. IsTrue (R p c.args.at.1)) x in (
      c.loop-p.invariant.ready,
      c.loop-p.invariant.grown,
      subst (λ (n : Node). Fits R c.args.at.0 c.args.at.1 (node_view n) (node_view c.args.b.now)) (sym c.in-Union.is)
          (subst held c.deref-p-items.ensures.value (subst held (take_all c.loop-p.p-index places c.loop-p-test.false) c.loop-p.invariant.held)),
    )

-- a reader's union with a writer's node other than a union: when the pair fits, and on which pairs it depends
with_union : (R : Pairs) (i j : ℕ) (n : Node) (bs : List ℕ) → ((x : Vec ℕ Global) → n ≡ Union x → ⊥)
    → (Fits R i j (node_view n) (union bs) ↔ Any (λ p. IsTrue (R i p)) bs) × ((q : ℕ) → Contains bs q → AsksFor i j (node_view n) (union bs) i q)
with_union R i j (Union x) bs f = absurd (f x refl)
with_union R i j (Primitive k x) bs f = (((λ h. h), (λ h. h)), (λ q h. (refl, h)))
with_union R i j (Array p x) bs f = (((λ h. h), (λ h. h)), (λ q h. (refl, h)))
with_union R i j (Map p x) bs f = (((λ h. h), (λ h. h)), (λ q h. (refl, h)))
with_union R i j (Enum k s o x) bs f = (((λ h. h), (λ h. h)), (λ q h. (refl, h)))
with_union R i j (Fixed k s x) bs f = (((λ h. h), (λ h. h)), (λ q h. (refl, h)))
with_union R i j (Rec k fs x) bs f = (((λ h. h), (λ h. h)), (λ q h. (refl, h)))

none_of : (ps : List Pair) (i : ℕ) (xs : List ℕ) → All (λ p. IsTrue (member ps i p)) xs → Any (λ p. IsTrue (without ps i p)) xs → ⊥
none_of ps i xs lost (k, x, l, e, h) = not_without ps i x (subst (λ (y : ℕ). member ps i y ≡ true) e (lost k x l)) h

pub fits-check_pair-requires-in-loop-q : goal.fits-check_pair-requires-in-loop-q
fits-check_pair-requires-in-loop-q t c =
    let w = rows c.args.schemas.now in let r = columns c.args.schemas.now in let i = c.args.at.0 in let j = c.args.at.1 in
    let places = c.deref-q-items.result.now in let k = c.loop-q.q-index in let q = get_or places k 0 in let a = c.args.a.now in
    let same : node_view c.args.b.now ≡ union places = ap node_view c.in-Union-b.is ∙ ap (λ (xs : List ℕ). union xs) (sym c.deref-q-items.ensures.value) in
    let all : AreReachable w r i j (node_view a) (union places) = subst (λ (b : NodeView). AreReachable w r i j (node_view a) b) same c.requires.reachable in
    let reachable : IsReachablePair w r i q = all i q ((with_union (without []) i j a places c.in_default.not-Union).1 q (k, c.loop-q-test.true, get_or_default places k q 0 c.loop-q-test.true)) in
    search rules

pub fits-loop-q-preserved : goal.fits-loop-q-preserved
fits-loop-q-preserved t c =
    let w = rows c.args.schemas.now in let r = columns c.args.schemas.now in let s = c.args.walk.now in let u = c.loop-q.walk in let v = c.check_pair-in-loop-q.new.walk in
    let outcome = rw c.in-No.is at c.in_ok-outcome-2.ensures in
    let places = c.deref-q-items.result.now in let i = c.args.at.0 in
    let l : c.loop-q.q-index < length places = c.loop-q-test.true in
    record {
      ready = outcome.0;
      grown = grown2 w r s u v c.loop-q.invariant.grown outcome.1;
      lost = All-more (λ p. IsTrue (member v.failed.items i p)) places c.loop-q.q-index 0 l
          (All-weaker (λ p. IsTrue (member u.failed.items i p)) (λ p. IsTrue (member v.failed.items i p)) (λ p. outcome.1.failed_kept i p) (take c.loop-q.q-index places) c.loop-q.invariant.lost) outcome.2.1;
    }

pub fits-returns-in_default-3 : goal.fits-returns-in_default-3
fits-returns-in_default-3 t c =
    let w = rows c.args.schemas.now in let r = columns c.args.schemas.now in let s = c.args.walk.now in let u = c.loop-q.walk in let v = c.check_pair-in-loop-q.new.walk in
    let i = c.args.at.0 in let j = c.args.at.1 in let a = c.args.a.now in let b = node_view c.args.b.now in
    let places = c.deref-q-items.result.now in let k = c.loop-q.q-index in let q = get_or places k 0 in let R = member v.assumed.items in
    let same : b ≡ union places = ap node_view c.in-Union-b.is ∙ ap (λ (xs : List ℕ). union xs) (sym c.deref-q-items.ensures.value) in
    tells_yes w r c.args.depth s u v (IsTrue (R i q)) (Fits R i j (node_view a) b) _ (Fits (without v.failed.items) i j (node_view a) b → ⊥) c.loop-q.invariant.grown
    (λ h. subst (λ (x : NodeView). Fits R i j (node_view a) x) (sym same) ((with_union R i j a places c.in_default.not-Union).0.1 (k, q, c.loop-q-test.true, get_or_default places k q 0 c.loop-q-test.true, h)))
    c.in_ok-outcome-2.outcome c.in_default-3.not-No c.in_ok-outcome-2.ensures

pub fits-returns-in-Union-b : goal.fits-returns-in-Union-b
fits-returns-in-Union-b t c =
    let i = c.args.at.0 in let j = c.args.at.1 in let a = c.args.a.now in let b = node_view c.args.b.now in
    let places = c.deref-q-items.result.now in let ps = c.loop-q.walk.failed.items in
    let same : b ≡ union places = ap node_view c.in-Union-b.is ∙ ap (λ (xs : List ℕ). union xs) (sym c.deref-q-items.ensures.value) in
    let lost : All (λ p. IsTrue (member ps i p)) places = subst (λ (xs : List ℕ). All (λ p. IsTrue (member ps i p)) xs) (take_all c.loop-q.q-index places c.loop-q-test.false) c.loop-q.invariant.lost in (
      c.loop-q.invariant.ready,
      c.loop-q.invariant.grown,
      (λ h. none_of ps i places lost ((with_union (without ps) i j a places c.in_default.not-Union).0.0 (subst (λ (x : NodeView). Fits (without ps) i j (node_view a) x) same h))),
    )

-- two nodes that agree and depend on no pairs fit
fits_rest : (R : Pairs) (i j : ℕ) (n m : Node) → Agree (node_view n) (node_view m) → ((x : _) → n ≡ Union x → ⊥) → ((x y : _) → n ≡ Array x y → ⊥) → ((x y : _) → n ≡ Map x y → ⊥) → ((x y z : _) → n ≡ Rec x y z → ⊥) → ((x : _) → m ≡ Union x → ⊥) → Fits R i j (node_view n) (node_view m)
fits_rest R i j (Union x) m h u a p r v = absurd (u x refl)
fits_rest R i j (Array x y) m h u a p r v = absurd (a x y refl)
fits_rest R i j (Map x y) m h u a p r v = absurd (p x y refl)
fits_rest R i j (Rec x y z) m h u a p r v = absurd (r x y z refl)
fits_rest R i j (Primitive k x) (Union y) h u a p r v = absurd (v y refl)
fits_rest R i j (Enum k s o x) (Union y) h u a p r v = absurd (v y refl)
fits_rest R i j (Fixed k s x) (Union y) h u a p r v = absurd (v y refl)
fits_rest R i j (Primitive k x) (Primitive l y) h u a p r v = h.0
fits_rest R i j (Enum k s o x) (Enum l t q y) h u a p r v = h
fits_rest R i j (Fixed k s x) (Fixed l t y) h u a p r v = h.0
fits_rest R i j _ _ h u a p r v = absurd h.0

pub fits-returns-in_default-4-4 : goal.fits-returns-in_default-4-4
fits-returns-in_default-4-4 t c =
    let s = c.args.walk.now in
    let fit = fits_rest (member s.assumed.items) c.args.at.0 c.args.at.1 c.args.a.now c.args.b.now c.requires.agreed c.in_default.not-Union c.in_default-4.not-Array-0 c.in_default-4.not-Map-0 c.in_default-4.not-Rec-0 c.in_default-b.not-Union in
    (c.requires.ready.1, grown0 (rows c.args.schemas.now) (columns c.args.schemas.now) s, fit)

-- the source of the field at an index
read_at : (fs : List FieldView) (gs : List Field) (sources : List (Option ℕ)) (n : ℕ) (f : Field) → AreFieldSources fs (map field_view gs) sources → n < length gs → f ≡ get_or gs n f → get_or sources n None ≡ source_place fs (field_view f)
read_at fs gs sources n f outcome l is =
    let here : slice_get gs n ≡ Some f = slice_get-get_or gs n f l ∙ ap Some (sym is) in
    let long : length sources ≡ length gs = ap length outcome ∙ length-map (map field_view gs) (source_place fs) ∙ length-map gs field_view in
    let got : slice_get sources n ≡ Some (get_or sources n None) = slice_get-get_or sources n None (omega (arith, long)) in
    same_Some (get_or sources n None) (source_place fs (field_view f)) (sym got ∙ ap (λ (xs : List (Option ℕ)). slice_get xs n) outcome ∙ view_got (source_place fs) (map field_view gs) n (field_view f) (view_got field_view gs n f here))

pub all_readable-check_pair-requires : goal.all_readable-check_pair-requires
all_readable-check_pair-requires t c =
    let w = nodes_view c.args.schemas.now.writer.schema.now in let r = nodes_view c.args.schemas.now.reader.schema.now in
    let fs = map field_view c.args.fields.now in let gs = c.args.wanted.now in let k = c.loop-index.index in let f = c.index-wanted-index.result in let is = sym c.index-wanted-index.is in
    let outcome : source_place fs (field_view f) ≡ Some c.in-Some.p = sym (read_at fs gs c.args.sources.now k f c.requires.sources c.loop-index-test.true c.index-wanted-index.is) ∙ c.in-Some.is in
    let asks : IsSourceReachable w r fs (field_view f) = subst (λ (g : Field). IsSourceReachable w r fs (field_view g)) is (c.requires.reachable k f c.loop-index-test.true) in
    let reachable : IsReachablePair w r c.from.result f.place = subst (λ (p : ℕ). IsReachablePair w r p f.place) (sym c.from.ensures) (asks c.in-Some.p outcome) in
    search rules

pub all_readable-returns-in_default : goal.all_readable-returns-in_default
all_readable-returns-in_default t c =
    let w = rows c.args.schemas.now in let r = columns c.args.schemas.now in let s = c.args.walk.now in let u = c.loop-index.walk in let v = c.check_pair.new.walk in
    let f = c.index-wanted-index.result in let fs = map field_view c.args.fields.now in
    let read = sym (read_at fs c.args.wanted.now c.args.sources.now c.loop-index.index f c.requires.sources c.loop-index-test.true c.index-wanted-index.is) ∙ c.in-Some.is in
    tells_no w r c.args.depth s u v _ _ ((v.assumed.items ≡ u.assumed.items) × IsTrue (member v.failed.items c.from.result f.place)) _ c.loop-index.invariant.grown
    (λ l. (c.loop-index.index, f, c.loop-index-test.true, sym c.index-wanted-index.is, (λ h. not_without v.failed.items c.from.result f.place l.1 ((readable_source (without v.failed.items) fs (field_view f) c.from.result (read ∙ ap Some (sym c.from.ensures))).0 h))))
    _ c.in_default.not-Yes c.in_ok-outcome-in-Some.ensures

pub all_readable-returns-then-is_none : goal.all_readable-returns-then-is_none
all_readable-returns-then-is_none t c =
    let u = c.loop-index.walk in let f = c.index-wanted-index.result in let fs = map field_view c.args.fields.now in
    let read = sym (read_at fs c.args.wanted.now c.args.sources.now c.loop-index.index f c.requires.sources c.loop-index-test.true c.index-wanted-index.is) ∙ c.in-None.is in (
      c.loop-index.invariant.ready,
      c.loop-index.invariant.grown,
      (
        c.loop-index.index,
        f,
        c.loop-index-test.true,
        sym c.index-wanted-index.is,
        (λ h. true≢false (sym (sym (some_mapped view f.value) ∙ (readable_default (without u.failed.items) fs (field_view f) read).0 h) ∙ c.is_none.ensures ∙ ap not c.if-is_none.true)),
      ),
    )

pub all_readable-loop-index-preserved : goal.all_readable-loop-index-preserved
all_readable-loop-index-preserved t c =
    let w' = nodes_view c.args.schemas.now.writer.schema.now in let r' = nodes_view c.args.schemas.now.reader.schema.now in let s = c.args.walk.now in let u = c.loop-index.walk in
    let fs = map field_view c.args.fields.now in let gs = c.args.wanted.now in let f = c.index-wanted-index.result in
    let read = sym (read_at fs gs c.args.sources.now c.loop-index.index f c.requires.sources c.loop-index-test.true c.index-wanted-index.is) in
    elim c.match-sources-index.branch [
      | all_readable-in-Some+in_ok-outcome-in-Some+in-Yes w ↦ (
          let outcome = rw w.in-Yes.is at w.in_ok-outcome-in-Some.ensures in
          let v = w.check_pair.new.walk in
          rw w.walk-is (record {
            ready = outcome.0;
            grown = grown2 w' r' s u v c.loop-index.invariant.grown outcome.1;
            held = held_more (member u.assumed.items) (member v.assumed.items) fs gs c.loop-index.index f c.loop-index-test.true c.index-wanted-index.is (within2 w' r' u v outcome.1) c.loop-index.invariant.held ((readable_source (member v.assumed.items) fs (field_view f) w.from.result (read ∙ w.in-Some.is ∙ ap Some (sym w.from.ensures))).1 outcome.2);
          }))
      | all_readable-in-None+else-is_none w ↦ (
          rw w.walk-is (record {
            ready = c.loop-index.invariant.ready;
            grown = c.loop-index.invariant.grown;
            held = held_more (member u.assumed.items) (member u.assumed.items) fs gs c.loop-index.index f c.loop-index-test.true c.index-wanted-index.is (λ i j h. h) c.loop-index.invariant.held ((readable_default (member u.assumed.items) fs (field_view f) (read ∙ w.in-None.is)).1 (some_mapped view f.value ∙ w.is_none.ensures ∙ ap not w.if-is_none.false));
          }))
    ]

pub all_readable-returns : goal.all_readable-returns
all_readable-returns t c =
    let l : length c.args.wanted.now ≤ c.loop-index.index = omega arith in
    (c.loop-index.invariant.ready, c.loop-index.invariant.grown, subst (λ (x : List Field). All (λ f. Readable (member c.loop-index.walk.assumed.items) (map field_view c.args.fields.now) (field_view f)) x) (take_all c.loop-index.index c.args.wanted.now l) c.loop-index.invariant.held)
