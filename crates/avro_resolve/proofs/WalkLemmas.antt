-- Steps of the recursion, over its state.
use Rattle.std.proofs.Common.{◌≡◌, ℕ, ◌+◌, ◌<◌, ◌≤◌, List, [], ◌∷◌, ◌++◌, Option, Some, None, Result, Ok, Err, map, Bool, true, false, not, length, get_or, take, take-take, take_at, refl, sym, ap, subst, ◌∙◌, true≢false, arith}
use Rattle.std.specs.Prelude.{IsTrue, IfOk, is_some, ◌↔◌, All, Any, IsSome, MatchOption, option_map, slice_get}
use Rattle.std.proofs.lemmas.List.{length_push, get_or_default}
use Rattle.std.proofs.lemmas.List.Elements.{All-more, All-weaker}
use Rattle.avro_nodes.specs.declared.node.Field.{Field}
use Rattle.avro_nodes.specs.Nodes.{FieldView, NodeView, field_view}
use Rattle.avro_resolve.specs.declared.recursion.Walk.{Walk}
use Rattle.avro_resolve.specs.declared.recursion.Answer.{Answer}
use Rattle.avro_resolve.specs.declared.recursion.Answer.TheVariants.{Yes, No, Unfinished}
use Rattle.avro_resolve.specs.Resolution.{Pairs, Supports, Readable, source}
use Rattle.avro_resolve.specs.Witnesses.{Pair, member, without}
use Rattle.avro_resolve.specs.Asking.{source_place, Asks, AsksFor}
use Rattle.avro_resolve.specs.Inside.Reachable.{IsReachable, AreReachable, IsReachablePair, IsSourceReachable}
use Rattle.avro_resolve.specs.Inside.Places.{IsSelfContained}
use Rattle.avro_resolve.specs.Inside.Walking.{Represents, WalkInvariant, Extends, ExtendsWalk, IsReady, AnswerHolds}
use Rattle.avro_resolve.proofs.Monotone.{Within}
use Rattle.avro_resolve.proofs.Reaching.{reachable_within}
use Rattle.avro_resolve.proofs.ViewLemmas.{all_of}
use Rattle.avro_resolve.proofs.WalkSteps.{grown_same, grown_then, more, opened_yes, opened_no, grown_no}
use Rattle.avro_resolve.proofs.PairLists.{member_last}

asks_at : (w r : List NodeView) (i j p q : ℕ) (a b : NodeView) → slice_get w i ≡ Some a → slice_get r j ≡ Some b → AsksFor i j a b p q → Asks w r i j p q
unfolding Asks
asks_at w r i j p q a b e f h = rw (e, f) h

reached_on : (w r : List NodeView) (i j p q : ℕ) → IsReachable w r i j → Asks w r i j p q → IsReachable w r p q
unfolding IsReachable
reached_on w r i j p q reachable h ps holds = holds.on i j p q (reachable ps holds) h

pub reachable_from : (w r : List NodeView) (i j : ℕ) (a b : NodeView) → IsSelfContained w → IsSelfContained r → slice_get w i ≡ Some a → slice_get r j ≡ Some b → IsReachable w r i j → AreReachable w r i j a b
reachable_from w r i j a b ww wr e f reachable p q h =
    let asks = asks_at w r i j p q a b e f h in let within = reachable_within w r i j p q ww wr asks in
    record { row = within.0; column = within.1; reached = reached_on w r i j p q reachable asks }

pub roots_reachable : (w r : List NodeView) → IsReachable w r 0 0
unfolding IsReachable
roots_reachable w r ps holds = holds.roots

pub grown2 : (w r : List NodeView) (s t u : Walk) → ExtendsWalk w r s t → ExtendsWalk w r t u → ExtendsWalk w r s u
grown2 w r s t u g h = grown_then w r s.assumed.items s.failed.items t.assumed.items t.failed.items u.assumed.items u.failed.items g h

pub grown0 : (w r : List NodeView) (s : Walk) → ExtendsWalk w r s s
grown0 w r s = grown_same w r s.assumed.items s.failed.items

pub within2 : (w r : List NodeView) (s t : Walk) → ExtendsWalk w r s t → Within (member s.assumed.items) (member t.assumed.items)
within2 w r s t g = more w r s.assumed.items s.failed.items t.assumed.items t.failed.items g

source_step : (R : Pairs) (X : Type 0) (q p : ℕ) (o : Option FieldView) → option_map (λ g. g.place) o ≡ Some p → MatchOption o X (λ g. IsTrue (R g.place q)) ↔ IsTrue (R p q)
source_step R X q p None e = absurd cc
source_step R X q p (Some g) e = let same : g.place ≡ p = cc in ((λ h. subst (λ (x : ℕ). IsTrue (R x q)) same h), (λ h. subst (λ (x : ℕ). IsTrue (R x q)) (sym same) h))

pub readable_source : (R : Pairs) (fs : List FieldView) (f : FieldView) (p : ℕ) → source_place fs f ≡ Some p → Readable R fs f ↔ IsTrue (R p f.place)
readable_source R fs f p e = source_step R (IsSome f.value) f.place p (source fs f) e

default_step : (R : Pairs) (X : Type 0) (q : ℕ) (o : Option FieldView) → option_map (λ g. g.place) o ≡ None → MatchOption o X (λ g. IsTrue (R g.place q)) ↔ X
default_step R X q None e = ((λ h. h), (λ h. h))
default_step R X q (Some g) e = absurd cc

pub readable_default : (R : Pairs) (fs : List FieldView) (f : FieldView) → source_place fs f ≡ None → Readable R fs f ↔ IsSome f.value
readable_default R fs f e = default_step R (IsSome f.value) f.place (source fs f) e

pub not_without : (ps : List Pair) (i j : ℕ) → member ps i j ≡ true → without ps i j ≡ true → ⊥
not_without ps i j m h = clash (member ps i j) m h
  where
    clash : (b : Bool) → b ≡ true → not b ≡ true → ⊥
    clash true e h = true≢false (sym h)
    clash false e h = true≢false (sym e)

read_step : (R S : Pairs) → Within R S → (X : Type 0) (q : ℕ) (o : Option FieldView) → MatchOption o X (λ g. IsTrue (R g.place q)) → MatchOption o X (λ g. IsTrue (S g.place q))
read_step R S within X q None h = h
read_step R S within X q (Some g) h = within g.place q h

pub readable_more : (R S : Pairs) → Within R S → (fs : List FieldView) (f : FieldView) → Readable R fs f → Readable S fs f
readable_more R S within fs f h = read_step R S within (IsSome f.value) f.place (source fs f) h

front_of : (a b : List Pair) (i j : ℕ) → length (a ++ (i, j) ∷ []) ≤ length b → take (length (a ++ (i, j) ∷ [])) b ≡ a ++ (i, j) ∷ [] → take (length a) b ≡ a
front_of a b i j l e =
    let k = length_push a (i, j) in
    let le : length a ≤ length (a ++ (i, j) ∷ []) = omega arith in
    sym (take-take (length a) (length (a ++ (i, j) ∷ [])) b le) ∙ ap (λ (x : List Pair). take (length a) x) e ∙ take_at a ((i, j) ∷ []) (length a) refl

from_opened : (w r : List NodeView) (s u v : Walk) (i j : ℕ) → u.assumed.items ≡ s.assumed.items ++ (i, j) ∷ [] → u.failed.items ≡ s.failed.items → ExtendsWalk w r u v → Extends w r (s.assumed.items ++ (i, j) ∷ []) s.failed.items v.assumed.items v.failed.items
from_opened w r s u v i j e f g = subst (λ (x : List Pair). Extends w r x s.failed.items v.assumed.items v.failed.items) e (subst (λ (y : List Pair). Extends w r u.assumed.items y v.assumed.items v.failed.items) f g)

-- a supported pair stays assumed
ask_yes : (w r : List NodeView) (d : ℕ) (s u v : Walk) (i j : ℕ) → IsReady w r d s → u.assumed.items ≡ s.assumed.items ++ (i, j) ∷ [] → u.failed.items ≡ s.failed.items → IsReady w r (d + 1) v → ExtendsWalk w r u v → Supports w r (member v.assumed.items) i j
    → IsReady w r d v × ExtendsWalk w r s v × IsTrue (member v.assumed.items i j)
ask_yes w r d s u v i j ready e f after g h =
    let grown = from_opened w r s u v i j e f g in (
      record { writer = ready.writer; reader = ready.reader; small = ready.small; low = ready.low; opened = (let o = after.opened in omega (arith, o)); good = after.good; assumed = after.assumed; failed = after.failed },
      opened_yes w r s.assumed.items s.failed.items v.assumed.items v.failed.items i j grown h,
      more w r (s.assumed.items ++ (i, j) ∷ []) s.failed.items v.assumed.items v.failed.items grown i j (member_last s.assumed.items i j),
    )

-- an answer other than no is the answer for the opened pair
pub ask_told : (w r : List NodeView) (d : ℕ) (s u v : Walk) (i j : ℕ) (L L2 : Type 0) → IsReady w r d s → u.assumed.items ≡ s.assumed.items ++ (i, j) ∷ [] → u.failed.items ≡ s.failed.items → (answer : Answer) → (answer ≡ No → ⊥)
    → AnswerHolds w r (d + 1) u.assumed.items u.failed.items v (Supports w r (member v.assumed.items) i j) L answer → AnswerHolds w r d s.assumed.items s.failed.items v (IsTrue (member v.assumed.items i j)) L2 answer
ask_told w r d s u v i j L L2 ready e f Yes never h = ask_yes w r d s u v i j ready e f h.0 h.1 h.2
ask_told w r d s u v i j L L2 ready e f No never h = absurd (never refl)
ask_told w r d s u v i j L L2 ready e f Unfinished never h = h

-- an unsupported pair fails, and all pairs that were assumed since are withdrawn
pub ask_no : (w r : List NodeView) (d : ℕ) (s u v x : Walk) (i j : ℕ) → IsReady w r d s → IsReachable w r i j → member s.assumed.items i j ≡ false → u.assumed.items ≡ s.assumed.items ++ (i, j) ∷ [] → u.failed.items ≡ s.failed.items → IsReady w r (d + 1) v → ExtendsWalk w r u v → (Supports w r (without v.failed.items) i j → ⊥)
    → x.assumed.items ≡ take (length s.assumed.items) v.assumed.items → x.failed.items ≡ v.failed.items ++ (i, j) ∷ [] → x.visits ≡ v.visits
    → Represents (length r) x.assumed_set x.assumed.items → Represents (length r) x.failed_set x.failed.items
    → IsReady w r d x × ExtendsWalk w r s x × ((x.assumed.items ≡ s.assumed.items) × IsTrue (member x.failed.items i j))
ask_no w r d s u v x i j ready reachable out e f after g never back fails visits marks marks2 =
    let grown = from_opened w r s u v i j e f g in
    let same : x.assumed.items ≡ s.assumed.items = back ∙ front_of s.assumed.items v.assumed.items i j grown.longer grown.front in
    let good = opened_no w r s.assumed.items s.failed.items v.assumed.items v.failed.items s.visits v.visits i j ready.good after.good grown reachable out never in
    let next = grown_no w r s.assumed.items s.failed.items v.assumed.items v.failed.items i j grown in (
      record {
        writer = ready.writer;
        reader = ready.reader;
        small = ready.small;
        low = ready.low;
        opened = subst (λ (y : List Pair). d ≤ length y) (sym same) ready.opened;
        good = subst (λ (y : List Pair). WalkInvariant w r y x.failed.items x.visits) (sym same) (subst (λ (y : List Pair). WalkInvariant w r s.assumed.items y x.visits) (sym fails) (subst (λ (n : ℕ). WalkInvariant w r s.assumed.items (v.failed.items ++ (i, j) ∷ []) n) (sym visits) good));
        assumed = marks;
        failed = marks2;
      },
      subst (λ (y : List Pair). Extends w r s.assumed.items s.failed.items y x.failed.items) (sym same) (subst (λ (y : List Pair). Extends w r s.assumed.items s.failed.items s.assumed.items y) (sym fails) next),
      (same, subst (λ (y : List Pair). member y i j ≡ true) (sym fails) (member_last v.failed.items i j)),
    )

-- one more field of the reader is readable
pub held_more : (R S : Pairs) (fs : List FieldView) (gs : List Field) (k : ℕ) (f : Field) → k < length gs → f ≡ get_or gs k f → Within R S → All (λ g. Readable R fs (field_view g)) (take k gs) → Readable S fs (field_view f) → All (λ g. Readable S fs (field_view g)) (take (k + 1) gs)
held_more R S fs gs k f l is within h here =
    All-more (λ g. Readable S fs (field_view g)) gs k f l (All-weaker (λ g. Readable R fs (field_view g)) (λ g. Readable S fs (field_view g)) (λ g. readable_more R S within fs (field_view g)) (take k gs) h) (subst (λ (g : Field). Readable S fs (field_view g)) is here)

-- the pair of each reader's field and its source is reachable
pub fields_reachable : (w r : List NodeView) (fs : List FieldView) (gs : List Field) → ((p q : ℕ) → Any (λ f. (source_place fs f ≡ Some p) × (f.place ≡ q)) (map field_view gs) → IsReachablePair w r p q) → All (λ f. IsSourceReachable w r fs (field_view f)) gs
fields_reachable w r fs gs h = all_of (IsSourceReachable w r fs) field_view gs (λ k d l p e.
    h p (get_or (map field_view gs) k d).place (k, get_or (map field_view gs) k d, l, get_or_default (map field_view gs) k (get_or (map field_view gs) k d) d l, (e, refl)))

pub tells_on : (w r : List NodeView) (d : ℕ) (ps qs : List Pair) (t : Walk) (H L H2 L2 : Type 0) → (H → H2) → (L → L2) → (answer : Answer) → AnswerHolds w r d ps qs t H L answer → AnswerHolds w r d ps qs t H2 L2 answer
tells_on w r d ps qs t H L H2 L2 f g Yes h = (h.0, h.1, f h.2)
tells_on w r d ps qs t H L H2 L2 f g No h = (h.0, h.1, g h.2)
tells_on w r d ps qs t H L H2 L2 f g Unfinished h = h

-- an answer other than yes, seen from an earlier state
pub tells_no : (w r : List NodeView) (d : ℕ) (s u v : Walk) (H H2 L L2 : Type 0) → ExtendsWalk w r s u → (L → L2) → (answer : Answer) → (answer ≡ Yes → ⊥) → AnswerHolds w r d u.assumed.items u.failed.items v H L answer → AnswerHolds w r d s.assumed.items s.failed.items v H2 L2 answer
tells_no w r d s u v H H2 L L2 g f Yes never h = absurd (never refl)
tells_no w r d s u v H H2 L L2 g f No never h = (h.0, grown2 w r s u v g h.1, f h.2)
tells_no w r d s u v H H2 L L2 g f Unfinished never h = h

-- an answer other than no, seen from an earlier state
pub tells_yes : (w r : List NodeView) (d : ℕ) (s u v : Walk) (H H2 L L2 : Type 0) → ExtendsWalk w r s u → (H → H2) → (answer : Answer) → (answer ≡ No → ⊥) → AnswerHolds w r d u.assumed.items u.failed.items v H L answer → AnswerHolds w r d s.assumed.items s.failed.items v H2 L2 answer
tells_yes w r d s u v H H2 L L2 g f Yes never h = (h.0, grown2 w r s u v g h.1, f h.2)
tells_yes w r d s u v H H2 L L2 g f No never h = absurd (never refl)
tells_yes w r d s u v H H2 L L2 g f Unfinished never h = h

pub told_ok : {E : Type 0} (x : Result Answer E) (P Q : Answer → Type 0) → ((answer : Answer) → P answer → Q answer) → IfOk x P → IfOk x Q
told_ok (Ok answer) P Q f h = f answer h
told_ok (Err e) P Q f h = h

pub any_never : (P : FieldView → Type 0) (gs : List Field) → Any (λ f. P (field_view f) → ⊥) gs → All P (map field_view gs) → ⊥
any_never P gs (k, x, l, e, never) h = never (subst (λ (g : Field). P (field_view g)) e (all_of P field_view gs h k x l))

pub some_mapped : {X Y : Type 0} (f : X → Y) (o : Option X) → is_some (option_map f o) ≡ is_some o
some_mapped f None = refl
some_mapped f (Some x) = refl
