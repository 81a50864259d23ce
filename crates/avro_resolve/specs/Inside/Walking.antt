-- The recursion's invariant, and the meaning of its answers. Its state is the assumed pairs, the failed pairs in order, and the number of visits.
use Rattle.std.specs.Prelude.{◌≡◌, ℕ, ◌+◌, ◌*◌, ◌<◌, ◌≤◌, ◌⊎◌, [], List, take, length, IsTrue}
use Rattle.avro_nodes.specs.Nodes.{NodeView}
use Rattle.avro_resolve.specs.declared.pair_set.PairSet.{PairSet}
use Rattle.avro_resolve.specs.declared.schemas.SchemaPair.{SchemaPair}
use Rattle.avro_resolve.specs.declared.recursion.Walk.{Walk}
use Rattle.avro_resolve.specs.declared.recursion.Answer.{Answer}
use Rattle.avro_resolve.specs.declared.recursion.Answer.TheVariants.{Yes, No, Unfinished}
use Rattle.avro_resolve.specs.Resolution.{Supports, Resolves}
use Rattle.avro_resolve.specs.Inside.Places.{IsSelfContained}
use Rattle.avro_resolve.specs.Inside.Schemas.{columns, rows, IsValidSchemaPair}
use Rattle.avro_resolve.specs.Witnesses.{Pair, member, RefutesAfter, AreDistinct, HasClosedSet, HasRefutation}
use Rattle.avro_resolve.specs.Inside.PairSets.{has}
use Rattle.avro_resolve.specs.Asking.{ContainsAsked}
use Rattle.avro_resolve.specs.Inside.Reachable.{IsReachable, IsSmall}

-- the bit set, of a reader with m places, has exactly the pairs of the list
pub record Represents (m : ℕ) (s : PairSet) (ps : List Pair) : Type 0 where
  pub readers : s.readers ≡ m
  pub within : (i j : ℕ) → IsTrue (member ps i j) → j < m
  pub exact : (i j : ℕ) → j < m → has s i j ≡ member ps i j

-- The invariant of the recursion, over its assumed pairs, its failed pairs in the order in which they failed, and its number of visits. All these pairs
-- are reachable. Each occurs once, and none is both assumed and failed. Each failed pair lacks support even from the set of all pairs but the ones
-- that failed before it. There are at least as many visits as assumed and failed pairs together. Let a list contain the pair of the roots, and all
-- that its pairs ask for (`ContainsAsked`). Then there are at most as many visits as its length times the number of failed pairs, plus the number of
-- assumed pairs.
pub record WalkInvariant (w r : List NodeView) (assumed failed : List Pair) (visits : ℕ) : Type 0 where
  pub assumed_reachable : (i j : ℕ) → IsTrue (member assumed i j) → IsReachable w r i j
  pub failed_reachable : (i j : ℕ) → IsTrue (member failed i j) → IsReachable w r i j
  pub assumed_distinct : AreDistinct assumed
  pub failed_distinct : AreDistinct failed
  pub disjoint : (i j : ℕ) → IsTrue (member assumed i j) → IsTrue (member failed i j) → ⊥
  pub refutes : RefutesAfter w r [] failed
  pub at_least : length assumed + length failed ≤ visits
  pub at_most : (ps : List Pair) → ContainsAsked w r ps → visits ≤ length ps * length failed + length assumed

-- a later state extends an earlier one: no assumption was withdrawn, new assumed pairs are supported, and failed pairs stay failed
pub record Extends (w r : List NodeView) (assumed failed assumed2 failed2 : List Pair) : Type 0 where
  pub longer : length assumed ≤ length assumed2
  pub front : take (length assumed) assumed2 ≡ assumed
  pub supported : (i j : ℕ) → IsTrue (member assumed2 i j) → IsTrue (member assumed i j) ⊎ Supports w r (member assumed2) i j
  pub failed_kept : (i j : ℕ) → IsTrue (member failed i j) → IsTrue (member failed2 i j)

abbrev pub HasWalkInvariant : List NodeView → List NodeView → Walk → Type 0
HasWalkInvariant w r s = WalkInvariant w r s.assumed.items s.failed.items s.visits

abbrev pub ExtendsWalk : List NodeView → List NodeView → Walk → Walk → Type 0
ExtendsWalk w r s t = Extends w r s.assumed.items s.failed.items t.assumed.items t.failed.items

-- The recursion may continue over these nodes, at this depth (at most 1,000 and the number of assumed pairs). Its state is given in parts: the
-- assumed and failed pairs, their bit sets, and the number of visits.
pub record CanContinue (w r : List NodeView) (depth : ℕ) (ps qs : List Pair) (s t : PairSet) (visits : ℕ) : Type 0 where
  pub writer : IsSelfContained w
  pub reader : IsSelfContained r
  pub small : IsSmall w r
  pub low : depth ≤ 1000
  pub opened : depth ≤ length ps
  pub good : WalkInvariant w r ps qs visits
  pub assumed : Represents (length r) s ps
  pub failed : Represents (length r) t qs

-- `CanContinue`, with the parts of this state
abbrev pub IsReady : List NodeView → List NodeView → ℕ → Walk → Type 0
IsReady w r depth s = CanContinue w r depth s.assumed.items s.failed.items s.assumed_set s.failed_set s.visits

-- both schemas are valid, their name ranks are mapped (IsValidSchemaPair), and the recursion may continue over their nodes (IsReady)
abbrev pub IsReadyForSchemas : SchemaPair → ℕ → Walk → Type 0
IsReadyForSchemas schemas depth s = IsValidSchemaPair schemas × IsReady (rows schemas) (columns schemas) depth s

-- What the answer means, from a state with these assumed and failed pairs to the state t. Yes proves the first property, No the second; either way,
-- t extends the earlier state and is ready (IsReady). After Unfinished, t has only the invariant, and at least a thousand visits.
abbrev pub AnswerHolds : List NodeView → List NodeView → ℕ → List Pair → List Pair → Walk → Type 0 → Type 0 → Answer → Type 0
AnswerHolds w r depth ps qs t held lost Yes = IsReady w r depth t × Extends w r ps qs t.assumed.items t.failed.items × held
AnswerHolds w r depth ps qs t held lost No = IsReady w r depth t × Extends w r ps qs t.assumed.items t.failed.items × lost
AnswerHolds w r depth ps qs t held lost Unfinished = HasWalkInvariant w r t × (1000 ≤ t.visits)

abbrev pub WalkAnswerHolds : SchemaPair → ℕ → Walk → Walk → Type 0 → Type 0 → Answer → Type 0
WalkAnswerHolds schemas depth s t held lost answer = AnswerHolds (rows schemas) (columns schemas) depth s.assumed.items s.failed.items t held lost answer

-- What the recursion's answer for the pair of the roots proves after this many visits. A yes and a no have a witness of at most this number of pairs.
-- Unfinished proves only that there were at least a thousand visits.
abbrev pub RootAnswerProves : List NodeView → List NodeView → ℕ → Answer → Type 0
RootAnswerProves w r visits Yes = Resolves w r × HasClosedSet w r visits
RootAnswerProves w r visits No = (Resolves w r → ⊥) × HasRefutation w r visits
RootAnswerProves w r visits Unfinished = 1000 ≤ visits
