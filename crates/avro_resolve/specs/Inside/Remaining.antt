-- The pairs that remain in a table, and the invariant of elimination.
use Rattle.std.specs.Prelude.{◌≡◌, ◌⊎◌, ℕ, ◌+◌, ◌*◌, List, [], ◌++◌, Bool, true, false, All, ◌&&◌, ◌||◌, length, ◌<◌, nat_lt, slice_get, slice_index_or, sum_by, IsTrue, MatchOption}
use Rattle.avro_nodes.specs.Nodes.{NodeView}
use Rattle.avro_resolve.specs.declared.rows.Progress.{Progress}
use Rattle.avro_resolve.specs.declared.schemas.SchemaPair.{SchemaPair}
use Rattle.avro_resolve.specs.declared.table.Table.{Table}
use Rattle.avro_resolve.specs.Resolution.{Pairs, Supports}
use Rattle.avro_resolve.specs.Inside.Agreeing.{Agree}
use Rattle.avro_resolve.specs.Inside.Schemas.{columns, rows, IsValidSchemaPair}
use Rattle.avro_resolve.specs.Witnesses.{Pair, member, without, RefutesAfter, AreDistinct}

-- the flag of the pair (i, j), in a list with `readers` flags for each row; false past the last row or column
unfoldable pub flag : List Bool → ℕ → ℕ → ℕ → Bool
flag flags readers i j = nat_lt j readers && slice_index_or flags (i * readers + j) false

abbrev pub remains : Table → ℕ → ℕ → Bool
remains t i j = flag t.flags.items t.readers i j

abbrev pub one_if : Bool → ℕ
one_if true = 1
one_if false = 0

abbrev pub count_flags : List Bool → ℕ
count_flags flags = sum_by one_if flags

abbrev pub count_remaining : Table → ℕ
count_remaining t = count_flags t.flags.items

-- the two tables have the same numbers of the writer's and of the reader's places
pub record SameShape (old new : Table) : Type 0 where
  pub writers : new.writers ≡ old.writers
  pub readers : new.readers ≡ old.readers

-- The table has all pairs of the two schemas' places except those of a refuting list: the distinct eliminated pairs, in the order of elimination.
pub record IsRemainder (w r : List NodeView) (t : Table) : Type 0 where
  pub writers : t.writers ≡ length w
  pub readers : t.readers ≡ length r
  pub eliminated : List Pair
  pub refutes : RefutesAfter w r [] eliminated
  pub distinct : AreDistinct eliminated
  pub exact : (i j : ℕ) → i < length w → j < length r → remains t i j ≡ without eliminated i j
  pub count : length eliminated + count_remaining t ≡ length w * length r

-- the nodes at the two places agree
abbrev pub Agreed : List NodeView → List NodeView → ℕ → ℕ → Type 0
Agreed w r i j = MatchOption (slice_get w i) ⊥ (λ a. MatchOption (slice_get r j) ⊥ (λ b. Agree a b))

-- the pairs that remain after at least those whose nodes disagree were eliminated
pub record IsAgreedRemainder (w r : List NodeView) (t : Table) : Type 0 where
  pub rest : IsRemainder w r t
  pub agreed : (i j : ℕ) → i < length w → j < length r → IsTrue (remains t i j) → Agreed w r i j

-- the pairs that remain, and the queued ones: eliminated, but not yet propagated to their dependents
abbrev pub remains_or_queued : Table → List Pair → Pairs
remains_or_queued t ps i j = remains t i j || member ps i j

-- if the pair remains, the remaining and queued pairs support it
abbrev pub StillSupported : List NodeView → List NodeView → Table → List Pair → ℕ → ℕ → Type 0
StillSupported w r t ps i j = IsTrue (remains t i j) → Supports w r (remains_or_queued t ps) i j

abbrev pub AllStillSupported : List NodeView → List NodeView → Table → List Pair → Type 0
AllStillSupported w r t ps = (i j : ℕ) → i < length w → j < length r → StillSupported w r t ps i j

-- the pair of i and j remains only if the pair of the branch and j remains or is queued
abbrev pub NeedsBranch : Table → List Pair → ℕ → ℕ → ℕ → Type 0
NeedsBranch t ps i branch j = IsTrue (remains t i j) → IsTrue (remains_or_queued t ps branch j)

-- no queued pair remains
abbrev pub AreEliminated : Table → List Pair → Type 0
AreEliminated t ps = All (λ (p : Pair). remains t p.0 p.1 ≡ false) ps

-- some pairs, or none, were eliminated, and each was queued
pub record QueuesEliminated (old : Table) (before : List Pair) (new : Table) (after : List Pair) : Type 0 where
  pub fewer : (i j : ℕ) → IsTrue (remains new i j) → IsTrue (remains old i j)
  pub remains_or_queued : (i j : ℕ) → IsTrue (remains_or_queued old before i j) → IsTrue (remains_or_queued new after i j)
  pub count : count_remaining new + length after ≡ count_remaining old + length before
  pub out : AreEliminated old before → AreEliminated new after

-- the first set is a subset of the second, except for this pair
abbrev pub WithinBut : ℕ → ℕ → Pairs → Pairs → Type 0
WithinBut p q R S = (a b : ℕ) → IsTrue (R a b) → IsTrue (S a b) ⊎ ((a ≡ p) × (b ≡ q))

-- each set that supports the pair (i, j) does so without the pair (p, q)
abbrev pub Ignores : List NodeView → List NodeView → ℕ → ℕ → ℕ → ℕ → Type 0
Ignores w r i j p q = (R S : Pairs) → WithinBut p q R S → Supports w r R i j → Supports w r S i j

-- no set without the pair (p, q) supports the pair (i, j)
abbrev pub DependsOn : List NodeView → List NodeView → ℕ → ℕ → ℕ → ℕ → Type 0
DependsOn w r i j p q = (R : Pairs) → R p q ≡ false → Supports w r R i j → ⊥

-- ---- the same for the state of an elimination, with the two schemas

-- the two schemas are valid, and the nodes of each remaining pair agree
abbrev pub HasAgreedRemainder : SchemaPair → Progress → Type 0
HasAgreedRemainder schemas p = IsValidSchemaPair schemas × IsAgreedRemainder (rows schemas) (columns schemas) p.table

-- the same, and the popped pair is eliminated
abbrev pub IsPopped : SchemaPair → Progress → Pair → Type 0
IsPopped schemas p popped = HasAgreedRemainder schemas p × (remains p.table popped.0 popped.1 ≡ false)

-- some unsupported pairs, or none, were eliminated, and each was queued
abbrev pub Eliminates : SchemaPair → Progress → Progress → Type 0
Eliminates schemas p q = IsAgreedRemainder (rows schemas) (columns schemas) q.table × QueuesEliminated p.table p.eliminated.items q.table q.eliminated.items

-- the pair is still supported
abbrev pub IsStillSupported : SchemaPair → Progress → ℕ → ℕ → Type 0
IsStillSupported schemas p i j = StillSupported (rows schemas) (columns schemas) p.table p.eliminated.items i j

-- each pair of a writer's place is still supported
abbrev pub IsRowStillSupported : SchemaPair → Progress → ℕ → Type 0
IsRowStillSupported schemas p i = (j : ℕ) → j < length schemas.reader.schema.now → IsStillSupported schemas p i j

-- each pair is still supported
abbrev pub AreStillSupported : SchemaPair → Progress → Type 0
AreStillSupported schemas p = AllStillSupported (rows schemas) (columns schemas) p.table p.eliminated.items

-- each pair is still supported, if the pairs of a run count as queued
abbrev pub AreStillSupportedBut : SchemaPair → Progress → List Pair → Type 0
AreStillSupportedBut schemas p run = AllStillSupported (rows schemas) (columns schemas) p.table (p.eliminated.items ++ run)

-- the pairs are of one of the writer's places, and none of them remains
abbrev pub AreRun : Table → ℕ → List Pair → Type 0
AreRun t row run = All (λ (p : Pair). (p.0 ≡ row) × (remains t p.0 p.1 ≡ false)) run
