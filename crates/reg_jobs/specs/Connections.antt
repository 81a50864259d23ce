-- The connections of a server: what each has done since it was accepted, and all of them together.
use Rattle.std.specs.Prelude.{◌≡◌, ◌≢◌, ◌⊎◌, ℕ, ◌+◌, ◌≤◌, nat_eq, if◌then◌else◌, Bool, true, false, List, [], ◌∷◌, ◌++◌, length, map, slice_get, Option, Some, None}
use Rattle.std.specs.List.{All}
use Rattle.std.specs.Io.KnownBytes.{Appends, Consumes}
use Rattle.slab.specs.Slab.{Slab, get, slab_len}
use Rattle.reg_service.specs.Deliveries.{Exchange}
use Rattle.reg_http.specs.Conversations.{IsSoFar}
use Rattle.reg_jobs.specs.declared.errors.ErrorWriter.{ErrorWriter}
use Rattle.reg_jobs.specs.declared.listening.connection.Connection.{Connection}
use Rattle.reg_jobs.specs.declared.listening.table.Table.{Table}
use Rattle.reg_jobs.specs.Errors.{Puts}
use Rattle.reg_jobs.specs.Networks.{Adds}
use Rattle.reg_jobs.specs.Listening.{Numbered, of_number, IsVisit, IsEnd, AreDistinct, accept_failure_lines}

-- nothing was processed
abbrev pub IsNothing : List Exchange → Type 0
IsNothing xs = xs ≡ []

module _ {I O : Type 0} (remaining : I → Option (List ℕ)) (contents : O → Option (List ℕ)) where
  -- What the connection did since it was accepted as `was`: its conversation received `input` from it, processed messages with these exchanges, and
  -- sent `sent` to it. After the session, `dropped` was read and dropped.
  pub record IsUnderWay (xs : List Exchange) (was : I × O) (c : Connection I O) : Type 0 where
    pub input : List ℕ
    pub sent : List ℕ
    pub dropped : List ℕ
    pub so_far : IsSoFar xs input sent c.conversation
    pub reads : Consumes (remaining was.0) (remaining c.input) (input ++ dropped)
    pub writes : Appends (contents was.1) (contents c.output) sent
    pub talks : c.lingers ≡ false → dropped ≡ []

  -- it goes on with these exchanges
  abbrev pub Goes : List Exchange → Connection I O → Connection I O → Type 0
  Goes ys old new = (new.number ≡ old.number) × ((xs : List Exchange) (was : I × O) → IsUnderWay xs was old → IsUnderWay (xs ++ ys) was new)

  -- it goes on without an exchange
  abbrev pub Stays : Connection I O → Connection I O → Type 0
  Stays old new = (new.number ≡ old.number) × ((xs : List Exchange) (was : I × O) → IsUnderWay xs was old → IsUnderWay xs was new)

  -- it goes on with exchanges of which `AreServed` is true
  abbrev pub ConnectionGoes : (List Exchange → Type 0) → Connection I O → Connection I O → Type 0
  ConnectionGoes AreServed old new = (ys : List Exchange) × AreServed ys × Goes ys old new

  -- an open connection: it was accepted as the stream with its number, and is under way with the exchanges of its number
  abbrev pub IsOpen : List Numbered → List (I × O) → Connection I O → Type 0
  IsOpen all streams c = (was : I × O) × (slice_get streams c.number ≡ Some was) × IsUnderWay (of_number c.number all) was c

  -- no connection with this number was closed
  abbrev pub IsNotClosed : List (ℕ × (I × O)) → ℕ → Type 0
  IsNotClosed ends n = All (λ e. e.0 ≢ n) ends

  -- What the connections of a table have done. `all` are the exchanges with the numbers of their connections, `streams` the accepted connections, and
  -- `ends` the closed ones with their numbers. `out` connections were taken out of the table for the moment.
  pub record IsHistory (out : ℕ) (connections : Slab (Connection I O)) (accepted : ℕ) (all : List Numbered) (streams : List (I × O)) (ends : List (ℕ × (I × O))) : Type 0 where
    pub count : length streams ≡ accepted
    pub later : (n : ℕ) → accepted ≤ n → of_number n all ≡ []
    pub opens : (key : ℕ) (c : Connection I O) → get connections key ≡ Some c → IsOpen all streams c
    pub alone : (key other : ℕ) (c d : Connection I O) → get connections key ≡ Some c → get connections other ≡ Some d → c.number ≡ d.number → key ≡ other
    pub fresh : (key : ℕ) (c : Connection I O) → get connections key ≡ Some c → IsNotClosed ends c.number
    pub visits : All (IsEnd remaining contents all streams) ends
    pub once : AreDistinct ends
    pub total : length ends + slab_len connections + out ≡ accepted

  -- a connection that was accepted enters a table: it is open, or it was closed at once
  pub record Enters {N : Type 0} (accepted closed : N → Option (List (I × O))) (old : Table I O) (network : N) (was : I × O) (new : Table I O) (network' : N) : Type 0 where
    pub ends : List (ℕ × (I × O))
    pub accepts : Adds (accepted network) (accepted network') []
    pub closes : Adds (closed network) (closed network') (map (λ e. e.1) ends)
    pub goes : (all : List Numbered) (before : List (I × O)) (gone : List (ℕ × (I × O)))
        → IsHistory 0 old.connections old.accepted all before gone → IsHistory 0 new.connections new.accepted all (before ++ was ∷ []) (gone ++ ends)

  -- From one table and network to another: further exchanges, of which `AreServed` is true, further connections that were accepted, and further ones
  -- that were closed.
  pub record Advances {N : Type 0} (accepted closed : N → Option (List (I × O))) (AreServed : List Exchange → Type 0) (old : Table I O) (network : N) (new : Table I O) (network' : N) : Type 0 where
    pub more : List Numbered
    pub streams : List (I × O)
    pub ends : List (ℕ × (I × O))
    pub served : AreServed (map (λ x. x.1) more)
    pub accepts : Adds (accepted network) (accepted network') streams
    pub closes : Adds (closed network) (closed network') (map (λ e. e.1) ends)
    pub goes : (all : List Numbered) (before : List (I × O)) (gone : List (ℕ × (I × O)))
        → IsHistory 0 old.connections old.accepted all before gone → IsHistory 0 new.connections new.accepted (all ++ more) (before ++ streams) (gone ++ ends)

-- how many lines a table may still write before it accepts another connection
abbrev pub spare : {I O : Type 0} → Table I O → ℕ
spare table = if table.has_failed then 0 else 1

-- the lines that no connection can be accepted, as far as a table may write them: one, and one more after each connection that was accepted
pub record ReportsAccept {I O E : Type 0} (contents : E → Option (List ℕ)) (old new : Table I O) (errors errors' : ErrorWriter E) : Type 0 where
  pub times : ℕ
  pub within : times + spare new + old.accepted ≤ spare old + new.accepted
  pub puts : Puts contents errors errors' (accept_failure_lines times)
