-- Connections to a network, served at once.
use Rattle.std.specs.Prelude.{◌≡◌, ◌≢◌, ◌≤◌, nat_eq, if◌then◌else◌, ℕ, zero, suc, List, [], ◌∷◌, ◌++◌, length, map, slice_get, Option, Some}
use Rattle.std.specs.List.{All}
use Rattle.std.specs.Io.KnownBytes.{Consumes}
use Rattle.sqlite_trees.specs.declared.store.Store.{Ghosts}
use Rattle.reg_service.specs.declared.service.Service.{Service}
use Rattle.reg_service.specs.Deliveries.{Exchange}
use Rattle.reg_service.specs.Processing.{ServesEach}
use Rattle.reg_http.specs.declared.serving.Ended.TheVariants.{Memory}
use Rattle.reg_http.specs.Sessions.{Session}
use Rattle.reg_jobs.specs.declared.errors.ErrorWriter.{ErrorWriter}
use Rattle.reg_jobs.specs.declared.outcome.Fault.TheVariants.{CannotAccept}
use Rattle.reg_jobs.specs.Errors.{Puts}
use Rattle.reg_jobs.specs.Networks.{Adds}
use Rattle.reg_jobs.specs.Outcomes.{line_of}

-- an exchange, with the number of its connection
abbrev pub Numbered : Type 0
Numbered = ℕ × Exchange

-- the exchanges of the connection with this number, in order
abbrev pub of_number : ℕ → List Numbered → List Exchange
of_number n [] = []
of_number n (x ∷ xs) = if nat_eq x.0 n then x.1 ∷ of_number n xs else of_number n xs

-- A connection from its acceptance, as `was`, to its close, as `now`: a session with these exchanges over its bytes. What the client sent after the
-- session was dropped. `Memory` is the weakest end: each message that was processed got its response, or the last response is cut short.
pub record IsVisit {I O : Type 0} (remaining : I → Option (List ℕ)) (contents : O → Option (List ℕ)) (xs : List Exchange) (was now : I × O) : Type 0 where
  pub left : Option (List ℕ)
  pub session : Session (λ ys. ys ≡ xs) (remaining was.0) left (contents was.1) (contents now.1) Memory
  pub dropped : List ℕ
  pub drops : Consumes left (remaining now.0) dropped

-- a closed connection, with its number: it was accepted as the stream with that number, and its session had the exchanges of that number
abbrev pub IsEnd : {I O : Type 0} → (I → Option (List ℕ)) → (O → Option (List ℕ)) → List Numbered → List (I × O) → ℕ × (I × O) → Type 0
IsEnd {I} {O} remaining contents all streams e = (was : I × O) × (slice_get streams e.0 ≡ Some was) × IsVisit remaining contents (of_number e.0 all) was e.1

-- no two have one number
abbrev pub AreDistinct : {T : Type 0} → List (ℕ × T) → Type 0
AreDistinct [] = Unit {0}
AreDistinct (e ∷ es) = All (λ d. d.0 ≢ e.0) es × AreDistinct es

-- The connections that a network accepted and closed, and one list of the exchanges that a service processed for them. At most `most` connections were
-- accepted. Each of them was closed once, and its bytes are those of a session with its exchanges, in their order in the list.
pub record ServesConnections {I O : Type 0} (remaining : I → Option (List ℕ)) (contents : O → Option (List ℕ)) (most : ℕ) (accepted accepted' closed closed' : Option (List (I × O)))
    {S : Type 0} {g : Ghosts S} (old new : Service S g) : Type 0 where
  -- the exchanges of all connections
  pub all : List Numbered
  pub serves : ServesEach old new (map (λ x. x.1) all)
  -- the connections that were accepted, in order, as they were then; the number of one is its position
  pub streams : List (I × O)
  pub accepts : Adds accepted accepted' streams
  pub within : length streams ≤ most
  -- no exchange has another number
  pub others : (n : ℕ) → length streams ≤ n → of_number n all ≡ []
  -- the connections that were closed, in order, as they were then, with their numbers
  pub ends : List (ℕ × (I × O))
  pub closes : Adds closed closed' (map (λ e. e.1) ends)
  pub whole : length ends ≡ length streams
  pub once : AreDistinct ends
  pub visits : All (IsEnd remaining contents all streams) ends

-- the line that no connection can be accepted, this number of times
abbrev pub accept_failure_lines : ℕ → List ℕ
accept_failure_lines zero = []
accept_failure_lines (suc count) = accept_failure_lines count ++ line_of CannotAccept []

-- The line that no connection can be accepted was written at most `most` times, and nothing else. If a write fails, or failed before, the rest is
-- lost.
pub record ReportsAcceptFailures {E : Type 0} (contents : E → Option (List ℕ)) (most : ℕ) (old new : ErrorWriter E) : Type 0 where
  pub times : ℕ
  pub within : times ≤ most
  pub puts : Puts contents old new (accept_failure_lines times)
