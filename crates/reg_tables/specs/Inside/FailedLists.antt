-- Why reading the rows of a query fails.
use Rattle.std.specs.Prelude.{◌≡◌, ◌⊎◌, ◌≤◌, ℕ, List, All}
use Rattle.sqlite.specs.declared.error.ErrorCode.TheVariants as code
use Rattle.sqlite.specs.declared.error.Error.{Error}
use Rattle.sqlite.specs.declared.error.Error.TheVariants.{SqliteFailure}
use Rattle.sqlite.specs.Order.{Row}
use Rattle.sqlite.specs.State.{State, Shown, FailsToQuery, IsTooLate}
use Rattle.reg_tables.specs.FailedCalls.{IsUnreadable}

-- allocation failed, or a column can't be read
abbrev pub IsReadingError : Error → Type 0
IsReadingError e = (e ≡ SqliteFailure code.OutOfMemory) ⊎ IsUnreadable e

-- the query fails, or a returned row can't be read: allocation failed, or the row isn't readable
abbrev pub FailsToList : (Row → Type 0) → List ℕ → Row → State → State → State → Error → Type 0
FailsToList is_readable sql params old new end e =
    ((new.faults ≤ end.faults) × (FailsToQuery sql params old new e ⊎ IsTooLate sql params old new e))
    ⊎ ((found : List Row) × Shown sql params old new found × (All is_readable found → e ≡ SqliteFailure code.OutOfMemory) × IsReadingError e)
