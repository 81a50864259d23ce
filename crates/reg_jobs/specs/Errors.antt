-- Standard error, and whether part of its lines was lost.
use Rattle.std.specs.Prelude.{ℕ, Bool, true, false, List, [], Option}
use Rattle.std.specs.Io.KnownBytes.{Appends}
use Rattle.reg_output.specs.Prefixes.{AppendsPrefix}
use Rattle.reg_jobs.specs.declared.errors.ErrorWriter.{ErrorWriter}

-- what was written of the bytes: all if nothing is lost, a beginning if some are lost now, nothing if something was lost before
abbrev pub WritesUnlessLost : Bool → Bool → Option (List ℕ) → Option (List ℕ) → List ℕ → Type 0
WritesUnlessLost false false old new bytes = Appends old new bytes
WritesUnlessLost false true old new bytes = AppendsPrefix old new bytes
WritesUnlessLost true false old new bytes = ⊥
WritesUnlessLost true true old new bytes = Appends old new []

-- the bytes were written to standard error, as far as nothing is lost
abbrev pub Puts : {E : Type 0} → (E → Option (List ℕ)) → ErrorWriter E → ErrorWriter E → List ℕ → Type 0
Puts contents old new bytes = WritesUnlessLost old.has_lost new.has_lost (contents old.writer) (contents new.writer) bytes
