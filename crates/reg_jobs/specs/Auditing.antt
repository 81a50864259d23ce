-- An audit of the evidence of versions, and its output.
use Rattle.std.specs.Prelude.{◌≡◌, ◌↔◌, ℕ, Bool, true, false, IsTrue, List, codes, Option, Result, Ok, Err}
use Rattle.std.specs.Io.KnownBytes.{Appends}
use Rattle.reg_core.specs.Stored.{Stored, HasTrueEvidence}
use Rattle.reg_store.specs.declared.error.StoreError.{StoreError}
use Rattle.reg_store.specs.Failures.{is_fault}
use Rattle.reg_output.specs.Prefixes.{AppendsPrefix}
use Rattle.reg_jobs.specs.declared.auditing.AuditOutcome.{AuditOutcome}
use Rattle.reg_jobs.specs.declared.auditing.AuditOutcome.TheVariants.{Verdict, Unread, NotWritten}

-- the line that `audit` prints for a verdict on the evidence
abbrev pub evidence_line : Bool → List ℕ
evidence_line true = codes "evidence holds\n"
evidence_line false = codes "evidence does not hold\n"

-- the verdict is positive exactly if the evidence is true
abbrev pub IsVerdictOn : Stored → Bool → Type 0
IsVerdictOn was holds = IsTrue holds ↔ HasTrueEvidence was

-- what was printed for the store's result: the line for a verdict, in full or a beginning of it, and nothing for an error
abbrev pub PrintsEvidence : Result Bool StoreError → Option (List ℕ) → Option (List ℕ) → AuditOutcome → Type 0
PrintsEvidence (Ok holds) old new (Verdict told) = (told ≡ holds) × Appends old new (evidence_line told)
PrintsEvidence (Ok holds) old new (Unread error) = ⊥
PrintsEvidence (Ok holds) old new NotWritten = AppendsPrefix old new (evidence_line holds)
PrintsEvidence (Err error) old new (Verdict told) = ⊥
PrintsEvidence (Err error) old new (Unread told) = (told ≡ error) × (new ≡ old)
PrintsEvidence (Err error) old new NotWritten = ⊥

-- the outcome of an audit, and what was printed. Only memory or the disk keeps it from a verdict
abbrev pub AuditsAs : Stored → Option (List ℕ) → Option (List ℕ) → AuditOutcome → Type 0
AuditsAs was writer writer' (Verdict holds) = IsVerdictOn was holds × Appends writer writer' (evidence_line holds)
AuditsAs was writer writer' (Unread error) = IsTrue (is_fault error) × (writer' ≡ writer)
AuditsAs was writer writer' NotWritten = (holds : Bool) × IsVerdictOn was holds × AppendsPrefix writer writer' (evidence_line holds)
