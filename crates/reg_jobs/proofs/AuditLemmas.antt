-- An audit, by the store's result and the output for it.
use Rattle.std.proofs.Common.{ℕ, Bool, List, subst, sym}
use Rattle.std.specs.Prelude.{IsTrue, Option, Result, Ok, Err, MatchResult}
use Rattle.sqlite.specs.State.{State}
use Rattle.reg_core.specs.Stored.{Stored}
use Rattle.reg_store.specs.declared.error.StoreError.{StoreError}
use Rattle.reg_store.specs.Failures.{IsFaultBy, is_fault}
use Rattle.reg_jobs.specs.declared.auditing.AuditOutcome.{AuditOutcome}
use Rattle.reg_jobs.specs.declared.auditing.AuditOutcome.TheVariants.{Verdict, Unread, NotWritten}
use Rattle.reg_jobs.specs.Auditing.{AuditsAs, IsVerdictOn, PrintsEvidence}
use Rattle.reg_jobs.proofs.JobLemmas.{is_fault-by}

-- the output is the verdict, and nothing for an error
pub AuditsAs-told : (was : Stored) (old new : State) (writer writer' : Option (List ℕ)) (audited : Result Bool StoreError) (outcome : AuditOutcome) {Goes : Type 0} → Goes
    → MatchResult audited (IsVerdictOn was) (λ e. Goes → IsFaultBy old new e) → PrintsEvidence audited writer writer' outcome → AuditsAs was writer writer' outcome
AuditsAs-told was old new writer writer' (Ok holds) (Verdict told) goes tells told_is = (subst (IsVerdictOn was) (sym told_is.0) tells, told_is.1)
AuditsAs-told was old new writer writer' (Ok holds) (Unread error) goes tells told_is = absurd told_is
AuditsAs-told was old new writer writer' (Ok holds) NotWritten goes tells told_is = (holds, tells, told_is)
AuditsAs-told was old new writer writer' (Err error) (Verdict told) goes fails told_is = absurd told_is
AuditsAs-told was old new writer writer' (Err error) (Unread told) goes fails told_is = (subst (λ e. IsTrue (is_fault e)) (sym told_is.0) (is_fault-by old new error (fails goes)), told_is.1)
AuditsAs-told was old new writer writer' (Err error) NotWritten goes fails told_is = absurd told_is
