use Rattle.std.proofs.Common.{refl}
use Rattle.reg_store.proofs.AuditLemmas.{true_without, true_under_none, true_by_level}
use Rattle.reg_store.proofs.EvidenceOwners.{has_schemas}
use Rattle.reg_store.proofs.ReadLemmas.{fail, tell, go_on, match_each}
use Rattle.reg_store.proofs.store.auditing.evidence_is_true.Goals as goal

pub returns-in_err-evidence_level : goal.returns-in_err-evidence_level
returns-in_err-evidence_level g c = fail c.in_err-evidence_level.ensures c.from_residual.ensures.1

pub returns-in-None : goal.returns-in-None
returns-in-None g c =
    tell c.in_ok-evidence_level.ensures (λ was over found nodes schema.
    (λ _. true_without was c.args.row.now.0 nodes (rw c.in-None.is at found), λ _. refl))

pub returns-in-Some-Off : goal.returns-in-Some-Off
returns-in-Some-Off g c =
    tell c.in_ok-evidence_level.ensures (λ was over found nodes schema.
    (λ _. true_under_none was c.args.row.now.0 nodes (rw c.in-Some-Off.field-0-is at (rw c.in-Some-Off.is at found)) (has_schemas _ was over.spells c.args.row.now.0), λ _. refl))

pub returns-in-Some : goal.returns-in-Some
returns-in-Some g c =
    go_on c.in_ok-evidence_level.ensures c.is_true_under.ensures.may (λ was over found.
    match_each c.is_true_under.result (λ yes told nodes schema.
    true_by_level was c.args.row.now.0 nodes c.in-Some.level yes (rw c.in-Some.is at found) (λ one had. told nodes one schema had))
    (λ e h. h))
