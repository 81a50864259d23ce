use Rattle.std.proofs.Common.{refl, rules}
use Rattle.reg_store.proofs.AuditLemmas.{none_yet, none_left, one_more, one_fails}
use Rattle.reg_store.proofs.ReadLemmas.{may_both, may_go_on, fail_later, read_later, unread}
use Rattle.reg_store.proofs.store.auditing.all_evidence_true.Goals as goal

pub loop-init : goal.loop-init
loop-init g c = unread c.args.db.now (λ was. none_yet was)

pub loop-preserved : goal.loop-preserved
loop-preserved g c =
    may_go_on (may_both c.loop.invariant c.in_ok-row.ensures.may) c.in_ok-evidence_is_true.ensures.may (λ was over found told.
    one_more was c.loop.last found.0 c.in-Some.row (rw (c.in-Some.is, c.as_ref.ensures.value) at found.1) (λ nodes schema one had. (told nodes schema).0 (search rules) one had))

pub returns-in_err-row : goal.returns-in_err-row
returns-in_err-row g c = fail_later c.loop.invariant c.in_err-row.ensures.may c.from_residual.ensures.1

pub returns-in_default : goal.returns-in_default
returns-in_default g c =
    read_later c.loop.invariant c.in_ok-row.ensures (λ was over before found.
    (λ _. none_left was c.loop.last before (rw (c.in_default.is, c.as_ref.ensures.value) at found), λ _. refl))

pub returns-in_err-evidence_is_true : goal.returns-in_err-evidence_is_true
returns-in_err-evidence_is_true g c = fail_later (may_both c.loop.invariant c.in_ok-row.ensures.may) c.in_err-evidence_is_true.ensures.may c.from_residual-in_err-evidence_is_true.ensures.1

pub returns-then-not-branch : goal.returns-then-not-branch
returns-then-not-branch g c =
    read_later (may_both c.loop.invariant c.in_ok-row.ensures.may) c.in_ok-evidence_is_true.ensures (λ was over found told. (
      λ h. absurd (cc),
      λ all. absurd (
          one_fails was over.spells.spelled.base.registry c.loop.last found.0 c.in-Some.row (rw (c.in-Some.is, c.as_ref.ensures.value) at found.1) (λ nodes schema holds.
          (let said = (told nodes schema).1 holds in cc)) all),
    ))

pub returns : goal.returns
returns g c = record { may = record { rests = c.loop.invariant.rests; answers = λ clean was over. tt }; was_open = λ clean. tt }
