use Rattle.std.proofs.Common.{◌∙◌, sym}
use Rattle.reg_store.proofs.NextLineLemmas.{same_subject, other_subject}
use Rattle.reg_store.proofs.ReadLemmas.{fail, tell, go_on, match_each}
use Rattle.reg_store.proofs.store.next_rows.version_after.Goals as goal

pub returns-in_err-row : goal.returns-in_err-row
returns-in_err-row g c = fail c.in_err-row.ensures c.from_residual.ensures.1

pub returns-in-Some : goal.returns-in-Some
returns-in-Some g c =
    tell c.in_ok-row.ensures (λ was over row.
    let found = rw (c.in-Some.is, c.subject.ensures, c.version.ensures) at row in
    sym (same_subject was.registry c.args.last.now.0 c.in-Some.row (sym found)))

pub returns-in-None : goal.returns-in-None
returns-in-None g c =
    go_on c.in_ok-row.ensures c.first_after.ensures.may (λ was over row.
    let none = rw (c.in-None.is, c.subject.ensures, c.version.ensures) at row in
    match_each c.first_after.result (λ found is. rw (c.as_str.ensures.text, c.subject-in-None.ensures) at is ∙ sym (other_subject was.registry c.args.last.now.0 (sym none))) (λ e h. h))
