use Rattle.sqlite.specs.Held.{state}
use Rattle.std.proofs.Common.{subst}
use Rattle.std.specs.Prelude.{IfSome}
use Rattle.std.proofs.lemmas.Bool.{both_ways}
use Rattle.reg_store.specs.Changes.{IsKeepable}
use Rattle.reg_tables.proofs.Transactions.{on_ok}
use Rattle.reg_store.proofs.Spelling.{respells_kept}
use Rattle.reg_store.proofs.Writing.{if_err_both, fault_of_reply}
use Rattle.reg_store.proofs.changes.keep_reply.Goals as goal

pub returns-in-None-clause-put : goal.returns-in-None-clause-put
returns-in-None-clause-put g c = rw c.in-None.is (λ clean was s fresh. s)

pub returns-in-Some-clause-put : goal.returns-in-Some-clause-put
returns-in-Some-clause-put g c clean =
    let keep = c.in-Some.keep in
    let keepable : IsKeepable keep = subst (λ o. IfSome o IsKeepable) c.in-Some.is c.requires in
    rw c.in-Some.is
    (on_ok c.keep_reply.result
    (respells_kept (state g.S.Store c.args.tx.now.conn.now) (state g.S.Store c.keep_reply.new.tx.conn.now) keep
    (record { is_key = rw c.as_str.ensures.text at c.as_str.ensures.key; status = keepable; text = rw c.command_text.ensures at c.command_text.utf8; body = rw c.body.ensures at c.body.utf8 }))
    (rw (c.as_str.ensures.text, c.command_text.ensures, c.from.ensures, c.status.ensures.value, c.body.ensures) at (c.keep_reply.ensures.put clean)))

pub returns-in-Some-clause-goes_on : goal.returns-in-Some-clause-goes_on
returns-in-Some-clause-goes_on g c clean = on_ok c.keep_reply.result (λ inside ended. absurd (both_ways _ ended inside)) (c.keep_reply.ensures.frame.inside clean)

pub returns-in-Some-clause-fault : goal.returns-in-Some-clause-fault
returns-in-Some-clause-fault g c clean =
    rw c.in-Some.is
    (if_err_both c.keep_reply.result (λ e fails shut. fault_of_reply (state g.S.Store c.args.tx.now.conn.now) (state g.S.Store c.keep_reply.new.tx.conn.now) e shut c.in-Some.keep fails)
    (rw c.as_str.ensures.text at (c.keep_reply.ensures.fault clean)) (c.keep_reply.ensures.frame.shut clean))
