use Rattle.std.proofs.Common.{inl, inr, ◌⊎◌, Err, IsTrue, rules}
use Rattle.reg_tables.proofs.Kit.{cases_Bool, ExecutesInside, bound}
use Rattle.sqlite.specs.Held.{state}
use Rattle.reg_tables.proofs.WriteFaults.{OrTooLate, erred_with, open_or_failed}
use Rattle.reg_tables.specs.FailedCalls.{IsWriteFault}
use Rattle.reg_tables.proofs.statement.run.Goals as goal

pub returns-in_err-execute-clause-failed : goal.returns-in_err-execute-clause-failed
returns-in_err-execute-clause-failed g c clean =
    let first = state g.S.Store c.args.tx.now.conn.now in
    let last = state g.S.Store c.execute.new.self.conn.now in
    let it = c.in_err-execute.ensures in
    let e = c.in_err-execute.field-0.0 in
    erred_with c.from_residual.result e (λ e. OrTooLate first e (ExecutesInside 0 c.args.sql.now (bound c.args.values.now) first last (Err e))) c.from_residual.ensures.1
    (elim (cases_Bool first.in_transaction) [
      | inl inside ↦ inl (it.runs clean inside)
      | inr ended ↦ inr ((let both = (it.ended ended).0 in cc), ended)
    ])

pub returns-in_err-execute-clause-frame : goal.returns-in_err-execute-clause-frame
returns-in_err-execute-clause-frame g c = record {
  keeps = search rules;
  shut = λ clean.
      let first = state g.S.Store c.args.tx.now.conn.now in
      let last = state g.S.Store c.execute.new.self.conn.now in
      let it = c.in_err-execute.ensures in
      let e = c.in_err-execute.field-0.0 in
      erred_with c.from_residual.result e (λ e. IsTrue first.is_open ⊎ IsWriteFault first last e) c.from_residual.ensures.1
      (elim (cases_Bool first.in_transaction) [
        | inl inside ↦ elim (open_or_failed c.args.sql.now (bound c.args.values.now) first last e (it.runs clean inside)) [ inl is_open ↦ inl is_open | inr fault ↦ inr (inl fault) ]
        | inr ended ↦ inr (inr ((let both = (it.ended ended).0 in cc), ended))
      ]);
  was_open = λ clean. search rules;
  inside = λ clean. search rules;
}
