use Rattle.std.proofs.Common.{inl, inr, Err, refl}
use Rattle.reg_store.specs.declared.error.StoreError.TheVariants.{NotARegistry}
use Rattle.reg_store.proofs.CheckLemmas.{framed}
use Rattle.reg_store.proofs.Failing.{failure_passed}
use Rattle.reg_store.proofs.ReadLemmas.{none_ok}
use Rattle.reg_store.proofs.table_checks.meta.reject.Goals as goal

pub returns-in_err-require_open-clause-frame : goal.returns-in_err-require_open-clause-frame
returns-in_err-require_open-clause-frame g c =
    framed g.S.Store c.args.db.now.idle.conn c.require_open.new.db.idle.conn (Err c.in_err-require_open.field-0.0) c.from_residual.result c.in_err-require_open.ensures.frame (λ clean. none_ok _ c.from_residual.result _ c.from_residual.ensures.1)

pub returns-in_err-require_open-clause-fails : goal.returns-in_err-require_open-clause-fails
returns-in_err-require_open-clause-fails g c = failure_passed _ c.from_residual.result _ c.from_residual.ensures.1 (λ clean. inl (c.in_err-require_open.ensures.fault clean))

pub returns-clause-frame : goal.returns-clause-frame
returns-clause-frame g c = framed g.S.Store c.args.db.now.idle.conn c.require_open.new.db.idle.conn _ (Err NotARegistry) c.in_ok-require_open.ensures.frame (λ clean. tt)

pub returns-clause-fails : goal.returns-clause-fails
returns-clause-fails g c = λ clean. inr (refl, c.in_ok-require_open.ensures.frame.was_open clean)
