use Rattle.std.proofs.Common.{refl}
use Rattle.reg_tables.proofs.Kit.{and_from}
use Rattle.reg_tables.proofs.Transactions.{on_ok, if_err}
use Rattle.reg_tables.proofs.evidence.put_against.Goals as goal

pub returns-clause-put : goal.returns-clause-put
returns-clause-put g c clean = on_ok c.put.result (λ put schema written. put schema written ((c.args.subject.now, c.args.number), c.args.position) c.args.id (rw (c.params-to_sql.ensures, c.params-to_sql-2.ensures, c.params-to_sql-3.ensures, c.params-to_sql-4.ensures) refl)) (c.put.ensures.put clean)

pub returns-clause-fault : goal.returns-clause-fault
returns-clause-fault g c clean = if_err c.put.result (λ e fault schema written contents holds free there held. fault schema written ((c.args.subject.now, c.args.number), c.args.position) c.args.id (rw (c.params-to_sql.ensures, c.params-to_sql-2.ensures, c.params-to_sql-3.ensures, c.params-to_sql-4.ensures) refl) contents holds free (and_from _ _ there held)) (c.put.ensures.fault clean)
