use Rattle.std.proofs.Common.{Ok}
use Rattle.reg_store.specs.Inside.Reads.{MayRead}
use Rattle.reg_store.proofs.AuditLemmas.{AreTrueUpTo}
use Rattle.reg_store.proofs.store.auditing.all_evidence_true.Given as goal

abbrev pub invariant-loop : goal.invariant-loop
invariant-loop g l = MayRead l.initial.db l.db (Ok l.last) AreTrueUpTo
