use Rattle.std.proofs.Common.{sym, subst}
use Rattle.sqlite.specs.Held.{state}
use Rattle.sqlite.specs.State.{HasCleanDisk}
use Rattle.reg_store.specs.Spells.{SpellsWhileOpen}
use Rattle.reg_store.specs.Stores.{state_of}
use Rattle.reg_jobs.proofs.AuditLemmas.{AuditsAs-told}
use Rattle.reg_jobs.proofs.auditing.audit_store.Goals as goal

pub returns-clause-audits : goal.returns-clause-audits
returns-clause-audits g c clean was spells =
    let still = subst (λ held. HasCleanDisk (state g.S.Store held)) c.into_connection.ensures.same clean in
    let it = c.audit-audited.ensures.tells still in
    AuditsAs-told was (state_of c.args.store) (state_of c.audit-audited.new.self) _ _ c.audit-audited.result c.print_audit.result c.requires (it.answers was spells) c.print_audit.ensures

pub returns-clause-same : goal.returns-clause-same
returns-clause-same g c clean was spells =
    let back = c.into_connection.ensures.same in
    let still = subst (λ held. HasCleanDisk (state g.S.Store held)) back clean in
    subst (λ held. SpellsWhileOpen (state g.S.Store held) was) (sym back) ((c.audit-audited.ensures.tells still).same was spells)
