use Rattle.std.proofs.Common.{sym, subst}
use Rattle.reg_core.specs.Replies.{ReplyView}
use Rattle.reg_service.specs.Inside.Crashing.{RecoversOne}
use Rattle.reg_service.specs.Services.{state_in}
use Rattle.reg_service.proofs.OverTables.{refused_over}
use Rattle.reg_service.proofs.AdmissionLemmas.{all_admitted}
use Rattle.reg_service.proofs.CrashLemmas.{leaves_open}
use Rattle.reg_service.proofs.RecoveredLists.{found_once}
use Rattle.reg_service.proofs.OpenConnections.{keeps_as}
use Rattle.reg_service.proofs.service.Service.answer.Goals as goal

pub returns-in-Ok : goal.returns-in-Ok
returns-in-Ok g c =
    let old = c.args.self.now in
    let new = c.try_answer.new.self in
    let kept = keeps_as old new (λ none. absurd none) c.in-Ok.ensures.frame in
    let spelled = leaves_open (state_in new) (g.met.S.Store.settled new.store.db.idle.conn.store) in
    record {
      frame = kept;
      fails = λ failed. absurd (c.in-Ok.ensures.fails failed);
      exactly_once = c.in-Ok.ensures.exactly_once;
      admitted = λ clean was over. all_admitted was over.spells.spelled.base.registry _;
      crash = λ clean was over. found_once old new was c.args.delivery.now c.in-Ok.reply kept over (c.in-Ok.ensures.exactly_once clean) spelled (c.in-Ok.ensures.crash clean was over);
      crash_while_open = spelled;
    }

pub returns-in-Err : goal.returns-in-Err
returns-in-Err g c =
    let old = c.args.self.now in
    let new = c.try_answer.new.self in
    let kept = keeps_as old new (λ _. c.fault.ensures) c.in-Err.ensures.frame in
    let spelled = leaves_open (state_in new) (g.met.S.Store.settled new.store.db.idle.conn.store) in
    record {
      frame = kept;
      fails = λ failed. c.fault.ensures;
      exactly_once = λ clean. refused_over (state_in old) (state_in new) c.args.delivery.now c.fault.result c.fault.ensures (c.in-Err.ensures.err clean);
      admitted = λ clean was over. all_admitted was over.spells.spelled.base.registry _;
      crash = λ clean was over.
          found_once old new was c.args.delivery.now c.fault.result kept over (refused_over (state_in old) (state_in new) c.args.delivery.now c.fault.result c.fault.ensures (c.in-Err.ensures.err clean)) spelled
          (subst (λ (reply : ReplyView). RecoversOne was c.args.delivery.now reply (state_in new).may_leave) (sym c.fault.ensures) (c.in-Err.ensures.crash clean was over));
      crash_while_open = spelled;
    }
