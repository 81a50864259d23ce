use Rattle.std.proofs.Common.{◌≡◌, sym, ap, refl}
use Rattle.reg_core.specs.declared.code.Code.TheVariants.{BackendFault}
use Rattle.reg_core.specs.declared.delivery.Delivery.{Delivery}
use Rattle.reg_core.specs.Replies.{fault}
use Rattle.reg_messages.specs.BorrowedRequests.{fields_in}
use Rattle.reg_service.specs.Services.{state_in}
use Rattle.reg_service.proofs.Chains.{processes_one}
use Rattle.reg_service.proofs.CrashLemmas.{leaves_open}
use Rattle.reg_service.proofs.DurableLists.{processes_fault}
use Rattle.reg_routes.specs.Deliveries.{allow_field}
use Rattle.reg_routes.proofs.Rejections.{allow_due}
use Rattle.reg_http.proofs.ReplyLemmas.{IsReplyTo-delivered, IsReplyTo-rejected}
use Rattle.reg_http.proofs.answering.reply_to.Goals as goal

pub returns-in-Ok-clause-replies : goal.returns-in-Ok-clause-replies
returns-in-Ok-clause-replies g c =
    IsReplyTo-delivered _ _ c.in-Ok.delivery c.answer.result c.in-Ok.ensures (processes_one c.args.service.now c.answer.new.self (c.in-Ok.delivery, c.answer.result) c.answer.ensures)

pub returns-in-Ok-clause-allow : goal.returns-in-Ok-clause-allow
returns-in-Ok-clause-allow g c = ap (λ what. allow_field what c.answer.result) (sym c.in-Ok.ensures)

pub returns-in-Err-clause-replies : goal.returns-in-Err-clause-replies
returns-in-Err-clause-replies g c =
    let s = c.args.service.now in
    let spelled = leaves_open (state_in s) (g.met.S.Store.settled s.store.db.idle.conn.store) in
    let refused = λ (d : Delivery) (is : c.fault.result ≡ fault BackendFault). processes_one s s (d, c.fault.result) (processes_fault s d c.fault.result is spelled) in
    IsReplyTo-rejected _ _ _ _ c.fault.result refl refused c.in-Err.ensures c.fault.ensures

pub returns-in-Err-clause-allow : goal.returns-in-Err-clause-allow
returns-in-Err-clause-allow g c =
    let r = c.args.request.now in
    allow_due r.method.now r.target.now (fields_in r) r.body.now _ _ c.fault.result c.in-Err.ensures c.fault.ensures
