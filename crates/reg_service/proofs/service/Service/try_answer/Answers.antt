use Rattle.std.proofs.Common.{◌≡◌, Some, None, string_bytes, sym, ◌∙◌, rules}
use Rattle.std.specs.Prelude.{OnOk}
use Rattle.reg_core.specs.CommandTexts.{command_text}
use Rattle.reg_core.specs.KeptReplies.{entry_with}
use Rattle.reg_store.specs.Stores.{state_of}
use Rattle.reg_service.specs.Services.{state_in}
use Rattle.reg_service.proofs.StoreCalls.{whatever_fails, fails_as}
use Rattle.reg_service.proofs.OpenConnections.{goes_on, keeps_reading, keeps_read_then}
use Rattle.reg_service.proofs.OverTables.{keyless_over, first_over, again_over}
use Rattle.reg_service.proofs.CrashLemmas.{leaves_open, found_failed, found_keyless, found_first, found_again}
use Rattle.reg_service.proofs.service.Service.try_answer.Goals as goal

pub returns-in_default-clause-exactly_once : goal.returns-in_default-clause-exactly_once
returns-in_default-clause-exactly_once g c clean = keyless_over _ _ c.args.delivery.now c.answer_unkept.result (sym c.in_default.ensures) (c.answer_unkept.ensures.executes clean)

pub returns-in_default-clause-err : goal.returns-in_default-clause-err
returns-in_default-clause-err g c clean = (c.answer_unkept.ensures.executes clean).fails

pub returns-in_err-kept-clause-err : goal.returns-in_err-kept-clause-err
returns-in_err-kept-clause-err g c clean = whatever_fails c.from_residual-in_err-kept.result (c.kept.ensures.tells clean).same

pub returns-in-Some-2-clause-exactly_once : goal.returns-in-Some-2-clause-exactly_once
returns-in-Some-2-clause-exactly_once g c clean was over =
    let text : c.as_str.result.now ≡ command_text c.args.delivery.now.command = c.as_str.ensures.value ∙ c.in_ok-text.ensures.text in
    let has : was.replies c.in-Some.key.now ≡ Some (entry_with (string_bytes c.in-Some-2.kept) c.in-Some-2.reply) = rw c.in-Some-2.is at ((c.in_ok-kept.ensures.tells clean).answers was over) in
    again_over _ c.args.delivery.now c.answer_retry.result c.in-Some.key.now c.as_str.result.now was (entry_with (string_bytes c.in-Some-2.kept) c.in-Some-2.reply) (sym c.in-Some.ensures) text has
    c.answer_retry.ensures.same c.answer_retry.ensures.other ((c.in_ok-kept.ensures.tells clean).same was over)

pub returns-clause-exactly_once : goal.returns-clause-exactly_once
returns-clause-exactly_once g c clean =
    let text : c.as_str-in-None.result.now ≡ command_text c.args.delivery.now.command = c.as_str-in-None.ensures.value ∙ c.in_ok-text.ensures.text in
    let before = c.answer_first.ensures.frame.clean clean in
    first_over _ _ c.args.delivery.now c.answer_first.result _ c.in-Some.key.now c.as_str-in-None.result.now (sym c.in-Some.ensures) text (c.answer_first.ensures.executes clean)
    (λ was over. ((c.in_ok-kept.ensures.tells before).same was over, rw c.in-None.is at ((c.in_ok-kept.ensures.tells before).answers was over)))

pub returns-clause-err : goal.returns-clause-err
returns-clause-err g c clean = fails_as c.answer_first.result (λ still was over. still was ((c.in_ok-kept.ensures.tells (c.answer_first.ensures.frame.clean clean)).same was over)) (c.answer_first.ensures.executes clean).fails

pub returns-in_default-clause-crash : goal.returns-in_default-clause-crash
returns-in_default-clause-crash g c clean was over =
    found_keyless was c.args.delivery.now (state_in c.args.self.now) (state_in c.answer_unkept.new.self) c.answer_unkept.result (sym c.in_default.ensures)
    (leaves_open (state_in c.args.self.now) (g.met.S.Store.settled c.args.self.now.store.db.idle.conn.store) was over) (λ _. over) (c.answer_unkept.ensures.executes clean)

pub returns-in_err-text-clause-crash : goal.returns-in_err-text-clause-crash
returns-in_err-text-clause-crash g c clean was over =
    let none : OnOk c.from_residual.result ⊥ = search rules in
    found_failed was c.args.delivery.now (state_in c.args.self.now).may_leave c.from_residual.result none (leaves_open (state_in c.args.self.now) (g.met.S.Store.settled c.args.self.now.store.db.idle.conn.store) was over)

pub returns-in_err-kept-clause-crash : goal.returns-in_err-kept-clause-crash
returns-in_err-kept-clause-crash g c clean was over =
    let none : OnOk c.from_residual-in_err-kept.result ⊥ = search rules in
    found_failed was c.args.delivery.now (state_of c.kept.new.self).may_leave c.from_residual-in_err-kept.result none
    (λ db it. leaves_open (state_in c.args.self.now) (g.met.S.Store.settled c.args.self.now.store.db.idle.conn.store) was over db ((c.kept.ensures.tells clean).crash db it))

pub returns-in-Some-2-clause-crash : goal.returns-in-Some-2-clause-crash
returns-in-Some-2-clause-crash g c clean was over =
    let text : c.as_str.result.now ≡ command_text c.args.delivery.now.command = c.as_str.ensures.value ∙ c.in_ok-text.ensures.text in
    let has : was.replies c.in-Some.key.now ≡ Some (entry_with (string_bytes c.in-Some-2.kept) c.in-Some-2.reply) = rw c.in-Some-2.is at ((c.in_ok-kept.ensures.tells clean).answers was (λ _. over)) in
    found_again was c.args.delivery.now (state_of c.kept.new.self).may_leave c.in-Some.key.now c.as_str.result.now (entry_with (string_bytes c.in-Some-2.kept) c.in-Some-2.reply) c.answer_retry.result (sym c.in-Some.ensures) text has
    c.answer_retry.ensures.same c.answer_retry.ensures.other
    (λ db it. leaves_open (state_in c.args.self.now) (g.met.S.Store.settled c.args.self.now.store.db.idle.conn.store) was over db ((c.in_ok-kept.ensures.tells clean).crash db it))

pub returns-clause-crash : goal.returns-clause-crash
returns-clause-crash g c clean was over =
    let text : c.as_str-in-None.result.now ≡ command_text c.args.delivery.now.command = c.as_str-in-None.ensures.value ∙ c.in_ok-text.ensures.text in
    let tells = c.in_ok-kept.ensures.tells (c.answer_first.ensures.frame.clean clean) in
    let fresh : was.replies c.in-Some.key.now ≡ None = rw c.in-None.is at (tells.answers was (λ _. over)) in
    found_first was c.args.delivery.now (state_of c.kept.new.self) (state_in c.answer_first.new.self) c.answer_first.result c.in-Some.key.now c.as_str-in-None.result.now (sym c.in-Some.ensures) text fresh
    (λ db it. leaves_open (state_in c.args.self.now) (g.met.S.Store.settled c.args.self.now.store.db.idle.conn.store) was over db (tells.crash db it)) (tells.same was (λ _. over)) (c.answer_first.ensures.executes clean)

pub returns-in_err-kept-clause-frame : goal.returns-in_err-kept-clause-frame
returns-in_err-kept-clause-frame g c =
    let none : OnOk c.from_residual-in_err-kept.result ⊥ = search rules in
    keeps_reading c.kept.ensures (λ _. none)

pub returns-in-Some-2-clause-frame : goal.returns-in-Some-2-clause-frame
returns-in-Some-2-clause-frame g c = keeps_reading c.in_ok-kept.ensures (λ none. none)

pub returns-clause-frame : goal.returns-clause-frame
returns-clause-frame g c = keeps_read_then c.in_ok-kept.ensures c.answer_first.ensures.frame

pub returns-in-Some-2-clause-fails : goal.returns-in-Some-2-clause-fails
returns-in-Some-2-clause-fails g c failed = goes_on c.in_ok-kept.ensures.frame failed
