use Rattle.std.proofs.Common.{rules}
use Rattle.reg_store.proofs.ReadLemmas.{may_fail, tell}
use Rattle.reg_store.proofs.ViewTexts.{text_comes}
use Rattle.reg_store.proofs.store.texts.add_text.Goals as goal

pub returns-in_err-found : goal.returns-in_err-found
returns-in_err-found g c = may_fail c.in_err-found.ensures.may c.from_residual.ensures.1

pub returns : goal.returns
returns g c = (tell c.in_ok-found.ensures (λ was over found. text_comes c.args.texts.now c.insert_text.new.texts was.registry.schemas c.args.id c.in_ok-found.found (search rules) found c.in_ok-insert_text.ensures)).may
