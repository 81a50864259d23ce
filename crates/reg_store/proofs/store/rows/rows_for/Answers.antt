use Rattle.reg_core.proofs.FewRows.{all_tell}
use Rattle.reg_store.proofs.ReadLemmas.{may_retell, unread}
use Rattle.reg_store.proofs.store.rows.rows_for.Goals as goal

pub returns-in-Everything : goal.returns-in-Everything
returns-in-Everything g c = may_retell c.all_rows.ensures.may (λ was rows is. rw c.in-Everything.is is)

pub returns-in-OfId : goal.returns-in-OfId
returns-in-OfId g c = may_retell c.rows_of_id.ensures (λ was rows is. rw c.in-OfId.is is)

pub returns-in-OneOfId : goal.returns-in-OneOfId
returns-in-OneOfId g c = may_retell c.one_row_of.ensures (λ was rows is. rw c.in-OneOfId.is is)

pub returns-in-Some : goal.returns-in-Some
returns-in-Some g c = may_retell c.purpose_rows.ensures (λ was rows told. rw (c.in-OfSubject.is, c.in-Some.is) told)

pub returns-in-None : goal.returns-in-None
returns-in-None g c = unread c.args.db.now (λ was. rw (c.in-OfSubject.is, c.in-None.is) (all_tell c.args.level c.args.known c.in-OfSubject.asked _ _ c.new-in-None.ensures.items))
