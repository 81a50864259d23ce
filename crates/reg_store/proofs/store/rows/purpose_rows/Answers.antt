use Rattle.reg_store.proofs.ReadLemmas.{may_retell}
use Rattle.reg_store.proofs.store.rows.purpose_rows.Goals as goal

pub returns-in-Every : goal.returns-in-Every
returns-in-Every g c = may_retell c.subject_rows.ensures.may (λ was rows is. rw c.in-Every.is is)

pub returns-in-ToChoose : goal.returns-in-ToChoose
returns-in-ToChoose g c = may_retell c.chosen_rows.ensures (λ was rows told. rw c.in-ToChoose.is told)

pub returns-in-ToDelete : goal.returns-in-ToDelete
returns-in-ToDelete g c = may_retell c.deletion_rows.ensures (λ was rows told. rw c.in-ToDelete.is told)

pub returns-in-ToCompare : goal.returns-in-ToCompare
returns-in-ToCompare g c = may_retell c.compared_rows.ensures.may (λ was rows told. rw c.in-ToCompare.is told)

pub returns-in-ToRegister : goal.returns-in-ToRegister
returns-in-ToRegister g c = may_retell c.registration_rows.ensures.may (λ was rows told. rw c.in-ToRegister.is told)

pub returns-in-ToLookUp : goal.returns-in-ToLookUp
returns-in-ToLookUp g c = may_retell c.looked_up_rows.ensures.may (λ was rows told. rw c.in-ToLookUp.is told)
