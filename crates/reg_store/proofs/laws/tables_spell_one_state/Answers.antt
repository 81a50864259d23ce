use Rattle.reg_store.proofs.OneState.{one_opened, one_unopened, one_first}
use Rattle.reg_store.proofs.laws.tables_spell_one_state.Goals as goal

pub returns-clause-layout_two : goal.returns-clause-layout_two
returns-clause-layout_two c = one_opened

pub returns-clause-unopened : goal.returns-clause-unopened
returns-clause-unopened c = one_unopened

pub returns-clause-layout_one : goal.returns-clause-layout_one
returns-clause-layout_one c = one_first
