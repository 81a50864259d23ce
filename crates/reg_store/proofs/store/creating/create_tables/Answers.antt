use Rattle.reg_tables.proofs.Steps.{turns_to}
use Rattle.reg_store.proofs.Committing.{spells_new, spells_new_one}
use Rattle.reg_store.proofs.store.creating.create_tables.Goals as goal

pub returns-in-One : goal.returns-in-One
returns-in-One g c = rw c.in-One.is (turns_to (λ _. spells_new_one) c.create_layout_one.ensures)

pub returns-in-Two : goal.returns-in-Two
returns-in-Two g c = rw c.in-Two.is (turns_to (λ _. spells_new) c.create_layout_two.ensures)
