use Rattle.reg_tables.proofs.Steps.{turns_to}
use Rattle.reg_tables.proofs.creation.create_layout_one.Goals as goal

pub returns : goal.returns
returns g c = turns_to (λ _ db held. held.0) c.create_as.ensures
