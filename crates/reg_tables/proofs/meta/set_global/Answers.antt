use Rattle.reg_tables.proofs.meta.set_global.Goals as goal

pub returns : goal.returns
returns g c = c.set_meta.ensures
