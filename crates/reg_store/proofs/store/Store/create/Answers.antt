use Rattle.reg_store.proofs.store.Store.create.Goals as goal

pub returns-in-Ok-clause-done : goal.returns-in-Ok-clause-done
returns-in-Ok-clause-done g c clean = rw c.in-Ok.is at c.create_layout-made.ensures.done clean

pub returns-in-Ok-clause-shield : goal.returns-in-Ok-clause-shield
returns-in-Ok-clause-shield g c = rw c.in-Ok.is at c.create_layout-made.ensures.shield

pub returns-in-Ok-clause-full : goal.returns-in-Ok-clause-full
returns-in-Ok-clause-full g c others = rw c.in-Ok.is at c.create_layout-made.ensures.full others

pub returns-in-Ok-clause-crash_after : goal.returns-in-Ok-clause-crash_after
returns-in-Ok-clause-crash_after g c clean = rw c.in-Ok.is at c.create_layout-made.ensures.crash_after clean

pub returns-in-Err-clause-full : goal.returns-in-Err-clause-full
returns-in-Err-clause-full g c others = rw c.in-Err.is at c.create_layout-made.ensures.full others

pub returns-in-Err-clause-fails : goal.returns-in-Err-clause-fails
returns-in-Err-clause-fails g c = rw c.in-Err.is at c.create_layout-made.ensures.fails
