use Rattle.std.proofs.Common.{rules}
use Rattle.reg_store.proofs.ReadLemmas.{retell}
use Rattle.reg_store.proofs.store.listing.listed.Goals as goal

pub returns-in-Subjects : goal.returns-in-Subjects
returns-in-Subjects g c = retell c.listed_subjects.ensures (λ was over lines is. search rules)

pub returns-in-Versions : goal.returns-in-Versions
returns-in-Versions g c = retell c.listed_versions.ensures (λ was over lines is. search rules)

pub returns-in-Schemas : goal.returns-in-Schemas
returns-in-Schemas g c = retell c.listed_schemas.ensures (λ was over lines is. search rules)
