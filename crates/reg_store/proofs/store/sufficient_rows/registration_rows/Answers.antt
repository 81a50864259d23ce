use Rattle.std.proofs.Common.{ℕ, None, refl, sym, subst}
use Rattle.std.specs.Prelude.{Option}
use Rattle.reg_core.specs.Rows.{rows_of}
use Rattle.reg_core.specs.Needs.{SufficeToRegister}
use Rattle.reg_store.proofs.ReadLemmas.{retell}
use Rattle.reg_store.proofs.store.sufficient_rows.registration_rows.Goals as goal

pub returns-in-Some : goal.returns-in-Some
returns-in-Some g c =
    retell c.known_schema_rows.ensures (λ was over rows told.
    subst (λ (known : Option ℕ). SufficeToRegister c.args.level known rows.items (rows_of was.registry c.args.subject.now)) (sym c.in-Some.is) told)

pub returns-in-None : goal.returns-in-None
returns-in-None g c =
    retell c.new_schema_rows.ensures (λ was over rows told.
    subst (λ (known : Option ℕ). SufficeToRegister c.args.level known rows.items (rows_of was.registry c.args.subject.now)) (sym c.in-None.is) (told None refl))
