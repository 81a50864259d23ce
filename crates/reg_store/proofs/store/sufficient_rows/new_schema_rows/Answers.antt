use Rattle.std.proofs.Common.{◌≡◌, ◌∙◌, false, sym}
use Rattle.reg_core.specs.Compatibility.{is_transitive}
use Rattle.reg_core.specs.Rows.{rows_of}
use Rattle.reg_core.proofs.FewRows.{registers_all}
use Rattle.reg_store.proofs.ReadLemmas.{retell}
use Rattle.reg_store.proofs.store.sufficient_rows.new_schema_rows.Goals as goal

pub returns-then-is_transitive : goal.returns-then-is_transitive
returns-then-is_transitive g c = retell c.subject_rows.ensures (λ was over rows is known none. registers_all c.args.level known rows.items (rows_of was.registry c.args.subject.now) is)

pub returns : goal.returns
returns g c =
    let few : is_transitive c.args.level ≡ false = sym c.is_transitive.ensures ∙ c.if-is_transitive.false in
    retell c.newest_rows.ensures (λ was over rows told known none. told c.args.level known few none)
