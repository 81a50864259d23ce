use Rattle.std.proofs.Common.{◌≡◌, ◌∙◌, false, sym, ap}
use Rattle.reg_core.specs.Compatibility.{is_transitive, named_versions}
use Rattle.reg_core.specs.Rows.{live_rows, rows_of}
use Rattle.reg_core.proofs.FewRows.{checks_last}
use Rattle.reg_store.proofs.ReadLemmas.{retell}
use Rattle.reg_store.proofs.store.sufficient_rows.compared_rows.Goals as goal

pub returns-then-is_transitive : goal.returns-then-is_transitive
returns-then-is_transitive g c = retell c.subject_rows.ensures (λ was over rows is. ap (λ items. named_versions c.args.level (live_rows items)) is)

pub returns : goal.returns
returns g c =
    let few : is_transitive c.args.level ≡ false = sym c.is_transitive.ensures ∙ c.if-is_transitive.false in
    retell c.last_rows.ensures (λ was over rows is.
    ap (λ items. named_versions c.args.level (live_rows items)) is ∙ checks_last c.args.level (rows_of was.registry c.args.subject.now) few)
