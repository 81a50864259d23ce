use Rattle.std.proofs.Common.{rules, ◌∙◌, sym, ap, find}
use Rattle.std.specs.Prelude.{option_map, option_copied}
use Rattle.std.specs.FinMap.{entries}
use Rattle.reg_core.specs.Registry.{Row, row_cmp}
use Rattle.reg_store.specs.NextLines.{is_after, key_in}
use Rattle.reg_store.proofs.NextLineLemmas.{first_any}
use Rattle.reg_store.proofs.ReadLemmas.{retell}
use Rattle.reg_store.proofs.store.next_rows.next_version.Goals as goal

pub returns-in-None : goal.returns-in-None
returns-in-None g c =
    retell c.first_of_all.ensures (λ was over found is.
    is ∙ sym (first_any (entries was.registry.rows)) ∙ ap (λ o. find (λ (row : Row). is_after row_cmp (option_map key_in (option_copied o)) row.0) (entries was.registry.rows)) (sym c.in-None.is))

pub returns-in-Some : goal.returns-in-Some
returns-in-Some g c = retell c.version_after.ensures (λ was over found is. search rules)
