use Rattle.std.proofs.Common.{◌∙◌, ap, map}
use Rattle.reg_store.specs.Listings.{version_line}
use Rattle.reg_store.proofs.ReadLemmas.{fail, tell, refuse}
use Rattle.reg_store.proofs.store.listing.listed_versions.Goals as goal

pub returns-in_err-rows : goal.returns-in_err-rows
returns-in_err-rows g c = fail c.in_err-rows.ensures c.from_residual.ensures.1

pub returns-in_err-version_lines : goal.returns-in_err-version_lines
returns-in_err-version_lines g c = refuse c.in_ok-rows.ensures c.from_residual-in_err-version_lines.ensures.1

pub returns : goal.returns
returns g c = tell c.in_ok-rows.ensures (λ was over rows. c.in_ok-version_lines.ensures ∙ ap (map version_line) (c.as_slice.ensures.value ∙ rows))
