use Rattle.std.proofs.Common.{◌∙◌, None, Some, sym, ap}
use Rattle.std.specs.FinMap.{entries}
use Rattle.reg_store.proofs.NextRowLemmas.{last_taken}
use Rattle.reg_store.proofs.NextLineLemmas.{next_row, version_leads}
use Rattle.reg_store.proofs.ReadLemmas.{fail, tell, refuse}
use Rattle.reg_store.proofs.store.stepping.next_version_line.Goals as goal

pub returns-in_err-next_version : goal.returns-in_err-next_version
returns-in_err-next_version g c = fail c.in_err-next_version.ensures c.from_residual.ensures.1

pub returns-in-None : goal.returns-in-None
returns-in-None g c =
    tell c.in_ok-next_version.ensures (λ was over row count at.
    let found = rw (c.in-None.is, c.as_ref.ensures.value) at row in
    record { line = version_leads was.registry count None (next_row was.registry count c.args.last None at found); cursor = at })

pub returns-in_err-line-in-Some : goal.returns-in_err-line-in-Some
returns-in_err-line-in-Some g c = refuse c.in_ok-next_version.ensures c.from_residual-in_err-line-in-Some.ensures.1

pub returns-in_ok-line-in-Some : goal.returns-in_ok-line-in-Some
returns-in_ok-line-in-Some g c =
    tell c.in_ok-next_version.ensures (λ was over row count at.
    let found = rw (c.in-Some.is, c.as_ref.ensures.value) at row in
    let here = next_row was.registry count c.args.last (Some c.in-Some.row) at found in
    record {
      line = ap Some c.in_ok-line-in-Some.ensures ∙ version_leads was.registry count (Some c.in-Some.row) here;
      cursor = sym (last_taken None count (entries was.registry.rows) c.in-Some.row (sym here));
    })
