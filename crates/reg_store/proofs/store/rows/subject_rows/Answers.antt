use Rattle.std.proofs.Common.{◌∙◌, sym, ap}
use Rattle.std.specs.Prelude.{map}
use Rattle.std.proofs.lemmas.Simd.{map-map}
use Rattle.reg_tables.specs.Entries.{subject_version_view}
use Rattle.reg_store.specs.Inside.Viewing.{row_numbered}
use Rattle.reg_store.proofs.ReadLemmas.{read, read_out_of_memory, not_read}
use Rattle.reg_store.proofs.RowLemmas.{subject_spelled}
use Rattle.reg_store.proofs.Bases.{base_of}
use Rattle.reg_store.proofs.store.rows.subject_rows.Goals as goal

pub returns-in_err-lines : goal.returns-in_err-lines
returns-in_err-lines g c = not_read c.in_err-lines.ensures.frame c.in_err-lines.ensures.fault c.from_residual.ensures.1

pub returns-in_err-rows_under : goal.returns-in_err-rows_under
returns-in_err-rows_under g c = read_out_of_memory c.in_ok-lines.ensures.frame c.from_residual-in_err-rows_under.ensures.1

pub returns : goal.returns
returns g c =
    read c.in_ok-lines.ensures.frame (λ clean was over.
    let it = base_of over.spells in
    let lines = rw c.as_str.ensures.text at (c.in_ok-lines.ensures.found clean it.schema it.first it.contents it.holds) in
    c.in_ok-rows_under.ensures ∙ sym (map-map (row_numbered c.args.subject.now) subject_version_view c.in_ok-lines.lines.items) ∙ ap (map (row_numbered c.args.subject.now)) lines
    ∙ subject_spelled it.contents was.registry it.spelled.versions c.args.subject.now)
