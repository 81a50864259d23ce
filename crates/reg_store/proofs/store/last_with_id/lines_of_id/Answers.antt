use Rattle.std.proofs.Common.{map, subst}
use Rattle.std.specs.FinMap.{entries}
use Rattle.std.proofs.lemmas.Simd.{map-map}
use Rattle.reg_core.specs.Rows.{rows_with}
use Rattle.reg_tables.specs.Entries.{listed_version_view}
use Rattle.reg_store.specs.Inside.Viewing.{AreSome, row_spelled}
use Rattle.reg_store.proofs.KnownLemmas.{some_are_told}
use Rattle.reg_store.proofs.ReadLemmas.{read, not_read}
use Rattle.reg_store.proofs.RowLemmas.{id_spelled}
use Rattle.reg_store.proofs.Bases.{base_of}
use Rattle.reg_store.proofs.store.last_with_id.lines_of_id.Goals as goal

pub returns-in_err-some_versions_of_id : goal.returns-in_err-some_versions_of_id
returns-in_err-some_versions_of_id g c = not_read c.in_err-some_versions_of_id.ensures.frame c.in_err-some_versions_of_id.ensures.fault c.from_residual.ensures.1

pub returns : goal.returns
returns g c =
    read c.in_ok-some_versions_of_id.ensures.frame (λ clean was over.
    let it = base_of over.spells in
    let lines = c.in_ok-some_versions_of_id.field-0.items in
    subst (λ rows. AreSome rows (rows_with c.args.id (entries was.registry.rows))) (map-map row_spelled listed_version_view lines)
    (some_are_told it.contents was.registry c.args.id (id_spelled it.contents was.registry it.spelled.versions c.args.id) (map listed_version_view lines) (c.in_ok-some_versions_of_id.ensures.found clean it.schema it.first it.contents it.holds)))
