use Rattle.std.proofs.Common.{◌∙◌, sym, ap}
use Rattle.std.specs.Prelude.{map}
use Rattle.std.proofs.lemmas.Simd.{map-map}
use Rattle.sqlite.specs.Held.{state}
use Rattle.reg_tables.specs.Entries.{listed_version_view}
use Rattle.reg_store.specs.Inside.Viewing.{row_spelled}
use Rattle.reg_store.proofs.ReadLemmas.{read, not_read, match_of, by_memory}
use Rattle.reg_store.proofs.RowLemmas.{id_spelled, id_lines}
use Rattle.reg_store.proofs.Bases.{base_of}
use Rattle.reg_store.proofs.store.rows.rows_of_id.Goals as goal

pub returns-in_err-lines-in-Some : goal.returns-in_err-lines-in-Some
returns-in_err-lines-in-Some g c = (not_read c.in_err-lines-in-Some.ensures.frame c.in_err-lines-in-Some.ensures.fault c.from_residual.ensures.1).may

pub returns-in_ok-lines-in-Some : goal.returns-in_ok-lines-in-Some
returns-in_ok-lines-in-Some g c =
    rw c.in-Some.is
    (read c.in_ok-lines-in-Some.ensures.frame (λ clean was over.
    let it = base_of over.spells in
    let lines = c.in_ok-lines-in-Some.ensures.found clean it.schema it.first it.contents it.holds in
    match_of c.rows_in.result (λ rows is. is ∙ sym (map-map row_spelled listed_version_view c.in_ok-lines-in-Some.lines.items) ∙ ap (map row_spelled) lines ∙ id_spelled it.contents was.registry it.spelled.versions c.in-Some.id)
    (λ e only. by_memory (state g.S.Store c.args.db.now.idle.conn) (state g.S.Store c.versions_of_id.new.db.conn) e (only (id_lines it.contents was.registry was.replies it.spelled c.in_ok-lines-in-Some.lines.items c.in-Some.id lines))) c.rows_in.ensures.ok c.rows_in.ensures.err)).may
