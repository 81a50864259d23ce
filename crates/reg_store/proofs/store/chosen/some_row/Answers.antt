use Rattle.std.proofs.Common.{◌∙◌, ◌∷◌, [], map, sym, ap}
use Rattle.std.specs.FinMap.{get}
use Rattle.sqlite.specs.Held.{state}
use Rattle.reg_core.specs.Compatibility.{latest}
use Rattle.reg_core.specs.Registry.{Row}
use Rattle.reg_tables.specs.Entries.{listed_version_view}
use Rattle.reg_store.specs.Spells.{stored_version}
use Rattle.reg_store.proofs.ChosenLemmas.{no_version_told, version_told}
use Rattle.reg_store.proofs.ReadLemmas.{read, not_read, match_of, by_memory}
use Rattle.reg_store.proofs.Texts.{was_written}
use Rattle.reg_store.proofs.Bases.{base_of}
use Rattle.reg_store.proofs.store.chosen.some_row.Goals as goal

pub returns-in_err-any_version_of_id : goal.returns-in_err-any_version_of_id
returns-in_err-any_version_of_id g c = not_read c.in_err-any_version_of_id.ensures.frame c.in_err-any_version_of_id.ensures.fault c.from_residual.ensures.1

pub returns-in-None : goal.returns-in-None
returns-in-None g c =
    read c.in_ok-any_version_of_id.ensures.frame (λ clean was over.
    let it = base_of over.spells in
    let none = rw c.in-None.is at (c.in_ok-any_version_of_id.ensures.found clean it.schema it.first it.contents it.holds) in
    ap (λ rows. map (λ (row : Row). row.1.id) (latest rows)) (c.new.ensures.items ∙ sym (no_version_told it.contents was.registry it.spelled.versions c.args.id none)))

pub returns-in-Some : goal.returns-in-Some
returns-in-Some g c =
    read c.in_ok-any_version_of_id.ensures.frame (λ clean was over.
    let it = base_of over.spells in
    let found = rw c.in-Some.is at (c.in_ok-any_version_of_id.ensures.found clean it.schema it.first it.contents it.holds) in
    let entry = listed_version_view c.in-Some.line in
    let version = was_written stored_version (get was.registry.rows entry.0) entry.1 (sym (it.spelled.versions entry.0) ∙ found.0) in
    match_of c.row_list_of_listed.result
    (λ rows is. ap (λ items. map (λ (row : Row). row.1.id) (latest items)) is ∙ (ap (λ n. n ∷ []) found.1 ∙ sym (version_told it.contents was.registry it.spelled.versions c.args.id entry.0 entry.1 found.0 found.1)))
    (λ e only. by_memory (state g.S.Store c.args.db.now.idle.conn) (state g.S.Store c.any_version_of_id.new.db.conn) e (only (it.spelled.registered entry.0 version.0 version.1))) c.row_list_of_listed.ensures.ok c.row_list_of_listed.ensures.err)
