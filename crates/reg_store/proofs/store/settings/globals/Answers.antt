use Rattle.std.proofs.Common.{◌≡◌, ◌∙◌, Some, codes, ap}
use Rattle.sqlite.specs.Held.{state}
use Rattle.reg_core.specs.Levels.{level_text}
use Rattle.reg_core.specs.Modes.{mode_text}
use Rattle.reg_tables.specs.Listings.{meta_value}
use Rattle.reg_tables.proofs.MetaLines.{value_read}
use Rattle.reg_tables.proofs.Statements.{laid_out}
use Rattle.reg_tables.proofs.Tables.{eight_has_five, two_has_eight}
use Rattle.reg_store.proofs.MetaLemmas.{tells_meta}
use Rattle.reg_store.proofs.ReadBack.{global_is, global_mode_is}
use Rattle.reg_store.proofs.ReadLemmas.{read, not_read, match_on}
use Rattle.reg_store.proofs.SettingLemmas.{level_said, mode_said, both_said}
use Rattle.reg_store.proofs.store.settings.globals.Goals as goal

pub returns-in_err-lines : goal.returns-in_err-lines
returns-in_err-lines g c = not_read c.in_err-lines.ensures.lists.frame (λ clean can. c.in_err-lines.ensures.lists.fault clean (tells_meta (state g.S.Store c.args.db.now.idle.conn) can)) c.from_residual.ensures.1

pub returns : goal.returns
returns g c =
    read c.in_ok-lines.ensures.lists.frame (λ clean was over.
    let it = over.spells in
    let db = (state g.S.Store c.args.db.now.idle.conn).now in
    let first = eight_has_five it.schema (two_has_eight it.schema it.known) in
    let lists = c.in_ok-lines.ensures.lists.listed clean (laid_out it.holds first) in
    let level : meta_value (codes "global") c.as_slice.result.now ≡ Some (level_text was.registry.global) =
    ap (meta_value (codes "global")) c.as_slice.ensures.value ∙ value_read it.schema db first it.contents it.holds c.in_ok-lines.lines.items lists (codes "global") ∙ global_is it.contents was it.spelled in
    let mode : meta_value (codes "mode") c.as_slice.result.now ≡ Some (mode_text was.registry.global_mode) =
    ap (meta_value (codes "mode")) c.as_slice.ensures.value ∙ value_read it.schema db first it.contents it.holds c.in_ok-lines.lines.items lists (codes "mode") ∙ global_mode_is it.contents was it.spelled in
    match_on c.globals_in.result (λ globals spell. (level_said _ _ globals.0 level spell.0, mode_said _ _ globals.1 mode spell.1)) (λ none e. absurd (both_said _ _ _ _ level mode none)) c.globals_in.ensures.ok c.globals_in.ensures.err)
