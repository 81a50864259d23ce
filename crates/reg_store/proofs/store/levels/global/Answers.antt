use Rattle.std.proofs.Common.{◌≡◌, ◌∙◌, sym, ap, Some}
use Rattle.std.specs.Prelude.{string_bytes}
use Rattle.reg_core.specs.Levels.{level_of, level_text}
use Rattle.reg_tables.proofs.Tables.{eight_has_five, two_has_eight}
use Rattle.reg_store.proofs.ReadBack.{level_of-level_text, level_is, global_is}
use Rattle.reg_store.proofs.ReadLemmas.{read, not_read, match_on}
use Rattle.reg_store.proofs.store.levels.global.Goals as goal

pub returns-in_err-global_level : goal.returns-in_err-global_level
returns-in_err-global_level g c = not_read c.in_err-global_level.ensures.frame c.in_err-global_level.ensures.fault c.from_residual.ensures.1

pub returns-in-None : goal.returns-in-None
returns-in-None g c =
    read c.in_ok-global_level.ensures.frame (λ clean was over.
    let it = over.spells in
    let none = rw c.in-None.is at (c.in_ok-global_level.ensures.found clean it.schema (eight_has_five it.schema (two_has_eight it.schema it.known)) it.contents it.holds) in
    let some = sym none ∙ global_is it.contents was it.spelled in
    absurd (cc))

pub returns-in-Some : goal.returns-in-Some
returns-in-Some g c =
    read c.in_ok-global_level.ensures.frame (λ clean was over.
    let it = over.spells in
    let found = rw c.in-Some.is at (c.in_ok-global_level.ensures.found clean it.schema (eight_has_five it.schema (two_has_eight it.schema it.known)) it.contents it.holds) in
    let same : Some (string_bytes c.in-Some.text) ≡ Some (level_text was.registry.global) = sym found ∙ global_is it.contents was it.spelled in
    let text : string_bytes c.in-Some.text ≡ level_text was.registry.global = cc in
    match_on c.parse_level.result (λ level spells. level_is c.as_str.result.now level was.registry.global (c.as_str.ensures.value ∙ text) spells)
    (λ none e. let both = sym none ∙ ap level_of (c.as_str.ensures.value ∙ text) ∙ level_of-level_text was.registry.global in absurd (cc)) c.parse_level.ensures.ok c.parse_level.ensures.err)
