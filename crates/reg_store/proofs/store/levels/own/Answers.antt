use Rattle.std.proofs.Common.{◌∙◌, Some, sym, ap}
use Rattle.std.specs.Prelude.{string_bytes}
use Rattle.reg_core.specs.Levels.{level_of, level_text}
use Rattle.reg_store.proofs.ReadBack.{level_of-level_text, level_is, none_written}
use Rattle.reg_store.proofs.Texts.{was_written}
use Rattle.reg_store.proofs.ReadLemmas.{read, not_read}
use Rattle.reg_store.proofs.Bases.{base_of}
use Rattle.reg_store.proofs.store.levels.own.Goals as goal

pub returns-in_err-own_level : goal.returns-in_err-own_level
returns-in_err-own_level g c = not_read c.in_err-own_level.ensures.frame c.in_err-own_level.ensures.fault c.from_residual.ensures.1

pub returns-in-None : goal.returns-in-None
returns-in-None g c =
    read c.in_ok-own_level.ensures.frame (λ clean was over.
    let it = base_of over.spells in
    let none = rw (c.in-None.is, c.as_str.ensures.text) at (c.in_ok-own_level.ensures.found clean it.schema it.first it.contents it.holds) in
    sym (none_written level_text (was.registry.own c.args.subject.now) (sym (it.spelled.levels c.args.subject.now) ∙ none)))

pub returns-in_err-parse_level-in-Some : goal.returns-in_err-parse_level-in-Some
returns-in_err-parse_level-in-Some g c =
    read c.in_ok-own_level.ensures.frame (λ clean was over.
    let it = base_of over.spells in
    let found = rw c.in-Some.is at (c.in_ok-own_level.ensures.found clean it.schema it.first it.contents it.holds) in
    let level = was_written level_text (was.registry.own c.as_str.result.now) (string_bytes c.in-Some.text) (sym (it.spelled.levels c.as_str.result.now) ∙ found) in
    let both = sym c.in_err-parse_level-in-Some.ensures.err ∙ ap level_of (c.as_str-in-Some.ensures.value ∙ level.2) ∙ level_of-level_text level.0 in
    absurd (cc))

pub returns-in_ok-parse_level-in-Some : goal.returns-in_ok-parse_level-in-Some
returns-in_ok-parse_level-in-Some g c =
    read c.in_ok-own_level.ensures.frame (λ clean was over.
    let it = base_of over.spells in
    let found = rw (c.in-Some.is, c.as_str.ensures.text) at (c.in_ok-own_level.ensures.found clean it.schema it.first it.contents it.holds) in
    let level = was_written level_text (was.registry.own c.args.subject.now) (string_bytes c.in-Some.text) (sym (it.spelled.levels c.args.subject.now) ∙ found) in
    ap Some (level_is c.as_str-in-Some.result.now _ level.0 (c.as_str-in-Some.ensures.value ∙ level.2) c.in_ok-parse_level-in-Some.ensures.ok) ∙ sym level.1)
