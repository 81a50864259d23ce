use Rattle.std.proofs.Common.{◌∙◌, Some, inl, sym, ap}
use Rattle.std.specs.Prelude.{string_bytes}
use Rattle.reg_core.specs.Modes.{mode_of, mode_text}
use Rattle.reg_tables.proofs.Tables.{openable_has_eight}
use Rattle.reg_store.proofs.ReadBack.{mode_of-mode_text, mode_is, none_written}
use Rattle.reg_store.proofs.Texts.{was_written}
use Rattle.reg_store.proofs.ReadLemmas.{read, not_read_in}
use Rattle.reg_store.proofs.store.modes.own.Goals as goal

pub returns-in_err-own_mode : goal.returns-in_err-own_mode
returns-in_err-own_mode g c = not_read_in (λ schema known. known) c.in_err-own_mode.ensures.frame c.in_err-own_mode.ensures.fault c.from_residual.ensures.1

pub returns-in-None : goal.returns-in-None
returns-in-None g c =
    read c.in_ok-own_mode.ensures.frame (λ clean was over.
    let it = over.spells in
    let none = rw (c.in-None.is, c.as_str.ensures.text) at (c.in_ok-own_mode.ensures.found clean it.schema (openable_has_eight it.schema (inl it.known)) it.contents it.holds) in
    sym (none_written mode_text (was.registry.own_modes c.args.subject.now) (sym (it.spelled.modes c.args.subject.now) ∙ none)))

pub returns-in_err-mode_in-in-Some : goal.returns-in_err-mode_in-in-Some
returns-in_err-mode_in-in-Some g c =
    read c.in_ok-own_mode.ensures.frame (λ clean was over.
    let it = over.spells in
    let found = rw c.in-Some.is at (c.in_ok-own_mode.ensures.found clean it.schema (openable_has_eight it.schema (inl it.known)) it.contents it.holds) in
    let mode = was_written mode_text (was.registry.own_modes c.as_str.result.now) (string_bytes c.in-Some.text) (sym (it.spelled.modes c.as_str.result.now) ∙ found) in
    let both = sym c.in_err-mode_in-in-Some.ensures.err ∙ ap mode_of (c.as_str-in-Some.ensures.value ∙ mode.2) ∙ mode_of-mode_text mode.0 in
    absurd (cc))

pub returns-in_ok-mode_in-in-Some : goal.returns-in_ok-mode_in-in-Some
returns-in_ok-mode_in-in-Some g c =
    read c.in_ok-own_mode.ensures.frame (λ clean was over.
    let it = over.spells in
    let found = rw (c.in-Some.is, c.as_str.ensures.text) at (c.in_ok-own_mode.ensures.found clean it.schema (openable_has_eight it.schema (inl it.known)) it.contents it.holds) in
    let mode = was_written mode_text (was.registry.own_modes c.args.subject.now) (string_bytes c.in-Some.text) (sym (it.spelled.modes c.args.subject.now) ∙ found) in
    ap Some (mode_is c.as_str-in-Some.result.now _ mode.0 (c.as_str-in-Some.ensures.value ∙ mode.2) c.in_ok-mode_in-in-Some.ensures.ok) ∙ sym mode.1)
