use Rattle.std.proofs.Common.{◌∙◌, None, sym, ap}
use Rattle.std.specs.List.{last_or}
use Rattle.reg_core.specs.Rows.{rows_of, visible_rows}
use Rattle.reg_store.proofs.ChosenLemmas.{last_told, last_live_told}
use Rattle.reg_store.proofs.ReadLemmas.{read, not_read}
use Rattle.reg_store.proofs.Bases.{base_of}
use Rattle.reg_store.proofs.store.chosen.last_line.Goals as goal

pub returns-in_err-last_version_of : goal.returns-in_err-last_version_of
returns-in_err-last_version_of g c = not_read c.in_err-last_version_of.ensures.frame c.in_err-last_version_of.ensures.fault c.from_residual.ensures.1

pub returns-in_err-last_live_version_of : goal.returns-in_err-last_live_version_of
returns-in_err-last_live_version_of g c = not_read c.in_err-last_live_version_of.ensures.frame c.in_err-last_live_version_of.ensures.fault c.from_residual-in_err-last_live_version_of.ensures.1

pub returns-in_ok-last_version_of : goal.returns-in_ok-last_version_of
returns-in_ok-last_version_of g c =
    read c.in_ok-last_version_of.ensures.frame (λ clean was over.
    let it = base_of over.spells in
    let found = rw c.as_str.ensures.text at (c.in_ok-last_version_of.ensures.found clean it.schema it.first it.contents it.holds) in
    last_told it.contents was.registry it.spelled.versions c.args.subject.now c.in_ok-last_version_of.field-0 found
    ∙ ap (λ b. last_or None (visible_rows b (rows_of was.registry c.args.subject.now))) (sym c.if-deleted.true))

pub returns-in_ok-last_live_version_of : goal.returns-in_ok-last_live_version_of
returns-in_ok-last_live_version_of g c =
    read c.in_ok-last_live_version_of.ensures.frame (λ clean was over.
    let it = base_of over.spells in
    let found = rw c.as_str-else-deleted.ensures.text at (c.in_ok-last_live_version_of.ensures.found clean it.schema it.first it.contents it.holds) in
    last_live_told it.contents was.registry it.spelled.versions c.args.subject.now c.in_ok-last_live_version_of.field-0 found
    ∙ ap (λ b. last_or None (visible_rows b (rows_of was.registry c.args.subject.now))) (sym c.if-deleted.false))
