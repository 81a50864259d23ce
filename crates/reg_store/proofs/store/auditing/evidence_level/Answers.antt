use Rattle.std.proofs.Common.{◌∙◌, Some, inl, sym, ap}
use Rattle.std.specs.Prelude.{string_bytes, option_map}
use Rattle.std.specs.FinMap.{get}
use Rattle.reg_core.specs.Evidence.{Evidence}
use Rattle.reg_core.specs.Levels.{level_of, level_text}
use Rattle.reg_tables.proofs.Tables.{openable_has_eight}
use Rattle.reg_store.proofs.ReadBack.{level_of-level_text, level_is, none_written}
use Rattle.reg_store.proofs.Texts.{was_written}
use Rattle.reg_store.proofs.ReadLemmas.{read, not_read_in}
use Rattle.reg_store.proofs.store.auditing.evidence_level.Goals as goal

pub returns-in_err-evidence_level_of : goal.returns-in_err-evidence_level_of
returns-in_err-evidence_level_of g c = not_read_in (λ schema known. known) c.in_err-evidence_level_of.ensures.frame c.in_err-evidence_level_of.ensures.fault c.from_residual.ensures.1

pub returns-in-None : goal.returns-in-None
returns-in-None g c =
    read c.in_ok-evidence_level_of.ensures.frame (λ clean was over.
    let it = over.spells in
    let none = rw (c.in-None.is, c.as_str.ensures.text, c.subject.ensures, c.version.ensures) at (c.in_ok-evidence_level_of.ensures.found clean it.schema (openable_has_eight it.schema (inl it.known)) it.contents it.holds) in
    sym (ap (option_map (λ (one : Evidence). one.level)) (none_written (λ (one : Evidence). level_text one.level) (get was.evidence c.args.row.now.0) (sym (none ∙ it.spelled.evidence.levels c.args.row.now.0)))))

pub returns-in_err-parse_level-in-Some : goal.returns-in_err-parse_level-in-Some
returns-in_err-parse_level-in-Some g c =
    read c.in_ok-evidence_level_of.ensures.frame (λ clean was over.
    let it = over.spells in
    let found = rw (c.in-Some.is, c.as_str.ensures.text, c.subject.ensures, c.version.ensures) at (c.in_ok-evidence_level_of.ensures.found clean it.schema (openable_has_eight it.schema (inl it.known)) it.contents it.holds) in
    let one = was_written (λ (one : Evidence). level_text one.level) (get was.evidence c.args.row.now.0) (string_bytes c.in-Some.text) (sym (found ∙ it.spelled.evidence.levels c.args.row.now.0)) in
    let both = sym c.in_err-parse_level-in-Some.ensures.err ∙ ap level_of (c.as_str-in-Some.ensures.value ∙ one.2) ∙ level_of-level_text one.0.level in
    absurd (cc))

pub returns-in_ok-parse_level-in-Some : goal.returns-in_ok-parse_level-in-Some
returns-in_ok-parse_level-in-Some g c =
    read c.in_ok-evidence_level_of.ensures.frame (λ clean was over.
    let it = over.spells in
    let found = rw (c.in-Some.is, c.as_str.ensures.text, c.subject.ensures, c.version.ensures) at (c.in_ok-evidence_level_of.ensures.found clean it.schema (openable_has_eight it.schema (inl it.known)) it.contents it.holds) in
    let one = was_written (λ (one : Evidence). level_text one.level) (get was.evidence c.args.row.now.0) (string_bytes c.in-Some.text) (sym (found ∙ it.spelled.evidence.levels c.args.row.now.0)) in
    ap Some (level_is c.as_str-in-Some.result.now _ one.0.level (c.as_str-in-Some.ensures.value ∙ one.2) c.in_ok-parse_level-in-Some.ensures.ok) ∙ sym (ap (option_map (λ (e : Evidence). e.level)) one.1))
