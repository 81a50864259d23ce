use Rattle.std.proofs.Common.{◌≡◌, ◌∙◌, ◌++◌, ◌∷◌, [], ℕ, List, true, None, Some, sym, ap, subst}
use Rattle.std.specs.Prelude.{Option, option_map, option_to_list}
use Rattle.std.specs.List.{last_or}
use Rattle.reg_core.specs.Compatibility.{latest}
use Rattle.reg_core.specs.Needs.{SufficeToRegister}
use Rattle.reg_core.specs.Registry.{Row}
use Rattle.reg_core.specs.Rows.{live_rows, rows_of, visible_rows}
use Rattle.reg_core.proofs.DeletionSteps.{all_shown}
use Rattle.reg_core.proofs.FewRows.{registers_ends, registers_last, registers_none}
use Rattle.reg_core.proofs.LastRows.{rows_of-rise}
use Rattle.reg_tables.specs.declared.listed.SubjectVersion.{SubjectVersion}
use Rattle.reg_tables.specs.Entries.{subject_version_view}
use Rattle.reg_store.specs.Inside.Viewing.{row_numbered}
use Rattle.reg_store.proofs.ReadLemmas.{both, fail, stop, tell}
use Rattle.reg_store.proofs.store.sufficient_rows.newest_rows.Goals as goal

-- the last version, by the line that was read
latest_read : (subject : List ℕ) (all : List Row) (found line : Option SubjectVersion) → option_map (λ (line : SubjectVersion). row_numbered subject (subject_version_view line)) found ≡ last_or None (visible_rows true all)
    → found ≡ line → latest all ≡ option_to_list (option_map (λ (line : SubjectVersion). row_numbered subject (subject_version_view line)) line)
latest_read subject all found line read is =
    ap option_to_list (ap (last_or None) (sym (all_shown all)) ∙ (sym read ∙ ap (option_map (λ (line : SubjectVersion). row_numbered subject (subject_version_view line))) is))

pub returns-in_err-last_line : goal.returns-in_err-last_line
returns-in_err-last_line g c = fail c.in_err-last_line.ensures c.from_residual.ensures.1

pub returns-in-None : goal.returns-in-None
returns-in-None g c =
    tell c.in_ok-last_line.ensures (λ was over read level known few unknown.
    let all = rows_of was.registry c.args.subject.now in
    subst (λ (rows : List Row). SufficeToRegister level known rows all) (sym c.new.ensures.items) (registers_none level known all (latest_read c.args.subject.now all c.in_ok-last_line.field-0 None read c.in-None.is)))

pub returns-in_err-rows-in-Some : goal.returns-in_err-rows-in-Some
returns-in_err-rows-in-Some g c = stop c.in_ok-last_line.ensures c.in_err-rows-in-Some.ensures.may c.from_residual-in_err-rows-in-Some.ensures.1

pub returns-in_ok-push_row-in-Some : goal.returns-in_ok-push_row-in-Some
returns-in_ok-push_row-in-Some g c =
    tell (both c.in_ok-last_line.ensures c.in_ok-rows-in-Some.ensures.may) (λ was over read level known few unknown.
    let subject = c.args.subject.now in
    let all = rows_of was.registry subject in
    let last = row_numbered subject (subject_version_view c.in-Some.line) in
    let one = latest_read subject all c.in_ok-last_line.field-0 (Some c.in-Some.line) read.0 c.in-Some.is in
    let pushed : c.push_row.new.rows.items ≡ latest (live_rows all) ++ last ∷ [] =
    c.in_ok-push_row-in-Some.ensures ∙ (ap (λ (row : Row). c.in_ok-rows-in-Some.rows.items ++ row ∷ []) c.in_ok-row_under-in-Some.ensures ∙ ap (λ (rows : List Row). rows ++ last ∷ []) read.1) in
    subst (λ (rows : List Row). SufficeToRegister level known rows all) (sym pushed) (registers_ends level known last all few unknown (rows_of-rise was.registry subject) one c.if-this.true))

pub returns-in_ok-row_list-in-Some-2 : goal.returns-in_ok-row_list-in-Some-2
returns-in_ok-row_list-in-Some-2 g c =
    tell c.in_ok-last_line.ensures (λ was over read level known few unknown.
    let subject = c.args.subject.now in
    let all = rows_of was.registry subject in
    let last = row_numbered subject (subject_version_view c.in-Some.line) in
    let one = latest_read subject all c.in_ok-last_line.field-0 (Some c.in-Some.line) read c.in-Some.is in
    subst (λ (rows : List Row). SufficeToRegister level known rows all) (sym c.in_ok-row_list-in-Some-2.ensures) (registers_last level known last all few unknown (rows_of-rise was.registry subject) one c.if-this.false))
