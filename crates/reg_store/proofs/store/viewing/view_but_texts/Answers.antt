use Rattle.std.proofs.Common.{◌≡◌, ◌∙◌, Option, None, Some, refl, ap, subst}
use Rattle.std.specs.Prelude.{option_map, option_and_then}
use Rattle.avro_nodes.specs.Identity.{identity}
use Rattle.reg_core.specs.declared.level.Level.{Level}
use Rattle.reg_core.specs.Rows.{id_of}
use Rattle.reg_core.specs.Machine.{subject_of, command_schema}
use Rattle.reg_core.specs.Needs.{SufficeFor, row_needs, rows_needed}
use Rattle.reg_store.proofs.ReadLemmas.{fail, both, go_on, stop}
use Rattle.reg_store.proofs.store.viewing.view_but_texts.Goals as goal

and_then_map : {A B C : Type 0} (f : A → B) (h : B → Option C) (o : Option A) → option_and_then h (option_map f o) ≡ option_and_then (λ x. h (f x)) o
and_then_map f h None = refl
and_then_map f h (Some x) = refl

pub returns-in_err-settings : goal.returns-in_err-settings
returns-in_err-settings g c = fail c.in_err-settings.ensures c.from_residual.ensures.1

pub returns-in_err-ids : goal.returns-in_err-ids
returns-in_err-ids g c = stop c.in_ok-settings.ensures c.in_err-ids.ensures c.from_residual-in_err-ids.ensures.1

pub returns-in_err-rows : goal.returns-in_err-rows
returns-in_err-rows g c = stop (both c.in_ok-settings.ensures c.in_ok-ids.ensures) c.in_err-rows.ensures c.from_residual-in_err-rows.ensures.1

pub returns : goal.returns
returns g c =
    go_on (both c.in_ok-settings.ensures c.in_ok-ids.ensures) c.in_ok-rows.ensures (λ was over read rows sent. record {
      rows = subst (λ (level : Level). SufficeFor level c.in_ok-ids.ids.0 (row_needs c.args.command.now) c.in_ok-rows.rows.items (rows_needed was.registry (subject_of c.args.command.now) (row_needs c.args.command.now)))
          c.unwrap_or-level.ensures (rw (c.needs-needs.ensures.rows, c.subject-2.ensures) at rows);
      levels = λ needed. (rw c.subject.ensures at (read.0.0 (rw c.needs-needs.ensures.levels needed)));
      modes = λ needed. (rw c.subject.ensures at (read.0.1 (rw c.needs-needs.ensures.modes needed)));
      known = λ sends. read.1.0 ∙ ap (option_and_then (id_of was.registry.schemas)) (sent sends) ∙ and_then_map identity (id_of was.registry.schemas) (command_schema c.args.command.now);
      count = λ needed. read.1.1 (rw c.needs-needs.ensures.count needed);
    })
