-- The effect of one write on a table.
use Rattle.std.proofs.Common.{◌≡◌, ◌⊎◌, inl, inr, ℕ, ◌/◌, length, List, [], slice_get, Bool, true, false, Some, None, Ok, Err, Option, Result, sym, ap, subst, ◌∙◌}
use Rattle.reg_tables.proofs.Kit.{if◌then◌else◌, MatchBool, Row, Term, Table, Schema, Source, Values, Command, Insert, Update, Delete, Edit, edit_of, taken_by, Applies, Rowids, Chosen, Above, Given, Tally, Does, WritesRows, Written, Task, stamped, rowids_for, count_of, Database, Answers, value_rows, State, mode_of, Writes, Error, one_step, Enforced, Program, ids_of, no_works}
use Rattle.sqlite_rules.specs.Action as action
use Rattle.reg_tables.specs.Inside.KeyedLaws.{HasNoForeignKeyAction, HasNoUpdateAction}

-- a part that returned a value did not stop early
pub went : {B E R : Type 0} {b : B} {Stops : E → Type 0} → ((stop : E) × Stops stop × (Ok b ≡ Err stop)) ⊎ R → R
went (inl stopped) = absurd (let e = stopped.2 in cc)
went (inr on) = on

pub same_value : {B E : Type 0} {a b : B} → ◌≡◌ {A = Result B E} (Ok a) (Ok b) → a ≡ b
same_value e = cc

pub uncounts : (b x : Bool) (P Q : Type 0) → b ≡ false → MatchBool (if b then x else false) P Q → Q
uncounts true x P Q is h = absurd (cc)
uncounts false x P Q is h = h

-- the schema stays, and only the edit is applied
pub record IsStep (schema : Schema) (old new : State) (edit : Edit) : Type 0 where
  pub same : new.now.schema ≡ schema
  pub applies : Applies schema Enforced old.now.trees edit new.now.trees

module _ (schema : Schema) (at : ℕ) (table : Table) (there : slice_get schema.tables at ≡ Some table)
    (old new : State) (has : old.now.schema ≡ schema) (text : List ℕ) (params : Row) (count : ℕ) where
  abbrev task : Task
  task = record { limit = old.step_limit; keys = Enforced; schema = schema; table = table; params = params }

  abbrev Wrote : Command → Type 0
  Wrote command = (w : Written) × WritesRows task old.now.trees command (Ok w) × (new.now ≡ record { schema = schema; trees = w.trees })

  insert_wrote : (from : Source) → Writes old new None (Insert at from) text params count → Wrote (Insert at from)
  insert_wrote from w =
      let done = subst (λ s. Does old.step_limit (mode_of old) params (record old.now { schema = s }) text None (Insert at from) (Ok (w.tally, new.now))) has w.changed in
      let ran = went (rw there at done) in
      let tested = went ran.2 in
      let shown = went tested.2 in
      (ran.0, ran.1, ap (λ (p : Tally × Database). p.1) (same_value {E = Option Error} shown.2))

  pub inserted : (terms : List Term) (width : ℕ) → table.is_counted ≡ false → Writes old new None (Insert at (Values terms width)) text params count
      → IsStep schema old new (edit_of old.now.trees table [] Chosen 0 (value_rows (stamped table params) width (length terms / width) terms))
  inserted terms width uncounted w =
      let wrote = insert_wrote (Values terms width) w in
      let given = went wrote.1 in
      let counter = went given.2 in
      let put = went counter.2 in
      let counted = went put.2 in
      let db = old.now.trees in
      let rows = value_rows (stamped table params) width (length terms / width) terms in
      let edit = edit_of db table [] Chosen 0 given.0 in
      let top = count_of counter.0 in
      let chosen : rowids_for table top ≡ Chosen = ap (λ b. if b then Above top else Chosen) uncounted in
      let steps = subst (λ (r : Rowids). action.Writes schema Enforced db (edit_of db table [] r 0 given.0) (Ok put.0)) chosen put.1 in
      let step : Applies schema Enforced db edit put.0 = one_step schema Enforced db put.0 edit (no_works schema Enforced 0 table.tree edit.news) steps in
      let end : put.0 ≡ wrote.0.trees = sym (ap (λ (it : Written). it.trees) (same_value counted.2) ∙ same_value (uncounts table.is_counted _ _ _ uncounted counted.1)) in
      let now : put.0 ≡ new.now.trees = end ∙ ap (λ (d : Database). d.trees) (sym wrote.2) in
      record {
        same = ap (λ (d : Database). d.schema) wrote.2;
        applies = subst (Applies schema Enforced db (edit_of db table [] Chosen 0 rows)) now (subst (λ r. Applies schema Enforced db (edit_of db table [] Chosen 0 r) put.0) given.1.1 step);
      }

  delete_wrote : (q : Program) → Writes old new None (Delete at q) text params count → Wrote (Delete at q)
  delete_wrote q w =
      let done = subst (λ s. Does old.step_limit (mode_of old) params (record old.now { schema = s }) text None (Delete at q) (Ok (w.tally, new.now))) has w.changed in
      let ran = went (rw there at done) in
      let tested = went ran.2 in
      let shown = went tested.2 in
      (ran.0, ran.1, ap (λ (p : Tally × Database). p.1) (same_value {E = Option Error} shown.2))

  -- the query yields the rowids, and the foreign-key actions follow
  pub cuts : (q : Program) → Writes old new None (Delete at q) text params count
      → (found : List Row) × Answers (record { schema = schema; trees = old.now.trees }) q params found × (new.now.schema ≡ schema)
      × action.Writes schema Enforced old.now.trees (edit_of old.now.trees table (ids_of found) Given 0 []) (Ok new.now.trees)
  cuts q w =
      let wrote = delete_wrote q w in
      let asked = went wrote.1 in
      let cut = went asked.2 in
      let edit = edit_of old.now.trees table (ids_of asked.0) Given 0 [] in
      let now : cut.0 ≡ new.now.trees = sym (ap (λ (it : Written). it.trees) (same_value cut.2)) ∙ ap (λ (d : Database). d.trees) (sym wrote.2) in
      (asked.0, asked.1, ap (λ (d : Database). d.schema) wrote.2, subst (λ t. action.Writes schema Enforced old.now.trees edit (Ok t)) now cut.1)

  -- without actions
  pub deleted : HasNoForeignKeyAction schema table.tree → (q : Program) → Writes old new None (Delete at q) text params count
      → (found : List Row) × Answers (record { schema = schema; trees = old.now.trees }) q params found × IsStep schema old new (edit_of old.now.trees table (ids_of found) Given 0 [])
  deleted idle q w =
      let cut = cuts q w in
      let db = old.now.trees in
      let edit = edit_of db table (ids_of cut.0) Given 0 [] in
      (cut.0, cut.1, record { same = cut.2; applies = one_step schema Enforced db new.now.trees edit (idle (taken_by db edit) edit.news) cut.3 })

  update_wrote : (q : Program) → Writes old new None (Update at q) text params count → Wrote (Update at q)
  update_wrote q w =
      let done = subst (λ s. Does old.step_limit (mode_of old) params (record old.now { schema = s }) text None (Update at q) (Ok (w.tally, new.now))) has w.changed in
      let ran = went (rw there at done) in
      let tested = went ran.2 in
      let shown = went tested.2 in
      (ran.0, ran.1, ap (λ (p : Tally × Database). p.1) (same_value {E = Option Error} shown.2))

  -- the query yields the rowids and the new rows
  pub updated : HasNoUpdateAction schema table → (q : Program) → Writes old new None (Update at q) text params count
      → (found : List Row) × Answers (record { schema = schema; trees = old.now.trees }) q params found × IsStep schema old new (edit_of old.now.trees table (ids_of found) Given 1 found)
  updated steady q w =
      let wrote = update_wrote q w in
      let asked = went wrote.1 in
      let put = went asked.2 in
      let db = old.now.trees in
      let edit = edit_of db table (ids_of asked.0) Given 1 asked.0 in
      let step : Applies schema Enforced db edit put.0 = one_step schema Enforced db put.0 edit (steady db asked.0) put.1 in
      let now : put.0 ≡ new.now.trees = sym (ap (λ (it : Written). it.trees) (same_value put.2)) ∙ ap (λ (d : Database). d.trees) (sym wrote.2) in
      (asked.0, asked.1, record { same = ap (λ (d : Database). d.schema) wrote.2; applies = subst (Applies schema Enforced db edit) now step })
