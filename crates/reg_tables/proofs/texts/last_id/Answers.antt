use Rattle.std.proofs.Common.{rules, ◌∙◌, None, Some, ap, subst, slice_get, ℕ, List, [], ◌≤◌}
use Rattle.reg_tables.proofs.Kit.{IsSome, get, Row}
use Rattle.sqlite.specs.Held.{state}
use Rattle.reg_tables.specs.Frames.{after_begin}
use Rattle.reg_tables.proofs.LastIds.{finds_last}
use Rattle.reg_tables.proofs.LayoutTables.{value_of}
use Rattle.reg_tables.proofs.Transactions.{stays_read, stays_unread}
use Rattle.reg_tables.proofs.Faults.{asks_five, query_faults, read_fault_until, memory_is_fault, passed_on}
use Rattle.reg_tables.proofs.Statements.{laid_out, find_last, asks_last}
use Rattle.reg_tables.proofs.texts.last_id.Goals as goal

pub returns-in-None : goal.returns-in-None
returns-in-None g c = record {
  frame = stays_read g.S.Store c.args.db.now.conn c.ask.new.db.conn _ c.in_ok-rows.ensures.frame;
  found = λ clean schema known contents holds.
      let shown = c.in_ok-rows.ensures.shown clean in
      finds_last (after_begin g.S.Store c.args.db.now.conn) (state g.S.Store shown.0) schema contents holds known c.in_ok-rows.rows.items shown.1 None
      (c.in-None.ensures.value ∙ ap (λ (l : List Row). slice_get l 0) c.deref.ensures.value);
  fault = λ clean. tt;
}

pub returns : goal.returns
returns g c = record {
  frame = stays_read g.S.Store c.args.db.now.conn c.ask.new.db.conn _ c.in_ok-rows.ensures.frame;
  found = λ clean schema known contents holds.
      let shown = c.in_ok-rows.ensures.shown clean in
      let found = finds_last (after_begin g.S.Store c.args.db.now.conn) (state g.S.Store shown.0) schema contents holds known c.in_ok-rows.rows.items shown.1 (Some c.in-Some.row.now)
      (c.in-Some.ensures.value ∙ ap (λ (l : List Row). slice_get l 0) c.deref.ensures.value) in
      subst (λ (id : ℕ). IsSome (get contents.texts id) × ((other : ℕ) → IsSome (get contents.texts other) → other ≤ id)) (c.in_ok-number_in-in-Some.ensures.ok found.0 found.3) (found.1, found.2);
  fault = λ clean. tt;
}

pub returns-in_err-rows : goal.returns-in_err-rows
returns-in_err-rows g c = record {
  frame = stays_unread g.S.Store c.args.db.now.conn c.ask.new.db.conn c.from_residual.result c.in_err-rows.field-0.0 c.in_err-rows.ensures.frame c.from_residual.ensures.1;
  found = λ clean. search rules;
  fault = λ clean.
      let failed = c.in_err-rows.ensures.failed clean in
      passed_on (state g.S.Store c.args.db.now.conn) (state g.S.Store c.ask.new.db.conn) c.from_residual.result c.in_err-rows.field-0.0 c.from_residual.ensures.1
      (λ can.
      read_fault_until (after_begin g.S.Store c.args.db.now.conn) (state g.S.Store failed.0) (state g.S.Store c.ask.new.db.conn) failed.1 c.in_err-rows.field-0.0
      (query_faults find_last.sql [] (after_begin g.S.Store c.args.db.now.conn) (state g.S.Store failed.0) (λ is_open. let there = can is_open in asks_five asks_last _ (laid_out there.holds there.known)) c.in_err-rows.field-0.0 failed.2));
}

pub returns-in_err-number_in-in-Some : goal.returns-in_err-number_in-in-Some
returns-in_err-number_in-in-Some g c = record {
  frame = stays_read g.S.Store c.args.db.now.conn c.ask.new.db.conn c.from_residual-in_err-number_in-in-Some.result c.in_ok-rows.ensures.frame;
  found = λ clean. search rules;
  fault = λ clean.
      let shown = c.in_ok-rows.ensures.shown clean in
      passed_on (state g.S.Store c.args.db.now.conn) (state g.S.Store c.ask.new.db.conn) c.from_residual-in_err-number_in-in-Some.result c.in_err-number_in-in-Some.field-0.0 c.from_residual-in_err-number_in-in-Some.ensures.1
      (λ can.
      let there = can (c.in_ok-rows.ensures.frame.was_open clean) in
      let found = finds_last (after_begin g.S.Store c.args.db.now.conn) (state g.S.Store shown.0) there.schema there.contents there.holds there.known c.in_ok-rows.rows.items shown.1 (Some c.in-Some.row.now)
      (c.in-Some.ensures.value ∙ ap (λ (l : List Row). slice_get l 0) c.deref.ensures.value) in
      let text = value_of (get there.contents.texts found.0) found.1 in
      memory_is_fault (state g.S.Store c.args.db.now.conn) (state g.S.Store c.ask.new.db.conn) c.in_err-number_in-in-Some.field-0.0 (c.in_err-number_in-in-Some.ensures.err found.0 found.3 (there.readable.texts found.0 text.0 text.1).0));
}
