use Rattle.std.proofs.Common.{rules, ◌∙◌, sym, None, Some, ap, slice_get, List, [], ◌∷◌}
use Rattle.reg_tables.proofs.Kit.{get, Row, Text}
use Rattle.sqlite.specs.Held.{state}
use Rattle.reg_tables.specs.Frames.{after_begin}
use Rattle.reg_tables.proofs.TableReads.{finds_id}
use Rattle.reg_tables.proofs.Transactions.{stays_read, stays_unread}
use Rattle.reg_tables.proofs.Faults.{asks_five, query_faults, read_fault_until, memory_is_fault, passed_on}
use Rattle.reg_tables.proofs.Statements.{laid_out, find_id, asks_id}
use Rattle.reg_tables.proofs.texts.id_of.Goals as goal

pub returns-in-None : goal.returns-in-None
returns-in-None g c = record {
  frame = stays_read g.S.Store c.args.db.now.conn c.ask.new.db.conn _ c.in_ok-rows.ensures.frame;
  found = λ clean schema known contents holds.
      let shown = c.in_ok-rows.ensures.shown clean in
      finds_id (after_begin g.S.Store c.args.db.now.conn) (state g.S.Store shown.0) schema contents holds known c.args.text.now c.in_ok-rows.rows.items None
      (c.in-None.ensures.value ∙ ap (λ (l : List Row). slice_get l 0) c.deref.ensures.value) (rw c.params-to_sql.ensures at shown.1);
  fault = λ clean. tt;
}

pub returns : goal.returns
returns g c = record {
  frame = stays_read g.S.Store c.args.db.now.conn c.ask.new.db.conn _ c.in_ok-rows.ensures.frame;
  found = λ clean schema known contents holds.
      let shown = c.in_ok-rows.ensures.shown clean in
      let found = finds_id (after_begin g.S.Store c.args.db.now.conn) (state g.S.Store shown.0) schema contents holds known c.args.text.now c.in_ok-rows.rows.items (Some c.in-Some.row.now)
      (c.in-Some.ensures.value ∙ ap (λ (l : List Row). slice_get l 0) c.deref.ensures.value) (rw c.params-to_sql.ensures at shown.1) in
      ap (get contents.texts) (sym (c.in_ok-number_in-in-Some.ensures.ok found.0 found.2)) ∙ found.1;
  fault = λ clean. tt;
}

pub returns-in_err-rows : goal.returns-in_err-rows
returns-in_err-rows g c = record {
  frame = stays_unread g.S.Store c.args.db.now.conn c.ask.new.db.conn c.from_residual.result c.in_err-rows.field-0.0 c.in_err-rows.ensures.frame c.from_residual.ensures.1;
  found = λ clean. search rules;
  fault = λ clean.
      let failed = c.in_err-rows.ensures.failed clean in
      passed_on (state g.S.Store c.args.db.now.conn) (state g.S.Store c.ask.new.db.conn) c.from_residual.result c.in_err-rows.field-0.0 c.from_residual.ensures.1
      (λ can.
      read_fault_until (after_begin g.S.Store c.args.db.now.conn) (state g.S.Store failed.0) (state g.S.Store c.ask.new.db.conn) failed.1 c.in_err-rows.field-0.0 (query_faults find_id.sql (Text c.args.text.now ∷ []) (after_begin g.S.Store c.args.db.now.conn) (state g.S.Store failed.0) (λ is_open. let there = can is_open in asks_five (asks_id c.args.text.now) _ (laid_out there.holds there.known)) c.in_err-rows.field-0.0 (rw c.params-to_sql.ensures at failed.2)));
}

pub returns-in_err-number_in-in-Some : goal.returns-in_err-number_in-in-Some
returns-in_err-number_in-in-Some g c = record {
  frame = stays_read g.S.Store c.args.db.now.conn c.ask.new.db.conn c.from_residual-in_err-number_in-in-Some.result c.in_ok-rows.ensures.frame;
  found = λ clean. search rules;
  fault = λ clean.
      let shown = c.in_ok-rows.ensures.shown clean in
      passed_on (state g.S.Store c.args.db.now.conn) (state g.S.Store c.ask.new.db.conn) c.from_residual-in_err-number_in-in-Some.result c.in_err-number_in-in-Some.field-0.0 c.from_residual-in_err-number_in-in-Some.ensures.1
      (λ can.
      let there = can (c.in_ok-rows.ensures.frame.was_open clean) in
      let found = finds_id (after_begin g.S.Store c.args.db.now.conn) (state g.S.Store shown.0) there.schema there.contents there.holds there.known c.args.text.now c.in_ok-rows.rows.items (Some c.in-Some.row.now)
      (c.in-Some.ensures.value ∙ ap (λ (l : List Row). slice_get l 0) c.deref.ensures.value) (rw c.params-to_sql.ensures at shown.1) in
      memory_is_fault (state g.S.Store c.args.db.now.conn) (state g.S.Store c.ask.new.db.conn) c.in_err-number_in-in-Some.field-0.0
      (c.in_err-number_in-in-Some.ensures.err found.0 found.2 (there.readable.texts found.0 c.args.text.now found.1).0));
}
