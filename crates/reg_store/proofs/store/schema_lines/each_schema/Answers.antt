use Rattle.std.proofs.Common.{◌∙◌, ◌≤◌, length, arith}
use Rattle.std.proofs.lemmas.List.{take_all}
use Rattle.sqlite.specs.Held.{state}
use Rattle.reg_store.specs.Failures.{IsFaultBy}
use Rattle.reg_store.specs.Listings.{schema_lines}
use Rattle.reg_store.proofs.ListingLemmas.{taken_more, line_at, length-schema_lines, has_text}
use Rattle.reg_store.proofs.ReadLemmas.{clean_at, fault_of_all, passed_on, rests_on, spell_on}
use Rattle.reg_store.proofs.store.schema_lines.each_schema.Goals as goal

pub loop-index-preserved : goal.loop-index-preserved
loop-index-preserved g c =
    let old = state g.S.Store c.args.db.now.idle.conn in
    let mid = state g.S.Store c.loop-index.db.idle.conn in
    let new = state g.S.Store c.listed_schema.new.db.idle.conn in
    let before = c.loop-index.invariant in
    let it = c.in_ok-listed_schema.ensures in
    let i = c.loop-index.index in
    record {
      rests = rests_on old mid new before.rests it.rests;
      read = λ clean was over many.
          (let early = clean_at old mid new it.rests clean in
          let line = it.answers clean was (spell_on old mid before.rests early was over) (has_text was.registry.schemas i (omega arith)) in
          c.in_ok-push_line.ensures ∙ taken_more (schema_lines was.registry.schemas) _ i _ (before.read early was over many) (line_at was.registry.schemas i _ line));
    }

pub returns-in_err-listed_schema-clause-rests : goal.returns-in_err-listed_schema-clause-rests
returns-in_err-listed_schema-clause-rests g c =
    rests_on (state g.S.Store c.args.db.now.idle.conn) (state g.S.Store c.loop-index.db.idle.conn) (state g.S.Store c.listed_schema.new.db.idle.conn) c.loop-index.invariant.rests c.in_err-listed_schema.ensures.rests

pub returns-in_err-listed_schema-clause-answers : goal.returns-in_err-listed_schema-clause-answers
returns-in_err-listed_schema-clause-answers g c clean was over many =
    let old = state g.S.Store c.args.db.now.idle.conn in
    let mid = state g.S.Store c.loop-index.db.idle.conn in
    let new = state g.S.Store c.listed_schema.new.db.idle.conn in
    let before = c.loop-index.invariant in
    let it = c.in_err-listed_schema.ensures in
    let early = clean_at old mid new it.rests clean in
    passed_on _ (IsFaultBy old new) c.from_residual.result c.in_err-listed_schema.field-0.0 c.from_residual.ensures.1
    (fault_of_all old mid new before.rests it.rests clean _ (it.answers clean was (spell_on old mid before.rests early was over) (has_text was.registry.schemas c.loop-index.index (omega arith))))

pub returns-clause-answers : goal.returns-clause-answers
returns-clause-answers g c clean was over many =
    let all : length (schema_lines was.registry.schemas) ≤ c.loop-index.index = omega (arith, length-schema_lines was.registry.schemas) in
    c.loop-index.invariant.read clean was over many ∙ take_all c.loop-index.index (schema_lines was.registry.schemas) all
