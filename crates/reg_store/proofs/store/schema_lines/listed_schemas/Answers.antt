use Rattle.sqlite.specs.Held.{state}
use Rattle.reg_store.proofs.ReadLemmas.{fail, clean_at, fault_of_all, match_each, on_ok_each, rests_on, spell_on}
use Rattle.reg_store.proofs.store.schema_lines.listed_schemas.Goals as goal

pub returns-in_err-count : goal.returns-in_err-count
returns-in_err-count g c = fail c.in_err-count.ensures c.from_residual.ensures.1

pub returns : goal.returns
returns g c =
    let old = state g.S.Store c.args.db.now.idle.conn in
    let mid = state g.S.Store c.count.new.db.idle.conn in
    let new = state g.S.Store c.each_schema.new.db.idle.conn in
    let first = c.in_ok-count.ensures in
    let last = c.each_schema.ensures in
    record {
      may = record {
        rests = rests_on old mid new first.may.rests last.rests;
        answers = λ clean was over.
            (let early = clean_at old mid new last.rests clean in
            match_each c.each_schema.result (λ lines h. h) (fault_of_all old mid new first.may.rests last.rests clean)
            (last.answers clean was (spell_on old mid first.may.rests early was over) (first.may.answers early was over)));
      };
      was_open = λ clean. on_ok_each c.each_schema.result (first.was_open (clean_at old mid new last.rests clean));
    }
