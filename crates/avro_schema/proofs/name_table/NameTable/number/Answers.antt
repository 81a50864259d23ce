use Rattle.std.proofs.Common.{◌≡◌, length, sym, ◌∙◌}
use Rattle.avro_schema.specs.Inside.NameTables.{KeepsNumbers}
use Rattle.avro_schema.proofs.NameTableLemmas.{keeps_same, new_kept, new_same, still_below, still_differ}
use Rattle.avro_schema.proofs.name_table.NameTable.number.Goals as goal

pub returns-in-Some-clause-kept : goal.returns-in-Some-clause-kept
returns-in-Some-clause-kept c = keeps_same c.args.self.now

pub invariant_of-self-2 : goal.invariant_of-self-2
invariant_of-self-2 c =
    let t = c.args.self.now in
    let size : c.len-number.result ≡ length t.tables.items = c.len-number.ensures ∙ t.tables.ok.0 in
    record {
      below = still_below t.numbers c.insert.new.self t.tables.items c.push.new.self.items c.args.space.now c.in_ok-name.name c.len-number.result c.new.result t.below t.differ (sym c.in_default.ensures.value) size c.new.ensures.empty c.in_ok-push.ensures.items c.in_ok-name.ensures.ok c.insert.result c.insert.ensures.updates c.insert.ensures.err;
      differ = still_differ t.numbers c.insert.new.self t.tables.items c.push.new.self.items c.args.space.now c.in_ok-name.name c.len-number.result c.new.result t.below t.differ (sym c.in_default.ensures.value) size c.new.ensures.empty c.in_ok-push.ensures.items c.in_ok-name.ensures.ok c.insert.result c.insert.ensures.updates c.insert.ensures.err;
    }

pub returns-clause-kept : goal.returns-clause-kept
unfolding KeepsNumbers
returns-clause-kept c =
    let t = c.args.self.now in
    let size : c.len-number.result ≡ length t.tables.items = c.len-number.ensures ∙ t.tables.ok.0 in
    new_kept t.numbers c.insert.new.self t.tables.items c.push.new.self.items c.args.space.now c.in_ok-name.name c.len-number.result c.new.result t.below t.differ (sym c.in_default.ensures.value) size c.new.ensures.empty c.in_ok-push.ensures.items c.in_ok-name.ensures.ok c.in_ok-insert.ensures.updates

pub returns-clause-same : goal.returns-clause-same
returns-clause-same c =
    let t = c.args.self.now in
    let size : c.len-number.result ≡ length t.tables.items = c.len-number.ensures ∙ t.tables.ok.0 in
    new_same t.numbers c.insert.new.self t.tables.items c.push.new.self.items c.args.space.now c.in_ok-name.name c.len-number.result c.new.result t.below t.differ (sym c.in_default.ensures.value) size c.new.ensures.empty c.in_ok-push.ensures.items c.in_ok-name.ensures.ok c.in_ok-insert.ensures.updates
