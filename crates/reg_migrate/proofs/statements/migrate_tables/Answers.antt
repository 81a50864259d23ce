use Rattle.std.proofs.Common.{◌∙◌, sym}
use Rattle.std.proofs.lemmas.Bool.{both_ways}
use Rattle.sqlite.specs.Held.{state}
use Rattle.reg_tables.specs.Layout.{layout_one, layout_one_unindexed}
use Rattle.reg_tables.proofs.Transactions.{if_err, on_ok}
use Rattle.reg_migrate.proofs.Layouts.{fails_either, holds_under, is_indexed, migrates_both, one_of_two}
use Rattle.reg_migrate.proofs.statements.migrate_tables.Goals as goal

pub returns-then-lacks_index-clause-fault : goal.returns-then-lacks_index-clause-fault
returns-then-lacks_index-clause-fault g c clean =
    let first = state g.S.Store c.args.tx.now.conn.now in
    fails_either first (state g.S.Store c.migrate_unindexed.new.tx.conn.now) c.migrate_unindexed.result (c.migrate_unindexed.ensures.frame.shut clean)
    (if_err c.migrate_unindexed.result (λ e failed it. failed it.contents (holds_under layout_one_unindexed first.now (c.requires.known.0 c.if-lacks_index.true) it)) (c.migrate_unindexed.ensures.fault clean))

pub returns-else-lacks_index-clause-fault : goal.returns-else-lacks_index-clause-fault
returns-else-lacks_index-clause-fault g c clean =
    let first = state g.S.Store c.args.tx.now.conn.now in
    fails_either first (state g.S.Store c.extend.new.tx.conn.now) c.extend.result (c.extend.ensures.frame.shut clean)
    (if_err c.extend.result (λ e failed it.
    failed it.contents (holds_under layout_one first.now (is_indexed first.now (λ lacks. both_ways c.args.lacks_index c.if-lacks_index.false (c.requires.known.1 lacks)) it) it)) (c.extend.ensures.fault clean))

pub returns-then-lacks_index-clause-migrated : goal.returns-then-lacks_index-clause-migrated
returns-then-lacks_index-clause-migrated g c clean =
    let first = state g.S.Store c.args.tx.now.conn.now in
    on_ok c.migrate_unindexed.result (λ moves. migrates_both layout_one_unindexed first.now (state g.S.Store c.migrate_unindexed.new.tx.conn.now).now
    (λ other known is. sym is ∙ c.requires.known.0 c.if-lacks_index.true) moves) (c.migrate_unindexed.ensures.made clean)

pub returns-else-lacks_index-clause-migrated : goal.returns-else-lacks_index-clause-migrated
returns-else-lacks_index-clause-migrated g c clean =
    let first = state g.S.Store c.args.tx.now.conn.now in
    on_ok c.extend.result (λ moves. migrates_both layout_one first.now (state g.S.Store c.extend.new.tx.conn.now).now
    (λ other known is. one_of_two other known (λ lacks. both_ways c.args.lacks_index c.if-lacks_index.false (c.requires.known.1 (is ∙ lacks)))) moves) (c.extend.ensures.made clean)
