use Rattle.std.proofs.lemmas.Bool.{both_ways}
use Rattle.sqlite.specs.Held.{state}
use Rattle.reg_store.proofs.CheckLemmas.{test_unread}
use Rattle.reg_store.specs.Failures.{HasDiskCause}
use Rattle.reg_store.proofs.Failing.{passed, disk_cause_anywhere}
use Rattle.reg_store.proofs.MetaLemmas.{other_unread, tells_meta, spelled_can_be_read, meta_tests, meta_number_of, meta_disk_cause, meta_other, views_tests, views_disk_cause, views_number, views_other}
use Rattle.reg_store.proofs.table_checks.meta.check_meta.Goals as goal

pub returns-in_err-lines-clause-tests : goal.returns-in_err-lines-clause-tests
returns-in_err-lines-clause-tests g c =
    test_unread g.S.Store c.args.db.now.idle.conn c.raw_meta.new.db.conn c.from_residual.result c.in_err-lines.field-0.0 (spelled_can_be_read c.args.layout (state g.S.Store c.args.db.now.idle.conn)) c.args.db.now.unlimited c.in_err-lines.ensures.lists.frame
    (λ clean can. c.in_err-lines.ensures.lists.fault clean (tells_meta (state g.S.Store c.args.db.now.idle.conn) can)) c.in_err-lines.ensures.lists.fault_or_unreadable c.from_residual.ensures.1

pub returns-in_err-lines-clause-other : goal.returns-in_err-lines-clause-other
returns-in_err-lines-clause-other g c clean =
    other_unread g.S.Store c.args.db.now.idle.conn c.raw_meta.new.db.conn c.args.layout c.from_residual.result c.in_err-lines.field-0.0 c.args.db.now.unlimited (c.in_err-lines.ensures.lists.fault clean) c.from_residual.ensures.1

pub returns-clause-tests : goal.returns-clause-tests
returns-clause-tests g c = meta_tests g.S.Store c.args.db.now.idle.conn c.raw_meta.new.db.conn c.args.layout c.in_ok-lines.lines c.in_ok-lines.lines.items c.in_ok-lines.ensures.lists.frame c.in_ok-lines.ensures.lists.listed c.judge_meta.result c.judge_meta.ensures

pub returns-clause-meta_number : goal.returns-clause-meta_number
returns-clause-meta_number g c = meta_number_of g.S.Store c.args.db.now.idle.conn c.raw_meta.new.db.conn c.args.layout c.in_ok-lines.lines c.in_ok-lines.lines.items c.in_ok-lines.ensures.lists.frame c.in_ok-lines.ensures.lists.listed (c.has_no_views.ensures.0 c.if-not-has_no_views.false) c.in_ok-lines.ensures.reads c.judge_meta.result c.judge_meta.ensures

pub returns-clause-other : goal.returns-clause-other
returns-clause-other g c = meta_other g.S.Store c.args.db.now.idle.conn c.raw_meta.new.db.conn c.args.layout c.in_ok-lines.lines c.in_ok-lines.lines.items c.in_ok-lines.ensures.lists.frame c.in_ok-lines.ensures.lists.listed c.judge_meta.result c.judge_meta.ensures

pub returns-in_err-lines-clause-disk_cause : goal.returns-in_err-lines-clause-disk_cause
returns-in_err-lines-clause-disk_cause g c clean =
    let old = state g.S.Store c.args.db.now.idle.conn in
    let new = state g.S.Store c.raw_meta.new.db.conn in
    passed (HasDiskCause old new) c.from_residual.result _ c.from_residual.ensures.1 (disk_cause_anywhere old new c.in_err-lines.field-0.0 c.args.db.now.unlimited (c.in_err-lines.ensures.fails clean))

pub returns-clause-disk_cause : goal.returns-clause-disk_cause
returns-clause-disk_cause g c clean = meta_disk_cause g.S.Store c.args.db.now.idle.conn c.raw_meta.new.db.conn c.args.layout c.in_ok-lines.lines c.in_ok-lines.lines.items c.in_ok-lines.ensures.lists.frame c.in_ok-lines.ensures.lists.listed c.judge_meta.result c.judge_meta.ensures

pub returns-then-not-has_no_views-clause-tests : goal.returns-then-not-has_no_views-clause-tests
returns-then-not-has_no_views-clause-tests g c = views_tests g.S.Store c.args.db.now.idle.conn c.reject.new.db.idle.conn c.args.layout (λ none. both_ways _ c.if-not-has_no_views.true (c.has_no_views.ensures.1 none)) c.reject.result c.reject.ensures.frame c.reject.ensures.fails

pub returns-then-not-has_no_views-clause-disk_cause : goal.returns-then-not-has_no_views-clause-disk_cause
returns-then-not-has_no_views-clause-disk_cause g c = views_disk_cause g.S.Store c.args.db.now.idle.conn c.reject.new.db.idle.conn c.args.layout (λ none. both_ways _ c.if-not-has_no_views.true (c.has_no_views.ensures.1 none)) c.reject.result c.reject.ensures.frame c.reject.ensures.fails

pub returns-then-not-has_no_views-clause-meta_number : goal.returns-then-not-has_no_views-clause-meta_number
returns-then-not-has_no_views-clause-meta_number g c = views_number g.S.Store c.args.db.now.idle.conn c.reject.new.db.idle.conn c.args.layout (λ none. both_ways _ c.if-not-has_no_views.true (c.has_no_views.ensures.1 none)) c.reject.result c.reject.ensures.frame c.reject.ensures.fails

pub returns-then-not-has_no_views-clause-other : goal.returns-then-not-has_no_views-clause-other
returns-then-not-has_no_views-clause-other g c = views_other g.S.Store c.args.db.now.idle.conn c.reject.new.db.idle.conn c.args.layout (λ none. both_ways _ c.if-not-has_no_views.true (c.has_no_views.ensures.1 none)) c.reject.result c.reject.ensures.frame c.reject.ensures.fails
