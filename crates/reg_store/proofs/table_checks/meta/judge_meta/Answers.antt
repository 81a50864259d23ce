use Rattle.std.proofs.Common.{List, map, IsTrue, sym, ap, subst, ◌∙◌}
use Rattle.reg_rows.specs.Spelling.{Text, meta_pair}
use Rattle.reg_rows.specs.Meta.{layout_of}
use Rattle.reg_store.specs.Inside.TableChecks.{AreDistinct, is_meta_of, RequiresLayout}
use Rattle.reg_store.proofs.MetaLemmas.{judged}
use Rattle.reg_store.proofs.table_checks.meta.judge_meta.Goals as goal

pub returns : goal.returns
returns c =
    let Rows : List (Text × Text) → Type 0 = λ l. IsTrue (is_meta_of c.args.layout (map meta_pair l)) in
    let rows = c.deref-2.ensures.value ∙ c.in_ok-rows.ensures in
    let named = c.deref-3.ensures.value ∙ c.in_ok-rows.ensures in
    let rowids = c.deref_mut.ensures.value ∙ c.in_ok-rowids.ensures ∙ ap (map _) c.deref.ensures.value in
    judged c.args.layout c.args.lines.items c.layout_of.result c.pass_meta-passes.result c.require_layout.result (c.layout_of.ensures ∙ ap (λ l. layout_of (map meta_pair l)) named)
    (λ yes. let both = c.pass_meta-passes.ensures.0 yes in (subst AreDistinct rowids both.0, subst Rows rows both.1))
    (λ both. c.pass_meta-passes.ensures.1 (subst AreDistinct (sym rowids) both.0, subst Rows (sym rows) both.1))
    (subst (λ own. RequiresLayout own c.layout_of.result c.pass_meta-passes.result c.require_layout.result) c.number_of.ensures c.require_layout.ensures)
