use Rattle.std.proofs.Common.{◌∙◌, refl, sym, subst, arith, rules}
use Rattle.std.specs.Prelude.{All}
use Rattle.std.proofs.lemmas.List.{take_all}
use Rattle.std.proofs.lemmas.List.Elements.{All-nil}
use Rattle.sqlite.specs.Held.{state}
use Rattle.avro_nodes.specs.Nodes.{nodes_view}
use Rattle.reg_core.specs.Evidence.{IsCompatibleWith}
use Rattle.reg_store.proofs.AuditLemmas.{named_at, more_here, one_here}
use Rattle.reg_store.proofs.NextLineLemmas.{all_taken}
use Rattle.reg_store.proofs.ReadLemmas.{clean_at, may_both, may_go_on, may_stop, opened_by, unread}
use Rattle.reg_store.proofs.store.auditing.is_compatible_with_all.Goals as goal

pub loop-index-init : goal.loop-index-init
loop-index-init g c = record {
  so_far = unread c.args.db.now (λ was one had. All-nil (IsCompatibleWith was.registry.schemas c.args.level (nodes_view c.args.new.now)));
  was_open = λ low clean. absurd (omega (arith, low));
}

pub loop-index-preserved : goal.loop-index-preserved
loop-index-preserved g c =
    let before = c.loop-index.invariant in
    let id = c.in_ok-id.ensures in
    let goes = c.in_ok-is_compatible_with_id.ensures in
    record {
      so_far = may_go_on (may_both before.so_far id.may) goes.may (λ was over found goes one had.
          more_here (IsCompatibleWith was.registry.schemas c.args.level (nodes_view c.args.new.now)) one.against c.loop-index.index c.in-Some.id
          (sym (named_at was c.args.row.now.0 one c.loop-index.index had) ∙ sym (rw c.in-Some.is at found.1))
          (found.0 one had) (goes.0 (search rules)));
      was_open = λ low clean. opened_by before.so_far id (clean_at (state g.S.Store c.loop-index.db.idle.conn) (state g.S.Store c.evidence_id.new.db.idle.conn) (state g.S.Store c.is_compatible_with_id.new.db.idle.conn) goes.may.rests clean);
    }

pub returns-in_err-id : goal.returns-in_err-id
returns-in_err-id g c = may_stop c.loop-index.invariant.so_far c.in_err-id.ensures.may c.from_residual.ensures.1

pub returns-in_default : goal.returns-in_default
returns-in_default g c =
    may_go_on c.loop-index.invariant.so_far c.in_ok-id.ensures.may (λ was over before found one had.
    let none = sym (rw c.in_default.is at found) in
    (λ _. subst (All (IsCompatibleWith was.registry.schemas c.args.level (nodes_view c.args.new.now))) (all_taken one.against c.loop-index.index (sym none ∙ named_at was c.args.row.now.0 one c.loop-index.index had)) (before one had), λ _. refl))

pub returns-in_err-is_compatible_with_id : goal.returns-in_err-is_compatible_with_id
returns-in_err-is_compatible_with_id g c = may_stop (may_both c.loop-index.invariant.so_far c.in_ok-id.ensures.may) c.in_err-is_compatible_with_id.ensures.may c.from_residual-in_err-is_compatible_with_id.ensures.1

pub returns-then-not-branch : goal.returns-then-not-branch
returns-then-not-branch g c =
    may_go_on (may_both c.loop-index.invariant.so_far c.in_ok-id.ensures.may) c.in_ok-is_compatible_with_id.ensures.may (λ was over found goes one had. (
      λ h. absurd (cc),
      λ all. absurd (
          let said = goes.1 (one_here (IsCompatibleWith was.registry.schemas c.args.level (nodes_view c.args.new.now)) one.against c.loop-index.index c.in-Some.id
          (sym (named_at was c.args.row.now.0 one c.loop-index.index had) ∙ sym (rw c.in-Some.is at found.1)) all) in cc),
    ))

pub returns : goal.returns
returns g c =
    let it = c.loop-index.invariant in
    record {
      rests = it.so_far.rests;
      answers = λ clean was over one had.
          (let few = (over (it.was_open (omega arith) clean)).spells.spelled.evidence.few c.args.row.now.0 one had in
          (λ _. subst (All (IsCompatibleWith was.registry.schemas c.args.level (nodes_view c.args.new.now))) (take_all c.loop-index.index one.against (omega (arith, few))) (it.so_far.answers clean was over one had), λ _. refl));
    }
