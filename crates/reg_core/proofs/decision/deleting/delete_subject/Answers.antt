use Rattle.std.proofs.Common.{◌≡◌, ◌∙◌, ◌++◌, List, ℕ, Bool, true, false, map, sym, ap, subst}
use Rattle.std.specs.Prelude.{None, Some}
use Rattle.std.specs.Borrow.{Bor}
use Rattle.std.proofs.lemmas.Result.{IfOk-weaker}
use Rattle.std.proofs.lemmas.Simd.{map-map}
use Rattle.reg_core.specs.declared.decision.Change.{Change}
use Rattle.reg_core.specs.Inside.Deleting.{own_settings_dropped, subject_refusal, version_change}
use Rattle.reg_core.specs.Inside.Evidence.{AddNoVersion}
use Rattle.reg_core.specs.DeletionCommands.{numbers_reply}
use Rattle.reg_core.specs.Registry.{Registry, Row}
use Rattle.reg_core.specs.Replies.{ReplyView, IsCommandReply}
use Rattle.reg_core.specs.Rows.{live_rows, visible_rows}
use Rattle.reg_core.specs.Views.{after_changes, ChangesFit}
use Rattle.reg_core.proofs.DeletionChanges.{changes_of, changes_of-fit, changes_of-add_none}
use Rattle.reg_core.proofs.DeletionSteps.{subject_refused, subject_gone, subject_removed, all_shown}
use Rattle.reg_core.proofs.OwnReplies.{subject_refusal-fault}
use Rattle.reg_core.proofs.decision.deleting.delete_subject.Goals as goal

abbrev now : List (Bor Row) → List Row
now rows = map (λ (row : Bor Row). row.now) rows

-- the refusal by the collected versions is the refusal by the view's versions
in_view : {X : Type 0} (found : X) (test : List Row → List Row → X) (all rows live : List Row) → rows ≡ visible_rows true all → live ≡ live_rows all → found ≡ test rows live → found ≡ test all (live_rows all)
in_view found test all rows live are alive is = is ∙ (ap (λ (rs : List Row). test rs live) (are ∙ all_shown all) ∙ ap (test all) alive)

changes_seen : (permanent : Bool) (subject : List ℕ) (seen : List (Bor Row)) (rows : List Row) → now seen ≡ rows
    → map (λ (row : Bor Row). version_change permanent subject row.now.0.1) seen ++ own_settings_dropped permanent subject ≡ changes_of permanent subject rows ++ own_settings_dropped permanent subject
changes_seen permanent subject seen rows are =
    ap (λ (changes : List Change). changes ++ own_settings_dropped permanent subject)
    (sym (map-map (λ (row : Row). version_change permanent subject row.0.1) (λ (row : Bor Row). row.now) seen) ∙ ap (changes_of permanent subject) are)

pub returns-in-Some-clause-reply : goal.returns-in-Some-clause-reply
returns-in-Some-clause-reply c g schema input =
    let why = in_view (Some c.in-Some.code) (subject_refusal c.args.permanent) c.args.view.now.rows.items _ _
    (ap now c.deref-3.ensures.value ∙ (c.in_ok-rows.ensures ∙ ap (visible_rows true) c.deref.ensures.value)) (ap now c.deref-4.ensures.value ∙ (c.in_ok-live.ensures ∙ ap live_rows c.deref-2.ensures.value)) c.in-Some.ensures in
    c.unchanged.ensures.reply ∙ (c.fault.ensures
    ∙ ap (λ (s : Registry × ReplyView). s.1) (sym (subject_refused g c.args.subject.now c.args.permanent c.args.view.now schema input c.in-Some.code why)))

pub returns-in-Some-clause-changes : goal.returns-in-Some-clause-changes
returns-in-Some-clause-changes c g schema input =
    let why = in_view (Some c.in-Some.code) (subject_refusal c.args.permanent) c.args.view.now.rows.items _ _
    (ap now c.deref-3.ensures.value ∙ (c.in_ok-rows.ensures ∙ ap (visible_rows true) c.deref.ensures.value)) (ap now c.deref-4.ensures.value ∙ (c.in_ok-live.ensures ∙ ap live_rows c.deref-2.ensures.value)) c.in-Some.ensures in
    ap (λ (changes : List Change). after_changes changes g) c.unchanged.ensures.changes
    ∙ ap (λ (s : Registry × ReplyView). s.0) (sym (subject_refused g c.args.subject.now c.args.permanent c.args.view.now schema input c.in-Some.code why))

pub returns-in-Some-clause-own : goal.returns-in-Some-clause-own
returns-in-Some-clause-own c =
    subst IsCommandReply (sym (c.unchanged.ensures.reply ∙ c.fault.ensures)) (subject_refusal-fault c.args.permanent _ _ c.in-Some.code c.in-Some.ensures)

pub returns-then-permanent-clause-reply : goal.returns-then-permanent-clause-reply
returns-then-permanent-clause-reply c =
    let none = in_view None (subject_refusal true) c.args.view.now.rows.items _ _
    (ap now c.deref-3.ensures.value ∙ (c.in_ok-rows.ensures ∙ ap (visible_rows true) c.deref.ensures.value)) (ap now c.deref-4.ensures.value ∙ (c.in_ok-live.ensures ∙ ap live_rows c.deref-2.ensures.value))
    (rw c.if-permanent.true at c.in_default.ensures) in
    let rows : now c.deref-then-permanent.result.now ≡ c.args.view.now.rows.items =
    ap now c.deref-then-permanent.ensures.value ∙ (c.in_ok-rows.ensures ∙ ap (visible_rows true) c.deref.ensures.value) ∙ all_shown c.args.view.now.rows.items in
    rw c.if-permanent.true
    (IfOk-weaker c.delete_all.result _ _
    (λ decision h g schema input.
    h ∙ (ap numbers_reply rows ∙ ap (λ (s : Registry × ReplyView). s.1) (sym (subject_removed g c.args.subject.now c.args.view.now schema input none))))
    c.delete_all.ensures.reply)

pub returns-then-permanent-clause-changes : goal.returns-then-permanent-clause-changes
returns-then-permanent-clause-changes c =
    let none = in_view None (subject_refusal true) c.args.view.now.rows.items _ _
    (ap now c.deref-3.ensures.value ∙ (c.in_ok-rows.ensures ∙ ap (visible_rows true) c.deref.ensures.value)) (ap now c.deref-4.ensures.value ∙ (c.in_ok-live.ensures ∙ ap live_rows c.deref-2.ensures.value))
    (rw c.if-permanent.true at c.in_default.ensures) in
    let rows : now c.deref-then-permanent.result.now ≡ c.args.view.now.rows.items =
    ap now c.deref-then-permanent.ensures.value ∙ (c.in_ok-rows.ensures ∙ ap (visible_rows true) c.deref.ensures.value) ∙ all_shown c.args.view.now.rows.items in
    rw c.if-permanent.true
    (IfOk-weaker c.delete_all.result _ _
    (λ decision h g schema input.
    ap (λ (changes : List Change). after_changes changes g) (h ∙ changes_seen true c.args.subject.now c.deref-then-permanent.result.now _ rows)
    ∙ ap (λ (s : Registry × ReplyView). s.0) (sym (subject_removed g c.args.subject.now c.args.view.now schema input none)))
    c.delete_all.ensures.changes)

pub returns-then-permanent-clause-fit : goal.returns-then-permanent-clause-fit
returns-then-permanent-clause-fit c =
    IfOk-weaker c.delete_all.result _ _
    (λ decision h g. subst (λ (changes : List Change). ChangesFit changes g) (sym (h ∙ changes_seen true c.args.subject.now c.deref-then-permanent.result.now _ (λ i. now c.deref-then-permanent.result.now))) (changes_of-fit true c.args.subject.now (now c.deref-then-permanent.result.now) g))
    c.delete_all.ensures.changes

pub returns-clause-reply : goal.returns-clause-reply
returns-clause-reply c =
    let none = in_view None (subject_refusal false) c.args.view.now.rows.items _ _
    (ap now c.deref-3.ensures.value ∙ (c.in_ok-rows.ensures ∙ ap (visible_rows true) c.deref.ensures.value)) (ap now c.deref-4.ensures.value ∙ (c.in_ok-live.ensures ∙ ap live_rows c.deref-2.ensures.value))
    (rw c.if-permanent.false at c.in_default.ensures) in
    let live : now c.deref-else-permanent.result.now ≡ live_rows c.args.view.now.rows.items =
    ap now c.deref-else-permanent.ensures.value ∙ (c.in_ok-live.ensures ∙ ap live_rows c.deref-2.ensures.value) in
    rw c.if-permanent.false
    (IfOk-weaker c.delete_all-else-permanent.result _ _
    (λ decision h g schema input.
    h ∙ (ap numbers_reply live ∙ ap (λ (s : Registry × ReplyView). s.1) (sym (subject_gone g c.args.subject.now c.args.view.now schema input none))))
    c.delete_all-else-permanent.ensures.reply)

pub returns-clause-changes : goal.returns-clause-changes
returns-clause-changes c =
    let none = in_view None (subject_refusal false) c.args.view.now.rows.items _ _
    (ap now c.deref-3.ensures.value ∙ (c.in_ok-rows.ensures ∙ ap (visible_rows true) c.deref.ensures.value)) (ap now c.deref-4.ensures.value ∙ (c.in_ok-live.ensures ∙ ap live_rows c.deref-2.ensures.value))
    (rw c.if-permanent.false at c.in_default.ensures) in
    let live : now c.deref-else-permanent.result.now ≡ live_rows c.args.view.now.rows.items =
    ap now c.deref-else-permanent.ensures.value ∙ (c.in_ok-live.ensures ∙ ap live_rows c.deref-2.ensures.value) in
    rw c.if-permanent.false
    (IfOk-weaker c.delete_all-else-permanent.result _ _
    (λ decision h g schema input.
    ap (λ (changes : List Change). after_changes changes g) (h ∙ changes_seen false c.args.subject.now c.deref-else-permanent.result.now _ live)
    ∙ ap (λ (s : Registry × ReplyView). s.0) (sym (subject_gone g c.args.subject.now c.args.view.now schema input none)))
    c.delete_all-else-permanent.ensures.changes)

pub returns-clause-fit : goal.returns-clause-fit
returns-clause-fit c =
    IfOk-weaker c.delete_all-else-permanent.result _ _
    (λ decision h g. subst (λ (changes : List Change). ChangesFit changes g) (sym (h ∙ changes_seen false c.args.subject.now c.deref-else-permanent.result.now _ (λ i. now c.deref-else-permanent.result.now))) (changes_of-fit false c.args.subject.now (now c.deref-else-permanent.result.now) g))
    c.delete_all-else-permanent.ensures.changes

pub returns-then-permanent-clause-adds_no_version : goal.returns-then-permanent-clause-adds_no_version
returns-then-permanent-clause-adds_no_version c =
    IfOk-weaker c.delete_all.result _ _
    (λ decision h. subst AddNoVersion (sym (h ∙ changes_seen true c.args.subject.now c.deref-then-permanent.result.now _ (λ i. now c.deref-then-permanent.result.now))) (changes_of-add_none true c.args.subject.now (now c.deref-then-permanent.result.now)))
    c.delete_all.ensures.changes

pub returns-clause-adds_no_version : goal.returns-clause-adds_no_version
returns-clause-adds_no_version c =
    IfOk-weaker c.delete_all-else-permanent.result _ _
    (λ decision h. subst AddNoVersion (sym (h ∙ changes_seen false c.args.subject.now c.deref-else-permanent.result.now _ (λ i. now c.deref-else-permanent.result.now))) (changes_of-add_none false c.args.subject.now (now c.deref-else-permanent.result.now)))
    c.delete_all-else-permanent.ensures.changes
