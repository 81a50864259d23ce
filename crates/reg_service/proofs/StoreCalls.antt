-- Calls of a store, one after another.
use Rattle.std.proofs.Common.{◌≡◌, ◌≢◌, true, false, List, [], length, refl, ap, Option, None, Result, Ok, Err, Vec, Global, vec_len, sym, subst, ◌∙◌, arith}
use Rattle.std.specs.Prelude.{ℕ, ◌==◌, OnErr}
use Rattle.std.proofs.lemmas.Bool.{both_ways}
use Rattle.std.proofs.lemmas.Bool.Decides.{nat_tests}
use Rattle.std.proofs.lemmas.List.{nil_from_length}
use Rattle.sqlite.specs.State.{State}
use Rattle.avro_nodes.specs.Nodes.{NodeView}
use Rattle.reg_core.specs.declared.command.Command.{Command}
use Rattle.reg_core.specs.declared.decision.Change.{Change}
use Rattle.reg_core.specs.declared.decision.Decision.{Decision}
use Rattle.reg_core.specs.declared.decision.View.{View}
use Rattle.reg_core.specs.KeptReplies.{Kept}
use Rattle.reg_core.specs.Evidence.{HasOnlyVersions}
use Rattle.reg_core.specs.Stored.{Stored}
use Rattle.reg_core.specs.Views.{ChangesFit, IsDecisionInput, IsDecisionFor, schema_if_supported, evidence_after_changes}
use Rattle.reg_store.specs.declared.keep.Keep.{Keep}
use Rattle.reg_store.specs.Changes.{HoldsAfterChanges, stored_after_changes, stored_after_apply, with_reply}
use Rattle.reg_store.specs.Stores.{StillSpells}
use Rattle.reg_service.specs.Inside.Steps.{StepsTo, HoldsAfterCommand, IsDecisionOfStep}

-- what is always true is true if a result is an error
pub whatever_fails : {X E P : Type 0} (r : Result X E) → P → OnErr r P
whatever_fails (Ok x) p = tt
whatever_fails (Err e) p = p

pub on_then : (a b c : State) → StillSpells a b → StillSpells b c → StillSpells a c
on_then a b c f h was s = h was (f was s)

is_zero : (n : ℕ) → (n == 0) ≡ true → n ≡ 0
is_zero n e = grind (arith, nat_tests)

pub no_changes : (changes : Vec Change Global) → (vec_len changes == 0) ≡ true → changes.items ≡ []
no_changes changes e = nil_from_length changes.items (sym changes.ok.0 ∙ is_zero changes.len e)

pub some_changes : (changes : Vec Change Global) → (vec_len changes == 0) ≡ false → changes.items ≢ []
some_changes changes e none = both_ways _ e (ap (λ n. n == 0) (changes.ok.0 ∙ ap length none))

-- a consequence of what is true if a result is an error
pub fails_as : {X E P Q : Type 0} (r : Result X E) → (P → Q) → OnErr r P → OnErr r Q
fails_as (Ok x) f h = tt
fails_as (Err e) f h = f h

-- ---- decisions

-- on its inputs, a decision is the abstract machine's for the stored state
pub decided_for : (was : Stored) (command : Command) (schema : Option (List NodeView)) (view : View) (d : Decision) → IsDecisionFor command schema view d
    → IsDecisionInput was.registry command (schema_if_supported command schema) view → HasOnlyVersions was.registry was.evidence → IsDecisionOfStep was command d
decided_for was command schema view d decides ground owners = record {
  reply = decides.reply was.registry ground;
  steps = record {
    registry = decides.changes was.registry ground;
    evidence = decides.evidence was.registry ground was.evidence owners;
    read = λ read. ap (λ (l : List Change). evidence_after_changes l was.evidence) (decides.read read);
  };
  fit = decides.fit was.registry ground;
}

-- a consequence of what is true after changes
pub taken_as : {changes : List Change} {keep : Option Keep} {was : Stored} {P Q : Stored → Type 0} → ((now : Stored) → P now → Q now) → HoldsAfterChanges changes keep was P → HoldsAfterChanges changes keep was Q
taken_as {changes} {keep} {was} f taken = record { holds = f (stored_after_apply changes keep was) taken.holds; stays_true = taken.stays_true }

module _ (was : Stored) (command : Command) (d : Decision) (decided : IsDecisionOfStep was command d) where
  -- the changes of a decision fit the stored state
  pub fits : (changes : List Change) → changes ≡ d.changes.items → ChangesFit changes was.registry
  fits changes is = subst (λ (l : List Change). ChangesFit l was.registry) (sym is) decided.fit

  -- what is true after the changes and the reply is true after the command
  pub makes : (changes : List Change) (keep : Option Keep) (kept : Kept) (Holds : Stored → Type 0) → changes ≡ d.changes.items → HoldsAfterChanges changes keep was Holds → with_reply keep was.replies ≡ kept → HoldsAfterCommand was command kept Holds
  makes changes keep kept Holds is taken replies =
      let s : StepsTo was command (stored_after_changes changes was) = subst (λ (l : List Change). StepsTo was command (stored_after_changes l was)) (sym is) decided.steps in
      record {
        now = stored_after_apply changes keep was;
        steps = record { registry = s.registry; evidence = s.evidence; read = s.read };
        replies = replies;
        stays_true = taken.stays_true;
        holds = taken.holds;
      }

  -- without a change, what is true before the command is true after it
  pub makes_nothing : (Holds : Stored → Type 0) → d.changes.items ≡ [] → Holds was → HoldsAfterCommand was command was.replies Holds
  makes_nothing Holds none holds = makes [] None was.replies Holds (sym none) (record { holds = holds; stays_true = λ all. all }) refl
