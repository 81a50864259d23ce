-- Evidence stays true under each change of a registry.
use Rattle.std.proofs.Common.{◌≡◌, ◌∙◌, ◌++◌, Bool, true, false, cond, List, [], ◌∷◌, ap, sym, subst}
use Rattle.std.specs.Prelude.{Option, None, Some, option_to_list}
use Rattle.std.specs.FinMap.{get, insert, remove, get-insert, get-remove}
use Rattle.std.proofs.lemmas.Option.{none-some, same_Some}
use Rattle.avro_nodes.specs.Nodes.{NodeView}
use Rattle.avro_schema.specs.DenotedNodes.{denoted_nodes}
use Rattle.reg_core.specs.declared.decision.Change.{Change}
use Rattle.reg_core.specs.declared.decision.Change.TheVariants as change
use Rattle.reg_core.specs.Additions.{IsRetained}
use Rattle.reg_core.specs.Evidence.{Evidence, EvidenceMap, IsTrueForSchema, IsTrueEvidence}
use Rattle.reg_core.specs.Registry.{Registry, IsRegistry, Row, RowKey, Schemas, Version, schema_at}
use Rattle.reg_core.specs.Stored.{Stored}
use Rattle.reg_core.specs.Views.{ChangeFits, ChangesFit, IsNewEvidence, after_change, after_changes, evidence_after_change, evidence_after_changes}
use Rattle.reg_core.proofs.DeletedRows.{same_key}
use Rattle.reg_core.proofs.DeletionLemmas.{altered_was, removed_was}
use Rattle.reg_core.proofs.EvidenceLemmas.{true-more}
use Rattle.reg_core.proofs.IdLemmas.{schema_more}
use Rattle.reg_core.proofs.RegistryLemmas.{change_fits-IsRegistry}
use Rattle.reg_core.proofs.RowLemmas.{row_order, row_schema}
use Rattle.reg_store.specs.declared.keep.Keep.{Keep}
use Rattle.reg_store.specs.Changes.{HoldsAfterChanges, stored_after_apply}

module _ (g : Registry) (had : EvidenceMap) (holds : IsTrueEvidence g had) where
  -- a new schema changes nothing, since each version has its schema already
  true_with_more : IsRegistry g → (more : Schemas) → IsTrueEvidence (record g { schemas = g.schemas ++ more }) had
  true_with_more ok more key version one nodes there is schema =
      let (before, had_schema) = row_schema g.schemas key version (ok.rows key version there) in
      let same : before ≡ nodes = same_Some before nodes (sym (schema_more g.schemas more version.id before had_schema) ∙ schema) in
      subst (λ (x : List NodeView). IsTrueForSchema (g.schemas ++ more) x one) same (true-more g.schemas more before one (holds key version one before there is had_schema))

  -- a new version has true evidence
  true_with_row : (row : Row) (own : Evidence) → IsNewEvidence g row own → IsTrueEvidence (record g { rows = insert g.rows row.0 row.1 }) (insert had row.0 own)
  true_with_row row own new key version one nodes there is schema =
      by (same_key key row.0) (sym (get-insert row_order g.rows row.0 row.1 key) ∙ there) (sym (get-insert row_order had row.0 own key) ∙ is)
    where
      by : (b : Bool) → cond b (Some row.1) (get g.rows key) ≡ Some version → cond b (Some own) (get had key) ≡ Some one → IsTrueForSchema g.schemas nodes one
      by true here its =
          subst (IsTrueForSchema g.schemas nodes) (same_Some own one its) (new.holds nodes (ap (λ (x : Version). schema_at g.schemas x.id) (same_Some row.1 version here) ∙ schema))
      by false here its = holds key version one nodes here its schema

  true_of_was : (key : RowKey) (version : Version) (one : Evidence) (nodes : List NodeView) → IsRetained g.rows key version → get had key ≡ Some one → schema_at g.schemas version.id ≡ Some nodes → IsTrueForSchema g.schemas nodes one
  true_of_was key version one nodes was is schema = holds key was.old one nodes was.there is (ap (schema_at g.schemas) (sym was.same) ∙ schema)

  left_had : (gone key : RowKey) (one : Evidence) → get (remove had gone) key ≡ Some one → get had key ≡ Some one
  left_had gone key one is = by (same_key key gone) (sym (get-remove row_order had gone key) ∙ is)
    where
      by : (b : Bool) → cond b None (get had key) ≡ Some one → get had key ≡ Some one
      by true none = absurd (none-some one none)
      by false there = there

change_stays_true : (c : Change) (g : Registry) (had : EvidenceMap) → IsRegistry g → ChangeFits c g → IsTrueEvidence g had → IsTrueEvidence (after_change c g) (evidence_after_change c had)
change_stays_true (change.SetGlobal level) g had ok fits holds = holds
change_stays_true (change.SetLevel subject level) g had ok fits holds = holds
change_stays_true (change.AddText id text) g had ok fits holds = true_with_more g had holds ok (option_to_list (denoted_nodes text))
change_stays_true (change.AddRow row own) g had ok fits holds = true_with_row g had holds row own fits.1
change_stays_true (change.MarkDeleted subject version) g had ok fits holds =
    λ key v one nodes there is schema. true_of_was g had holds key v one nodes (altered_was g.rows (subject, version) key v there) is schema
change_stays_true (change.Remove subject version) g had ok fits holds =
    λ key v one nodes there is schema. true_of_was g had holds key v one nodes (removed_was g.rows (subject, version) key v there) (left_had g had holds (subject, version) key one is) schema
change_stays_true (change.DropLevel subject) g had ok fits holds = holds
change_stays_true (change.SetGlobalMode mode) g had ok fits holds = holds
change_stays_true (change.SetMode subject mode) g had ok fits holds = holds
change_stays_true (change.DropMode subject) g had ok fits holds = holds

changes_stay_true : (cs : List Change) (g : Registry) (had : EvidenceMap) → IsRegistry g → ChangesFit cs g → IsTrueEvidence g had → IsTrueEvidence (after_changes cs g) (evidence_after_changes cs had)
changes_stay_true [] g had ok fit holds = holds
changes_stay_true (c ∷ cs) g had ok fit holds =
    changes_stay_true cs (after_change c g) (evidence_after_change c had) (change_fits-IsRegistry c g ok fit.0) fit.1 (change_stays_true c g had ok fit.0 holds)

pub taken : (changes : List Change) (keep : Option Keep) (was : Stored) (Holds : Stored → Type 0) → IsRegistry was.registry → ChangesFit changes was.registry → Holds (stored_after_apply changes keep was) → HoldsAfterChanges changes keep was Holds
taken changes keep was Holds ok fit holds = record { holds = holds; stays_true = changes_stay_true changes was.registry was.evidence ok fit }
