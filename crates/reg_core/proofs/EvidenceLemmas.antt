-- The evidence of versions after changes, and that it is true.
use Rattle.std.proofs.Common.{◌≡◌, ◌∙◌, ◌⊎◌, inl, inr, ℕ, Bool, true, false, cond, List, [], ◌∷◌, ◌++◌, map, refl, ap, sym, subst, true≢false}
use Rattle.std.specs.Prelude.{All, Option, None, Some, is_some, option_map}
use Rattle.std.specs.FinMap.{get, insert, get-insert, get-remove}
use Rattle.std.proofs.lemmas.List.Elements.{All-map}
use Rattle.std.proofs.lemmas.Option.{same_Some}
use Rattle.avro_nodes.specs.Nodes.{NodeView}
use Rattle.avro_nodes.specs.Identity.{identity}
use Rattle.avro_schema.specs.Texts.{IsSchema}
use Rattle.reg_core.specs.declared.level.Level.{Level}
use Rattle.reg_core.specs.declared.decision.Change.{Change}
use Rattle.reg_core.specs.declared.decision.Change.TheVariants as change
use Rattle.reg_core.specs.Compatibility.{Admits, Compatible, named_versions}
use Rattle.reg_core.specs.DeletionCommands.{as_deleted}
use Rattle.reg_core.specs.Evidence.{Evidence, EvidenceMap, HasOnlyVersions, IsCompatibleWith, IsTrueForSchema, next_evidence, kept_or_new, IsEvidenceUpdate}
use Rattle.reg_core.specs.Inside.Evidence.{AddsNoVersion, AddNoVersion, UpdateEvidence}
use Rattle.reg_core.specs.Registry.{Registry, IsRegistry, Row, RowKey, Schemas, Version, schema_at}
use Rattle.reg_core.specs.RegisterCommands.{level_in, schemas_with, id_for}
use Rattle.reg_core.specs.Rows.{rows_of, live_rows, schemas_of, id_of}
use Rattle.reg_core.specs.Views.{after_change, after_changes, evidence_after_change, evidence_after_changes}
use Rattle.reg_core.proofs.DeletedRows.{same_key, key_is, altered_at}
use Rattle.reg_core.proofs.IdLemmas.{schema_more}
use Rattle.reg_core.proofs.RegistryLemmas.{with_version-has_schema}
use Rattle.reg_core.proofs.RowLemmas.{All-mapped, row_order}
use Rattle.reg_core.proofs.Versions.{named-map}
use Rattle.reg_core.proofs.VersionVerdicts.{HasSchema, All-named, live-HasSchema, schema_or, schema_or-is, schemas_mapped}

-- ---- changes that add no version

-- at a key, the version and its evidence both stay, or both are gone
Stays : Option Version → Option Version → Option Evidence → Option Evidence → Type 0
Stays before after had has = ((is_some after ≡ is_some before) × (has ≡ had)) ⊎ ((after ≡ None) × (has ≡ None))

no_version : (o : Option Version) → is_some o ≡ false → o ≡ None
no_version None e = refl
no_version (Some version) e = absurd (true≢false e)

stays-joined : (a b c : Option Version) (x y z : Option Evidence) → Stays a b x y → Stays b c y z → Stays a c x z
unfolding Stays
stays-joined a b c x y z (inl p) (inl q) = inl (q.0 ∙ p.0, q.1 ∙ p.1)
stays-joined a b c x y z (inr p) (inl q) = inr (no_version c (q.0 ∙ ap is_some p.0), q.1 ∙ p.1)
stays-joined a b c x y z p (inr q) = inr q

is_some-altered : (b : Bool) (o : Option Version) → is_some (cond b (option_map as_deleted o) o) ≡ is_some o
is_some-altered true None = refl
is_some-altered true (Some version) = refl
is_some-altered false o = refl

-- each change that adds no version keeps or removes both
stays : (c : Change) → AddsNoVersion c → (g : Registry) (had : EvidenceMap) (key : RowKey) → Stays (get g.rows key) (get (after_change c g).rows key) (get had key) (get (evidence_after_change c had) key)
unfolding Stays
stays (change.SetGlobal level) none g had key = inl (refl, refl)
stays (change.SetLevel subject level) none g had key = inl (refl, refl)
stays (change.AddText id text) none g had key = inl (refl, refl)
stays (change.AddRow row evidence) none g had key = absurd none
stays (change.MarkDeleted subject version) none g had key =
    inl (ap is_some (altered_at g.rows (subject, version) as_deleted key) ∙ is_some-altered (same_key key (subject, version)) (get g.rows key), refl)
stays (change.Remove subject version) none g had key =
    by (same_key key (subject, version)) _ _ (get-remove row_order g.rows (subject, version) key) (get-remove row_order had (subject, version) key)
  where
    by : (b : Bool) (after : Option Version) (has : Option Evidence) → after ≡ cond b None (get g.rows key) → has ≡ cond b None (get had key) → ((is_some after ≡ is_some (get g.rows key)) × (has ≡ get had key)) ⊎ ((after ≡ None) × (has ≡ None))
    by true after has rows evidence = inr (rows, evidence)
    by false after has rows evidence = inl (ap is_some rows, evidence)
stays (change.DropLevel subject) none g had key = inl (refl, refl)
stays (change.SetGlobalMode mode) none g had key = inl (refl, refl)
stays (change.SetMode subject mode) none g had key = inl (refl, refl)
stays (change.DropMode subject) none g had key = inl (refl, refl)

-- the same for several changes in order
all_stay : (cs : List Change) → AddNoVersion cs → (g : Registry) (had : EvidenceMap) (key : RowKey) → Stays (get g.rows key) (get (after_changes cs g).rows key) (get had key) (get (evidence_after_changes cs had) key)
unfolding Stays
all_stay [] none g had key = inl (refl, refl)
all_stay (c ∷ cs) none g had key =
    stays-joined _ _ _ _ _ _ (stays c none.0 g had key) (all_stay cs none.1 (after_change c g) (evidence_after_change c had) key)

-- evidence that stays is what `kept_or_new` gives
kept : (before after : Option Version) (had : Option Evidence) (own : Evidence) → is_some after ≡ is_some before → (before ≡ None → had ≡ None) → had ≡ kept_or_new before after had own
kept None None had own same none = none refl
kept (Some version) None had own same none = absurd (true≢false (sym same))
kept None (Some after) had own same none = absurd (true≢false same)
kept (Some version) (Some after) had own same none = refl

-- changes that add no version update the evidence as they update the registry
pub add_none-tell : (cs : List Change) → AddNoVersion cs → (g : Registry) → UpdateEvidence cs g
unfolding Stays
add_none-tell cs none g had ok key = by (get (after_changes cs g).rows key) (all_stay cs none g had key)
  where
    by : (after : Option Version) → Stays (get g.rows key) after (get had key) (get (evidence_after_changes cs had) key)
        → get (evidence_after_changes cs had) key ≡ kept_or_new (get g.rows key) after (get had key) (next_evidence g key.0)
    by after (inl same) = same.1 ∙ kept (get g.rows key) after (get had key) (next_evidence g key.0) same.0 (ok key)
    by after (inr gone) = gone.1 ∙ sym (ap (λ (o : Option Version). kept_or_new (get g.rows key) o (get had key) (next_evidence g key.0)) gone.0)

-- ---- an added version

-- a new version with the subject's `next_evidence` updates the evidence as it updates the registry
pub added_becomes : (g : Registry) (row : Row) (evidence : Evidence) → get g.rows row.0 ≡ None → evidence ≡ next_evidence g row.0.0 → (had : EvidenceMap) → HasOnlyVersions g had
    → IsEvidenceUpdate g (record g { rows = insert g.rows row.0 row.1 }) had (insert had row.0 evidence)
added_becomes g row evidence absent named had ok key =
    get-insert row_order had row.0 evidence key
    ∙ (by (same_key key row.0) refl
    ∙ sym (ap (λ (o : Option Version). kept_or_new (get g.rows key) o (get had key) (next_evidence g key.0)) (get-insert row_order g.rows row.0 row.1 key)))
  where
    by : (b : Bool) → same_key key row.0 ≡ b → cond b (Some evidence) (get had key) ≡ kept_or_new (get g.rows key) (cond b (Some row.1) (get g.rows key)) (get had key) (next_evidence g key.0)
    by true same =
        let is = key_is key row.0 same in
        let own : evidence ≡ next_evidence g key.0 = named ∙ ap (λ (k : RowKey). next_evidence g k.0) (sym is) in
        ap Some own ∙ sym (ap (λ (o : Option Version). kept_or_new o (Some row.1) (get had key) (next_evidence g key.0)) (ap (get g.rows) is ∙ absent))
    by false same = kept (get g.rows key) (get g.rows key) (get had key) (next_evidence g key.0) refl (ok key)

-- ---- true evidence

-- true evidence stays true with more schemas
pub true-more : (schemas more : Schemas) (new : List NodeView) (evidence : Evidence) → IsTrueForSchema schemas new evidence → IsTrueForSchema (schemas ++ more) new evidence
true-more schemas more new evidence holds = λ k d l. let (earlier, there, goes) = holds k d l in (earlier, schema_more schemas more _ earlier there, goes)

pub true-with : (schemas : Schemas) (new : List NodeView) (evidence : Evidence) → IsTrueForSchema schemas new evidence → IsTrueForSchema (schemas_with schemas new) new evidence
true-with schemas new evidence holds = by (is_some (id_of schemas (identity new)))
  where
    by : (b : Bool) → IsTrueForSchema (cond b schemas (schemas ++ new ∷ [])) new evidence
    by true = holds
    by false = true-more schemas (new ∷ []) new evidence holds

is_compatible_with : (schemas : Schemas) (level : Level) (new : List NodeView) (row : Row) → HasSchema schemas row → Compatible level (schema_or schemas row) new → IsCompatibleWith schemas level new row.1.id
is_compatible_with schemas level new row (nodes, e) goes = (nodes, e, subst (λ (x : List NodeView). Compatible level x new) (schema_or-is schemas row nodes e) goes)

-- if the level admits a schema after the live versions, the subject's next evidence is true for it
pub admitted-true : (g : Registry) → IsRegistry g → (subject : List ℕ) (new : List NodeView) → Admits (level_in g subject) (schemas_of g.schemas (live_rows (rows_of g subject))) new → IsTrueForSchema g.schemas new (next_evidence g subject)
admitted-true g ok subject new admits =
    let level = level_in g subject in
    let rows = live_rows (rows_of g subject) in
    let has = live-HasSchema g ok subject in
    let goes = λ (earlier : List NodeView). Compatible level earlier new in
    let mapped : All goes (map (schema_or g.schemas) (named_versions level rows)) =
    subst (All goes) (ap (named_versions level) (schemas_mapped g.schemas rows has) ∙ named-map (schema_or g.schemas) level rows) admits in
    let each = All-mapped goes (schema_or g.schemas) (named_versions level rows) mapped in
    let there = All-named (HasSchema g.schemas) level rows has in
    All-map (IsCompatibleWith g.schemas level new) (λ (row : Row). row.1.id) (named_versions level rows) (λ k d l. is_compatible_with g.schemas level new _ (there k d l) (each k d l))

-- a new version has the sent schema
pub new_is : (g : Registry) (subject : List ℕ) (new nodes : List NodeView) → IsRegistry g → IsSchema new → schema_at (schemas_with g.schemas new) (id_for g.schemas new) ≡ Some nodes → new ≡ nodes
new_is g subject new nodes ok schema there = same_Some new nodes (sym (with_version-has_schema g subject new ok schema) ∙ there)
