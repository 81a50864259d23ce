-- Tables spell at most one stored state.
use Rattle.std.proofs.Common.{◌≡◌, inl, ℕ, zero, suc, List, [], ◌∷◌, Option, Some, None, codes, refl, sym, ap, subst, ◌∙◌}
use Rattle.std.specs.Prelude.{All, slice_get, option_map, option_and_then}
use Rattle.std.specs.FinMap.{get, same_map}
use Rattle.std.proofs.lemmas.List.Elements.{All-head, All-tail}
use Rattle.std.proofs.lemmas.Option.{none-some, same_Some}
use Rattle.sqlite.specs.Order.{Row}
use Rattle.sqlite.specs.Effect.{Database}
use Rattle.sqlite.specs.Schema.{Schema}
use Rattle.avro_nodes.specs.Identity.{identity}
use Rattle.avro_schema.specs.DenotedNodes.{denoted_nodes}
use Rattle.avro_schema.specs.Texts.{IsSchema}
use Rattle.reg_core.specs.declared.level.Level.{Level}
use Rattle.reg_core.specs.declared.mode.Mode.{Mode}
use Rattle.reg_core.specs.Evidence.{Evidence, EvidenceMap}
use Rattle.reg_core.specs.KeptReplies.{KeptEntry, Kept}
use Rattle.reg_core.specs.Levels.{level_of, level_text}
use Rattle.reg_core.specs.Modes.{mode_of, mode_text}
use Rattle.reg_core.specs.Registry.{Registry, Schemas, Rows, OwnLevels, OwnModes, Version}
use Rattle.reg_core.specs.Stored.{Stored}
use Rattle.reg_core.proofs.RegistryLemmas.{identity_denoted}
use Rattle.reg_tables.specs.Contents.{TableName, Texts, Versions, Levels, Kept as KeptReplies, Meta, Modes, Evidence as EvidenceTable, Against, KeyOf, HasTable, form_of, map_of, text_cmp, VersionEntryView, KeptReplyView, Contents, HoldsContents}
use Rattle.reg_tables.specs.Layout.{HasFiveTables, HasEightTables}
use Rattle.reg_tables.specs.TableMaps.{RowForm, ShowsMap}
use Rattle.reg_tables.proofs.KeyedTables.{text_order, version_order}
use Rattle.reg_tables.proofs.Keys.{key_laws}
use Rattle.reg_tables.proofs.MapLemmas.{get-insert-same}
use Rattle.reg_tables.proofs.Statements.{one_has_five}
use Rattle.reg_tables.proofs.Tables.{shown_by, eight_has_five, openable_has_eight}
use Rattle.reg_store.specs.Spells.{IsSpelled, IsSpelledEvidence, IsSpelledLayoutOne, IsSpelledLayoutTwo, SpellsIn, Spells, SpellsUnopened, SpellsLayoutOne, id_at, stored_reply, stored_version}
use Rattle.reg_store.proofs.ReadBack.{level_of-level_text, mode_of-mode_text, global_is, global_mode_is}

-- ---- the rows of a table show one map

module _ {K V : Type 0} (form : RowForm K V) (distinct : (a b : K) → form.key_cells a ≡ form.key_cells b → a ≡ b) (distinct_values : (v w : V) → form.value_cells v ≡ form.value_cells w → v ≡ w) (rows : List Row) where
  found_in : (one other : K → Option V) → ShowsMap form rows one → ShowsMap form rows other → (k : K) (v : V) → one k ≡ Some v → other k ≡ Some v
  found_in one other p q k v is =
      let row = p.complete k v is in
      let it = q.sound row.0 row.1 in
      let key : it.0 ≡ k = distinct it.0 k (sym it.3.0 ∙ row.2.0) in
      let value : it.1 ≡ v = distinct_values it.1 v (sym it.3.1 ∙ row.2.1) in
      ap other (sym key) ∙ it.2 ∙ ap Some value

  one_map : (one other : K → Option V) → ShowsMap form rows one → ShowsMap form rows other → (k : K) → one k ≡ other k
  one_map one other p q k = go (one k) (other k) refl refl
    where
      go : (a b : Option V) → one k ≡ a → other k ≡ b → one k ≡ other k
      go (Some v) b is there = is ∙ sym (found_in one other p q k v is)
      go None None is there = is ∙ sym there
      go None (Some w) is there = absurd (none-some w (sym is ∙ found_in other one q p k w there))

module _ {schema : Schema} {db : Database} {one other : Contents} (p : HoldsContents schema db one) (q : HoldsContents schema db other) where
  same_in : (name : TableName) → HasTable name schema → (k : KeyOf name) → get (map_of name one) k ≡ get (map_of name other) k
  same_in name known = one_map (form_of name) (key_laws name).distinct (key_laws name).distinct_values _ (get (map_of name one)) (get (map_of name other)) (shown_by p name known) (shown_by q name known)

-- ---- what is written differs if it is written differently

same_written : {V W : Type 0} (write : V → W) → ((v w : V) → write v ≡ write w → v ≡ w) → (a b : Option V) → option_map write a ≡ option_map write b → a ≡ b
same_written write distinct None None e = refl
same_written write distinct None (Some w) e = absurd (none-some (write w) e)
same_written write distinct (Some v) None e = absurd (none-some (write v) (sym e))
same_written write distinct (Some v) (Some w) e = ap Some (distinct v w (same_Some (write v) (write w) e))

one_level : (a b : Level) → level_text a ≡ level_text b → a ≡ b
one_level a b e = same_Some a b (sym (level_of-level_text a) ∙ ap level_of e ∙ level_of-level_text b)

one_mode : (a b : Mode) → mode_text a ≡ mode_text b → a ≡ b
one_mode a b e = same_Some a b (sym (mode_of-mode_text a) ∙ ap mode_of e ∙ mode_of-mode_text b)

one_version : (a b : Version) → stored_version a ≡ stored_version b → a ≡ b
one_version a b e =
    let id : a.id ≡ b.id = ap (λ (r : VersionEntryView). r.id) e in
    let deleted : a.deleted ≡ b.deleted = ap (λ (r : VersionEntryView). r.deleted) e in
    λ i. record { id = id i; deleted = deleted i }

one_entry : (a b : KeptEntry) → stored_reply a ≡ stored_reply b → a ≡ b
one_entry a b e =
    let command : a.command ≡ b.command = ap (λ (r : KeptReplyView). r.command) e in
    let status : a.reply.status ≡ b.reply.status = ap (λ (r : KeptReplyView). r.status) e in
    let body : a.reply.body ≡ b.reply.body = ap (λ (r : KeptReplyView). r.body) e in
    λ i. record { command = command i; reply = record { status = status i; body = body i } }

same_items : {A : Type 0} (xs ys : List A) → ((n : ℕ) → slice_get xs n ≡ slice_get ys n) → xs ≡ ys
same_items [] [] e = refl
same_items [] (y ∷ ys) e = absurd (none-some y (e zero))
same_items (x ∷ xs) [] e = absurd (none-some x (sym (e zero)))
same_items (x ∷ xs) (y ∷ ys) e =
    let first : x ≡ y = same_Some x y (e zero) in
    let rest : xs ≡ ys = same_items xs ys (λ n. e (suc n)) in
    λ i. first i ∷ rest i

one_evidence : (a b : Option Evidence) → option_map (λ (one : Evidence). level_text one.level) a ≡ option_map (λ (one : Evidence). level_text one.level) b → ((n : ℕ) → option_and_then (id_at n) a ≡ option_and_then (id_at n) b) → a ≡ b
one_evidence None None e ids = refl
one_evidence None (Some b) e ids = absurd (none-some (level_text b.level) e)
one_evidence (Some a) None e ids = absurd (none-some (level_text a.level) (sym e))
one_evidence (Some a) (Some b) e ids =
    let level : a.level ≡ b.level = one_level a.level b.level (same_Some (level_text a.level) (level_text b.level) e) in
    let against : a.against ≡ b.against = same_items a.against b.against (λ n. ids (suc n)) in
    λ i. Some (record { level = level i; against = against i })

one_list : (xs ys : Schemas) → All IsSchema xs → All IsSchema ys → ((n : ℕ) → option_map identity (slice_get xs n) ≡ option_map identity (slice_get ys n)) → xs ≡ ys
one_list [] [] p q e = refl
one_list [] (y ∷ ys) p q e = absurd (none-some (identity y) (e zero))
one_list (x ∷ xs) [] p q e = absurd (none-some (identity x) (sym (e zero)))
one_list (x ∷ xs) (y ∷ ys) p q e =
    let first : x ≡ y = same_Some x y (sym (identity_denoted x (All-head IsSchema x xs p)) ∙ ap denoted_nodes (same_Some (identity x) (identity y) (e zero)) ∙ identity_denoted y (All-head IsSchema y ys q)) in
    let rest : xs ≡ ys = one_list xs ys (All-tail IsSchema x xs p) (All-tail IsSchema y ys q) (λ n. e (suc n)) in
    λ i. first i ∷ rest i

-- ---- the tables with the same rules in both layouts

module _ {schema : Schema} {db : Database} {c d : Contents} (p : HoldsContents schema db c) (q : HoldsContents schema db d) (first : HasFiveTables schema)
    {g h : Registry} {k l : Kept} (s : IsSpelled c g k) (t : IsSpelled d h l) where
  one_schemas : g.schemas ≡ h.schemas
  one_schemas = one_list g.schemas h.schemas s.registry.schemas t.registry.schemas (λ n. sym (s.texts (suc n)) ∙ same_in p q Texts first (suc n) ∙ t.texts (suc n))

  one_rows : g.rows ≡ h.rows
  one_rows = same_map version_order.total version_order.antisymmetric g.rows h.rows (λ key. same_written stored_version one_version _ _ (sym (s.versions key) ∙ same_in p q Versions first key ∙ t.versions key))

  one_own : g.own ≡ h.own
  one_own =
      let each = λ (subject : List ℕ). same_written level_text one_level (g.own subject) (h.own subject) (sym (s.levels subject) ∙ same_in p q Levels first subject ∙ t.levels subject) in
      λ i subject. each subject i

  one_kept : k ≡ l
  one_kept =
      let each = λ (key : List ℕ). same_written stored_reply one_entry (k key) (l key) (sym (s.kept key) ∙ same_in p q KeptReplies first key ∙ t.kept key) in
      λ i key. each key i

-- ---- each layout

module _ {schema : Schema} {db : Database} {c d : Contents} (p : HoldsContents schema db c) (q : HoldsContents schema db d) (eight : HasEightTables schema) {a b : Stored} (s : IsSpelledLayoutTwo c a) (t : IsSpelledLayoutTwo d b) where
  first_five : HasFiveTables schema
  first_five = eight_has_five schema eight

  one_global : a.registry.global ≡ b.registry.global
  one_global = one_level _ _ (same_Some _ _ (sym (global_is c a s) ∙ same_in p q Meta first_five (codes "global") ∙ global_is d b t))

  one_global_mode : a.registry.global_mode ≡ b.registry.global_mode
  one_global_mode = one_mode _ _ (same_Some _ _ (sym (global_mode_is c a s) ∙ same_in p q Meta first_five (codes "mode") ∙ global_mode_is d b t))

  one_own_modes : a.registry.own_modes ≡ b.registry.own_modes
  one_own_modes =
      let each = λ (subject : List ℕ). same_written mode_text one_mode (a.registry.own_modes subject) (b.registry.own_modes subject) (sym (s.modes subject) ∙ same_in p q Modes eight subject ∙ t.modes subject) in
      λ i subject. each subject i

  one_evidence_map : a.evidence ≡ b.evidence
  one_evidence_map = same_map version_order.total version_order.antisymmetric a.evidence b.evidence (λ key.
      one_evidence (get a.evidence key) (get b.evidence key) (sym (s.evidence.levels key) ∙ same_in p q EvidenceTable eight key ∙ t.evidence.levels key)
      (λ n. sym (s.evidence.ids (key, n)) ∙ same_in p q Against eight (key, n) ∙ t.evidence.ids (key, n)))

  one_in_layout_two : a ≡ b
  one_in_layout_two =
      let schemas = one_schemas p q first_five s.base t.base in
      let rows = one_rows p q first_five s.base t.base in
      let own = one_own p q first_five s.base t.base in
      let replies = one_kept p q first_five s.base t.base in
      λ i. record {
        registry = record { schemas = schemas i; rows = rows i; global = one_global i; own = own i; global_mode = one_global_mode i; own_modes = one_own_modes i };
        replies = replies i;
        evidence = one_evidence_map i;
      }

module _ {schema : Schema} {db : Database} {c d : Contents} (p : HoldsContents schema db c) (q : HoldsContents schema db d) (first : HasFiveTables schema) {a b : Stored} (s : IsSpelledLayoutOne c a) (t : IsSpelledLayoutOne d b) where
  global_told : (contents : Contents) (was : Stored) → IsSpelledLayoutOne contents was → get contents.meta (codes "global") ≡ Some (level_text was.registry.global)
  global_told contents was it = ap (λ m. get m (codes "global")) it.meta ∙ get-insert-same text_cmp text_order _ (codes "global") (level_text was.registry.global)

  one_level_of_all : a.registry.global ≡ b.registry.global
  one_level_of_all = one_level _ _ (same_Some _ _ (sym (global_told c a s) ∙ same_in p q Meta first (codes "global") ∙ global_told d b t))

  one_in_layout_one : a ≡ b
  one_in_layout_one =
      let schemas = one_schemas p q first s.base t.base in
      let rows = one_rows p q first s.base t.base in
      let own = one_own p q first s.base t.base in
      let replies = one_kept p q first s.base t.base in
      let mode : a.registry.global_mode ≡ b.registry.global_mode = s.modes.global ∙ sym t.modes.global in
      let each = λ (subject : List ℕ). s.modes.own subject ∙ sym (t.modes.own subject) in
      let modes : a.registry.own_modes ≡ b.registry.own_modes = λ i subject. each subject i in
      let evidence : a.evidence ≡ b.evidence = s.evidence ∙ sym t.evidence in
      λ i. record {
        registry = record { schemas = schemas i; rows = rows i; global = one_level_of_all i; own = own i; global_mode = mode i; own_modes = modes i };
        replies = replies i;
        evidence = evidence i;
      }

-- ---- databases

-- the second contents, in the schema of the first
as_declared : {one other : Schema} {db : Database} {c d : Contents} → HoldsContents one db c → HoldsContents other db d → HoldsContents one db d
as_declared {db = db} {d = d} p q = subst (λ s. HoldsContents s db d) (sym q.declared ∙ p.declared) q

pub one_unopened : (db : Database) (one other : Stored) → SpellsUnopened db one → SpellsUnopened db other → one ≡ other
one_unopened db one other s t = one_in_layout_two s.holds (as_declared s.holds t.holds) (openable_has_eight s.schema s.known) s.spelled t.spelled

unopened : (db : Database) (was : Stored) → Spells db was → SpellsUnopened db was
unopened db was s = record { schema = s.schema; known = inl s.known; contents = s.contents; holds = s.holds; spelled = s.spelled }

pub one_opened : (db : Database) (one other : Stored) → Spells db one → Spells db other → one ≡ other
one_opened db one other s t = one_unopened db one other (unopened db one s) (unopened db other t)

pub one_first : (db : Database) (one other : Stored) → SpellsLayoutOne db one → SpellsLayoutOne db other → one ≡ other
one_first db one other s t = one_in_layout_one s.holds (as_declared s.holds t.holds) (one_has_five s.schema s.known) s.spelled t.spelled
