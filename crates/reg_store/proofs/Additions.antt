-- What adding a text or a version does to what the tables spell.
use Rattle.std.proofs.Common.{◌≡◌, ◌≢◌, ◌+◌, ℕ, arith, inl, inr, List, [], ◌∷◌, ◌++◌, length, Option, Some, None, refl, sym, ap, subst, ◌∙◌}
use Rattle.std.specs.Prelude.{IsSome, IsTrue, IsUtf8, option_map, option_to_list}
use Rattle.std.specs.FinMap.{FinMap, get, insert}
use Rattle.std.specs.Ordering.{nat_cmp}
use Rattle.std.proofs.lemmas.Option.{none-some}
use Rattle.sqlite.specs.State.{State}
use Rattle.avro_nodes.specs.Nodes.{NodeView}
use Rattle.avro_nodes.specs.Identity.{identity}
use Rattle.avro_schema.specs.DenotedNodes.{denoted_nodes}
use Rattle.reg_core.specs.declared.decision.Change.TheVariants.{AddText, AddRow}
use Rattle.reg_core.specs.Evidence.{Evidence}
use Rattle.reg_core.specs.Registry.{Schemas, Row, Registry, schema_at}
use Rattle.reg_core.specs.Rows.{id_of}
use Rattle.reg_core.specs.Views.{IsNewText, IsNewRow, after_change}
use Rattle.reg_core.specs.Subjects.{is_subject}
use Rattle.reg_core.specs.KeptReplies.{Kept}
use Rattle.reg_core.proofs.IdLemmas.{schema_last, schema_more, schema_grown, text_past, text_there, id_of-no_text}
use Rattle.reg_core.proofs.RowLemmas.{get_inserted}
use Rattle.reg_core.proofs.RegistryLemmas.{identity_denoted, grown-IsRegistry, inserted-IsRegistry}
use Rattle.reg_tables.specs.Contents.{Contents}
use Rattle.reg_tables.specs.Writing.{ChangesIf}
use Rattle.reg_tables.specs.Changes.{with_text, with_version}
use Rattle.reg_tables.proofs.MapLemmas.{get-insert-same, get-insert-other, same_or_not}
use Rattle.reg_tables.proofs.KeyedTables.{number_order, version_order}
use Rattle.reg_store.specs.Spells.{IsSpelled, stored_version}
use Rattle.reg_store.specs.Inside.Applying.{StoresChange}
use Rattle.reg_store.proofs.Maps.{insert_each}
use Rattle.reg_store.proofs.SpelledTwo.{spelled_in, put}

-- adding a schema changes the schema of no other id
schema_other : (schemas : Schemas) (new : List NodeView) (id : ℕ) → id ≢ length schemas + 1 → schema_at (schemas ++ new ∷ []) id ≡ schema_at schemas id
schema_other schemas new id other = go (schema_at schemas id) (schema_at (schemas ++ new ∷ []) id) refl refl
  where
    go : (before after : Option (List NodeView)) → schema_at schemas id ≡ before → schema_at (schemas ++ new ∷ []) id ≡ after → after ≡ before
    go (Some nodes) after here there = sym there ∙ schema_more schemas (new ∷ []) id nodes here
    go None None here there = refl
    go None (Some nodes) here there = absurd (elim (schema_grown schemas new id nodes there) [ inl was ↦ none-some nodes (sym here ∙ was) | inr it ↦ other it.0 ])

texts_both : (texts : FinMap nat_cmp (List ℕ)) (schemas : Schemas) (new : List NodeView) → ((id : ℕ) → get texts id ≡ option_map identity (schema_at schemas id)) → (id : ℕ) → id ≡ length schemas + 1
    → (q : ℕ) → get (insert texts id (identity new)) q ≡ option_map identity (schema_at (schemas ++ new ∷ []) q)
texts_both texts schemas new same id next q = elim (same_or_not nat_cmp number_order q id) [
  | inl e ↦ ap (get (insert texts id (identity new))) e ∙ get-insert-same nat_cmp number_order texts id (identity new) ∙ sym (ap (option_map identity) (ap (schema_at (schemas ++ new ∷ [])) (e ∙ next) ∙ schema_last schemas new))
  | inr other ↦ get-insert-other nat_cmp number_order texts id (identity new) q other ∙ same q ∙ sym (ap (option_map identity) (schema_other schemas new q (λ e. other (e ∙ sym next))))
]

module _ (contents : Contents) (g : Registry) (k : Kept) (s : IsSpelled contents g k) where
  spelled_schema : (id : ℕ) (text : List ℕ) → IsUtf8 text → (new : IsNewText g.schemas id text) → IsSpelled (with_text id text contents) (record g { schemas = g.schemas ++ new.nodes ∷ [] }) k
  spelled_schema id text utf8 new = record {
    registry = grown-IsRegistry g new.nodes s.registry new.schema (let next = new.next in let within = new.within in omega (arith, next, within)) (subst (λ (t : List ℕ). id_of g.schemas t ≡ None) new.is new.unknown);
    texts = λ q. ap (λ t. get (insert contents.texts id t) q) new.is ∙ texts_both contents.texts g.schemas new.nodes s.texts id new.next q;
    utf8 = λ q nodes there. elim (schema_grown g.schemas new.nodes q nodes there) [ inl was ↦ s.utf8 q nodes was | inr it ↦ subst IsUtf8 (new.is ∙ ap identity (sym it.1)) utf8 ];
    versions = s.versions;
    registered = s.registered;
    levels = s.levels;
    subjects = s.subjects;
    kept = s.kept;
    keys = s.keys;
  }

  spelled_text : (id : ℕ) (text : List ℕ) → IsUtf8 text → IsNewText g.schemas id text → IsSpelled (with_text id text contents) (after_change (AddText id text) g) k
  spelled_text id text utf8 new =
      let denotes : denoted_nodes text ≡ Some new.nodes = ap denoted_nodes new.is ∙ identity_denoted new.nodes new.schema in
      subst (λ (o : Option (List NodeView)). IsSpelled (with_text id text contents) (record g { schemas = g.schemas ++ option_to_list o }) k) (sym denotes) (spelled_schema id text utf8 new)

  pub id_is_free : (id : ℕ) (text : List ℕ) → IsNewText g.schemas id text → get contents.texts id ≡ None
  id_is_free id text new = s.texts id ∙ text_past g.schemas id (let next = new.next in omega (arith, next))

  pub text_is_new : (id : ℕ) (text : List ℕ) → IsNewText g.schemas id text → (other : ℕ) → get contents.texts other ≢ Some text
  text_is_new id text new other has = id_of-no_text g.schemas text new.unknown other (sym (s.texts other) ∙ has)

  pub spelled_row : (row : Row) (evidence : Evidence) → IsTrue (is_subject row.0.0) → IsNewRow g row → IsSpelled (with_version row.0 (stored_version row.1) contents) (after_change (AddRow row evidence) g) k
  spelled_row row evidence within new = record {
    registry = inserted-IsRegistry g row.0 row.1 s.registry new.fits;
    texts = s.texts;
    utf8 = s.utf8;
    versions = insert_each version_order stored_version contents.versions g.rows s.versions row.0 row.1;
    registered = get_inserted g.rows row.0 row.1 (λ key _. IsTrue (is_subject key.0)) within s.registered;
    levels = s.levels;
    subjects = s.subjects;
    kept = s.kept;
    keys = s.keys;
  }

  pub number_is_free : (row : Row) → IsNewRow g row → get contents.versions row.0 ≡ None
  number_is_free row new = s.versions row.0 ∙ ap (option_map stored_version) new.absent

  pub id_has_text : (row : Row) → IsNewRow g row → IsSome (get contents.texts row.1.id)
  id_has_text row new =
      let its = new.fits.has_schema in
      let there = text_there g.schemas row.1.id its.0 its.1 in
      subst IsSome (sym (s.texts row.1.id ∙ there.1)) refl

-- ---- the tables

module _ (old new : State) where
  pub makes_text : (id : ℕ) (text : List ℕ) → IsUtf8 text → ChangesIf old new (λ contents. get contents.texts id ≡ None) (with_text id text) → StoresChange old new (AddText id text)
  makes_text id text utf8 puts was s fits =
      put old new (λ contents. get contents.texts id ≡ None) (with_text id text) puts was s (id_is_free s.contents was.registry was.replies s.spelled.base id text fits) _
      (spelled_in s.contents was s.spelled _ _ _ (spelled_text s.contents was.registry was.replies s.spelled.base id text utf8 fits) s.spelled.meta refl (refl, refl, refl))
