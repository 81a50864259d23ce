-- Whether the evidence of all versions is true, checked one version after another.
use Rattle.std.proofs.Common.{◌≡◌, ◌∙◌, ℕ, ◌+◌, List, take, find, refl, sym, ap, subst, add-one}
use Rattle.std.specs.Prelude.{◌↔◌, All, Bool, true, false, IsSome, IsTrue, Option, None, Some, slice_get, option_map, option_and_then}
use Rattle.std.specs.FinMap.{entries, get}
use Rattle.std.specs.List.{last_or}
use Rattle.std.proofs.lemmas.List.Elements.{All-contains, All-more, All-nil, All-weaker}
use Rattle.std.proofs.lemmas.Option.{none-some, same_Some, slice_get_within, get_or_from_slice_get}
use Rattle.sqlite_rules.proofs.ListLemmas.{contains_had, has_got}
use Rattle.avro_nodes.specs.Nodes.{NodeView}
use Rattle.avro_nodes.specs.Identity.{identity}
use Rattle.avro_schema.specs.DenotedNodes.{denoted_nodes}
use Rattle.avro_schema.specs.Texts.{IsSchema}
use Rattle.reg_core.specs.declared.level.Level.{Level}
use Rattle.reg_core.specs.declared.level.Level.TheVariants.{Off}
use Rattle.reg_core.specs.Compatibility.{Compatible}
use Rattle.reg_core.specs.Evidence.{Evidence, IsCompatibleWith}
use Rattle.reg_core.specs.Registry.{IsRegistry, Row, RowKey, Schemas, row_cmp, schema_at}
use Rattle.reg_core.specs.Rows.{text_at}
use Rattle.reg_core.specs.Stored.{Stored, HasTrueEvidence}
use Rattle.reg_core.proofs.IdLemmas.{schema_there, text_at-schema, text_at-identity}
use Rattle.reg_core.proofs.RegistryLemmas.{schema_at-denoted}
use Rattle.reg_tables.proofs.KeyedTables.{version_order}
use Rattle.reg_tables.proofs.OrderedQueries.{entry_got, got_entry}
use Rattle.reg_store.specs.NextLines.{is_after, key_in}
use Rattle.reg_store.specs.Spells.{id_at}
use Rattle.reg_store.specs.Inside.Auditing.{HasSchema, HasEvidence, IsTrueAt, IsTrueFor}
use Rattle.reg_store.proofs.NextRowLemmas.{last_taken}
use Rattle.reg_store.proofs.NextLineLemmas.{all_taken, next_row}
use Rattle.reg_store.proofs.Texts.{was_written}

-- ---- all versions

-- the evidence of the versions up to `last` is true
pub record AreTrueUpTo (was : Stored) (last : Option Row) : Type 0 where
  pub count : ℕ
  pub ends : last ≡ last_or None (take count (entries was.registry.rows))
  pub so_far : All (IsTrueFor was) (take count (entries was.registry.rows))

module _ (was : Stored) where
  abbrev rows : List Row
  rows = entries was.registry.rows

  all_true : All (IsTrueFor was) rows → HasTrueEvidence was
  all_true each key version one nodes row had schema =
      All-contains (IsTrueFor was) rows (key, version) each (contains_had rows (key, version) (got_entry row_cmp version_order was.registry.rows key version row)) nodes schema one had

  -- the next version after `last`, or `None`
  abbrev IsNext : Option Row → Option Row → Type 0
  IsNext last found = found ≡ find (λ row. is_after row_cmp (option_map key_in last) row.0) rows

  pub none_yet : AreTrueUpTo was None
  none_yet = record { count = 0; ends = refl; so_far = All-nil (IsTrueFor was) }

  pub none_left : (last : Option Row) → AreTrueUpTo was last → IsNext last None → HasTrueEvidence was
  none_left last before next = all_true (subst (All (IsTrueFor was)) (all_taken rows before.count (next_row was.registry before.count last None before.ends next)) before.so_far)

  pub one_more : (last : Option Row) → AreTrueUpTo was last → (row : Row) → IsNext last (Some row) → IsTrueFor was row → AreTrueUpTo was (Some row)
  one_more last before row next holds =
      let here = sym (next_row was.registry before.count last (Some row) before.ends next) in
      record {
        count = before.count + 1;
        ends = sym (last_taken None before.count rows row here);
        so_far = All-more (IsTrueFor was) rows before.count row (slice_get_within rows before.count row here) before.so_far (subst (IsTrueFor was) (sym (get_or_from_slice_get rows before.count row row here)) holds);
      }

  pub one_fails : IsRegistry was.registry → (last : Option Row) → AreTrueUpTo was last → (row : Row) → IsNext last (Some row) → ((nodes : List NodeView) → HasSchema was row.1.id nodes → ¬ IsTrueAt was row.0 nodes) → ¬ HasTrueEvidence was
  one_fails ok last before row next fails all =
      let here = sym (next_row was.registry before.count last (Some row) before.ends next) in
      let got = entry_got row_cmp version_order was.registry.rows row (has_got rows before.count row here) in
      let it = (ok.rows row.0 row.1 got).has_schema in
      let schema = schema_there was.registry.schemas row.1.id it.0 it.1 in
      fails schema.0 schema.1 (λ one had. all row.0 row.1 one schema.0 got had schema.1)

-- ---- one version

some_is : {X : Type 0} (o : Option X) → IsSome o → (x : X) × (o ≡ Some x)
some_is None some = absurd (let none : false ≡ true = some in cc)
some_is (Some x) some = (x, refl)

module _ (was : Stored) (key : RowKey) (nodes : List NodeView) where
  abbrev level_of_evidence : Evidence → Level
  level_of_evidence one = one.level

  pub true_without : None ≡ option_map level_of_evidence (get was.evidence key) → IsTrueAt was key nodes
  true_without none one had = absurd (none-some one.level (none ∙ ap (option_map level_of_evidence) had))

  pub true_under_none : Some Off ≡ option_map level_of_evidence (get was.evidence key) → ((one : Evidence) → HasEvidence was key one → All (λ id. IsSome (schema_at was.registry.schemas id)) one.against) → IsTrueAt was key nodes
  true_under_none off there one had =
      let same : Off ≡ one.level = same_Some Off one.level (off ∙ ap (option_map level_of_evidence) had) in
      All-weaker (λ id. IsSome (schema_at was.registry.schemas id)) (IsCompatibleWith was.registry.schemas one.level nodes) (λ id some.
      (let it = some_is (schema_at was.registry.schemas id) some in
      (it.0, it.1, subst (λ (level : Level). Compatible level it.0 nodes) same tt))) one.against (there one had)

  -- the evidence is true if the schema passes the comparisons of its level
  pub true_by_level : (level : Level) (said : Bool) → Some level ≡ option_map level_of_evidence (get was.evidence key)
      → ((one : Evidence) → HasEvidence was key one → IsTrue said ↔ All (IsCompatibleWith was.registry.schemas level nodes) one.against) → IsTrue said ↔ IsTrueAt was key nodes
  true_by_level level said is told = (
    λ h one had. subst (λ (l : Level). All (IsCompatibleWith was.registry.schemas l nodes) one.against) (same one had) ((told one had).0 h),
    λ all.
        let one = was_written level_of_evidence (get was.evidence key) level (sym is) in
        (told one.0 one.1).1 (subst (λ (l : Level). All (IsCompatibleWith was.registry.schemas l nodes) one.0.against) (sym (same one.0 one.1)) (all one.0 one.1)),
  )
    where
      same : (one : Evidence) → HasEvidence was key one → level ≡ one.level
      same one had = same_Some level one.level (is ∙ ap (option_map level_of_evidence) had)

-- ---- the ids of one version

-- the id at the next position
pub named_at : (was : Stored) (key : RowKey) (one : Evidence) (index : ℕ) → HasEvidence was key one → option_and_then (id_at (index + 1)) (get was.evidence key) ≡ slice_get one.against index
named_at was key one index had = ap (option_and_then (id_at (index + 1))) had ∙ ap (λ n. id_at n one) (add-one index)

module _ {X : Type 0} (P : X → Type 0) (xs : List X) (index : ℕ) (x : X) (there : slice_get xs index ≡ Some x) where
  pub more_here : All P (take index xs) → P x → All P (take (index + 1) xs)
  more_here all here = All-more P xs index x (slice_get_within xs index x there) all (subst P (sym (get_or_from_slice_get xs index x x there)) here)

  pub one_here : All P xs → P x
  one_here all = subst P (get_or_from_slice_get xs index x x there) (all index x (slice_get_within xs index x there))

-- ---- texts of schemas

module _ (schemas : Schemas) (are : All IsSchema schemas) (id : ℕ) (text : List ℕ) (there : text_at schemas id ≡ Some text) where
  pub text-denotes : denoted_nodes text ≡ schema_at schemas id
  text-denotes =
      let it = text_at-schema schemas id text there in
      ap denoted_nodes (sym it.2) ∙ schema_at-denoted schemas are id it.0 it.1 ∙ sym it.1

  -- comparing with what the text denotes is comparing with the id's schema
  pub goes_by_text : (level : Level) (new : List NodeView) (said : Bool) → ((earlier : List NodeView) → denoted_nodes text ≡ Some earlier → IsTrue said ↔ Compatible level earlier new) → IsTrue said ↔ IsCompatibleWith schemas level new id
  goes_by_text level new said told =
      let it = text_at-schema schemas id text there in
      let compared = told it.0 (text-denotes ∙ it.1) in (
        λ h. (it.0, it.1, compared.0 h),
        λ goes. compared.1 (subst (λ (earlier : List NodeView). Compatible level earlier new) (same_Some goes.0 it.0 (sym goes.1 ∙ it.1)) goes.2),
      )

-- an id without a text is incompatible
pub goes_not : (schemas : Schemas) (id : ℕ) (level : Level) (new : List NodeView) → text_at schemas id ≡ None → ¬ IsCompatibleWith schemas level new id
goes_not schemas id level new none goes = none-some (identity goes.0) (sym none ∙ text_at-identity schemas id goes.0 goes.1)
