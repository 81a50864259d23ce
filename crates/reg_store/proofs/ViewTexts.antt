-- The texts of a view.
use Rattle.std.proofs.Common.{◌≡◌, ◌≢◌, ◌≤◌, inl, inr, ℕ, zero, suc, List, true, false, true≢false, Option, None, Some, map, length, refl, sym, ap, subst, ◌∙◌, arith}
use Rattle.std.specs.Prelude.{option_map, is_some, IsSome, All, MatchOption, string_bytes, String}
use Rattle.std.specs.declared.alloc.Global.{Global}
use Rattle.std.specs.BTreeMap as tree
use Rattle.std.specs.BTreeMap.{BTreeMap}
use Rattle.std.specs.Ordering.{nat_cmp}
use Rattle.std.specs.FinMap.{get}
use Rattle.reg_core.specs.declared.command.Command.{Command}
use Rattle.reg_core.specs.declared.command.Command.TheVariants.{SetGlobal, SetLevel, Register, DeleteVersion, DeleteSubject, Global as GlobalLevel, LevelOf, Lookup, Subjects, Versions, Version, Text, ById, VersionsOfId, Types, Check, CheckAll, SetGlobalMode, SetMode, GlobalMode, ModeOf}
use Rattle.reg_core.specs.declared.decision.View.{View}
use Rattle.reg_core.specs.Registry.{Registry, IsRegistry, Row, Schemas}
use Rattle.reg_core.specs.Rows.{id_of, text_at}
use Rattle.reg_core.specs.Views.{IsViewOf, rows_to_read}
use Rattle.reg_core.proofs.IdLemmas.{text_within, text_there as id_has_text, text_at-schema, id_of-text_at, id_of-no_text}
use Rattle.reg_tables.specs.Contents.{Contents}
use Rattle.reg_tables.proofs.MapLemmas.{same_or_not}
use Rattle.reg_tables.proofs.KeyedTables.{number_order}
use Rattle.reg_core.proofs.RowLemmas.{All-mapped}
use Rattle.reg_store.specs.Inside.Viewing.{HasText, AreTrueTexts, AddsText, InsertsText, IsViewButTexts}

-- ---- texts that are there

abbrev Texts : Type 0
Texts = BTreeMap ℕ (String Global)

none_there : (o : Option (String Global)) → is_some o ≡ false → option_map string_bytes o ≡ None
none_there None h = refl
none_there (Some text) h = absurd (cc)

pub text_comes : (old new : Texts) (schemas : Schemas) (id : ℕ) (found : Option (String Global)) → is_some (tree.get nat_cmp old id) ≡ false → option_map string_bytes found ≡ text_at schemas id → InsertsText old new id found → AddsText old new schemas id
text_comes old new schemas id found absent is puts =
    let here : HasText new schemas id = puts.here (none_there (tree.get nat_cmp old id) absent) ∙ is in
    record {
      here = λ _. here;
      kept = λ _ other h. elim (same_or_not nat_cmp number_order other id) [
        | inl e ↦ subst (HasText new schemas) (sym e) here
        | inr apart ↦ puts.others other apart ∙ h
      ];
      true_texts = λ true_texts other text there. elim (same_or_not nat_cmp number_order other id) [
        | inl e ↦ sym (subst (HasText new schemas) (sym e) here) ∙ there
        | inr apart ↦ true_texts other text (sym (puts.others other apart) ∙ there)
      ];
    }

-- ---- ids

module _ (contents : Contents) (g : Registry) (registry : IsRegistry g) (spelled : (id : ℕ) → get contents.texts id ≡ text_at g.schemas id) where
  pub id_found : (found : Option ℕ) (text : List ℕ) → MatchOption found ((id : ℕ) → get contents.texts id ≢ Some text) (λ id. get contents.texts id ≡ Some text) → found ≡ id_of g.schemas text
  id_found None text none = go (id_of g.schemas text) refl
    where
      go : (o : Option ℕ) → id_of g.schemas text ≡ o → None ≡ o
      go None is = refl
      go (Some id) is = absurd (none id (spelled id ∙ id_of-text_at g.schemas text id is))
  id_found (Some id) text there = go (id_of g.schemas text) refl
    where
      here : text_at g.schemas id ≡ Some text
      here = sym (spelled id) ∙ there

      go : (o : Option ℕ) → id_of g.schemas text ≡ o → Some id ≡ o
      go None is = absurd (id_of-no_text g.schemas text is id here)
      go (Some other) is =
          let one = text_at-schema g.schemas id text here in
          let two = text_at-schema g.schemas other text (id_of-text_at g.schemas text other is) in
          ap Some (registry.apart id other one.0 two.0 one.1 two.1 (one.2 ∙ sym two.2))

  pub none_counted : ((id : ℕ) → get contents.texts id ≡ None) → 0 ≡ length g.schemas
  none_counted none = go (length g.schemas) refl
    where
      go : (n : ℕ) → length g.schemas ≡ n → 0 ≡ n
      go zero is = refl
      go (suc n) is =
          let it = id_has_text g.schemas 1 (omega arith) (omega (arith, is)) in
          let both : None ≡ Some it.0 = sym (none 1) ∙ spelled 1 ∙ it.1 in
          absurd (cc)

  text_some : (id : ℕ) → IsSome (get contents.texts id) → (text : List ℕ) × (text_at g.schemas id ≡ Some text)
  text_some id h = go (get contents.texts id) refl h
    where
      go : (o : Option (List ℕ)) → get contents.texts id ≡ o → IsSome o → (text : List ℕ) × (text_at g.schemas id ≡ Some text)
      go None is h = absurd (true≢false (sym h))
      go (Some text) is h = (text, sym (spelled id) ∙ is)

  some_text : (id : ℕ) (text : List ℕ) → text_at g.schemas id ≡ Some text → IsSome (get contents.texts id)
  some_text id text is = subst IsSome (sym (spelled id ∙ is)) refl

  pub last_counted : (id : ℕ) → IsSome (get contents.texts id) → ((other : ℕ) → IsSome (get contents.texts other) → other ≤ id) → id ≡ length g.schemas
  last_counted id there last =
      let it = text_some id there in
      let within = text_within g.schemas id it.0 it.1 in
      let low = within.0 in
      let high = within.1 in
      let top = id_has_text g.schemas (length g.schemas) (omega (arith, low, high)) (omega arith) in
      let most = last (length g.schemas) (some_text (length g.schemas) top.0 top.1) in
      omega (arith, high, most)

-- ---- the whole view

abbrev with_texts : View → Texts → View
with_texts view texts = record view { texts = texts }

reads_same : (command : Command) (view : View) (texts : Texts) → rows_to_read command (with_texts view texts) ≡ rows_to_read command view
reads_same (SetGlobal level) view texts = refl
reads_same (SetLevel subject level) view texts = refl
reads_same (Register subject text supported) view texts = refl
reads_same (DeleteVersion subject version permanent) view texts = refl
reads_same (DeleteSubject subject permanent) view texts = refl
reads_same GlobalLevel view texts = refl
reads_same (LevelOf subject default_to_global) view texts = refl
reads_same (Lookup subject text supported deleted) view texts = refl
reads_same (Subjects deleted) view texts = refl
reads_same (Versions subject deleted) view texts = refl
reads_same (Version subject version deleted) view texts = refl
reads_same (Text subject version deleted) view texts = refl
reads_same (ById id) view texts = refl
reads_same (VersionsOfId id deleted) view texts = refl
reads_same Types view texts = refl
reads_same (Check subject version text supported) view texts = refl
reads_same (CheckAll subject text supported) view texts = refl
reads_same (SetGlobalMode mode) view texts = refl
reads_same (SetMode subject mode) view texts = refl
reads_same GlobalMode view texts = refl
reads_same (ModeOf subject default_to_global) view texts = refl

pub whole_view : (view : View) (texts : Texts) (g : Registry) (command : Command) (ids : List ℕ) → IsViewButTexts view g command → ids ≡ map (λ (row : Row). row.1.id) (rows_to_read command view)
    → All (HasText texts g.schemas) ids → AreTrueTexts texts g.schemas → IsViewOf (with_texts view texts) g command
whole_view view texts g command ids shows is all true_texts = record {
  rows = shows.rows;
  levels = shows.levels;
  modes = shows.modes;
  known = shows.known;
  count = shows.count;
  texts = subst (All (λ (row : Row). HasText texts g.schemas row.1.id)) (sym (reads_same command view texts)) (All-mapped (HasText texts g.schemas) (λ (row : Row). row.1.id) (rows_to_read command view) (subst (All (HasText texts g.schemas)) is all));
  true_texts = true_texts;
}
