-- What changing the tables does to what they spell.
use Rattle.std.proofs.Common.{◌≡◌, ℕ, zero, suc, arith, ◌+◌, ◌<◌, List, [], ◌∷◌, ◌++◌, length, take, get_or, Option, Some, None, Bool, true, false, cond, refl, sym, ap, subst, ◌∙◌}
use Rattle.std.specs.Prelude.{option_map, bytes_eq, IsTrue, All, ◌≤◌}
use Rattle.std.specs.FinMap.{get}
use Rattle.std.proofs.lemmas.List.{take_more}
use Rattle.std.proofs.lemmas.Slice.Eq.{bytes_eq-Decides}
use Rattle.sqlite.specs.State.{State}
use Rattle.reg_core.specs.declared.decision.Change.{Change}
use Rattle.reg_core.specs.declared.decision.Change.TheVariants.{SetGlobal, SetLevel}
use Rattle.reg_core.specs.declared.mode.Mode.{Mode}
use Rattle.reg_core.specs.Views.{ChangeFits, ChangesFit, after_changes, after_change}
use Rattle.reg_core.specs.declared.level.Level.{Level}
use Rattle.reg_core.specs.Levels.{level_text}
use Rattle.reg_core.specs.Subjects.{is_subject}
use Rattle.avro_nodes.specs.Nodes.{NodeView}
use Rattle.avro_nodes.specs.Identity.{identity}
use Rattle.avro_schema.specs.Texts.{IsSchema}
use Rattle.reg_core.specs.Modes.{mode_text}
use Rattle.reg_core.specs.Registry.{Schemas, Rows, Registry, OwnModes, IsRow, IsRegistry, schema_at, max_number, own_with}
use Rattle.reg_tables.specs.Contents.{Contents}
use Rattle.reg_tables.specs.Writing.{Changes, ChangesIf}
use Rattle.reg_tables.specs.Changes.{with_global, with_level, with_kept}
use Rattle.reg_core.specs.KeptReplies.{KeptEntry, Kept, kept_with}
use Rattle.reg_core.specs.Stored.{Stored}
use Rattle.reg_store.specs.declared.keep.Keep.{Keep}
use Rattle.reg_store.specs.Changes.{keep_entry, stored_after_changes}
use Rattle.reg_store.specs.Spells.{CanBeKept, IsSpelled, stored_reply}
use Rattle.reg_store.specs.Inside.Applying.{StoresChange, StoresReply}
use Rattle.reg_store.proofs.Maps.{insert_both}
use Rattle.reg_store.proofs.SpelledTwo.{spelled_in, level_changed, changed, put}

pub each_entry : {V : Type 0} (P : List ℕ → V → Type 0) (look : List ℕ → Option V) (k : List ℕ) (v : V) → P k v → ((q : List ℕ) (w : V) → look q ≡ Some w → P q w)
    → (q : List ℕ) (w : V) → cond (bytes_eq k q) (Some v) (look q) ≡ Some w → P q w
each_entry P look k v here others q w = go (bytes_eq k q) refl
  where
    go : (b : Bool) → bytes_eq k q ≡ b → cond b (Some v) (look q) ≡ Some w → P q w
    go true is some = let value : v ≡ w = cc in subst (λ l. P l w) ((bytes_eq-Decides k q).0 is) (subst (P k) value here)
    go false is some = others q w some

abbrev HaveOwnTexts : Schemas → Type 0
HaveOwnTexts l = (i j : ℕ) (one other : List NodeView) → schema_at l i ≡ Some one → schema_at l j ≡ Some other → identity one ≡ identity other → i ≡ j

-- levels don't matter to `IsRegistry`
same_registry : (g h : Registry) → h.schemas ≡ g.schemas → h.rows ≡ g.rows → IsRegistry g → IsRegistry h
same_registry g h schemas rows is = record {
  schemas = subst (All IsSchema) (sym schemas) is.schemas;
  few = subst (λ (l : Schemas). length l ≤ max_number) (sym schemas) is.few;
  apart = subst HaveOwnTexts (sym schemas) is.apart;
  rows = λ key version there. subst (λ (l : Schemas). IsRow l key version) (sym schemas) (is.rows key version (ap (λ (m : Rows). get m key) (sym rows) ∙ there));
}

-- the contents of the tables of schemas, versions, levels and kept replies stay
abbrev pub KeepsBase : Contents → Contents → Type 0
KeepsBase was now = (now.texts ≡ was.texts) × (now.versions ≡ was.versions) × (now.levels ≡ was.levels) × (now.kept ≡ was.kept)

pub spelled_as : (contents : Contents) (g : Registry) (k : Kept) → IsSpelled contents g k → (now : Contents) → KeepsBase contents now → IsSpelled now g k
spelled_as contents g k s now keeps = record {
  registry = s.registry;
  texts = λ id. ap (λ m. get m id) keeps.0 ∙ s.texts id;
  utf8 = s.utf8;
  versions = λ key. ap (λ m. get m key) keeps.1 ∙ s.versions key;
  registered = s.registered;
  levels = λ subject. ap (λ m. get m subject) keeps.2 ∙ s.levels subject;
  subjects = s.subjects;
  kept = λ key. ap (λ m. get m key) keeps.3 ∙ s.kept key;
  keys = s.keys;
}

module _ (contents : Contents) (g : Registry) (k : Kept) (s : IsSpelled contents g k) where
  -- the global level, the modes and the rows of `meta` don't matter, nor do other tables
  pub spelled_beside : (now : Contents) → KeepsBase contents now → (level : Level) (mode : Mode) (modes : OwnModes) → IsSpelled now (record g { global = level; global_mode = mode; own_modes = modes }) k
  spelled_beside now keeps level mode modes =
      let it = spelled_as contents g k s now keeps in
      record { registry = same_registry g _ refl refl s.registry; texts = it.texts; utf8 = it.utf8; versions = it.versions; registered = it.registered; levels = it.levels; subjects = it.subjects; kept = it.kept; keys = it.keys }

  spelled_level : (subject : List ℕ) (level : Level) → IsTrue (is_subject subject) → IsSpelled (with_level subject (level_text level) contents) (record g { own = own_with g.own subject level }) k
  spelled_level subject level within = record {
    registry = same_registry g _ refl refl s.registry;
    texts = s.texts;
    utf8 = s.utf8;
    versions = s.versions;
    registered = s.registered;
    levels = insert_both level_text contents.levels g.own subject level s.levels;
    subjects = each_entry (λ q _. IsTrue (is_subject q)) g.own subject level within s.subjects;
    kept = s.kept;
    keys = s.keys;
  }

  spelled_kept : (key : List ℕ) (entry : KeptEntry) → CanBeKept key entry → IsSpelled (with_kept key (stored_reply entry) contents) g (kept_with k key entry)
  spelled_kept key entry fits = record {
    registry = same_registry g _ refl refl s.registry;
    texts = s.texts;
    utf8 = s.utf8;
    versions = s.versions;
    registered = s.registered;
    levels = s.levels;
    subjects = s.subjects;
    kept = insert_both stored_reply contents.kept k key entry s.kept;
    keys = each_entry CanBeKept k key entry fits s.keys;
  }

-- ---- the tables

module _ (old new : State) where
  pub respells_global : (level : Level) → Changes old new (with_global (level_text level)) → StoresChange old new (SetGlobal level)
  respells_global level changes was s fits =
      let g = was.registry in
      changed old new (with_global (level_text level)) changes was s _
      (spelled_in s.contents was s.spelled _ _ _ (spelled_beside s.contents g was.replies s.spelled.base (with_global (level_text level) s.contents) (refl, refl, refl, refl) level g.global_mode g.own_modes) (level_changed s.contents.meta g.global level (mode_text g.global_mode) s.spelled.meta) refl (refl, refl, refl))

  pub respells_level : (subject : List ℕ) (level : Level) → IsTrue (is_subject subject) → Changes old new (with_level subject (level_text level)) → StoresChange old new (SetLevel subject level)
  respells_level subject level within changes was s fits =
      changed old new (with_level subject (level_text level)) changes was s _
      (spelled_in s.contents was s.spelled _ _ _ (spelled_level s.contents was.registry was.replies s.spelled.base subject level within) s.spelled.meta refl (refl, refl, refl))

  pub respells_kept : (keep : Keep) → CanBeKept keep.key.now (keep_entry keep) → ChangesIf old new (λ contents. get contents.kept keep.key.now ≡ None) (with_kept keep.key.now (stored_reply (keep_entry keep))) → StoresReply old new (Some keep)
  respells_kept keep fits puts was s fresh =
      put old new (λ contents. get contents.kept keep.key.now ≡ None) (with_kept keep.key.now (stored_reply (keep_entry keep))) puts was s (s.spelled.base.kept keep.key.now ∙ ap (option_map stored_reply) fresh) _
      (spelled_in s.contents was s.spelled _ _ _ (spelled_kept s.contents was.registry was.replies s.spelled.base keep.key.now (keep_entry keep) fits) s.spelled.meta refl (refl, refl, refl))

-- ---- several changes

stored_after_changes-append : (changes : List Change) (change : Change) (was : Stored) → stored_after_changes (changes ++ change ∷ []) was ≡ stored_after_changes (change ∷ []) (stored_after_changes changes was)
stored_after_changes-append [] change was = refl
stored_after_changes-append (c ∷ cs) change was = stored_after_changes-append cs change (stored_after_changes (c ∷ []) was)

pub stored_after_changes-more : (changes : List Change) (i : ℕ) (change : Change) (was : Stored) → i < length changes → stored_after_changes (take (i + 1) changes) was ≡ stored_after_changes (get_or changes i change ∷ []) (stored_after_changes (take i changes) was)
stored_after_changes-more changes i change was lt = ap (λ l. stored_after_changes l was) (take_more changes i change lt) ∙ stored_after_changes-append (take i changes) (get_or changes i change) was

pub fits_at : (changes : List Change) (i : ℕ) (change : Change) (g : Registry) → i < length changes → change ≡ get_or changes i change → ChangesFit changes g → ChangeFits change (after_changes (take i changes) g)
fits_at [] i change g low is fits = absurd (omega (arith, low))
fits_at (c ∷ cs) zero change g low is fits = subst (λ x. ChangeFits x g) (sym is) fits.0
fits_at (c ∷ cs) (suc i) change g low is fits = fits_at cs i change (after_change c g) (omega (arith, low)) is fits.1
