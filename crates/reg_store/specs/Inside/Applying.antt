-- The clauses of functions that apply changes, one after another.
use Rattle.std.specs.Prelude.{◌≡◌, ◌<◌, ◌+◌, ◌^◌, ℕ, List, [], ◌∷◌, length, All, Option, None, IsSome}
use Rattle.std.specs.FinMap.{get}
use Rattle.sqlite.specs.Tree.{Trees}
use Rattle.sqlite.specs.Schema.{Schema}
use Rattle.sqlite.specs.Effect.{Database}
use Rattle.sqlite.specs.State.{State}
use Rattle.sqlite.specs.declared.error.Error.{Error}
use Rattle.reg_core.specs.declared.decision.Change.{Change}
use Rattle.reg_core.specs.Evidence.{Evidence}
use Rattle.reg_core.specs.Levels.{level_text}
use Rattle.reg_core.specs.Registry.{RowKey}
use Rattle.reg_core.specs.Stored.{Stored, new_stored}
use Rattle.reg_core.specs.Views.{ChangeFits, ChangesFit}
use Rattle.reg_tables.specs.Layout.{IsIndexedLayoutTwo, layout_two_unindexed, layout_two_indexed_last}
use Rattle.reg_tables.specs.Contents.{Contents, HoldsContents}
use Rattle.reg_tables.specs.Changes.{with_evidence, with_against}
use Rattle.reg_tables.specs.FailedCalls.{IsInsertFault}
use Rattle.reg_store.specs.declared.keep.Keep.{Keep}
use Rattle.reg_store.specs.declared.layout.Layout.{Layout}
use Rattle.reg_store.specs.declared.layout.Layout.TheVariants.{One, Two}
use Rattle.reg_store.specs.Spells.{SpellsLayoutOne, RecoversToLayoutOne, IsOpenOverLayoutOne, Spells, RecoversTo, IsOpenOver}
use Rattle.reg_store.specs.Changes.{IsNewTo, stored_after_changes, stored_after_apply, SpellsInTransaction}

-- if the tables spelled a registry that the change fits, they now spell the state after it
abbrev pub StoresChange : State → State → Change → Type 0
StoresChange old new change = (was : Stored) → Spells old.now was → ChangeFits change was.registry → Spells new.now (stored_after_changes (change ∷ []) was)

-- if the tables spelled a registry that the changes fit, one after another, they now spell the state after them
abbrev pub StoresChanges : State → State → List Change → Type 0
StoresChanges old new changes = (was : Stored) → Spells old.now was → ChangesFit changes was.registry → Spells new.now (stored_after_changes changes was)

-- if the tables spelled a state in which the reply, if any, had a new key, they now spell the state with the reply
abbrev pub StoresReply : State → State → Option Keep → Type 0
StoresReply old new keep = (was : Stored) → Spells old.now was → IsNewTo was.replies keep → Spells new.now (stored_after_apply [] keep was)

-- If the connection was closed, or the tables spelled a registry that the change fits, a failed change has an error that an INSERT can have
-- (`IsInsertFault`).
abbrev pub IsFaultOfChange : State → State → Change → Error → Type 0
IsFaultOfChange old new change e = (was : Stored) → SpellsInTransaction old was → ChangeFits change was.registry → IsInsertFault old new e

-- the same for changes that fit the registry, one after another
abbrev pub IsFaultOfChanges : State → State → List Change → Error → Type 0
IsFaultOfChanges old new changes e = (was : Stored) → SpellsInTransaction old was → ChangesFit changes was.registry → IsInsertFault old new e

-- the same for storing a reply, if any, with a new key
abbrev pub IsFaultOfReply : State → State → Option Keep → Error → Type 0
IsFaultOfReply old new keep e = (was : Stored) → SpellsInTransaction old was → IsNewTo was.replies keep → IsInsertFault old new e

-- ---- the evidence of a new version

-- the contents with the ids at the version's positions from this one on
abbrev pub with_ids : RowKey → ℕ → List ℕ → Contents → Contents
with_ids key n [] contents = contents
with_ids key n (id ∷ ids) contents = with_ids key (n + 1) ids (with_against (key, n) id contents)

-- the contents with this evidence of the version
abbrev pub with_level_and_ids : RowKey → Evidence → Contents → Contents
with_level_and_ids key evidence contents = with_ids key 1 evidence.against (with_evidence key (level_text evidence.level) contents)

-- the version has no ids
abbrev pub HasNoPositions : Contents → RowKey → Type 0
HasNoPositions contents key = (position : ℕ) → get contents.against (key, position) ≡ None

-- the version exists, and so do texts with these ids
pub record HasTexts (contents : Contents) (key : RowKey) (ids : List ℕ) : Type 0 where
  pub version : IsSome (get contents.versions key)
  pub texts : All (λ id. IsSome (get contents.texts id)) ids

-- in layout 2 with its index, if the version had no ids, these ids are now at its positions from 1 on
pub record PutsIds (old new : State) (key : RowKey) (ids : List ℕ) : Type 0 where
  pub few : length ids < 2 ^ 32
  pub puts : (schema : Schema) → IsIndexedLayoutTwo schema → (contents : Contents) → HoldsContents schema old.now contents → HasNoPositions contents key → HoldsContents schema new.now (with_ids key 1 ids contents)

-- In layout 2 with its index, let the version and the texts exist, and the version have no ids. If adding the ids fails, the error is one that an
-- INSERT can have (`IsInsertFault`).
abbrev pub IsFaultOfIds : State → State → RowKey → List ℕ → Error → Type 0
IsFaultOfIds old new key ids e = (schema : Schema) → IsIndexedLayoutTwo schema → (contents : Contents) → HoldsContents schema old.now contents → HasNoPositions contents key → HasTexts contents key ids → IsInsertFault old new e

-- in layout 2 with its index, if the version had no evidence and no ids, it now has this evidence
pub record PutsEvidence (old new : State) (key : RowKey) (evidence : Evidence) : Type 0 where
  pub few : length evidence.against < 2 ^ 32
  pub puts : (schema : Schema) → IsIndexedLayoutTwo schema → (contents : Contents) → HoldsContents schema old.now contents → get contents.evidence key ≡ None → HasNoPositions contents key → HoldsContents schema new.now (with_level_and_ids key evidence contents)

-- In layout 2 with its index, let the version and the texts exist, and the version have no evidence and no ids. If adding the evidence fails, the
-- error is one that an INSERT can have (`IsInsertFault`).
abbrev pub IsFaultOfEvidence : State → State → RowKey → Evidence → Error → Type 0
IsFaultOfEvidence old new key evidence e = (schema : Schema) → IsIndexedLayoutTwo schema → (contents : Contents) → HoldsContents schema old.now contents → get contents.evidence key ≡ None → HasNoPositions contents key → HasTexts contents key evidence.against → IsInsertFault old new e

-- ---- adding the index

-- with the index, the trees hold whatever contents the tables held without it
abbrev pub HoldsWithIndex : Database → Trees → Type 0
HoldsWithIndex before db = (held : Contents) → HoldsContents layout_two_unindexed before held → HoldsContents layout_two_indexed_last (record { schema = layout_two_indexed_last; trees = db }) held

-- ---- a new registry, in either layout

-- the tables of this layout spell a new registry
abbrev pub SpellsNew : Layout → Database → Type 0
SpellsNew One db = SpellsLayoutOne db new_stored
SpellsNew Two db = Spells db new_stored

-- the connection is open and shows its last commit, which spells a new registry in this layout
abbrev pub IsOpenOverNew : Layout → State → Type 0
IsOpenOverNew One s = IsOpenOverLayoutOne s new_stored
IsOpenOverNew Two s = IsOpenOver s new_stored

-- the trees that a crash left are the tables of a new registry in this layout
abbrev pub RecoversToNew : Layout → Trees → Type 0
RecoversToNew One db = RecoversToLayoutOne db new_stored
RecoversToNew Two db = RecoversTo db new_stored
