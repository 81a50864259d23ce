-- The registry, the kept replies and the evidence that tables spell.
use Rattle.std.specs.Prelude.{◌≡◌, ◌<◌, ◌^◌, ℕ, zero, suc, List, length, slice_get, Option, None, Some, IsTrue, IsUtf8, codes, option_map, option_and_then}
use Rattle.std.specs.FinMap.{get, insert, empty}
use Rattle.sqlite.specs.Tree.{Trees}
use Rattle.sqlite.specs.Schema.{Schema}
use Rattle.sqlite.specs.Effect.{Database}
use Rattle.sqlite.specs.State.{State}
use Rattle.avro_nodes.specs.Nodes.{NodeView}
use Rattle.avro_nodes.specs.Identity.{identity}
use Rattle.reg_core.specs.declared.level.Level.{Level}
use Rattle.reg_core.specs.declared.mode.Mode.{Mode}
use Rattle.reg_core.specs.declared.mode.Mode.TheVariants.{Readwrite}
use Rattle.reg_core.specs.Levels.{level_text}
use Rattle.reg_core.specs.Modes.{mode_text}
use Rattle.reg_core.specs.Keys.{IsKey}
use Rattle.reg_core.specs.Subjects.{is_subject}
use Rattle.reg_core.specs.Replies.{IsKeptStatus}
use Rattle.reg_core.specs.Registry.{RowKey, Version, Registry, IsRegistry, schema_at}
use Rattle.reg_core.specs.Evidence.{Evidence, EvidenceMap}
use Rattle.reg_core.specs.Stored.{Stored}
use Rattle.reg_tables.specs.Layout.{IsLayoutOne, IsIndexedLayoutTwo, IsOpenable}
use Rattle.reg_tables.specs.Contents.{TextMap, VersionEntryView, KeptReplyView, Contents, HoldsContents, PositionKey}
use Rattle.reg_tables.specs.Changes.{meta_of_layout, meta_of_layout_one}
use Rattle.reg_core.specs.KeptReplies.{KeptEntry, Kept}

-- this project's choice: a row of `kept` has the command's text, and the status and the body of its reply
abbrev pub stored_reply : KeptEntry → KeptReplyView
stored_reply entry = record { command = entry.command; status = entry.reply.status; body = entry.reply.body }

-- this project's choice: a row of `versions` has the version's id, and whether it is soft-deleted
abbrev pub stored_version : Version → VersionEntryView
stored_version version = record { id = version.id; deleted = version.deleted }

-- this project's choice: a valid retry key, the status of a kept reply, and two texts
pub record CanBeKept (key : List ℕ) (entry : KeptEntry) : Type 0 where
  pub is_key : IsKey key
  pub status : IsKeptStatus entry.reply.status
  pub text : IsUtf8 entry.command
  pub body : IsUtf8 entry.reply.body

-- This project's choice: `texts`, `versions`, `levels` and `kept` spell these schemas, versions, own levels and kept
-- replies. Modes and `meta`, which has the global level, are left to each layout.
pub record IsSpelled (contents : Contents) (g : Registry) (k : Kept) : Type 0 where
  pub registry : IsRegistry g
  -- the text of an id is the identity text of its schema
  pub texts : (id : ℕ) → get contents.texts id ≡ option_map identity (schema_at g.schemas id)
  pub utf8 : (id : ℕ) (nodes : List NodeView) → schema_at g.schemas id ≡ Some nodes → IsUtf8 (identity nodes)
  pub versions : (key : RowKey) → get contents.versions key ≡ option_map stored_version (get g.rows key)
  pub registered : (key : RowKey) (version : Version) → get g.rows key ≡ Some version → IsTrue (is_subject key.0)
  pub levels : (subject : List ℕ) → get contents.levels subject ≡ option_map level_text (g.own subject)
  pub subjects : (subject : List ℕ) (level : Level) → g.own subject ≡ Some level → IsTrue (is_subject subject)
  pub kept : (key : List ℕ) → get contents.kept key ≡ option_map stored_reply (k key)
  pub keys : (key : List ℕ) (entry : KeptEntry) → k key ≡ Some entry → CanBeKept key entry

-- ---- layout 1

-- this project's choice: the registry's mode is READWRITE, and no subject has its own mode
pub record HasDefaultModes (g : Registry) : Type 0 where
  pub global : g.global_mode ≡ Readwrite
  pub own : (subject : List ℕ) → g.own_modes subject ≡ None

-- this project's choice: the contents of layout 1 spell the stored state
pub record IsSpelledLayoutOne (contents : Contents) (was : Stored) : Type 0 where
  pub base : IsSpelled contents was.registry was.replies
  -- only the format, the layout and the global level
  pub meta : contents.meta ≡ meta_of_layout_one (level_text was.registry.global)
  -- layout 1 has neither modes nor evidence
  pub modes : HasDefaultModes was.registry
  pub evidence : was.evidence ≡ empty

-- ---- layout 2

-- this project's choice: the rows of `meta` in layout 2 are the format, the layout, the global level and the global mode
abbrev pub layout_two_meta : List ℕ → List ℕ → TextMap (List ℕ)
layout_two_meta level mode = insert (meta_of_layout (codes "2") level) (codes "mode") mode

-- this project's choice: the id at a position, counted from 1, of those that a version was checked against
abbrev pub id_at : ℕ → Evidence → Option ℕ
id_at zero one = None
id_at (suc n) one = slice_get one.against n

-- this project's choice: the level's text, and the ids at the positions from 1 to their count, spell the evidence of a version
pub record IsSpelledEvidence (contents : Contents) (evidence : EvidenceMap) : Type 0 where
  pub levels : (key : RowKey) → get contents.evidence key ≡ option_map (λ one. level_text one.level) (get evidence key)
  pub ids : (position : PositionKey) → get contents.against position ≡ option_and_then (id_at position.1) (get evidence position.0)
  pub few : (key : RowKey) (one : Evidence) → get evidence key ≡ Some one → length one.against < 2 ^ 32

-- this project's choice: the contents of layout 2 spell the stored state
pub record IsSpelledLayoutTwo (contents : Contents) (was : Stored) : Type 0 where
  pub base : IsSpelled contents was.registry was.replies
  pub meta : contents.meta ≡ layout_two_meta (level_text was.registry.global) (mode_text was.registry.global_mode)
  pub modes : (subject : List ℕ) → get contents.modes subject ≡ option_map mode_text (was.registry.own_modes subject)
  pub owners : (subject : List ℕ) (mode : Mode) → was.registry.own_modes subject ≡ Some mode → IsTrue (is_subject subject)
  pub evidence : IsSpelledEvidence contents was.evidence

-- ---- databases

-- this project's choice: the database has one of these schemas, and its tables hold contents that spell the stored state
pub record SpellsIn (IsAllowed : Schema → Type 0) (Spelled : Contents → Stored → Type 0) (db : Database) (was : Stored) : Type 0 where
  pub schema : Schema
  pub known : IsAllowed schema
  pub contents : Contents
  pub holds : HoldsContents schema db contents
  pub spelled : Spelled contents was

-- this project's choice: the tables are those of layout 2 with its index, and spell the stored state
abbrev pub Spells : Database → Stored → Type 0
Spells = SpellsIn IsIndexedLayoutTwo IsSpelledLayoutTwo

-- this project's choice: the tables are those of layout 2, with or without the index, and spell the stored state
abbrev pub SpellsUnopened : Database → Stored → Type 0
SpellsUnopened = SpellsIn IsOpenable IsSpelledLayoutTwo

-- this project's choice: the tables are those of layout 1, with or without the index, and spell the stored state
abbrev pub SpellsLayoutOne : Database → Stored → Type 0
SpellsLayoutOne = SpellsIn IsLayoutOne IsSpelledLayoutOne

-- a database spells at most one stored state
abbrev pub SpellsAtMostOne : (Database → Stored → Type 0) → Type 0
SpellsAtMostOne Spelled = (db : Database) (one other : Stored) → Spelled db one → Spelled db other → one ≡ other

-- this project's choice: what a crash may leave: trees that, as tables of one of these schemas, spell the stored state
pub record RecoversToIn (IsAllowed : Schema → Type 0) (Spelled : Contents → Stored → Type 0) (trees : Trees) (was : Stored) : Type 0 where
  pub schema : Schema
  pub spells : SpellsIn IsAllowed Spelled (record { schema = schema; trees = trees }) was

-- this project's choice: what a crash may leave: trees that, as tables of layout 2, spell the stored state
abbrev pub RecoversTo : Trees → Stored → Type 0
RecoversTo = RecoversToIn IsIndexedLayoutTwo IsSpelledLayoutTwo

-- this project's choice: what a crash may leave: trees that, as tables of layout 1, spell the stored state
abbrev pub RecoversToLayoutOne : Trees → Stored → Type 0
RecoversToLayoutOne = RecoversToIn IsLayoutOne IsSpelledLayoutOne

-- ---- connections

-- SQLite, transactions: the connection is open and shows its last commit, which spells the stored state
pub record IsOpenIn (Spelled : Database → Stored → Type 0) (s : State) (was : Stored) : Type 0 where
  pub is_open : IsTrue s.is_open
  pub settled : s.committed ≡ s.now
  pub spells : Spelled s.now was

-- SQLite, transactions: the connection is open and shows its last commit, which spells the stored state in layout 2
abbrev pub IsOpenOver : State → Stored → Type 0
IsOpenOver = IsOpenIn Spells

-- SQLite, transactions: the connection is open and shows its last commit, which spells the stored state in layout 1
abbrev pub IsOpenOverLayoutOne : State → Stored → Type 0
IsOpenOverLayoutOne = IsOpenIn SpellsLayoutOne

-- SQLite, transactions: if the connection is still open, its last commit spells the stored state; a fault may have closed it
abbrev pub SpellsWhileOpen : State → Stored → Type 0
SpellsWhileOpen s was = IsTrue s.is_open → IsOpenOver s was
