-- The parts of a view.
use Rattle.std.specs.Prelude.{◌≡◌, ◌≢◌, ◌⊎◌, ◌<◌, ◌≤◌, ◌&&◌, ◌||◌, ℕ, Bool, true, false, not, bytes_eq, IsTrue, List, All, length, String, string_bytes, Option, None, Some, option_map, option_and_then}
use Rattle.std.specs.List.{Contains}
use Rattle.std.specs.BTreeMap as tree
use Rattle.std.specs.BTreeMap.{BTreeMap}
use Rattle.std.specs.declared.alloc.Global.{Global}
use Rattle.std.specs.Ordering.{nat_cmp}
use Rattle.reg_core.specs.declared.command.Command.{Command}
use Rattle.reg_core.specs.declared.decision.View.{View}
use Rattle.reg_core.specs.Subjects.{is_subject}
use Rattle.reg_core.specs.Registry.{Registry, Row, Version, Schemas}
use Rattle.reg_core.specs.Rows.{known_id, text_at}
use Rattle.reg_core.specs.Machine.{subject_of, sends_supported_schema, command_schema}
use Rattle.reg_core.specs.Needs.{SufficeFor, row_needs, rows_needed, needs_levels, needs_modes, needs_count}
use Rattle.reg_core.specs.Views.{level_of_view}
use Rattle.reg_tables.specs.declared.listed.ListedVersion.{ListedVersion}
use Rattle.reg_tables.specs.Contents.{VersionEntryView}
use Rattle.reg_tables.specs.Entries.{SubjectVersionView, ListedVersionView, versions_limit}

-- ---- rows

abbrev pub version_spelled : VersionEntryView → Version
version_spelled row = record { id = row.id; deleted = row.deleted }

abbrev pub row_spelled : ListedVersionView → Row
row_spelled entry = (entry.0, version_spelled entry.1)

abbrev pub row_numbered : List ℕ → SubjectVersionView → Row
row_numbered subject entry = ((subject, entry.0), version_spelled entry.1)

-- these are some of those versions in any order, and all of them if they are fewer than `versions_limit`
pub record AreSome (rows all : List Row) : Type 0 where
  pub each : (row : Row) → Contains rows row → Contains all row
  pub few : length rows < versions_limit → (row : Row) → Contains all row → Contains rows row

-- the version is of the subject, and is live unless soft-deleted versions are shown too
abbrev pub is_shown_of : Bool → List ℕ → Row → Bool
is_shown_of shows_deleted subject row = bytes_eq row.0.0 subject && (shows_deleted || not row.1.deleted)

-- The subject's version with the greatest number among these, or `None`. Soft-deleted versions count only if `shows_deleted`. The list may be in
-- any order.
abbrev pub IsLastShown : Bool → List ℕ → List Row → Option Row → Type 0
IsLastShown shows_deleted subject rows None = All (λ row. is_shown_of shows_deleted subject row ≡ false) rows
IsLastShown shows_deleted subject rows (Some last) =
    Contains rows last × (is_shown_of shows_deleted subject last ≡ true) × All (λ row. is_shown_of shows_deleted subject row ≡ true → row.0.1 ≤ last.0.1) rows

-- the version with the greater number; `line` if no version was found before it
abbrev pub IsLaterOf : Option ListedVersion → ListedVersion → ListedVersion → Type 0
IsLaterOf None line result = result ≡ line
IsLaterOf (Some before) line result = ((result ≡ before) × (line.number ≤ before.number)) ⊎ ((result ≡ line) × (before.number ≤ line.number))

-- this project's choice: the text in the row's first column is a valid subject
abbrev pub HasSubject : ListedVersion → Type 0
HasSubject line = IsTrue (is_subject (string_bytes line.subject))

-- ---- texts

-- the text of the id in the map, or `None`
abbrev pub text_there : BTreeMap ℕ (String Global) → ℕ → Option (List ℕ)
text_there texts id = option_map string_bytes (tree.get nat_cmp texts id)

-- the map has the id's text, or none if the id has none
abbrev pub HasText : BTreeMap ℕ (String Global) → Schemas → ℕ → Type 0
HasText texts schemas id = text_there texts id ≡ text_at schemas id

-- each text in the map is that of its id
abbrev pub AreTrueTexts : BTreeMap ℕ (String Global) → Schemas → Type 0
AreTrueTexts texts schemas = (id : ℕ) (text : List ℕ) → text_there texts id ≡ Some text → text_at schemas id ≡ Some text

-- the text of the id is added if it has one, and a true map stays true
pub record AddsText (old new : BTreeMap ℕ (String Global)) (schemas : Schemas) (id : ℕ) : Type 0 where
  pub here : AreTrueTexts old schemas → HasText new schemas id
  pub kept : AreTrueTexts old schemas → (other : ℕ) → HasText old schemas other → HasText new schemas other
  pub true_texts : AreTrueTexts old schemas → AreTrueTexts new schemas

-- the text, if any, is added for an id that had none in the map
pub record InsertsText (old new : BTreeMap ℕ (String Global)) (id : ℕ) (found : Option (String Global)) : Type 0 where
  pub here : text_there old id ≡ None → text_there new id ≡ option_map string_bytes found
  pub others : (other : ℕ) → other ≢ id → text_there new other ≡ text_there old other

-- ---- views

-- the view shows what the command needs of the registry, without the texts
pub record IsViewButTexts (view : View) (g : Registry) (command : Command) : Type 0 where
  pub rows : SufficeFor (level_of_view view) view.known (row_needs command) view.rows.items (rows_needed g (subject_of command) (row_needs command))
  pub levels : IsTrue (needs_levels command) → (view.own ≡ option_and_then g.own (subject_of command)) × (view.global ≡ g.global)
  pub modes : IsTrue (needs_modes command) → (view.own_mode ≡ option_and_then g.own_modes (subject_of command)) × (view.global_mode ≡ g.global_mode)
  pub known : IsTrue (sends_supported_schema command) → view.known ≡ known_id g.schemas (command_schema command)
  pub count : IsTrue (needs_count command) → view.count ≡ length g.schemas
