-- Rows of `versions` as they are read.
use Rattle.std.specs.Prelude.{◌≡◌, ℕ, ◌<◌, ◌≤◌, ◌^◌, pos, List, ◌∷◌, length, map, filter, bytes_eq, ◌==◌, string_bytes, IsUtf8}
use Rattle.std.specs.FinMap.{entries}
use Rattle.std.specs.List.{Contains}
use Rattle.sqlite.specs.declared.types.Value.TheVariants.{Int, Text}
use Rattle.sqlite.specs.Order.{Row}
use Rattle.reg_tables.specs.declared.versions.VersionEntry.{VersionEntry}
use Rattle.reg_tables.specs.declared.listed.SubjectVersion.{SubjectVersion}
use Rattle.reg_tables.specs.declared.listed.ListedVersion.{ListedVersion}
use Rattle.reg_tables.specs.Contents.{VersionEntryView, version_cells, Contents}

abbrev pub version_entry_view : VersionEntry → VersionEntryView
version_entry_view entry = record { id = entry.id; deleted = entry.deleted }

-- a version of a given subject: its number, and the columns after its key
abbrev pub SubjectVersionView : Type 0
SubjectVersionView = ℕ × VersionEntryView

-- the versions of the subject, in ascending order
abbrev pub subject_versions : List ℕ → Contents → List SubjectVersionView
subject_versions subject contents = map (λ entry. (entry.0.1, entry.1)) (filter (λ entry. bytes_eq entry.0.0 subject) (entries contents.versions))

abbrev pub subject_version_view : SubjectVersion → SubjectVersionView
subject_version_view line = (line.number, record { id = line.id; deleted = line.deleted })

-- a version: its subject and number, and the columns after its key
abbrev pub ListedVersionView : Type 0
ListedVersionView = (List ℕ × ℕ) × VersionEntryView

-- the versions with this id, in the order of their subjects and numbers
abbrev pub id_versions : ℕ → Contents → List ListedVersionView
id_versions id contents = filter (λ entry. entry.1.id == id) (entries contents.versions)

abbrev pub listed_version_view : ListedVersion → ListedVersionView
listed_version_view line = ((string_bytes line.subject, line.number), record { id = line.id; deleted = line.deleted })

-- the most versions that `some_versions_of_id` returns
abbrev pub versions_limit : ℕ
versions_limit = 33

-- these versions have the id; they are at most `versions_limit`, and if they are fewer, they are all versions with the id, in any order
pub record AreVersionsOfId (id : ℕ) (contents : Contents) (versions : List ListedVersionView) : Type 0 where
  pub few : length versions ≤ versions_limit
  pub each : (version : ListedVersionView) → Contains versions version → Contains (id_versions id contents) version
  pub all : length versions < versions_limit → (version : ListedVersionView) → Contains (id_versions id contents) version → Contains versions version

-- ---- rows as a query returns them

abbrev pub subject_version_cells : SubjectVersionView → Row
subject_version_cells version = Int (pos version.0) ∷ version_cells version.1

pub record IsReadableSubjectVersion (row : Row) : Type 0 where
  pub number : ℕ
  pub version : VersionEntryView
  pub is : row ≡ Int (pos number) ∷ version_cells version
  pub low : number < 2 ^ 32
  pub low_id : version.id < 2 ^ 32

abbrev pub listed_version_cells : ListedVersionView → Row
listed_version_cells version = Text version.0.0 ∷ Int (pos version.0.1) ∷ version_cells version.1

pub record IsReadableListedVersion (row : Row) : Type 0 where
  pub subject : List ℕ
  pub number : ℕ
  pub version : VersionEntryView
  pub is : row ≡ Text subject ∷ Int (pos number) ∷ version_cells version
  pub utf8 : IsUtf8 subject
  pub low : number < 2 ^ 32
  pub low_id : version.id < 2 ^ 32
