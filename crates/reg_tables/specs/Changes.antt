-- How each statement changes the contents.
use Rattle.std.specs.Prelude.{ℕ, true, not, List, option_map, unwrap_or, codes}
use Rattle.std.specs.declared.cmp.Ordering.{Ordering}
use Rattle.std.specs.Ordering.{is_eq}
use Rattle.std.specs.FinMap.{FinMap, get, insert, remove, retain_keys, empty}
use Rattle.reg_tables.specs.Contents.{version_cmp, PositionKey, position_cmp, TextMap, VersionEntryView, KeptReplyView, Contents}

abbrev pub with_meta : List ℕ → List ℕ → Contents → Contents
with_meta name value contents = record contents { meta = insert contents.meta name value }

abbrev pub with_global : List ℕ → Contents → Contents
with_global level = with_meta (codes "global") level

abbrev pub with_global_mode : List ℕ → Contents → Contents
with_global_mode mode = with_meta (codes "mode") mode

-- the contents with the number of layout 2, and READWRITE as the global mode
abbrev pub marked_layout_two : Contents → Contents
marked_layout_two contents = with_global_mode (codes "READWRITE") (with_meta (codes "layout") (codes "2") contents)

abbrev pub with_level : List ℕ → List ℕ → Contents → Contents
with_level subject level contents = record contents { levels = insert contents.levels subject level }

abbrev pub without_level : List ℕ → Contents → Contents
without_level subject contents = record contents { levels = remove contents.levels subject }

abbrev pub with_kept : List ℕ → KeptReplyView → Contents → Contents
with_kept key reply contents = record contents { kept = insert contents.kept key reply }

abbrev pub with_text : ℕ → List ℕ → Contents → Contents
with_text id text contents = record contents { texts = insert contents.texts id text }

abbrev pub with_version : List ℕ × ℕ → VersionEntryView → Contents → Contents
with_version key version contents = record contents { versions = insert contents.versions key version }

-- the map without the positions of a version
abbrev pub without_positions : FinMap position_cmp ℕ → List ℕ × ℕ → FinMap position_cmp ℕ
without_positions places key = retain_keys places (λ place. not (is_eq (version_cmp place.0 key)))

-- a version is removed together with its evidence
abbrev pub without_version : List ℕ × ℕ → Contents → Contents
without_version key contents = record contents {
  versions = remove contents.versions key;
  evidence = remove contents.evidence key;
  against = without_positions contents.against key;
}

abbrev pub with_evidence : List ℕ × ℕ → List ℕ → Contents → Contents
with_evidence key level contents = record contents { evidence = insert contents.evidence key level }

abbrev pub with_against : PositionKey → ℕ → Contents → Contents
with_against key id contents = record contents { against = insert contents.against key id }

abbrev pub with_mode : List ℕ → List ℕ → Contents → Contents
with_mode subject mode contents = record contents { modes = insert contents.modes subject mode }

abbrev pub without_mode : List ℕ → Contents → Contents
without_mode subject contents = record contents { modes = remove contents.modes subject }

-- the map after a change of the key's value, or the same map if the key has no value
abbrev pub altered : {K V : Type 0} {R : K → K → Ordering} → FinMap R V → K → (V → V) → FinMap R V
altered m key change = unwrap_or (option_map (λ value. insert m key (change value)) (get m key)) m

-- the version marked as deleted
abbrev pub as_deleted : VersionEntryView → VersionEntryView
as_deleted version = record version { deleted = true }

-- the contents with this version marked as deleted; unchanged if there is no such version
abbrev pub marking_deleted : List ℕ × ℕ → Contents → Contents
marking_deleted key contents = record contents { versions = altered contents.versions key as_deleted }

-- ---- a new registry

abbrev pub no_contents : Contents
no_contents = record { texts = empty; versions = empty; levels = empty; kept = empty; meta = empty; modes = empty; evidence = empty; against = empty }

-- the rows of `meta` for the format and the layout's number
abbrev pub meta_before_level : List ℕ → TextMap (List ℕ)
meta_before_level number = insert (insert empty (codes "format") (codes "avroreg")) (codes "layout") number

-- the rows of `meta` in the layout with this number, except the mode
abbrev pub meta_of_layout : List ℕ → List ℕ → TextMap (List ℕ)
meta_of_layout number level = insert (meta_before_level number) (codes "global") level

abbrev pub meta_of_layout_one : List ℕ → TextMap (List ℕ)
meta_of_layout_one = meta_of_layout (codes "1")

abbrev pub contents_before_level : List ℕ → Contents
contents_before_level number = record no_contents { meta = meta_before_level number }

-- Schema Registry API reference, Config: the level of a new registry is BACKWARD
abbrev pub contents_of_layout : List ℕ → Contents
contents_of_layout number = record no_contents { meta = meta_of_layout number (codes "BACKWARD") }

abbrev pub new_contents_one : Contents
new_contents_one = contents_of_layout (codes "1")

-- a new registry in layout 2 has the level BACKWARD and the mode READWRITE
abbrev pub new_contents_two : Contents
new_contents_two = with_global_mode (codes "READWRITE") (contents_of_layout (codes "2"))
