-- The next line after a cursor of a listing.
use Rattle.std.proofs.Common.{◌≡◌, inl, inr, ◌&&◌, ℕ, zero, suc, ◌+◌, ◌-◌, ◌^◌, ◌<◌, ◌≤◌, min, List, [], ◌∷◌, length, map, take, find, Bool, true, false, cond, Option, None, Some, slice_get, Ordering, Less, Equal, Greater, refl, sym, ap, subst, ◌∙◌, add-one, arith}
use Rattle.std.specs.Prelude.{bytes_eq, option_map, IsTrue, Vec, String}
use Rattle.std.specs.declared.alloc.Global.{Global}
use Rattle.std.specs.FinMap.{entries, get}
use Rattle.std.specs.List.{enumerate_from, last_or}
use Rattle.std.specs.Ordering.{is_gt, nat_cmp, ordering_then}
use Rattle.std.specs.Str.{chars, is_utf8}
use Rattle.std.proofs.lemmas.Bool.{cases_lt}
use Rattle.std.proofs.lemmas.Cmp.{nat_list_cmp_total}
use Rattle.std.proofs.lemmas.Option.{none-some, same_Some, slice_get-map, slice_get_past}
use Rattle.sqlite.specs.Tree.{IsAscending}
use Rattle.sqlite_rules.specs.Lists.{Has}
use Rattle.sqlite_trees.specs.declared.store.Store.{Ghosts}
use Rattle.sqlite_trees.proofs.ListLemmas.{ascending-map, ascending_weaker}
use Rattle.avro_nodes.specs.Nodes.{NodeView}
use Rattle.avro_nodes.specs.Identity.{identity}
use Rattle.reg_core.specs.Registry.{Registry, Row, RowKey, Version as RowVersion, Schemas, row_cmp, max_number}
use Rattle.reg_core.specs.Rows.{text_at}
use Rattle.reg_core.specs.Subjects.{is_subject}
use Rattle.reg_core.specs.KeptReplies.{Kept}
use Rattle.reg_tables.specs.declared.listed.ListedVersion.{ListedVersion}
use Rattle.reg_tables.specs.declared.listed.SubjectVersion.{SubjectVersion}
use Rattle.reg_tables.specs.Contents.{Contents, text_cmp, version_cmp}
use Rattle.reg_tables.specs.Entries.{ListedVersionView, listed_version_view, SubjectVersionView, subject_version_view, subject_versions}
use Rattle.reg_tables.proofs.FirstVersions.{find-map, find-filter}
use Rattle.reg_tables.proofs.KeyedTables.{version_order}
use Rattle.reg_tables.proofs.LastVersions.{map_twice}
use Rattle.reg_tables.proofs.OrderedQueries.{entries_rise, entry_got}
use Rattle.reg_store.specs.declared.listing.Listing.{Listing}
use Rattle.reg_store.specs.declared.listing.Listing.TheVariants.{Subjects, Versions, Schemas as AllSchemas}
use Rattle.reg_store.specs.declared.store.line_iterator.Lines.{Lines}
use Rattle.reg_store.specs.declared.store.cursor.Cursor.{Cursor}
use Rattle.reg_store.specs.declared.store.cursor.Cursor.TheVariants.{Version, Schema}
use Rattle.reg_store.specs.NextLines.{is_after, subject_in, key_in, IsCursorAt, IsNextLine, HasYielded, YieldsNext}
use Rattle.reg_store.specs.Listings.{Fields, fields_of, listing_lines, schema_line, schema_lines, subject_listed, subjects_of, version_line}
use Rattle.reg_store.specs.Spells.{IsSpelled, stored_version}
use Rattle.reg_store.specs.Inside.Viewing.{row_spelled, row_numbered}
use Rattle.reg_store.proofs.NextRowLemmas.{next_of, none_same, some_same, find-dedup, dedup_rises}
use Rattle.reg_store.proofs.ListingLemmas.{length-schema_lines, taken_more}
use Rattle.reg_store.proofs.RowLemmas.{all_spelled, subject_spelled}
use Rattle.reg_store.proofs.Texts.{was_written}

-- ---- the rows of the tables

module _ (contents : Contents) (g : Registry) (spelled : (key : RowKey) → get contents.versions key ≡ option_map stored_version (get g.rows key)) (subject : List ℕ) where
  pub subject_after : (found : Option ListedVersion) → option_map listed_version_view found ≡ find (λ (e : ListedVersionView). is_gt (text_cmp e.0.0 subject)) (entries contents.versions)
      → option_map (λ (line : ListedVersion). row_spelled (listed_version_view line)) found ≡ find (λ (row : Row). is_gt (text_cmp row.0.0 subject)) (entries g.rows)
  subject_after found is =
      sym (map_twice row_spelled listed_version_view found) ∙ ap (option_map row_spelled) is ∙ sym (find-map row_spelled (λ (row : Row). is_gt (text_cmp row.0.0 subject)) (entries contents.versions))
      ∙ ap (find (λ (row : Row). is_gt (text_cmp row.0.0 subject))) (all_spelled contents g spelled)

  pub next_told : (number : ℕ) (found : Option SubjectVersion) → option_map subject_version_view found ≡ find (λ (version : SubjectVersionView). is_gt (nat_cmp version.0 number)) (subject_versions subject contents)
      → option_map (λ (line : SubjectVersion). row_numbered subject (subject_version_view line)) found ≡ find (λ (row : Row). bytes_eq row.0.0 subject && is_gt (nat_cmp row.0.1 number)) (entries g.rows)
  next_told number found is =
      sym (map_twice (row_numbered subject) subject_version_view found) ∙ ap (option_map (row_numbered subject)) is
      ∙ sym (find-map (row_numbered subject) (λ (row : Row). is_gt (nat_cmp row.0.1 number)) (subject_versions subject contents))
      ∙ ap (find (λ (row : Row). is_gt (nat_cmp row.0.1 number))) (subject_spelled contents g spelled subject)
      ∙ find-filter (λ (row : Row). is_gt (nat_cmp row.0.1 number)) (λ (row : Row). bytes_eq row.0.0 subject) (entries g.rows)

-- ---- versions

module _ (g : Registry) where
  abbrev rows : List Row
  rows = entries g.rows

  rows_rise : IsAscending (λ (a b : Row). row_cmp a.0 b.0 ≡ Less) rows
  rows_rise = entries_rise row_cmp version_order g.rows

  -- the next version of the subject is the next of all
  pub same_subject : (key : RowKey) (row : Row) → find (λ (r : Row). bytes_eq r.0.0 key.0 && is_gt (nat_cmp r.0.1 key.1)) rows ≡ Some row → find (λ (r : Row). is_gt (row_cmp r.0 key)) rows ≡ Some row
  same_subject key row = some_same (λ (r : Row). r.0.0) (λ (r : Row). r.0.1) key.0 key.1 rows row rows_rise

  -- if the subject has none, the first version of the next subject is
  pub other_subject : (key : RowKey) → find (λ (r : Row). bytes_eq r.0.0 key.0 && is_gt (nat_cmp r.0.1 key.1)) rows ≡ None → find (λ (r : Row). is_gt (row_cmp r.0 key)) rows ≡ find (λ (r : Row). is_gt (text_cmp r.0.0 key.0)) rows
  other_subject key = none_same (λ (r : Row). r.0.0) (λ (r : Row). r.0.1) key.0 key.1 rows

  pub next_row : (count : ℕ) (last found : Option Row) → last ≡ last_or None (take count rows) → found ≡ find (λ (row : Row). is_after row_cmp (option_map key_in last) row.0) rows → found ≡ slice_get rows count
  next_row count last found at is = is ∙ ap (λ o. find (λ (row : Row). is_after row_cmp (option_map key_in o) row.0) rows) at ∙ next_of row_cmp version_order.total key_in count rows rows_rise

  -- ---- subjects

  abbrev subjects : List (List ℕ)
  subjects = subjects_of rows

  no_fall : (a b : Row) → row_cmp a.0 b.0 ≡ Less → is_gt (text_cmp a.0.0 b.0.0) ≡ false
  no_fall a b h = go (text_cmp a.0.0 b.0.0) h
    where
      go : (o : Ordering) → ordering_then o (nat_cmp a.0.1 b.0.1) ≡ Less → is_gt o ≡ false
      go Less h = refl
      go Equal h = refl
      go Greater h = absurd (cc)

  subjects_rise : IsAscending (λ a b. text_cmp a b ≡ Less) subjects
  subjects_rise = dedup_rises (map subject_in rows) (ascending-map (λ a b. is_gt (text_cmp a b) ≡ false) subject_in rows (ascending_weaker (λ (a b : Row). row_cmp a.0 b.0 ≡ Less) _ no_fall rows rows_rise))

  itself : (o : Option (List ℕ)) → option_map (λ x. x) o ≡ o
  itself None = refl
  itself (Some x) = refl

  pub next_subject_is : (count : ℕ) (last found : Option Row) → option_map subject_in last ≡ last_or None (take count subjects) → found ≡ find (λ (row : Row). is_after text_cmp (option_map subject_in last) row.0.0) rows
      → option_map subject_in found ≡ slice_get subjects count
  next_subject_is count last found at is =
      let after = option_map subject_in last in
      ap (option_map subject_in) is ∙ sym (find-map subject_in (is_after text_cmp after) rows) ∙ sym (find-dedup (is_after text_cmp after) (map subject_in rows))
      ∙ ap (λ o. find (is_after text_cmp o) subjects) (at ∙ sym (itself (last_or None (take count subjects)))) ∙ next_of text_cmp nat_list_cmp_total (λ x. x) count subjects subjects_rise

  -- ---- lines

  pub version_leads : (count : ℕ) (found : Option Row) → found ≡ slice_get rows count → option_map version_line found ≡ slice_get (listing_lines Versions g) count
  version_leads count found is = ap (option_map version_line) is ∙ sym (slice_get-map version_line rows count)

  pub subject_leads : (count : ℕ) (found : Option (List ℕ)) → found ≡ slice_get subjects count → option_map (subject_listed g) found ≡ slice_get (listing_lines Subjects g) count
  subject_leads count found is = ap (option_map (subject_listed g)) is ∙ sym (slice_get-map (subject_listed g) subjects count)

-- ---- schemas

abbrev entry_line : ℕ × List NodeView → Fields
entry_line entry = schema_line entry.0 (identity entry.1)

found_line : (n : ℕ) (schemas : Schemas) (i id : ℕ) → id ≡ n + i → slice_get (map entry_line (enumerate_from n schemas)) i ≡ option_map (λ text. schema_line id text) (option_map identity (slice_get schemas i))
found_line n [] i id is = refl
found_line n (nodes ∷ schemas) zero id is = let same : n ≡ id = omega arith in ap (λ m. Some (schema_line m (identity nodes))) same
found_line n (nodes ∷ schemas) (suc i) id is = found_line (n + 1) schemas i id (omega arith)

pub schema_leads : (g : Registry) (count : ℕ) → option_map (schema_line (count + 1)) (text_at g.schemas (count + 1)) ≡ slice_get (listing_lines AllSchemas g) count
schema_leads g count = subst (λ id. option_map (schema_line id) (text_at g.schemas id) ≡ slice_get (schema_lines g.schemas) count) (sym (add-one count)) (sym (found_line 1 g.schemas count (suc count) (omega arith)))

-- ---- subjects of the table

found_passes : {X : Type 0} (p : X → Bool) (xs : List X) (x : X) → find p xs ≡ Some x → Has xs x
found_passes p [] x h = absurd (none-some x h)
found_passes p (y ∷ xs) x h = go (p y) h (found_passes p xs x)
  where
    go : (b : Bool) → cond b (Some y) (find p xs) ≡ Some x → (find p xs ≡ Some x → Has xs x) → Has (y ∷ xs) x
    go true h rest = inl (sym (same_Some y x h))
    go false h rest = inr (rest h)

pub of_subject : (contents : Contents) (g : Registry) (k : Kept) → IsSpelled contents g k → (subject : List ℕ) (entry : ListedVersionView) → find (λ (e : ListedVersionView). is_gt (text_cmp e.0.0 subject)) (entries contents.versions) ≡ Some entry → IsTrue (is_subject entry.0.0)
of_subject contents g k s subject entry h =
    let got = entry_got version_cmp version_order contents.versions entry (found_passes _ (entries contents.versions) entry h) in
    let it = was_written stored_version (get g.rows entry.0) entry.1 (sym (s.versions entry.0) ∙ got) in
    s.registered entry.0 it.0 it.1

-- ---- the first of all

pub first_any : {X : Type 0} (xs : List X) → find (λ x. true) xs ≡ slice_get xs 0
first_any [] = refl
first_any (x ∷ xs) = refl

not_empty : (text : List ℕ) → IsTrue (is_subject text) → is_gt (text_cmp text []) ≡ true
unfolding is_subject is_utf8 chars
not_empty [] h = absurd (cc)
not_empty (c ∷ text) h = refl

-- no subject is the empty text
pub first_is : (g : Registry) → ((key : RowKey) (version : RowVersion) → get g.rows key ≡ Some version → IsTrue (is_subject key.0)) → find (λ (row : Row). is_gt (text_cmp row.0.0 [])) (entries g.rows) ≡ slice_get (entries g.rows) 0
first_is g registered = go (entries g.rows) (λ row there. registered row.0 row.1 (entry_got row_cmp version_order g.rows row there))
  where
    go : (rows : List Row) → ((row : Row) → Has rows row → IsTrue (is_subject row.0.0)) → find (λ (row : Row). is_gt (text_cmp row.0.0 [])) rows ≡ slice_get rows 0
    go [] each = refl
    go (row ∷ rows) each = ap (λ b. cond b (Some row) (find (λ (r : Row). is_gt (text_cmp r.0.0 [])) rows)) (not_empty row.0.0 (each row (inl refl)))

-- ---- the next id

past_all : (g : Registry) → length g.schemas ≤ max_number → (id : ℕ) → 2 ^ 32 - 1 ≤ id → (text_at g.schemas id ≡ None) × (slice_get (listing_lines AllSchemas g) id ≡ None)
past_all g few zero past = absurd (omega arith)
past_all g few (suc id) past =
    (ap (option_map identity) (slice_get_past g.schemas id (omega arith)), slice_get_past (schema_lines g.schemas) (suc id) (omega (arith, length-schema_lines g.schemas)))

-- the line at a cursor is that of the next id, or `None` after the last id
pub schema_next : (g : Registry) → length g.schemas ≤ max_number → (id next : ℕ) → id < 2 ^ 32 → next ≡ min (id + 1) (2 ^ 32 - 1) → (found : Option (List ℕ)) → found ≡ text_at g.schemas next
    → (option_map (schema_line next) found ≡ slice_get (listing_lines AllSchemas g) id) × ((text : List ℕ) → found ≡ Some text → next ≡ id + 1)
schema_next g few id next low is found there = elim (cases_lt id (2 ^ 32 - 1)) [
  | inl below ↦ (
      let one : next ≡ id + 1 = omega (arith, below) in
      (ap (option_map (schema_line next)) there ∙ subst (λ n. option_map (schema_line n) (text_at g.schemas n) ≡ slice_get (listing_lines AllSchemas g) id) (sym one) (schema_leads g id), λ text some. one))
  | inr past ↦ (
      let last : next ≡ id = omega (arith, past) in
      let none = past_all g few id past in
      let lacks : found ≡ None = there ∙ ap (text_at g.schemas) last ∙ none.0 in
      (ap (option_map (schema_line next)) lacks ∙ sym none.1, λ text some. absurd (none-some text (sym lacks ∙ some))))
]

-- ---- kinds

pub of_versions : (kind : Listing) (g : Registry) (count : ℕ) (last : Option Row) → IsCursorAt kind g count (Version last) → kind ≡ Versions
of_versions Subjects g count last at = absurd at
of_versions Versions g count last at = refl
of_versions AllSchemas g count last at = absurd at

pub of_schemas : (kind : Listing) (g : Registry) (count id : ℕ) → IsCursorAt kind g count (Schema id) → kind ≡ AllSchemas
of_schemas Subjects g count id at = absurd at
of_schemas Versions g count id at = absurd at
of_schemas AllSchemas g count id at = refl

-- ---- the yielded lines

pub all_taken : {X : Type 0} (xs : List X) (n : ℕ) → None ≡ slice_get xs n → take n xs ≡ xs
all_taken [] zero h = refl
all_taken [] (suc n) h = refl
all_taken (x ∷ xs) zero h = absurd (none-some x h)
all_taken (x ∷ xs) (suc n) h = ap (λ ys. x ∷ ys) (all_taken xs n h)

pub hands_on : {S : Type 0} {g : Ghosts S} (old new : Lines S Cursor g) (kind : Listing) (registry : Registry) (done : List Fields) (h : HasYielded old kind registry done) (line : Option (Vec (String Global) Global))
    → IsNextLine kind registry h.count (line, new.cursor) → YieldsNext new kind registry done line
hands_on old new kind registry done h None leads = (h.begins ∙ all_taken (listing_lines kind registry) h.count leads.line, record { count = h.count; begins = h.begins; cursor = leads.cursor })
hands_on old new kind registry done h (Some line) leads = record { count = h.count + 1; begins = taken_more (listing_lines kind registry) done h.count (fields_of line) h.begins (sym leads.line); cursor = leads.cursor }
