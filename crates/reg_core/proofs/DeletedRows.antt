-- The versions after a deletion, key by key.
use Rattle.std.proofs.Common.{◌≡◌, ◌∙◌, ℕ, List, [], ◌∷◌, Bool, true, false, true≢false, cond, refl, ap, sym, Ordering, Less, Equal, Greater}
use Rattle.std.specs.Prelude.{Option, None, Some, not, bytes_eq, ◌||◌, map, option_map, unwrap_or, if◌then◌else◌}
use Rattle.std.specs.FinMap.{entries, get, get-entries, get-insert, get-remove, get-retain_keys, get-from_entries, find, insert, remove, retain_keys, from_entries}
use Rattle.std.specs.List.{list_any}
use Rattle.std.specs.Ordering.{is_eq, eq_by_cmp}
use Rattle.std.proofs.lemmas.Cmp.{tied_itself}
use Rattle.reg_core.specs.Registry.{RowKey, Row, Rows, Version, row_cmp}
use Rattle.reg_core.specs.DeletionCommands.{as_deleted, deleted_of}
use Rattle.reg_core.specs.Views.{altered}
use Rattle.reg_core.proofs.RowLemmas.{row_order, row_keys_apart}

abbrev pub same_key : RowKey → RowKey → Bool
same_key = eq_by_cmp row_cmp

-- keys that compare equal are equal
pub key_is : (q key : RowKey) → same_key q key ≡ true → q ≡ key
key_is q key e = by (row_cmp q key) refl e
  where
    by : (o : Ordering) → row_cmp q key ≡ o → is_eq o ≡ true → q ≡ key
    by Less is h = absurd (true≢false (sym h))
    by Equal is h = row_keys_apart q key is
    by Greater is h = absurd (true≢false (sym h))

pub key_ties : (q key : RowKey) → q ≡ key → same_key q key ≡ true
key_ties q key e = ap (λ k. is_eq (row_cmp q k)) (sym e) ∙ ap is_eq (tied_itself row_order q)

-- ---- one version

-- if `here` equals `there` whenever it is chosen, the choice is `there`
same_there : (b : Bool) (here there : Option Version) → (b ≡ true → here ≡ there) → cond b here there ≡ there
same_there true here there h = h refl
same_there false here there h = refl

same_here : (b : Bool) (one other there : Option Version) → (b ≡ true → one ≡ other) → cond b one there ≡ cond b other there
same_here true one other there h = h refl
same_here false one other there h = refl

abbrev pub put_back : Rows → RowKey → (Version → Version) → Option Version → Rows
put_back rows key change found = unwrap_or (option_map (λ version. insert rows key (change version)) found) rows

altered_by : (rows : Rows) (key : RowKey) (change : Version → Version) (q : RowKey) (found : Option Version) → get rows key ≡ found
    → get (put_back rows key change found) q ≡ cond (same_key q key) (option_map change (get rows q)) (get rows q)
altered_by rows key change q None is =
    sym (same_there (same_key q key) (option_map change (get rows q)) (get rows q) (λ e. let none = ap (get rows) (key_is q key e) ∙ is in ap (option_map change) none ∙ sym none))
altered_by rows key change q (Some version) is =
    get-insert row_order rows key (change version) q
    ∙ same_here (same_key q key) (Some (change version)) (option_map change (get rows q)) (get rows q) (λ e. sym (ap (option_map change) (ap (get rows) (key_is q key e) ∙ is)))

-- the version at a key after one version was altered
pub altered_at : (rows : Rows) (key : RowKey) (change : Version → Version) (q : RowKey) → get (altered rows key change) q ≡ cond (same_key q key) (option_map change (get rows q)) (get rows q)
altered_at rows key change q = altered_by rows key change q (get rows key) refl

-- ---- several versions

-- the versions, with those at these keys soft-deleted in order
abbrev pub delete_all : Rows → List RowKey → Rows
delete_all rows [] = rows
delete_all rows (key ∷ keys) = delete_all (altered rows key as_deleted) keys

abbrev pub all_removed : Rows → List RowKey → Rows
all_removed rows [] = rows
all_removed rows (key ∷ keys) = all_removed (remove rows key) keys

abbrev pub is_one_of : List RowKey → RowKey → Bool
is_one_of keys q = list_any (λ key. same_key q key) keys

twice : (o : Option Version) → option_map as_deleted (option_map as_deleted o) ≡ option_map as_deleted o
twice None = refl
twice (Some version) = refl

deleted_once : (b rest : Bool) (o : Option Version) → cond rest (option_map as_deleted (cond b (option_map as_deleted o) o)) (cond b (option_map as_deleted o) o) ≡ cond (b || rest) (option_map as_deleted o) o
deleted_once true true o = twice o
deleted_once true false o = refl
deleted_once false rest o = refl

pub all_deleted_at : (keys : List RowKey) (rows : Rows) (q : RowKey) → get (delete_all rows keys) q ≡ cond (is_one_of keys q) (option_map as_deleted (get rows q)) (get rows q)
all_deleted_at [] rows q = refl
all_deleted_at (key ∷ keys) rows q =
    all_deleted_at keys (altered rows key as_deleted) q
    ∙ ap (λ (o : Option Version). cond (is_one_of keys q) (option_map as_deleted o) o) (altered_at rows key as_deleted q)
    ∙ deleted_once (same_key q key) (is_one_of keys q) (get rows q)

removed_once : (b rest : Bool) (o : Option Version) → cond rest None (cond b None o) ≡ cond (b || rest) None o
removed_once true true o = refl
removed_once true false o = refl
removed_once false rest o = refl

pub all_removed_at : (keys : List RowKey) (rows : Rows) (q : RowKey) → get (all_removed rows keys) q ≡ cond (is_one_of keys q) None (get rows q)
all_removed_at [] rows q = refl
all_removed_at (key ∷ keys) rows q =
    all_removed_at keys (remove rows key) q
    ∙ ap (cond (is_one_of keys q) None) (get-remove row_order rows key q)
    ∙ removed_once (same_key q key) (is_one_of keys q) (get rows q)

-- ---- a subject

-- the version, soft-deleted if the key is the subject's
abbrev pub deleted_at : List ℕ → RowKey → Version → Version
deleted_at subject key version = if bytes_eq key.0 subject then as_deleted version else version

deleted_found : (subject : List ℕ) (q : RowKey) (rows : List Row) → find row_cmp q (map (deleted_of subject) rows) ≡ option_map (deleted_at subject q) (find row_cmp q rows)
deleted_found subject q [] = refl
deleted_found subject q (row ∷ rows) =
    ap (cond (same_key q row.0) (Some (deleted_of subject row).1)) (deleted_found subject q rows)
    ∙ by (same_key q row.0) refl
  where
    by : (b : Bool) → same_key q row.0 ≡ b → cond b (Some (deleted_at subject row.0 row.1)) (option_map (deleted_at subject q) (find row_cmp q rows)) ≡ option_map (deleted_at subject q) (cond b (Some row.1) (find row_cmp q rows))
    by true e = ap (λ (key : RowKey). Some (deleted_at subject key row.1)) (sym (key_is q row.0 e))
    by false e = refl

-- the version at a key after a subject was soft-deleted
pub subject_deleted_at : (rows : Rows) (subject : List ℕ) (q : RowKey) → get (from_entries {R = row_cmp} (map (deleted_of subject) (entries rows))) q ≡ option_map (deleted_at subject q) (get rows q)
subject_deleted_at rows subject q =
    get-from_entries row_order (map (deleted_of subject) (entries rows)) q ∙ deleted_found subject q (entries rows) ∙ ap (option_map (deleted_at subject q)) (sym (get-entries rows q))

-- the version at a key after a subject was removed
pub subject_removed_at : (rows : Rows) (subject : List ℕ) (q : RowKey) → get (retain_keys rows (λ (key : RowKey). not (bytes_eq key.0 subject))) q ≡ cond (not (bytes_eq q.0 subject)) (get rows q) None
subject_removed_at rows subject q =
    get-retain_keys rows (λ (key : RowKey). not (bytes_eq key.0 subject)) q (λ key tie. ap (λ (k : RowKey). not (bytes_eq k.0 subject)) (sym (row_keys_apart q key tie)))
