-- Lemmas on versions: lookups by key, and the versions of a subject.
use Rattle.std.proofs.Common.{◌≡◌, ℕ, ◌<◌, ◌≤◌, List, [], ◌∷◌, map, get_or, true≢false, Bool, true, false, cond, T, ◌&&◌, refl, sym, ap, subst, ◌∙◌, Ordering, Less, Equal, Greater, arith}
use Rattle.std.specs.Prelude.{All, Option, Some, None, not, filter, fold, max, bytes_eq, ◌||◌}
use Rattle.std.specs.Cmp.{IsTotalOrder}
use Rattle.std.specs.FinMap.{FinMap, entries, entries_sorted, get, get-entries, get-insert, insert, find, is_sorted, IsAntisymmetric}
use Rattle.std.specs.FinMap.Entries.{below_all}
use Rattle.std.specs.Ordering.{is_lt, is_eq, ordering_reverse}
use Rattle.std.proofs.lemmas.Cmp.{nat_list_cmp_total, nat_cmp_total, on_total, then_total, tied_itself}
use Rattle.std.specs.List.{Contains}
use Rattle.std.proofs.lemmas.List.Elements.{All-nil, All-cons, All-head, All-tail, All-filter, All-weaker, All-contains, Contains-append_right, filter_passes}
use Rattle.std.proofs.lemmas.Map.Lookups.{exact_bytes, exact_unsigned, exact_pairs}
use Rattle.std.proofs.lemmas.Option.{none-some, same_Some}
use Rattle.std.proofs.lemmas.Slice.Eq.{bytes_eq-Decides}
use Rattle.avro_nodes.specs.Nodes.{NodeView}
use Rattle.reg_core.specs.Registry.{Registry, Schemas, RowKey, Row, Rows, Version, IsRow, IsRegistry, row_cmp, schema_at}
use Rattle.reg_core.specs.Rows.{rows_of, live_rows, visible_rows, next_number, text_at}
use Rattle.reg_core.proofs.IdLemmas.{schema_there, text_there}

-- ---- lists

-- if `P` is true of each item of `map f xs`, then `P (f x)` is true for each `x` of `xs`
pub All-mapped : {X Y : Type 0} (P : Y → Type 0) (f : X → Y) (xs : List X) → All P (map f xs) → All (λ x. P (f x)) xs
All-mapped P f [] all = All-nil (λ x. P (f x))
All-mapped P f (x ∷ xs) all = All-cons (λ y. P (f y)) x xs (All-head P (f x) (map f xs) all) (All-mapped P f xs (All-tail P (f x) (map f xs) all))

-- ---- a map's entries

two_of : (a b : Bool) → T (a && b) → T a × T b
two_of true b h = (tt, h)
two_of false b h = absurd h

greater_of : (o : Ordering) → T (is_lt o) → ordering_reverse o ≡ Greater
greater_of Less h = refl
greater_of Equal h = absurd h
greater_of Greater h = absurd h

module _ {K V : Type 0} (R : K → K → Ordering) (total : IsTotalOrder R) where
  all_below : (k : K) (es : List (K × V)) → T (below_all R k es) → All (λ (e : K × V). R e.0 k ≡ Greater) es
  all_below k [] h = All-nil (λ (e : K × V). R e.0 k ≡ Greater)
  all_below k (e ∷ es) h =
      let parts = two_of (is_lt (R k e.0)) (below_all R k es) h in
      All-cons (λ (x : K × V). R x.0 k ≡ Greater) e es (total.antisymm e.0 k ∙ greater_of (R k e.0) parts.0) (all_below k es parts.1)

  each_found : (es : List (K × V)) → T (is_sorted R es) → All (λ (e : K × V). find R e.0 es ≡ Some e.1) es
  each_found [] h = All-nil (λ (e : K × V). find R e.0 [] ≡ Some e.1)
  each_found (e ∷ es) h =
      let parts = two_of (below_all R e.0 es) (is_sorted R es) h in
      let above = all_below e.0 es parts.0 in
      let rest = each_found es parts.1 in
      All-cons (λ (x : K × V). find R x.0 (e ∷ es) ≡ Some x.1) e es (ap (λ o. cond (is_eq o) (Some e.1) (find R e.0 es)) (tied_itself total e.0))
      (λ k d l. ap (λ o. cond (is_eq o) (Some e.1) (find R (get_or es k d).0 es)) (above k d l) ∙ rest k d l)

  find_entry : (es : List (K × V)) (k : K) (v : V) → IsAntisymmetric R → find R k es ≡ Some v → Contains es (k, v)
  find_entry [] k v same e = absurd (none-some v e)
  find_entry (x ∷ es) k v same e = by (R k x.0) refl e (find_entry es k v same)
    where
      by : (o : Ordering) → R k x.0 ≡ o → cond (is_eq o) (Some x.1) (find R k es) ≡ Some v → (find R k es ≡ Some v → Contains es (k, v)) → Contains (x ∷ es) (k, v)
      by Less is h rest = Contains-append_right (x ∷ []) es (k, v) (rest h)
      by Equal is h rest = let key = same k x.0 is in let value = same_Some x.1 v h in (0, omega arith, λ i. (sym key i, value i))
      by Greater is h rest = Contains-append_right (x ∷ []) es (k, v) (rest h)

  -- the value at a key, with the key, is one of the map's entries
  pub got_entry : (m : FinMap R V) (k : K) (v : V) → IsAntisymmetric R → get m k ≡ Some v → Contains (entries m) (k, v)
  got_entry m k v same e = find_entry (entries m) k v same (sym (get-entries m k) ∙ e)

  -- each entry of a map is found at its key
  pub each_got : (m : FinMap R V) → All (λ (e : K × V). get m e.0 ≡ Some e.1) (entries m)
  each_got m = λ k d l. get-entries m _ ∙ each_found (entries m) (entries_sorted m) k d l

-- ---- versions by subject and number

-- versions have a total order
pub row_order : IsTotalOrder row_cmp
row_order = then_total (on_total (λ (key : RowKey). key.0) nat_list_cmp_total) (on_total (λ (key : RowKey). key.1) nat_cmp_total)

-- keys that compare equal are equal
pub row_keys_apart : IsAntisymmetric row_cmp
row_keys_apart = exact_pairs _ _ exact_bytes exact_unsigned

-- after an insertion, each version is the inserted one or was there before
pub get_inserted : (rows : Rows) (key : RowKey) (version : Version) (P : RowKey → Version → Type 0) → P key version → ((k : RowKey) (v : Version) → get rows k ≡ Some v → P k v)
    → (k : RowKey) (v : Version) → get (insert rows key version) k ≡ Some v → P k v
get_inserted rows key version P here others k v e = by (row_cmp k key) refl (sym (get-insert row_order rows key version k) ∙ e)
  where
    by : (o : Ordering) → row_cmp k key ≡ o → cond (is_eq o) (Some version) (get rows k) ≡ Some v → P k v
    by Less same h = others k v h
    by Equal same h = subst (λ (x : RowKey). P x v) (sym (row_keys_apart k key same)) (subst (P key) (same_Some version v h) here)
    by Greater same h = others k v h

-- ---- versions of a registry

-- a version's id has a schema
pub row_schema : (schemas : Schemas) (key : RowKey) (version : Version) → IsRow schemas key version → (nodes : List NodeView) × (schema_at schemas version.id ≡ Some nodes)
row_schema schemas key version h = schema_there schemas version.id h.has_schema.0 h.has_schema.1

-- a version's id has a text
pub row_text : (schemas : Schemas) (key : RowKey) (version : Version) → IsRow schemas key version → (text : List ℕ) × (text_at schemas version.id ≡ Some text)
row_text schemas key version h = text_there schemas version.id h.has_schema.0 h.has_schema.1

-- each version is valid
pub each-IsRow : (g : Registry) → IsRegistry g → All (λ (row : Row). IsRow g.schemas row.0 row.1) (entries g.rows)
each-IsRow g ok = λ k d l. ok.rows _ _ (each_got row_cmp row_order g.rows k d l)

-- each version has a schema
pub each-schema : (g : Registry) → IsRegistry g → All (λ (row : Row). (nodes : List NodeView) × (schema_at g.schemas row.1.id ≡ Some nodes)) (entries g.rows)
each-schema g ok = All-weaker (λ (row : Row). IsRow g.schemas row.0 row.1) (λ (row : Row). (nodes : List NodeView) × (schema_at g.schemas row.1.id ≡ Some nodes)) (λ row h. row_schema g.schemas row.0 row.1 h) (entries g.rows) (each-IsRow g ok)

-- each version of a subject is valid
pub rows_of-IsRow : (g : Registry) → IsRegistry g → (subject : List ℕ) → All (λ (row : Row). IsRow g.schemas row.0 row.1) (rows_of g subject)
rows_of-IsRow g ok subject = All-filter (λ (row : Row). bytes_eq row.0.0 subject) (λ (row : Row). IsRow g.schemas row.0 row.1) (entries g.rows) (each-IsRow g ok)

-- each version of a subject has that subject in its key
pub rows_of-subject : (g : Registry) (subject : List ℕ) → All (λ (row : Row). row.0.0 ≡ subject) (rows_of g subject)
rows_of-subject g subject =
    All-weaker (λ (row : Row). bytes_eq row.0.0 subject ≡ true) (λ (row : Row). row.0.0 ≡ subject) (λ row h. (bytes_eq-Decides row.0.0 subject).0 h) (rows_of g subject) (filter_passes (λ (row : Row). bytes_eq row.0.0 subject) (entries g.rows))

-- each version of a subject is the registry's version at its key
pub rows_of-got : (g : Registry) (subject : List ℕ) → All (λ (row : Row). get g.rows row.0 ≡ Some row.1) (rows_of g subject)
rows_of-got g subject = All-filter (λ (row : Row). bytes_eq row.0.0 subject) (λ (row : Row). get g.rows row.0 ≡ Some row.1) (entries g.rows) (each_got row_cmp row_order g.rows)

-- a filter keeps what passes
pub filter_keeps : {X : Type 0} (p : X → Bool) (xs : List X) (x : X) → Contains xs x → p x ≡ true → Contains (filter p xs) x
filter_keeps p xs x there passes = All-contains (λ y. p y ≡ true → Contains (filter p xs) y) xs x (each p xs) there passes
  where
    one : {X : Type 0} (p : X → Bool) (x : X) (xs : List X) (b : Bool) → p x ≡ b → p x ≡ true → Contains (cond b (x ∷ filter p xs) (filter p xs)) x
    one p x xs true e h = (0, omega arith, refl)
    one p x xs false e h = absurd (true≢false (sym h ∙ e))

    rest : {X : Type 0} (p : X → Bool) (x y : X) (xs : List X) (b : Bool) → Contains (filter p xs) y → Contains (cond b (x ∷ filter p xs) (filter p xs)) y
    rest p x y xs true h = Contains-append_right (x ∷ []) (filter p xs) y h
    rest p x y xs false h = h

    each : {X : Type 0} (p : X → Bool) (xs : List X) → All (λ y. p y ≡ true → Contains (filter p xs) y) xs
    each p [] = All-nil (λ y. p y ≡ true → Contains [] y)
    each p (x ∷ xs) = All-cons (λ y. p y ≡ true → Contains (filter p (x ∷ xs)) y) x xs (one p x xs (p x) refl) (λ k d l h. rest p x _ xs (p x) (each p xs k d l h))

-- a version of the registry is one of its subject's versions
pub got-rows_of : (g : Registry) (subject : List ℕ) (number : ℕ) (version : Version) → get g.rows (subject, number) ≡ Some version → Contains (rows_of g subject) ((subject, number), version)
got-rows_of g subject number version e =
    filter_keeps (λ (row : Row). bytes_eq row.0.0 subject) (entries g.rows) ((subject, number), version) (got_entry row_cmp row_order g.rows (subject, number) version row_keys_apart e) ((bytes_eq-Decides subject subject).1 refl)

greatest_grows : (rows : List Row) (most : ℕ) → most ≤ fold (λ greatest (row : Row). max greatest row.0.1) most rows
greatest_grows [] most = omega arith
greatest_grows (row ∷ rows) most = let rest = greatest_grows rows (max most row.0.1) in omega arith

pub greatest_of : (rows : List Row) (most : ℕ) → All (λ (row : Row). row.0.1 ≤ fold (λ greatest (r : Row). max greatest r.0.1) most rows) rows
greatest_of [] most = All-nil (λ (row : Row). row.0.1 ≤ most)
greatest_of (row ∷ rows) most =
    let grows = greatest_grows rows (max most row.0.1) in
    All-cons (λ (r : Row). r.0.1 ≤ fold (λ greatest (x : Row). max greatest x.0.1) (max most row.0.1) rows) row rows (omega arith) (greatest_of rows (max most row.0.1))

-- the next number is greater than each version's number
pub below_next_number : (rows : List Row) → All (λ (row : Row). row.0.1 < next_number rows) rows
below_next_number rows = All-weaker (λ (row : Row). row.0.1 ≤ fold (λ greatest (r : Row). max greatest r.0.1) 0 rows) (λ (row : Row). row.0.1 < next_number rows) (λ row h. omega arith) rows (greatest_of rows 0)

-- no version of the subject has the next number
pub next_number-absent : (g : Registry) (subject : List ℕ) → get g.rows (subject, next_number (rows_of g subject)) ≡ None
next_number-absent g subject = by (get g.rows (subject, next_number (rows_of g subject))) refl
  where
    by : (found : Option Version) → get g.rows (subject, next_number (rows_of g subject)) ≡ found → found ≡ None
    by None e = refl
    by (Some version) e =
        let rows = rows_of g subject in
        let below : next_number rows < next_number rows = All-contains (λ (row : Row). row.0.1 < next_number rows) rows ((subject, next_number rows), version) (below_next_number rows) (got-rows_of g subject (next_number rows) version e) in
        absurd (omega arith)

-- if `P` is true of each version, it is true of each live one
pub All-live_rows : (P : Row → Type 0) (rows : List Row) → All P rows → All P (live_rows rows)
All-live_rows P rows h = All-filter (λ (row : Row). not row.1.deleted) P rows h

-- if `P` is true of each version, it is true of each visible one
pub All-visible_rows : (P : Row → Type 0) (deleted : Bool) (rows : List Row) → All P rows → All P (visible_rows deleted rows)
All-visible_rows P deleted rows h = All-filter (λ (row : Row). deleted || not row.1.deleted) P rows h
