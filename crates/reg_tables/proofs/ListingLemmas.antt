-- A list with distinct rowids and keys is the list of a map, and the list of a map is such a list.
use Rattle.std.proofs.Common.{◌≡◌, ◌≢◌, inl, inr, ℤ, List, [], ◌∷◌, map, Option, Some, None, Bool, false, cond, refl, sym, ap, subst, ◌∙◌, Ordering, Less, Equal, Greater}
use Rattle.reg_tables.proofs.Kit.{is_eq, int_cmp, eq_by_cmp, ordering_reverse, FinMap, get, from_entries, get-from_entries, find, same_map, AllByRecursion, IsPermutation, IsPermutation-sym, IsPermutation-map, IsDistinct-IsPermutation, tied_itself, int_cmp_total, cases_Bool, both_ways, map-map, Value, Int, Row, value_cmp, IsAscending, rowid, is_int, value_cmp_total, value_cmp-Int, Has, all_from, all_has}
use Rattle.std.specs.List.{IsDistinct}
use Rattle.reg_tables.specs.TableMaps.{RowForm, HaveDifferentRowids, HaveRowids, ShowsMap}
use Rattle.reg_tables.specs.Listings.{RowParts, parts_of, entry_parts, Lists, HasNoDuplicates, without_rowid}
use Rattle.reg_tables.specs.Inside.KeyedLaws.{IsKeyOrder}
use Rattle.reg_tables.proofs.ListMembers.{has_mapped, maps_had, has_permuted}
use Rattle.reg_tables.proofs.MapLemmas.{same_key, tied_key, other_key}
use Rattle.reg_tables.proofs.RowLemmas.{same_if_tied}

-- ---- rowids

abbrev pub same_id : Value → Value → Bool
same_id a b = is_eq (value_cmp a b)

pub same_id_swaps : (a b : Value) → same_id a b ≡ same_id b a
same_id_swaps a b = sym (ap is_eq (value_cmp_total.antisymm b a) ∙ turned (value_cmp a b))
  where
    turned : (o : Ordering) → is_eq (ordering_reverse o) ≡ is_eq o
    turned Less = refl
    turned Equal = refl
    turned Greater = refl

pub apart_if_distinct : (rows : List Row) → IsDistinct same_id (map rowid rows) → IsAscending HaveDifferentRowids rows
unfolding IsDistinct
apart_if_distinct [] h = tt
apart_if_distinct (r ∷ rows) h = (all_from (HaveDifferentRowids r) rows (λ x there. all_has (λ v. same_id (rowid r) v ≡ false) (map rowid rows) (rowid x) h.0 (maps_had rowid rows x there)), apart_if_distinct rows h.1)

pub distinct_if_apart : (rows : List Row) → IsAscending HaveDifferentRowids rows → IsDistinct same_id (map rowid rows)
unfolding IsDistinct
distinct_if_apart [] h = tt
distinct_if_apart (r ∷ rows) h = (all_from (λ v. same_id (rowid r) v ≡ false) (map rowid rows) (λ v there. let x = has_mapped rowid rows v there in ap (same_id (rowid r)) x.2 ∙ all_has (HaveDifferentRowids r) rows x.0 h.0 x.1), distinct_if_apart rows h.1)

pub distinct_ints : (ids : List ℤ) → IsDistinct (eq_by_cmp int_cmp) ids → IsDistinct same_id (map Int ids)
unfolding IsDistinct
distinct_ints [] h = tt
distinct_ints (i ∷ ids) h =
    (all_from _ (map Int ids) (λ v there. let from = has_mapped Int ids v there in ap (same_id (Int i)) from.2 ∙ ap is_eq (value_cmp-Int i from.0) ∙ all_has _ ids from.0 h.0 from.1), distinct_ints ids h.1)

pub ints_distinct : (ids : List ℤ) → IsDistinct same_id (map Int ids) → IsDistinct (eq_by_cmp int_cmp) ids
unfolding IsDistinct
ints_distinct [] h = tt
ints_distinct (i ∷ ids) h =
    (all_from (λ j. eq_by_cmp int_cmp i j ≡ false) ids (λ j there. sym (ap is_eq (value_cmp-Int i j)) ∙ all_has (λ v. same_id (Int i) v ≡ false) (map Int ids) (Int j) h.0 (maps_had Int ids j there)), ints_distinct ids h.1)

-- ---- entries

module _ {K V : Type 0} (R : K → K → Ordering) (order : IsKeyOrder R) where
  other_entry : (es : List (ℤ × K × V)) (x e : ℤ × K × V) → AllByRecursion (λ k. eq_by_cmp R x.1 k ≡ false) (map (λ y. y.1) es) → Has es e → x.1 ≢ e.1
  other_entry es x e apart there same =
      both_ways _ (all_has (λ k. eq_by_cmp R x.1 k ≡ false) (map (λ y. y.1) es) e.1 apart (maps_had (λ (y : ℤ × K × V). y.1) es e there)) (tied_key R order x.1 e.1 same)

  same_by_key : (es : List (ℤ × K × V)) (e f : ℤ × K × V) → IsDistinct (eq_by_cmp R) (map (λ x. x.1) es) → Has es e → Has es f → e.1 ≡ f.1 → e ≡ f
  unfolding IsDistinct
  same_by_key [] e f apart a b same = absurd a
  same_by_key (x ∷ es) e f apart (inl a) (inl b) same = a ∙ sym b
  same_by_key (x ∷ es) e f apart (inl a) (inr b) same = absurd (other_entry es x f apart.0 b (ap (λ (y : ℤ × K × V). y.1) (sym a) ∙ same))
  same_by_key (x ∷ es) e f apart (inr a) (inl b) same = absurd (other_entry es x e apart.0 a (ap (λ (y : ℤ × K × V). y.1) (sym b) ∙ sym same))
  same_by_key (x ∷ es) e f apart (inr a) (inr b) same = same_by_key es e f apart.1 a b same

  pub found_first : (es : List (ℤ × K × V)) (e : ℤ × K × V) → IsDistinct (eq_by_cmp R) (map (λ x. x.1) es) → Has es e → find R e.1 (map without_rowid es) ≡ Some e.2
  unfolding IsDistinct
  found_first [] e apart h = absurd h
  found_first (x ∷ es) e apart (inl same) =
      ap (λ (y : ℤ × K × V). find R y.1 (map without_rowid (x ∷ es))) same ∙ ap (λ b. cond b (Some x.2) (find R x.1 (map without_rowid es))) (tied_key R order x.1 x.1 refl) ∙ ap (λ (y : ℤ × K × V). Some y.2) (sym same)
  found_first (x ∷ es) e apart (inr later) =
      ap (λ b. cond b (Some x.2) (find R e.1 (map without_rowid es))) (other_key R order e.1 x.1 (λ h. other_entry es x e apart.0 later (sym h))) ∙ found_first es e apart.1 later

  pub find_had : (es : List (ℤ × K × V)) (k : K) (v : V) → find R k (map without_rowid es) ≡ Some v → (e : ℤ × K × V) × Has es e × (e.1 ≡ k) × (e.2 ≡ v)
  find_had [] k v h = absurd (cc)
  find_had (x ∷ es) k v h = elim (cases_Bool (is_eq (R k x.1))) [
    | inl here ↦ let value : x.2 ≡ v = (let e = rw here at h in cc) in (x, inl refl, sym (same_key R order k x.1 here), value)
    | inr other ↦ let it = find_had es k v (rw other at h) in (it.0, inr it.1, it.2, it.3)
  ]

  -- keys are distinct if the ids are and each key has one id
  pub keys_distinct : (es : List (ℤ × K × V)) → ((e f : ℤ × K × V) → Has es e → Has es f → e.1 ≡ f.1 → e.0 ≡ f.0) → IsDistinct (eq_by_cmp int_cmp) (map (λ e. e.0) es) → IsDistinct (eq_by_cmp R) (map (λ e. e.1) es)
  unfolding IsDistinct
  keys_distinct [] one ids = tt
  keys_distinct (x ∷ es) one ids = (
    all_from (λ k. eq_by_cmp R x.1 k ≡ false) (map (λ y. y.1) es) (λ k there.
        let e = has_mapped (λ (y : ℤ × K × V). y.1) es k there in
        other_key R order x.1 k (λ same.
        let apart = all_has (λ i. eq_by_cmp int_cmp x.0 i ≡ false) (map (λ y. y.0) es) e.0.0 ids.0 (maps_had (λ (y : ℤ × K × V). y.0) es e.0 e.1) in
        both_ways _ apart (ap (λ i. is_eq (int_cmp x.0 i)) (sym (one x e.0 (inl refl) (inr e.1) (same ∙ e.2))) ∙ ap is_eq (tied_itself int_cmp_total x.0)))),
    keys_distinct es (λ e f a b. one e f (inr a) (inr b)) ids.1,
  )

-- ---- a table

module _ {K V : Type 0} (form : RowForm K V) (R : K → K → Ordering) (order : IsKeyOrder R) (distinct : (a b : K) → form.key_cells a ≡ form.key_cells b → a ≡ b) (rows : List Row) (es : List (ℤ × K × V))
    (lists : Lists form rows es) where
  listed : (row : Row) → Has rows row → (e : ℤ × K × V) × Has es e × (parts_of form row ≡ entry_parts form e)
  listed row h =
      has_mapped (entry_parts form) es (parts_of form row) (has_permuted (map (parts_of form) rows) (map (entry_parts form) es) (parts_of form row) lists (maps_had (parts_of form) rows row h))

  pub stored : (e : ℤ × K × V) → Has es e → (row : Row) × Has rows row × (entry_parts form e ≡ parts_of form row)
  stored e h =
      has_mapped (parts_of form) rows (entry_parts form e)
      (has_permuted (map (entry_parts form) es) (map (parts_of form) rows) (entry_parts form e) (IsPermutation-sym (map (parts_of form) rows) (map (entry_parts form) es) lists) (maps_had (entry_parts form) es e h))

  ids_moved : IsPermutation (map rowid rows) (map Int (map (λ e. e.0) es))
  ids_moved =
      subst (λ l. IsPermutation l (map Int (map (λ e. e.0) es))) (map-map (λ (p : RowParts). p.0) (parts_of form) rows)
      (subst (IsPermutation (map (λ (p : RowParts). p.0) (map (parts_of form) rows))) (map-map (λ (p : RowParts). p.0) (entry_parts form) es ∙ sym (map-map Int (λ (e : ℤ × K × V). e.0) es))
      (IsPermutation-map (λ (p : RowParts). p.0) (map (parts_of form) rows) (map (entry_parts form) es) lists))

  pub shows_if_listed : HasNoDuplicates R es → ShowsMap form rows (get {R = R} (from_entries (map without_rowid es)))
  shows_if_listed apart = record {
    rowids = have;
    sound = λ row h.
        let e = listed row h in
        (e.0.1, e.0.2, get-from_entries order.total (map without_rowid es) e.0.1 ∙ found_first R order es e.0 apart.keys e.1, (ap (λ (p : RowParts). p.1) e.2, ap (λ (p : RowParts). p.2) e.2));
    complete = λ k v h.
        let e = find_had R order es k v (sym (get-from_entries order.total (map without_rowid es) k) ∙ h) in
        let r = stored e.0 e.1 in
        (r.0, r.1, (sym (ap (λ (p : RowParts). p.1) r.2) ∙ ap form.key_cells e.2, sym (ap (λ (p : RowParts). p.2) r.2) ∙ ap form.value_cells e.3));
    once = λ a b x y same.
        let one = listed a x in
        let two = listed b y in
        let key : one.0.1 ≡ two.0.1 = distinct one.0.1 two.0.1 (sym (ap (λ (p : RowParts). p.1) one.2) ∙ same ∙ ap (λ (p : RowParts). p.1) two.2) in
        let entries = same_by_key R order es one.0 two.0 apart.keys one.1 two.1 key in
        let ids_same : rowid a ≡ rowid b = ap (λ (p : RowParts). p.0) one.2 ∙ ap (λ (z : ℤ × K × V). Int z.0) entries ∙ sym (ap (λ (p : RowParts). p.0) two.2) in
        same_if_tied rows a b have x y (ap (value_cmp (rowid a)) (sym ids_same) ∙ tied_itself value_cmp_total (rowid a));
  }
    where
      have : HaveRowids rows
      have = (
        apart_if_distinct rows (IsDistinct-IsPermutation same_id same_id_swaps _ _ (IsPermutation-sym (map rowid rows) _ ids_moved) (distinct_ints (map (λ e. e.0) es) apart.rowids)),
        all_from _ rows (λ row h. let e = listed row h in ap is_int (ap (λ (p : RowParts). p.0) e.2)),
      )

  -- the list has no duplicate rowids or keys, and makes up the map
  pub record IsListOf (m : FinMap R V) : Type 0 where
    pub apart : HasNoDuplicates R es
    pub is : m ≡ from_entries (map without_rowid es)

  pub listed_if_shown : (m : FinMap R V) → ((v w : V) → form.value_cells v ≡ form.value_cells w → v ≡ w) → ShowsMap form rows (get m) → IsListOf m
  listed_if_shown m distinct_values shows = record { apart = record { rowids = ids; keys = keys }; is = same_map order.total order.antisymmetric m (from_entries (map without_rowid es)) (λ q. same q (get m q) refl) }
    where
      ids : IsDistinct (eq_by_cmp int_cmp) (map (λ e. e.0) es)
      ids = ints_distinct (map (λ e. e.0) es) (IsDistinct-IsPermutation same_id same_id_swaps _ _ ids_moved (distinct_if_apart rows shows.rowids.0))

      one_id : (e f : ℤ × K × V) → Has es e → Has es f → e.1 ≡ f.1 → e.0 ≡ f.0
      one_id e f a b key =
          let r = stored e a in
          let s = stored f b in
          let row = shows.once r.0 s.0 r.1 s.1 (sym (ap (λ (p : RowParts). p.1) r.2) ∙ ap form.key_cells key ∙ ap (λ (p : RowParts). p.1) s.2) in
          let same : Int e.0 ≡ Int f.0 = ap (λ (p : RowParts). p.0) r.2 ∙ ap rowid row ∙ sym (ap (λ (p : RowParts). p.0) s.2) in
          cc

      keys : IsDistinct (eq_by_cmp R) (map (λ e. e.1) es)
      keys = keys_distinct R order es one_id ids

      held : (e : ℤ × K × V) → Has es e → get m e.1 ≡ Some e.2
      held e h =
          let r = stored e h in
          let it = shows.sound r.0 r.1 in
          let key : it.0 ≡ e.1 = distinct it.0 e.1 (sym it.3.0 ∙ sym (ap (λ (p : RowParts). p.1) r.2)) in
          let value : it.1 ≡ e.2 = distinct_values it.1 e.2 (sym it.3.1 ∙ sym (ap (λ (p : RowParts). p.2) r.2)) in
          ap (get m) (sym key) ∙ it.2 ∙ ap Some value

      same : (q : K) (o : Option V) → get m q ≡ o → get m q ≡ get (from_entries {R = R} (map without_rowid es)) q
      same q (Some v) is =
          let row = shows.complete q v is in
          let e = listed row.0 row.1 in
          let key : e.0.1 ≡ q = distinct e.0.1 q (sym (ap (λ (p : RowParts). p.1) e.2) ∙ row.2.0) in
          ap (get m) (sym key) ∙ held e.0 e.1 ∙ sym (found_first R order es e.0 keys e.1) ∙ sym (get-from_entries order.total (map without_rowid es) e.0.1) ∙ ap (get (from_entries {R = R} (map without_rowid es))) key
      same q None is = is ∙ none (find R q (map without_rowid es)) refl ∙ sym (get-from_entries order.total (map without_rowid es) q)
        where
          none : (o : Option V) → find R q (map without_rowid es) ≡ o → None ≡ find R q (map without_rowid es)
          none None there = sym there
          none (Some v) there = absurd (
              let e = find_had R order es q v there in
              let some = sym is ∙ ap (get m) (sym e.2) ∙ held e.0 e.1 in
              cc)
