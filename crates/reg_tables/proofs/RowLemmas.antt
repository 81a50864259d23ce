-- How an edit of a table's rows changes the map that they show.
use Rattle.std.proofs.Common.{◌≡◌, ◌≢◌, inl, inr, ℤ, List, [], ◌∷◌, Option, Some, None, option_map, Bool, true, false, not, IsTrue, Ordering, Less, Equal, Greater, refl, sym, ap, subst, ◌∙◌}
use Rattle.reg_tables.proofs.Kit.{AllByRecursion, is_eq, match_ordering, ordering_reverse, FinMap, get, remove, empty, get-empty, tied_itself, tied_back, false_from_ne_true, both_ways, or_parts, and_parts, not-true, Int, Row, value_cmp, without_all, id_in, is_taken, put_all, are_fresh, have_rowids, IsAscending, rowid, has_rowid, put_row, without_rowid, is_int, value_cmp_total, ids_of, Has, has_filtered, has_kept, all_has, int_is, without_all_has, has_put, put_has, put_all_has, put_all_keeps, put_all_adds, all-put_row, ascending-filter, all-filter}
use Rattle.std.specs.FinMap.{insert}
use Rattle.reg_tables.specs.TableMaps.{RowForm, HaveDifferentRowids, HaveRowids, IsEntry, ShowsMap}
use Rattle.reg_tables.specs.Changes.{altered}
use Rattle.reg_tables.specs.Inside.KeyedLaws.{IsKeyOrder}
use Rattle.reg_tables.proofs.ListMembers.{has_mapped, maps_had}
use Rattle.reg_tables.proofs.MapLemmas.{equal_of, same_key, tied_key, other_key, same_or_not, get-insert-same, get-insert-other, get-remove-same, get-remove-other, get-altered-same, get-altered-other}

-- ---- rowids

pub rowids_put : (new : Row) (rows : List Row) → IsTrue (is_int (rowid new)) → is_taken rows new ≡ false → HaveRowids rows → HaveRowids (put_row new rows)
rowids_put new rows int fresh h = (apart_put new rows fresh h.0, all-put_row _ new rows int h.1)
  where
    swapped : (a b : Row) → HaveDifferentRowids a b → HaveDifferentRowids b a
    swapped a b h = go (value_cmp (rowid a) (rowid b)) refl h
      where
        go : (o : Ordering) → value_cmp (rowid a) (rowid b) ≡ o → is_eq o ≡ false → HaveDifferentRowids b a
        go Less e h = ap is_eq (value_cmp_total.antisymm (rowid b) (rowid a) ∙ ap ordering_reverse e)
        go Equal e h = absurd (cc)
        go Greater e h = ap is_eq (value_cmp_total.antisymm (rowid b) (rowid a) ∙ ap ordering_reverse e)

    first_apart : (new : Row) (rows : List Row) → is_taken rows new ≡ false → AllByRecursion (HaveDifferentRowids new) rows
    first_apart new [] h = tt
    first_apart new (r ∷ rows) h = let parts = or_parts _ _ h in (swapped r new parts.0, first_apart new rows parts.1)

    apart_put : (new : Row) (rows : List Row) → is_taken rows new ≡ false → IsAscending HaveDifferentRowids rows → IsAscending HaveDifferentRowids (put_row new rows)
    apart_put new [] h up = (tt, tt)
    apart_put new (r ∷ rows) h up = go (value_cmp (rowid r) (rowid new)) refl (or_parts _ _ h).0 (apart_put new rows (or_parts _ _ h).1 up.1)
      where
        go : (o : Ordering) → value_cmp (rowid r) (rowid new) ≡ o → is_eq o ≡ false → IsAscending HaveDifferentRowids (put_row new rows)
            → IsAscending HaveDifferentRowids (match_ordering o (r ∷ put_row new rows) (new ∷ rows) (new ∷ r ∷ rows))
        go Less e other later = (all-put_row _ new rows (or_parts _ _ h).0 up.0, later)
        go Equal e other later = absurd (cc)
        go Greater e other later = (first_apart new (r ∷ rows) h, up)

pub rowids_put_all : (news rows : List Row) → have_rowids news ≡ true → are_fresh rows news ≡ true → HaveRowids rows → HaveRowids (put_all rows news)
rowids_put_all [] rows keyed fresh h = h
rowids_put_all (n ∷ news) rows keyed fresh h =
    let ids = and_parts _ _ keyed in
    let parts = and_parts _ _ fresh in
    rowids_put_all news (put_row n rows) ids.1 parts.1 (rowids_put n rows ids.0 (not-true _ parts.0) h)

pub same_if_tied : (rows : List Row) (a b : Row) → HaveRowids rows → Has rows a → Has rows b → value_cmp (rowid a) (rowid b) ≡ Equal → a ≡ b
same_if_tied [] a b up h k tie = absurd h
same_if_tied (r ∷ rows) a b up (inl h) (inl k) tie = h ∙ sym k
same_if_tied (r ∷ rows) a b up (inl h) (inr k) tie = absurd (both_ways _ (all_has _ rows b up.0.0 k) (ap (λ (x : Row). is_eq (value_cmp (rowid x) (rowid b))) (sym h) ∙ ap is_eq tie))
same_if_tied (r ∷ rows) a b up (inr h) (inl k) tie =
    absurd (both_ways _ (all_has _ rows a up.0.0 h) (ap (λ (x : Row). is_eq (value_cmp (rowid x) (rowid a))) (sym k) ∙ ap is_eq (tied_back value_cmp_total (rowid a) (rowid b) tie)))
same_if_tied (r ∷ rows) a b up (inr h) (inr k) tie = same_if_tied rows a b (up.0.1, up.1.1) h k tie

pub rowids_left : (rows : List Row) (ids : List ℤ) → HaveRowids rows → HaveRowids (without_all rows ids)
rowids_left rows [] h = h
rowids_left rows (id ∷ ids) h = rowids_left (without_rowid id rows) ids (ascending-filter HaveDifferentRowids (λ r. not (has_rowid id r)) rows h.0, all-filter _ (λ r. not (has_rowid id r)) rows h.1)

left_lacks : (ids : List ℤ) (rows : List Row) (x : Row) (id : ℤ) → Has (without_all rows ids) x → Has ids id → has_rowid id x ≡ false
left_lacks [] rows x id h there = absurd there
left_lacks (i ∷ ids) rows x id h (inl same) = rw same (not_true _ (has_filtered _ rows x (without_all_has ids (without_rowid i rows) x h)).1)
  where
    not_true : (b : Bool) → not b ≡ true → b ≡ false
    not_true true e = absurd (cc)
    not_true false e = refl
left_lacks (i ∷ ids) rows x id h (inr later) = left_lacks ids (without_rowid i rows) x id h later

lacks_left : (ids : List ℤ) (rows : List Row) (x : Row) → Has rows x → ((id : ℤ) → Has ids id → has_rowid id x ≡ false) → Has (without_all rows ids) x
lacks_left [] rows x h lacks = h
lacks_left (i ∷ ids) rows x h lacks = lacks_left ids (without_rowid i rows) x (has_kept (λ y. not (has_rowid i y)) rows x h (ap not (lacks i (inl refl)))) (λ id there. lacks id (inr there))

-- the rowids of the rows that pass, each with its new row
pub record FindsRowids (p : Row → Bool) (rest : Row → Row) (rows found : List Row) : Type 0 where
  pub sound : (x : Row) → Has found x → (row : Row) × Has rows row × (p row ≡ true) × (x ≡ rowid row ∷ rest row)
  pub complete : (row : Row) → Has rows row → p row ≡ true → Has found (rowid row ∷ rest row)

-- exactly the rows with these rowids are deleted
module _ (p : Row → Bool) (rest : Row → Row) (rows found : List Row) (shaped : HaveRowids rows) (finds : FindsRowids p rest rows found) where
  rowid_is : (r : Row) → Has rows r → rowid r ≡ Int (id_in (rowid r))
  rowid_is r h = int_is (rowid r) (all_has _ rows r shaped.1 h)

  pub left_fails : (x : Row) → Has (without_all rows (ids_of found)) x → Has rows x × (p x ≡ false)
  left_fails x h =
      let was = without_all_has (ids_of found) rows x h in (
        was,
        false_from_ne_true (p x) (λ is.
            let lacks = left_lacks (ids_of found) rows x (id_in (rowid x)) h (maps_had (λ (r : Row). id_in (rowid r)) found (rowid x ∷ rest x) (finds.complete x was is)) in
            let tied : has_rowid (id_in (rowid x)) x ≡ true = ap (λ v. is_eq (value_cmp (rowid x) v)) (sym (rowid_is x was)) ∙ ap is_eq (tied_itself value_cmp_total (rowid x)) in
            both_ways _ lacks tied),
      )

  pub fails_left : (x : Row) → Has rows x → p x ≡ false → Has (without_all rows (ids_of found)) x
  fails_left x h fails = lacks_left (ids_of found) rows x h (λ id there. false_from_ne_true (has_rowid id x) (λ tied.
      let from = has_mapped (λ (r : Row). id_in (rowid r)) found id there in
      let r = finds.sound from.0 from.1 in
      let its : Int id ≡ rowid r.0 = ap Int (from.2 ∙ ap (λ (y : Row). id_in (rowid y)) r.3) ∙ sym (rowid_is r.0 r.1) in
      let same : x ≡ r.0 = same_if_tied rows x r.0 shaped h r.1 (subst (λ v. value_cmp (rowid x) v ≡ Equal) its (equal_of _ tied)) in
      both_ways _ fails (ap p same ∙ r.2)))

-- ---- maps

pub same_rows : {K V : Type 0} {form : RowForm K V} {value_at : K → Option V} {old new : List Row} → new ≡ old → ShowsMap form old value_at → ShowsMap form new value_at
same_rows {form = form} {value_at = value_at} e shows = subst (λ rows. ShowsMap form rows value_at) (sym e) shows

-- a table with no row shows the empty map
pub shows_empty : {K V : Type 0} (R : K → K → Ordering) (form : RowForm K V) → ShowsMap form [] (get {R = R} empty)
shows_empty R form = record {
  rowids = (tt, tt);
  sound = λ r h. absurd h;
  complete = λ k v h. absurd (let e = sym h ∙ get-empty R k in cc);
  once = λ a b x y e. absurd x;
}

module _ {K V : Type 0} (form : RowForm K V) (R : K → K → Ordering) (order : IsKeyOrder R) (distinct : (a b : K) → form.key_cells a ≡ form.key_cells b → a ≡ b) (rows : List Row) (m : FinMap R V) (k : K)
    (shows : ShowsMap form rows (get m)) where
  -- a row is inserted under a free key
  pub shows_inserted : (v : V) (new : Row) → get m k ≡ None → form.key_of new ≡ form.key_cells k → form.value_of new ≡ form.value_cells v → IsTrue (is_int (rowid new)) → is_taken rows new ≡ false
      → ShowsMap form (put_row new rows) (get (insert m k v))
  shows_inserted v new free key value int fresh = record {
    rowids = rowids_put new rows int fresh shows.rowids;
    sound = λ r h. elim (put_has new rows r h) [
      | inl e ↦ (k, v, get-insert-same R order m k v, (ap form.key_of e ∙ key, ap form.value_of e ∙ value))
      | inr was ↦ let old = shows.sound r was in (old.0, old.1, get-insert-other R order m k v old.0 (λ e. let some = ap (get m) (sym e) ∙ old.2 in cc) ∙ old.2, old.3)
    ];
    complete = λ q w there. elim (same_or_not R order q k) [
      | inl e ↦ let both : v ≡ w = (let two = sym (get-insert-same R order m k v) ∙ ap (get (insert m k v)) (sym e) ∙ there in cc) in
          (new, has_put new rows, (key ∙ ap form.key_cells (sym e), value ∙ ap form.value_cells both))
      | inr other ↦ let old = shows.complete q w (sym (get-insert-other R order m k v q other) ∙ there) in (old.0, keeps old.0 old.1, old.2)
    ];
    once = λ a b x y e. elim (put_has new rows a x) [
      | inl first ↦ elim (put_has new rows b y) [ inl second ↦ first ∙ sym second | inr was ↦ absurd (clash b was (sym e ∙ ap form.key_of first)) ]
      | inr was ↦ elim (put_has new rows b y) [ inl second ↦ absurd (clash a was (e ∙ ap form.key_of second)) | inr too ↦ shows.once a b was too e ]
    ];
  }
    where
      keeps : (r : Row) → Has rows r → Has (put_row new rows) r
      keeps r h = put_all_keeps (new ∷ []) rows r (rw fresh refl) h

      clash : (r : Row) → Has rows r → form.key_of r ≡ form.key_of new → ⊥
      clash r h e =
          let old = shows.sound r h in
          let its : old.0 ≡ k = distinct old.0 k (sym old.3.0 ∙ e ∙ key) in
          let some = ap (get m) (sym its) ∙ old.2 in cc

  -- the rows of a key are deleted
  pub shows_removed : (p : Row → Bool) (rest : Row → Row) (found : List Row) → FindsRowids p rest rows found → ((row : Row) (q : K) → form.key_of row ≡ form.key_cells q → p row ≡ is_eq (R q k))
      → ShowsMap form (without_all rows (ids_of found)) (get (remove m k))
  shows_removed p rest found finds test = record {
    rowids = rowids_left rows (ids_of found) shows.rowids;
    sound = λ r h.
        let before = left_fails p rest rows found shows.rowids finds r h in
        let old = shows.sound r before.0 in
        (old.0, old.1, get-remove-other R order m k old.0 (λ e. both_ways _ before.1 (test r old.0 old.3.0 ∙ tied_key R order old.0 k e)) ∙ old.2, old.3);
    complete = λ q w there.
        let other : q ≢ k = λ e. (let none = ap (get (remove m k)) (sym e) ∙ there in let gone = sym (get-remove-same R order m k) ∙ none in cc) in
        let old = shows.complete q w (sym (get-remove-other R order m k q other) ∙ there) in
        (old.0, fails_left p rest rows found shows.rowids finds old.0 old.1 (test old.0 q old.2.0 ∙ other_key R order q k other), old.2);
    once = λ a b x y e. shows.once a b (left_fails p rest rows found shows.rowids finds a x).0 (left_fails p rest rows found shows.rowids finds b y).0 e;
  }

  -- the rows of a key are replaced by rows with the same key and another value
  pub shows_altered : (p : Row → Bool) (rest : Row → Row) (found : List Row) → FindsRowids p rest rows found → ((row : Row) (q : K) → form.key_of row ≡ form.key_cells q → p row ≡ is_eq (R q k)) → (change : V → V) (turn : Row → Row)
      → ((row : Row) (v : V) → IsEntry form row k v → IsEntry form (turn row) k (change v)) → (news : List Row) → ((x : Row) → Has news x → (row : Row) × Has rows row × (p row ≡ true) × (x ≡ turn row))
      → ((row : Row) → Has rows row → p row ≡ true → Has news (turn row)) → have_rowids news ≡ true → are_fresh (without_all rows (ids_of found)) news ≡ true → ShowsMap form (put_all (without_all rows (ids_of found)) news) (get (altered m k change))
  shows_altered p rest found finds test change turn turns news from gives keyed fresh = record {
    rowids = rowids_put_all news left keyed fresh (rowids_left rows (ids_of found) shows.rowids);
    sound = λ r h. elim (put_all_has news left r h) [
      | inl new ↦ let it = entry_of r new in (k, change it.0, get-altered-same R order m k change ∙ ap (option_map change) it.1, it.2)
      | inr stays ↦ let old = other_of r stays in (old.0, old.1, get-altered-other R order m k change old.0 old.2 ∙ old.3, old.4)
    ];
    complete = λ q w there. elim (same_or_not R order q k) [
      | inl e ↦ was_there q w e (get m k) refl there
      | inr other ↦
          let old = shows.complete q w (sym (get-altered-other R order m k change q other) ∙ there) in
          (old.0, put_all_keeps news left old.0 fresh (fails_left p rest rows found shows.rowids finds old.0 old.1 (test old.0 q old.2.0 ∙ other_key R order q k other)), old.2)
    ];
    once = λ a b x y e. elim (put_all_has news left a x) [
      | inl first ↦ elim (put_all_has news left b y) [ inl second ↦ both_new a b first second | inr stays ↦ absurd (clash b a stays first (sym e)) ]
      | inr stays ↦ elim (put_all_has news left b y) [ inl second ↦ absurd (clash a b stays second e) | inr too ↦ shows.once a b (stood a stays).0 (stood b too).0 e ]
    ];
  }
    where
      left : List Row
      left = without_all rows (ids_of found)

      stood : (r : Row) → Has left r → Has rows r × (p r ≡ false)
      stood r h = left_fails p rest rows found shows.rowids finds r h

      -- a row that passes has the key
      own : (r : Row) → Has rows r → p r ≡ true → (v : V) × (get m k ≡ Some v) × IsEntry form r k v
      own r h is =
          let old = shows.sound r h in
          let same : old.0 ≡ k = same_key R order old.0 k (sym (test r old.0 old.3.0) ∙ is) in
          (old.1, ap (get m) (sym same) ∙ old.2, (old.3.0 ∙ ap form.key_cells same, old.3.1))

      entry_of : (x : Row) → Has news x → (v : V) × (get m k ≡ Some v) × IsEntry form x k (change v)
      entry_of x h =
          let r = from x h in
          let it = own r.0 r.1 r.2 in
          (it.0, it.1, subst (λ y. IsEntry form y k (change it.0)) (sym r.3) (turns r.0 it.0 it.2))

      other_of : (r : Row) → Has left r → (q : K) × (w : V) × (q ≢ k) × (get m q ≡ Some w) × IsEntry form r q w
      other_of r h =
          let was = stood r h in
          let old = shows.sound r was.0 in
          (old.0, old.1, (λ e. both_ways _ was.1 (test r old.0 old.3.0 ∙ tied_key R order old.0 k e)), old.2, old.3)

      was_there : (q : K) (w : V) → q ≡ k → (o : Option V) → get m k ≡ o → get (altered m k change) q ≡ Some w → (r : Row) × Has (put_all left news) r × IsEntry form r q w
      was_there q w e None is there = absurd (let none = sym there ∙ ap (get (altered m k change)) e ∙ get-altered-same R order m k change ∙ ap (option_map change) is in cc)
      was_there q w e (Some v) is there =
          let both : Some w ≡ Some (change v) = sym there ∙ ap (get (altered m k change)) e ∙ get-altered-same R order m k change ∙ ap (option_map change) is in
          let value : w ≡ change v = cc in
          let old = shows.complete k v is in
          let new = turns old.0 v old.2 in
          (turn old.0, put_all_adds news left (turn old.0) fresh (gives old.0 old.1 (test old.0 k old.2.0 ∙ tied_key R order k k refl)), (new.0 ∙ ap form.key_cells (sym e), new.1 ∙ ap form.value_cells (sym value)))

      both_new : (a b : Row) → Has news a → Has news b → a ≡ b
      both_new a b x y =
          let one = from a x in
          let two = from b y in
          let same : one.0 ≡ two.0 = shows.once one.0 two.0 one.1 two.1 ((own one.0 one.1 one.2).2.0 ∙ sym (own two.0 two.1 two.2).2.0) in
          one.3 ∙ ap turn same ∙ sym two.3

      clash : (r x : Row) → Has left r → Has news x → form.key_of r ≡ form.key_of x → ⊥
      clash r x h new e =
          let old = other_of r h in
          old.2 (distinct old.0 k (sym old.4.0 ∙ e ∙ (entry_of x new).2.0))
