-- The result of a query with ORDER BY is determined if no two rows that pass tie.
use Rattle.std.proofs.Common.{◌≡◌, inl, inr, ℕ, suc, List, [], ◌∷◌, ◌++◌, map, Some, Bool, true, false, cond, T, ◌&&◌, add-one, refl, sym, ap, subst, ◌∙◌, arith, Ordering, Less, Equal, Greater}
use Rattle.reg_tables.proofs.Kit.{IsTotalOrder, FinMap, entries, entries_sorted, get, get-entries, find, is_sorted, below_all, AllByRecursion, IsSorted, is_eq, is_gt, is_lt, ordering_reverse, both_ways, cases_Bool, false_from_ne_true, on_total, then_total, tied_itself, upto, IsDistinct-IsPermutation, Row, Query, Output, IsAnswer, output_cmp, key_cmp, Term, Trees, IsAscending, rowid, Has, all_has, all_from, all_weaker, ascending-map, Key, by_key_total, value_cmp_total}
use Rattle.std.specs.List.{IsDistinct}
use Rattle.sqlite.specs.Query.{output}
use Rattle.sqlite_value.specs.Order.{column, value_cmp}
use Rattle.reg_tables.specs.TableMaps.{RowForm, IsEntry, HaveDifferentRowids, ShowsMap}
use Rattle.reg_tables.specs.Inside.KeyedLaws.{IsKeyOrder}
use Rattle.reg_tables.specs.Inside.Statements.{ordered_query}
use Rattle.reg_tables.proofs.ListMembers.{has_mapped, maps_had}
use Rattle.reg_tables.proofs.MapLemmas.{equal_of, same_key, tied_key, other_key}
use Rattle.reg_tables.proofs.Queries.{passes, passing, passing_has, ordered_outputs, ordered_has, has_ordered}

-- ---- lists that rise

module _ {X : Type 0} (cmp : X → X → Ordering) (total : IsTotalOrder cmp) where
  abbrev pub Rises : List X → Type 0
  Rises = IsAscending (λ a b. cmp a b ≡ Less)

  not_below : (o : Ordering) → is_lt (ordering_reverse o) ≡ false → is_eq o ≡ false → o ≡ Less
  not_below Less h k = refl
  not_below Equal h k = absurd (cc)
  not_below Greater h k = absurd (cc)

  below : (x : X) (ys : List X) → IsSorted cmp (x ∷ ys) → AllByRecursion (λ y. is_eq (cmp x y) ≡ false) ys → Rises ys → AllByRecursion (λ y. cmp x y ≡ Less) ys
  below x [] sorted apart up = tt
  below x (y ∷ ys) sorted apart up =
      let first : cmp x y ≡ Less = not_below (cmp x y) (ap is_lt (sym (total.antisymm y x)) ∙ sorted 0 x (omega arith) (omega arith)) apart.0 in
      (first, all_weaker (λ z. cmp y z ≡ Less) (λ z. cmp x z ≡ Less) (λ z. total.trans x y z first) ys up.0)

  -- a sorted list in which nothing ties
  pub rises : (xs : List X) → IsSorted cmp xs → IsDistinct (λ a b. is_eq (cmp a b)) xs → Rises xs
  unfolding IsDistinct
  rises [] sorted apart = tt
  rises (x ∷ xs) sorted apart =
      let tail : IsSorted cmp xs = λ k d p q. rw add-one (rw add-one at (sorted (suc k) d (omega arith) (omega arith))) in
      let up = rises xs tail apart.1 in
      (below x xs sorted apart.0 up, up)

  turned : (o : Ordering) → is_lt o ≡ false → is_gt (ordering_reverse o) ≡ false
  turned Less h = absurd (cc)
  turned Equal h = refl
  turned Greater h = refl

  -- the first item is no greater than any later one
  pub at_most : (x : X) (ys : List X) → IsSorted cmp (x ∷ ys) → AllByRecursion (λ y. is_gt (cmp x y) ≡ false) ys
  at_most x [] sorted = tt
  at_most x (y ∷ ys) sorted =
      let first : is_gt (cmp x y) ≡ false = ap is_gt (total.antisymm x y) ∙ turned (cmp y x) (sorted 0 x (omega arith) (omega arith)) in
      let tail : IsSorted cmp (y ∷ ys) = λ k d p q. rw add-one (rw add-one at (sorted (suc k) d (omega arith) (omega arith))) in
      (first, all_weaker (λ z. is_gt (cmp y z) ≡ false) (λ z. is_gt (cmp x z) ≡ false) (λ z. upto total x y z first) ys (at_most y ys tail))

  never : (x : X) → cmp x x ≡ Less → ⊥
  never x h = let e = sym h ∙ tied_itself total x in cc

  -- sorted lists with the same members are equal
  pub same_rising : (xs ys : List X) → Rises xs → Rises ys → ((x : X) → Has xs x → Has ys x) → ((x : X) → Has ys x → Has xs x) → xs ≡ ys
  same_rising [] [] up vp to back = refl
  same_rising [] (y ∷ ys) up vp to back = absurd (back y (inl refl))
  same_rising (x ∷ xs) [] up vp to back = absurd (to x (inl refl))
  same_rising (x ∷ xs) (y ∷ ys) up vp to back = λ i. heads i ∷ same_rising xs ys up.1 vp.1 later_to later_back i
    where
      heads : x ≡ y
      heads = elim (to x (inl refl)) [
        | inl same ↦ same
        | inr later ↦ elim (back y (inl refl)) [ inl same ↦ sym same | inr too ↦ absurd (never x (total.trans x y x (all_has (λ z. cmp x z ≡ Less) xs y up.0 too) (all_has (λ z. cmp y z ≡ Less) ys x vp.0 later))) ]
      ]

      later_to : (z : X) → Has xs z → Has ys z
      later_to z h = elim (to z (inr h)) [ inl same ↦ absurd (never x (subst (λ w. cmp x w ≡ Less) (same ∙ sym heads) (all_has (λ w. cmp x w ≡ Less) xs z up.0 h))) | inr later ↦ later ]

      later_back : (z : X) → Has ys z → Has xs z
      later_back z h = elim (back z (inr h)) [ inl same ↦ absurd (never y (subst (λ w. cmp y w ≡ Less) (same ∙ heads) (all_has (λ w. cmp y w ≡ Less) ys z vp.0 h))) | inr later ↦ later ]

-- ---- the entries of a finite map

two_of : (a b : Bool) → T (a && b) → T a × T b
two_of true b h = (tt, h)
two_of false b h = absurd h

less_of : (o : Ordering) → T (is_lt o) → o ≡ Less
less_of Less h = refl
less_of Equal h = absurd h
less_of Greater h = absurd h

module _ {K V : Type 0} (R : K → K → Ordering) (order : IsKeyOrder R) where
  all_below : (k : K) (es : List (K × V)) → T (below_all R k es) → AllByRecursion (λ (e : K × V). R k e.0 ≡ Less) es
  all_below k [] h = tt
  all_below k (e ∷ es) h = let parts = two_of (is_lt (R k e.0)) (below_all R k es) h in (less_of _ parts.0, all_below k es parts.1)

  keys_rise : (es : List (K × V)) → T (is_sorted R es) → IsAscending (λ (a b : K × V). R a.0 b.0 ≡ Less) es
  keys_rise [] h = tt
  keys_rise (e ∷ es) h = let parts = two_of (below_all R e.0 es) (is_sorted R es) h in (all_below e.0 es parts.0, keys_rise es parts.1)

  find_has : (es : List (K × V)) (k : K) (v : V) → find R k es ≡ Some v → Has es (k, v)
  find_has [] k v h = absurd (cc)
  find_has (e ∷ es) k v h = elim (cases_Bool (is_eq (R k e.0))) [
    | inl here ↦
        let value : v ≡ e.1 = (let s = rw here at h in cc) in
        let key : k ≡ e.0 = same_key R order k e.0 here in
        inl (λ i. (key i, value i))
    | inr other ↦ inr (find_has es k v (rw other at h))
  ]

  has_find : (es : List (K × V)) (e : K × V) → IsAscending (λ (a b : K × V). R a.0 b.0 ≡ Less) es → Has es e → find R e.0 es ≡ Some e.1
  has_find [] e up h = absurd h
  has_find (x ∷ es) e up (inl same) = ap (λ (y : K × V). find R y.0 (x ∷ es)) same ∙ ap (λ b. cond b (Some x.1) (find R x.0 es)) (tied_key R order x.0 x.0 refl) ∙ ap (λ (y : K × V). Some y.1) (sym same)
  has_find (x ∷ es) e up (inr later) =
      ap (λ b. cond b (Some x.1) (find R e.0 es)) (other_key R order e.0 x.0 (λ h. never R order.total x.0 (subst (λ k. R x.0 k ≡ Less) h (all_has (λ (y : K × V). R x.0 y.0 ≡ Less) es e up.0 later))))
      ∙ has_find es e up.1 later

  pub entries_rise : (m : FinMap R V) → IsAscending (λ (a b : K × V). R a.0 b.0 ≡ Less) (entries m)
  entries_rise m = keys_rise (entries m) (entries_sorted m)

  pub entry_got : (m : FinMap R V) (e : K × V) → Has (entries m) e → get m e.0 ≡ Some e.1
  entry_got m e h = get-entries m e.0 ∙ has_find (entries m) e (entries_rise m) h

  pub got_entry : (m : FinMap R V) (k : K) (v : V) → get m k ≡ Some v → Has (entries m) (k, v)
  got_entry m k v h = find_has (entries m) k v (sym (get-entries m k) ∙ h)

-- ---- the order of an ORDER BY

pub key_cmp_total : (at : ℕ) (keys : List Key) → IsTotalOrder (key_cmp at keys)
key_cmp_total at [] = record { antisymm = λ a b. refl; trans = λ a b c h k. h; congr = λ a b c h. refl }
key_cmp_total at (k ∷ keys) = then_total (on_total (λ (r : Row). column r at) (by_key_total k)) (key_cmp_total (suc at) keys)

-- the rows that pass have the columns of the entries of a sorted list
module _ {K V : Type 0} (form : RowForm K V) (R : K → K → Ordering) (tree : ℕ) (tests shown : List Term) (order : List (Term × Key)) (limit : Term) (params : Row) (db : Trees) (found : List Row)
    (a : IsAnswer (ordered_query tree tests shown order limit) db params found) (m : FinMap R V) (shows : ShowsMap form (db tree) (get m)) (es : List (K × V)) (out : K × V → Output)
    (shown_as : (row : Row) (e : K × V) → IsEntry form row e.0 e.1 → output (ordered_query tree tests shown order limit) (params ∷ row ∷ []) ≡ out e)
    (members : (row : Row) (e : K × V) → IsEntry form row e.0 e.1 → get m e.0 ≡ Some e.1 → passes tests params row ≡ true → Has es e)
    (kept : (e : K × V) → Has es e → (get m e.0 ≡ Some e.1) × ((row : Row) → IsEntry form row e.0 e.1 → passes tests params row ≡ true))
    (up : IsAscending (λ (x y : K × V). output_cmp (ordered_query tree tests shown order limit) (out x) (out y) ≡ Less) es) where
  abbrev query : Query
  query = ordered_query tree tests shown order limit

  abbrev cmp : Output → Output → Ordering
  cmp = output_cmp query

  abbrev put_out : Row → Output
  put_out row = output query (params ∷ row ∷ [])

  total : IsTotalOrder cmp
  total = on_total (λ (o : Output). o.0) (key_cmp_total 0 (map (λ (k : Term × Key). k.1) order))

  outs_rise : Rises cmp total (map out es)
  outs_rise = ascending-map (λ x y. cmp x y ≡ Less) out es up

  -- rows that tie are equal
  one_row : (r s : Row) → Has (db tree) r → Has (db tree) s → passes tests params r ≡ true → passes tests params s ≡ true → cmp (put_out r) (put_out s) ≡ Equal → r ≡ s
  one_row r s here there on also tie =
      let e = shows.sound r here in
      let f = shows.sound s there in
      let has_e = members r (e.0, e.1) e.3 e.2 on in
      let has_f = members s (f.0, f.1) f.3 f.2 also in
      let ties : cmp (out (e.0, e.1)) (out (f.0, f.1)) ≡ Equal = ap (λ o. cmp o (out (f.0, f.1))) (sym (shown_as r (e.0, e.1) e.3)) ∙ ap (cmp (put_out r)) (sym (shown_as s (f.0, f.1) f.3)) ∙ tie in
      let same = one_entry es (e.0, e.1) (f.0, f.1) up has_e has_f ties in
      shows.once r s here there (e.3.0 ∙ ap (λ (x : K × V). form.key_cells x.0) same ∙ sym f.3.0)
    where
      one_entry : (xs : List (K × V)) (x y : K × V) → IsAscending (λ (x y : K × V). cmp (out x) (out y) ≡ Less) xs → Has xs x → Has xs y → cmp (out x) (out y) ≡ Equal → x ≡ y
      one_entry [] x y up h k tie = absurd h
      one_entry (z ∷ xs) x y up (inl h) (inl k) tie = h ∙ sym k
      one_entry (z ∷ xs) x y up (inl h) (inr k) tie = absurd (let e = sym (all_has (λ w. cmp (out z) (out w) ≡ Less) xs y up.0 k) ∙ ap (λ w. cmp (out w) (out y)) (sym h) ∙ tie in cc)
      one_entry (z ∷ xs) x y up (inr h) (inl k) tie = absurd (
          let back : cmp (out y) (out x) ≡ Equal = total.antisymm (out y) (out x) ∙ ap ordering_reverse tie in
          let e = sym (all_has (λ w. cmp (out z) (out w) ≡ Less) xs x up.0 h) ∙ ap (λ w. cmp (out w) (out x)) (sym k) ∙ back in
          cc)
      one_entry (z ∷ xs) x y up (inr h) (inr k) tie = one_entry xs x y up.1 h k tie

  no_ties : (rows : List Row) → IsAscending HaveDifferentRowids rows → ((r s : Row) → Has rows r → Has rows s → passes tests params r ≡ true → passes tests params s ≡ true → cmp (put_out r) (put_out s) ≡ Equal → r ≡ s)
      → IsDistinct (λ x y. is_eq (cmp x y)) (map (output query) (passing tests params rows))
  unfolding IsDistinct
  no_ties [] apart one = tt
  no_ties (r ∷ rows) apart one = go (passes tests params r) refl (no_ties rows apart.1 (λ s t h k. one s t (inr h) (inr k)))
    where
      go : (b : Bool) → passes tests params r ≡ b → IsDistinct (λ x y. is_eq (cmp x y)) (map (output query) (passing tests params rows))
          → IsDistinct (λ x y. is_eq (cmp x y)) (map (output query) (cond b ((params ∷ r ∷ []) ∷ []) [] ++ passing tests params rows))
      go false is later = later
      go true is later = (
        all_from _ _ (λ o h. false_from_ne_true _ (λ tie.
            let e = has_mapped (output query) (passing tests params rows) o h in
            let s = passing_has tests params rows e.0 e.1 in
            let same : r ≡ s.0 = one r s.0 (inl refl) (inr s.1) is s.2 (ap (cmp (put_out r)) (sym (e.2 ∙ ap (output query) s.3)) ∙ equal_of _ tie) in
            both_ways _ (all_has (HaveDifferentRowids r) rows s.0 apart.0 s.1) (ap (λ (x : Row). is_eq (value_cmp (rowid r) (rowid x))) (sym same) ∙ ap is_eq (tied_itself value_cmp_total (rowid r))))),
        later,
      )

  pub in_order_as : a.ordered ≡ map out es
  in_order_as = same_rising cmp total a.ordered (map out es) risen outs_rise
      (λ o h.
      let r = ordered_has tests params tree shown order limit db found a o h in
      let e = shows.sound r.0 r.1 in
      subst (Has (map out es)) (sym (r.3 ∙ shown_as r.0 (e.0, e.1) e.3)) (maps_had out es (e.0, e.1) (members r.0 (e.0, e.1) e.3 e.2 r.2)))
      (λ o h.
      let e = has_mapped out es o h in
      let it = kept e.0 e.1 in
      let r = shows.complete e.0.0 e.0.1 it.0 in
      subst (Has a.ordered) (shown_as r.0 e.0 r.2 ∙ sym e.2) (has_ordered tests params tree shown order limit db found a r.0 r.1 (it.1 r.0 r.2)))
    where
      swaps : (x y : Output) → is_eq (cmp x y) ≡ is_eq (cmp y x)
      swaps x y = ap is_eq (total.antisymm x y) ∙ turned (cmp y x)
        where
          turned : (o : Ordering) → is_eq (ordering_reverse o) ≡ is_eq o
          turned Less = refl
          turned Equal = refl
          turned Greater = refl

      risen : Rises cmp total a.ordered
      risen = rises cmp total a.ordered a.sorted (IsDistinct-IsPermutation (λ x y. is_eq (cmp x y)) swaps _ a.ordered (ordered_outputs tests params tree shown order limit db found a) (no_ties (db tree) shows.rowids.0 one_row))
