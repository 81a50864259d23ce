-- The rows of `texts` in ranges of ids, if the ids are the numbers from 1 on.
use Rattle.std.proofs.Common.{◌≡◌, ◌⊎◌, ◌↔◌, ◌&&◌, inl, inr, ℕ, pos, suc, zero, ◌+◌, ◌<◌, ◌≤◌, List, [], ◌∷◌, ◌++◌, map, filter, length, Bool, true, false, cond, not, swap, set, get_or, refl, sym, ap, subst, ◌∙◌, arith, Ordering, Less, Equal, Greater}
use Rattle.std.specs.List.{AllByRecursion}
use Rattle.std.specs.List.Sorted.{IsPermutation}
use Rattle.std.specs.Ordering.{is_lt, is_gt, nat_cmp, MatchOrdering}
use Rattle.std.proofs.lemmas.Bool.{and_from, and_parts}
use Rattle.std.proofs.lemmas.Cmp.{ranked}
use Rattle.std.proofs.lemmas.List.{map-set, get_or-map, length-map}
use Rattle.std.proofs.lemmas.List.Sorted.{IsPermutation-refl, IsPermutation-sym, IsPermutation-trans, IsPermutation-cons, IsPermutation-middle, IsPermutation-append, IsPermutation-map, IsPermutation-swap, IsPermutation-keeps}
use Rattle.std.proofs.lemmas.Simd.{map-map}
use Rattle.sqlite.specs.declared.types.Value.{Value}
use Rattle.sqlite.specs.declared.types.Value.TheVariants.{Int}
use Rattle.sqlite.specs.Order.{Row}
use Rattle.sqlite.specs.Tree.{rowid}
use Rattle.sqlite.specs.Effect.{Database}
use Rattle.sqlite_rules.specs.Lists.{Has}
use Rattle.reg_tables.specs.declared.raw_texts.RawText.{RawText}
use Rattle.reg_tables.specs.Layout.{texts}
use Rattle.reg_tables.specs.Contents.{text_form}
use Rattle.reg_tables.specs.Listings.{RowParts, parts_of, entry_parts, text_entry, is_between, ListsTextIds, ListsTexts, ListsTextsBetween}
use Rattle.reg_tables.proofs.ListMembers.{has_mapped, maps_had, has_permuted}
use Rattle.reg_tables.proofs.RawTexts.{between_tests}
use Rattle.reg_rows.specs.Spelling.{AreConsecutive}
use Rattle.reg_store.specs.Inside.TableChecks.{text_fits, Judges, NumbersTexts}

-- ---- a row's id

abbrev pub HaveIds : List Row → Type 0
HaveIds rows = (row : Row) → Has rows row → (id : ℕ) × (rowid row ≡ Int (pos id))

abbrev pub int_of : ℕ → Value
int_of id = Int (pos id)

pub have_ids : (db : Database) (ids : List ℕ) → ListsTextIds db ids → HaveIds (db.trees texts.tree)
have_ids db ids lists row there =
    let it = has_mapped int_of ids (rowid row) (has_permuted (map rowid (db.trees texts.tree)) (map int_of ids) (rowid row) lists (maps_had rowid (db.trees texts.tree) row there)) in
    (it.0, it.2)

module _ (low high id : ℕ) (row : Row) (is : rowid row ≡ Int (pos id)) where
  not_below : (o : Ordering) → MatchOrdering o (id < low) (id ≡ low) (low < id) → low ≤ id → not (is_lt o) ≡ true
  not_below Less h l = absurd (omega (arith, h, l))
  not_below Equal h l = refl
  not_below Greater h l = refl

  below : (o : Ordering) → MatchOrdering o (id < low) (id ≡ low) (low < id) → id < low → not (is_lt o) ≡ false
  below Less h l = refl
  below Equal h l = absurd (omega (arith, h, l))
  below Greater h l = absurd (omega (arith, h, l))

  not_above : (o : Ordering) → MatchOrdering o (id < high) (id ≡ high) (high < id) → id ≤ high → not (is_gt o) ≡ true
  not_above Less h l = refl
  not_above Equal h l = refl
  not_above Greater h l = absurd (omega (arith, h, l))

  above : (o : Ordering) → MatchOrdering o (id < high) (id ≡ high) (high < id) → high < id → not (is_gt o) ≡ false
  above Less h l = absurd (omega (arith, h, l))
  above Equal h l = absurd (omega (arith, h, l))
  above Greater h l = refl

  tests : is_between low high row ≡ (not (is_lt (nat_cmp id low)) && not (is_gt (nat_cmp id high)))
  tests = between_tests low high id row is

  pub inside : low ≤ id → id ≤ high → is_between low high row ≡ true
  inside l h = tests ∙ rw (not_below (nat_cmp id low) (ranked id low (nat_cmp id low) refl) l, not_above (nat_cmp id high) (ranked id high (nat_cmp id high) refl) h) refl

  last_false : (b : Bool) → (b && false) ≡ false
  last_false true = refl
  last_false false = refl

  pub outside : (id < low) ⊎ (high < id) → is_between low high row ≡ false
  outside (inl l) = tests ∙ ap (λ b. b && not (is_gt (nat_cmp id high))) (below (nat_cmp id low) (ranked id low (nat_cmp id low) refl) l)
  outside (inr h) = tests ∙ ap (λ b. not (is_lt (nat_cmp id low)) && b) (above (nat_cmp id high) (ranked id high (nat_cmp id high) refl) h) ∙ last_false (not (is_lt (nat_cmp id low)))

-- ---- rows partitioned by a test

-- each row passes the first test and exactly one of the others, or none of the three
abbrev pub Splits : Bool → Bool → Bool → Type 0
Splits whole one other = ((whole ≡ true) × (one ≡ true) × (other ≡ false)) ⊎ (((whole ≡ true) × (one ≡ false) × (other ≡ true)) ⊎ ((whole ≡ false) × (one ≡ false) × (other ≡ false)))

pub split : {X : Type 0} (p q r : X → Bool) (xs : List X) → ((x : X) → Has xs x → Splits (p x) (q x) (r x)) → IsPermutation (filter p xs) (filter q xs ++ filter r xs)
split p q r [] each = IsPermutation-refl []
split p q r (x ∷ xs) each = go (each x (inl refl)) (split p q r xs (λ y there. each y (inr there)))
  where
    go : Splits (p x) (q x) (r x) → IsPermutation (filter p xs) (filter q xs ++ filter r xs) → IsPermutation (filter p (x ∷ xs)) (filter q (x ∷ xs) ++ filter r (x ∷ xs))
    go (inl is) rest = rw (is.0, is.1, is.2) (IsPermutation-cons x _ _ rest)
    go (inr (inl is)) rest = rw (is.0, is.1, is.2) (IsPermutation-trans _ _ _ (IsPermutation-cons x _ _ rest) (IsPermutation-sym _ _ (IsPermutation-middle (filter q xs) x (filter r xs))))
    go (inr (inr is)) rest = rw (is.0, is.1, is.2) rest

pub all_pass : {X : Type 0} (p : X → Bool) (xs : List X) → ((x : X) → Has xs x → p x ≡ true) → filter p xs ≡ xs
all_pass p [] each = refl
all_pass p (x ∷ xs) each = ap (λ b. cond b (x ∷ filter p xs) (filter p xs)) (each x (inl refl)) ∙ ap (λ l. x ∷ l) (all_pass p xs (λ y there. each y (inr there)))

pub none_passes : {X : Type 0} (p : X → Bool) (xs : List X) → ((x : X) → Has xs x → p x ≡ false) → filter p xs ≡ []
none_passes p [] each = refl
none_passes p (x ∷ xs) each = ap (λ b. cond b (x ∷ filter p xs) (filter p xs)) (each x (inl refl)) ∙ none_passes p xs (λ y there. each y (inr there))

pub mapped-append : {A B : Type 0} (f : A → B) (xs ys : List A) → map f (xs ++ ys) ≡ map f xs ++ map f ys
mapped-append f [] ys = refl
mapped-append f (x ∷ xs) ys = ap (λ l. f x ∷ l) (mapped-append f xs ys)

fits-append : (xs ys : List RawText) → (AllByRecursion text_fits xs × AllByRecursion text_fits ys) ↔ AllByRecursion text_fits (xs ++ ys)
fits-append [] ys = (λ h. h.1, λ h. (tt, h))
fits-append (x ∷ xs) ys = let rest = fits-append xs ys in (λ h. (h.0.0, rest.0 (h.0.1, h.1)), λ h. let r = rest.1 h.1 in ((h.0, r.0), r.1))

-- ---- ranges

abbrev parts : Row → RowParts
parts = parts_of text_form

abbrev shown : List RawText → List RowParts
shown lines = map (entry_parts text_form) (map text_entry lines)

shown-append : (xs ys : List RawText) → shown (xs ++ ys) ≡ shown xs ++ shown ys
shown-append xs ys = ap (map (entry_parts text_form)) (mapped-append text_entry xs ys) ∙ mapped-append (entry_parts text_form) (map text_entry xs) (map text_entry ys)

module _ (db : Database) (have : HaveIds (db.trees texts.tree)) where
  abbrev rows : List Row
  rows = db.trees texts.tree

  pub judges_none : Judges (ListsTextsBetween 1 0 db) true
  judges_none = record {
    lines = [];
    lists = subst (λ l. IsPermutation (map parts l) []) (sym (none_passes (is_between 1 0) rows (λ row there. let it = have row there in outside 1 0 it.0 row it.1 (one it.0)))) (IsPermutation-refl []);
    judged = (λ h. tt, λ h. refl);
  }
    where
      one : (id : ℕ) → (id < 1) ⊎ (0 < id)
      one zero = inl (omega arith)
      one (suc n) = inr (omega arith)

  splits : (mid high : ℕ) → mid ≤ high → (row : Row) → Has rows row → Splits (is_between 1 high row) (is_between 1 mid row) (is_between (mid + 1) high row)
  splits mid high up row there = go it.0 it.1 (where_is it.0)
    where
      it : (id : ℕ) × (rowid row ≡ Int (pos id))
      it = have row there

      Where : ℕ → Type 0
      Where id = (id < 1) ⊎ (((1 ≤ id) × (id ≤ mid)) ⊎ (((mid < id) × (id ≤ high)) ⊎ (high < id)))

      where_is : (id : ℕ) → Where id
      where_is id = by (nat_cmp id 1) (ranked id 1 (nat_cmp id 1) refl) (nat_cmp id mid) (ranked id mid (nat_cmp id mid) refl) (nat_cmp id high) (ranked id high (nat_cmp id high) refl)
        where
          last : (a : Ordering) → MatchOrdering a (id < high) (id ≡ high) (high < id) → mid < id → Where id
          last Less k m = inr (inr (inl (m, omega arith)))
          last Equal k m = inr (inr (inl (m, omega arith)))
          last Greater k m = inr (inr (inr k))

          second : (b : Ordering) → MatchOrdering b (id < mid) (id ≡ mid) (mid < id) → (a : Ordering) → MatchOrdering a (id < high) (id ≡ high) (high < id) → 1 ≤ id → Where id
          second Less h a k l = inr (inl (l, omega arith))
          second Equal h a k l = inr (inl (l, omega arith))
          second Greater h a k l = last a k h

          by : (c : Ordering) → MatchOrdering c (id < 1) (id ≡ 1) (1 < id) → (b : Ordering) → MatchOrdering b (id < mid) (id ≡ mid) (mid < id) → (a : Ordering) → MatchOrdering a (id < high) (id ≡ high) (high < id) → Where id
          by Less l b h a k = inl l
          by Equal l b h a k = second b h a k (omega arith)
          by Greater l b h a k = second b h a k (omega arith)

      go : (id : ℕ) → rowid row ≡ Int (pos id) → Where id → Splits (is_between 1 high row) (is_between 1 mid row) (is_between (mid + 1) high row)
      go id is (inl l) = inr (inr (outside 1 high id row is (inl l), outside 1 mid id row is (inl l), outside (mid + 1) high id row is (inl (omega arith))))
      go id is (inr (inl h)) = inl (inside 1 high id row is h.0 (omega (arith, h.1)), inside 1 mid id row is h.0 h.1, outside (mid + 1) high id row is (inl (omega (arith, h.1))))
      go id is (inr (inr (inl h))) = inr (inl (inside 1 high id row is (omega (arith, h.0)) h.1, outside 1 mid id row is (inr h.0), inside (mid + 1) high id row is (omega (arith, h.0)) h.1))
      go id is (inr (inr (inr h))) = inr (inr (outside 1 high id row is (inr h), outside 1 mid id row is (inr (omega arith)), outside (mid + 1) high id row is (inr h)))

  pub judges_more : (mid high : ℕ) → mid ≤ high → (a b : Bool) → Judges (ListsTextsBetween 1 mid db) a → Judges (ListsTextsBetween (mid + 1) high db) b → Judges (ListsTextsBetween 1 high db) (a && b)
  judges_more mid high up a b one two = record {
    lines = one.lines ++ two.lines;
    lists =
        let low = filter (is_between 1 mid) rows in
        let next = filter (is_between (mid + 1) high) rows in
        let apart = subst (IsPermutation (map parts (filter (is_between 1 high) rows))) (mapped-append parts low next)
        (IsPermutation-map parts (filter (is_between 1 high) rows) (low ++ next) (split (is_between 1 high) (is_between 1 mid) (is_between (mid + 1) high) rows (splits mid high up))) in
        subst (IsPermutation (map parts (filter (is_between 1 high) rows))) (sym (shown-append one.lines two.lines))
        (IsPermutation-trans _ _ _ apart (IsPermutation-append (map parts low) (shown one.lines) (map parts next) (shown two.lines) one.lists two.lists));
    judged = (
      λ yes. let parts = and_parts a b yes in (fits-append one.lines two.lines).0 (one.judged.0 parts.0, two.judged.0 parts.1),
      λ all. let parts = (fits-append one.lines two.lines).1 all in and_from a b (one.judged.1 parts.0) (two.judged.1 parts.1),
    );
  }

-- consecutive numbers are less than the first one plus their count
pub within : (first : ℕ) (ids : List ℕ) → AreConsecutive first ids → (id : ℕ) → Has ids id → (first ≤ id) × (id < first + length ids)
within first [] n id h = absurd h
within first (x ∷ ids) n id (inl same) = let is = n.0 in (omega (arith, same, is), omega (arith, same, is))
within first (x ∷ ids) n id (inr later) = let it = within (first + 1) ids n.1 id later in let low = it.0 in let high = it.1 in (omega (arith, low), omega (arith, high))

pub judges_all : (db : Database) (count high : ℕ) → NumbersTexts db count → count ≤ high → (fit : Bool) → Judges (ListsTextsBetween 1 high db) fit → Judges (ListsTexts db) fit
judges_all db count high numbers up fit it = record {
  lines = it.lines;
  lists = subst (λ l. IsPermutation (map parts l) (shown it.lines)) (all_pass (is_between 1 high) (db.trees texts.tree) each) it.lists;
  judged = it.judged;
}
  where
    each : (row : Row) → Has (db.trees texts.tree) row → is_between 1 high row ≡ true
    each row there =
        let rows = db.trees texts.tree in
        let id = has_mapped int_of numbers.ids (rowid row) (has_permuted (map rowid rows) (map int_of numbers.ids) (rowid row) numbers.lists (maps_had rowid rows row there)) in
        let range = within 1 numbers.ids numbers.numbered id.0 id.1 in
        let low = range.0 in
        let below = range.1 in
        let many = numbers.is in
        inside 1 high id.0 row id.2 (omega (arith, low)) (omega (arith, below, many, up))

-- ---- lines in the order of their ids

swapped-map : {A B : Type 0} (f : A → B) (xs : List A) (i j : ℕ) → i < length xs → j < length xs → map f (swap xs i j) ≡ swap (map f xs) i j
swapped-map f [] i j p q = absurd (omega arith)
swapped-map f (d ∷ xs) i j p q =
    let l = d ∷ xs in
    map-set f (set l i (get_or l j d)) j (get_or l i d) ∙ ap (λ k. set k j (f (get_or l i d))) (map-set f l i (get_or l j d))
    ∙ ap (λ y. set (set (map f l) i y) j (f (get_or l i d))) (sym (get_or-map f l j d (f d) q)) ∙ ap (λ y. set (set (map f l) i (get_or (map f l) j (f d))) j y) (sym (get_or-map f l i d (f d) p))

-- reordering the results of a map by reordering its arguments
reordered : {A B : Type 0} (f : A → B) (xs : List A) (ys : List B) → IsPermutation (map f xs) ys → (zs : List A) × IsPermutation xs zs × (map f zs ≡ ys)
reordered {A} f xs ys =
    IsPermutation-keeps (map f xs) (λ l. (zs : List A) × IsPermutation xs zs × (map f zs ≡ l)) (xs, IsPermutation-refl xs, refl)
    (λ l i j p q it.
    let zs = it.0 in
    let long : length zs ≡ length l = sym (length-map zs f) ∙ ap length it.2 in
    let i_in : i < length zs = omega (arith, p, long) in
    let j_in : j < length zs = omega (arith, q, long) in
    (swap zs i j, IsPermutation-trans xs zs (swap zs i j) it.1 (IsPermutation-swap zs (swap zs i j) i j i_in j_in refl), swapped-map f zs i j i_in j_in ∙ ap (λ k. swap k i j) it.2))
    ys

same_ints : (ns ms : List ℕ) → map int_of ns ≡ map int_of ms → ns ≡ ms
same_ints [] [] h = refl
same_ints [] (m ∷ ms) h = absurd (cc)
same_ints (n ∷ ns) [] h = absurd (cc)
same_ints (n ∷ ns) (m ∷ ms) h = let head : n ≡ m = cc in let tail : map int_of ns ≡ map int_of ms = cc in λ i. head i ∷ same_ints ns ms tail i

pub in_order : (db : Database) (count : ℕ) (numbers : NumbersTexts db count) (lines : List RawText) → ListsTexts db lines → (sorted : List RawText) × IsPermutation lines sorted × (map (λ (line : RawText). line.id) sorted ≡ numbers.ids)
in_order db count numbers lines lists =
    let rows = db.trees texts.tree in
    let id_of = λ (line : RawText). line.id in
    let first = λ (p : RowParts). p.0 in
    let ids : IsPermutation (map rowid rows) (map (λ (line : RawText). int_of line.id) lines) =
    subst (IsPermutation (map rowid rows)) (ap (map first) (map-map (entry_parts text_form) text_entry lines) ∙ map-map first (λ (line : RawText). entry_parts text_form (text_entry line)) lines)
    (subst (λ l. IsPermutation l (map first (shown lines))) (map-map first parts rows) (IsPermutation-map first (map parts rows) (shown lines) lists)) in
    let it = reordered (λ (line : RawText). int_of line.id) lines (map int_of numbers.ids) (IsPermutation-trans _ _ _ (IsPermutation-sym _ _ ids) numbers.lists) in
    (it.0, it.1, same_ints (map id_of it.0) numbers.ids (map-map int_of id_of it.0 ∙ it.2))
