-- The last version of a list, and the ascending numbers of a subject's versions.
use Rattle.std.proofs.Common.{◌≡◌, ◌∙◌, ℕ, ◌+◌, ◌<◌, ◌≤◌, Bool, true, false, List, [], ◌∷◌, ◌++◌, T, ◌&&◌, Ordering, Less, Equal, Greater, refl, ap, sym, subst, arith}
use Rattle.std.specs.Prelude.{All, ⊤, filter, fold, max, bytes_eq, if◌then◌else◌}
use Rattle.std.specs.FinMap.{entries, entries_sorted, is_sorted}
use Rattle.std.specs.FinMap.Entries.{below_all}
use Rattle.std.specs.List.{Contains}
use Rattle.std.specs.Ordering.{is_lt, nat_cmp, ordering_then}
use Rattle.std.specs.Cmp.Lexicographic.{slice_cmp}
use Rattle.std.proofs.lemmas.Cmp.{nat_list_cmp_total, ranked, tied_itself}
use Rattle.std.proofs.lemmas.List.Elements.{All-nil, All-cons, All-head, All-tail, Contains-append_right}
use Rattle.std.proofs.lemmas.Slice.Eq.{bytes_eq-Decides}
use Rattle.reg_core.specs.Compatibility.{latest}
use Rattle.reg_core.specs.Registry.{Registry, Row, row_cmp}
use Rattle.reg_core.specs.Rows.{rows_of, next_number}
use Rattle.reg_core.proofs.ChosenRows.{some_last}
use Rattle.reg_core.proofs.RowLemmas.{greatest_of}

-- ---- the last version

pub latest_again : {X : Type 0} (xs : List X) → latest (latest xs) ≡ latest xs
latest_again [] = refl
latest_again (x ∷ []) = refl
latest_again (x ∷ y ∷ ys) = latest_again (y ∷ ys)

latest_before : {X : Type 0} (x : X) (xs : List X) (last : X) → latest xs ≡ last ∷ [] → latest (x ∷ xs) ≡ last ∷ []
latest_before x [] last e = absurd cc
latest_before x (y ∷ ys) last e = e

-- if the last item passes the filter, it is the last one that does
pub last_passes : {X : Type 0} (p : X → Bool) (xs : List X) (last : X) → latest xs ≡ last ∷ [] → p last ≡ true → latest (filter p xs) ≡ last ∷ []
last_passes p [] last e passes = absurd cc
last_passes p (x ∷ []) last e passes = subst (λ ys. latest (filter p ys) ≡ last ∷ []) (sym e) (ap (λ b. latest (if b then last ∷ [] else [])) passes)
last_passes p (x ∷ y ∷ ys) last e passes = by (p x) (last_passes p (y ∷ ys) last e passes)
  where
    by : (b : Bool) → latest (filter p (y ∷ ys)) ≡ last ∷ [] → latest (if b then x ∷ filter p (y ∷ ys) else filter p (y ∷ ys)) ≡ last ∷ []
    by true h = latest_before x (filter p (y ∷ ys)) last h
    by false h = h

-- the last item is one of the list
pub last_there : {X : Type 0} (xs : List X) (last : X) → latest xs ≡ last ∷ [] → Contains xs last
last_there [] last e = absurd cc
last_there (x ∷ []) last e = let same : x ≡ last = cc in (0, omega arith, same)
last_there (x ∷ y ∷ ys) last e = Contains-append_right (x ∷ []) (y ∷ ys) last (last_there (y ∷ ys) last e)

pub none_latest_of : (rows : List Row) → latest rows ≡ [] → rows ≡ []
none_latest_of [] e = refl
none_latest_of (x ∷ xs) e = absurd (some_last x xs e)

-- ---- the next number

-- the numbers are ascending
abbrev pub Rising : List Row → Type 0
Rising [] = ⊤
Rising (row ∷ rows) = All (λ (r : Row). row.0.1 < r.0.1) rows × Rising rows

greatest_is : (rows : List Row) (most : ℕ) (last : Row) → Rising rows → All (λ (r : Row). most ≤ r.0.1) rows → latest rows ≡ last ∷ [] → fold (λ greatest (r : Row). max greatest r.0.1) most rows ≡ last.0.1
greatest_is [] most last rising above e = absurd cc
greatest_is (x ∷ []) most last rising above e =
    let here : most ≤ x.0.1 = All-head (λ (r : Row). most ≤ r.0.1) x [] above in
    let most_is : max most x.0.1 ≡ x.0.1 = omega arith in
    let same : x ≡ last = cc in
    most_is ∙ ap (λ (r : Row). r.0.1) same
greatest_is (x ∷ y ∷ ys) most last rising above e =
    greatest_is (y ∷ ys) (max most x.0.1) last rising.1
    (λ k d lt. let a : x.0.1 < _ = rising.0 k d lt in let b : most ≤ _ = All-tail (λ (r : Row). most ≤ r.0.1) x (y ∷ ys) above k d lt in omega arith) e

-- the next number is 1 more than the last one
pub next_is : (rows : List Row) (last : Row) → Rising rows → latest rows ≡ last ∷ [] → next_number rows ≡ last.0.1 + 1
next_is rows last rising e = ap (λ (n : ℕ). n + 1) (greatest_is rows 0 last rising (λ k d lt. omega arith) e)

-- the greatest number is the last one if no earlier one is greater
greatest_onto : (rows : List Row) (most : ℕ) (last : Row) → most ≤ last.0.1 → All (λ (r : Row). r.0.1 ≤ last.0.1) rows → fold (λ greatest (r : Row). max greatest r.0.1) most (rows ++ last ∷ []) ≡ last.0.1
greatest_onto [] most last below all = omega arith
greatest_onto (x ∷ xs) most last below all =
    let here : x.0.1 ≤ last.0.1 = All-head (λ (r : Row). r.0.1 ≤ last.0.1) x xs all in
    greatest_onto xs (max most x.0.1) last (omega arith) (All-tail (λ (r : Row). r.0.1 ≤ last.0.1) x xs all)

pub next_onto : (before rows : List Row) (last : Row) → Rising rows → latest rows ≡ last ∷ [] → All (λ (r : Row). r.0.1 ≤ last.0.1) before → next_number (before ++ last ∷ []) ≡ next_number rows
next_onto before rows last rising e below = ap (λ (n : ℕ). n + 1) (greatest_onto before 0 last (omega arith) below) ∙ sym (next_is rows last rising e)

-- each number is at most the last one's
pub up_to_last : (rows : List Row) (last : Row) → Rising rows → latest rows ≡ last ∷ [] → All (λ (r : Row). r.0.1 ≤ last.0.1) rows
up_to_last rows last rising e =
    let greatest = greatest_is rows 0 last rising (λ k d lt. omega arith) e in
    subst (λ (n : ℕ). All (λ (r : Row). r.0.1 ≤ n) rows) greatest (greatest_of rows 0)

both_of : (a b : Bool) → T (a && b) → T a × T b
both_of true b h = (tt, h)
both_of false b h = absurd h

-- ---- the numbers of a subject's versions are ascending

less_second : (o : Ordering) (a b : ℕ) → o ≡ Equal → T (is_lt (ordering_then o (nat_cmp a b))) → a < b
less_second o a b e h = below (nat_cmp a b) refl (subst (λ x. T (is_lt (ordering_then x (nat_cmp a b)))) e h)
  where
    below : (x : Ordering) → nat_cmp a b ≡ x → T (is_lt x) → a < b
    below Less is t = ranked a b Less (sym is)
    below Equal is t = absurd t
    below Greater is t = absurd t

above_subject : (subject : List ℕ) (row : Row) (rows : List Row) → row.0.0 ≡ subject → T (below_all row_cmp row.0 rows) → All (λ (r : Row). row.0.1 < r.0.1) (filter (λ (r : Row). bytes_eq r.0.0 subject) rows)
above_subject subject row [] its h = All-nil (λ (r : Row). row.0.1 < r.0.1)
above_subject subject row (r ∷ rs) its h = by (bytes_eq r.0.0 subject) refl (above_subject subject row rs its parts.1)
  where
    parts : T (is_lt (row_cmp row.0 r.0)) × T (below_all row_cmp row.0 rs)
    parts = both_of (is_lt (row_cmp row.0 r.0)) (below_all row_cmp row.0 rs) h

    by : (b : Bool) → bytes_eq r.0.0 subject ≡ b → All (λ (x : Row). row.0.1 < x.0.1) (filter (λ (x : Row). bytes_eq x.0.0 subject) rs)
        → All (λ (x : Row). row.0.1 < x.0.1) (if b then r ∷ filter (λ (x : Row). bytes_eq x.0.0 subject) rs else filter (λ (x : Row). bytes_eq x.0.0 subject) rs)
    by true e rest =
        let same : row.0.0 ≡ r.0.0 = its ∙ sym ((bytes_eq-Decides r.0.0 subject).0 e) in
        let tie : slice_cmp nat_cmp row.0.0 r.0.0 ≡ Equal = ap (slice_cmp nat_cmp row.0.0) (sym same) ∙ tied_itself nat_list_cmp_total row.0.0 in
        All-cons (λ (x : Row). row.0.1 < x.0.1) r _ (less_second (slice_cmp nat_cmp row.0.0 r.0.0) row.0.1 r.0.1 tie parts.0) rest
    by false e rest = rest

subject_rises : (subject : List ℕ) (rows : List Row) → T (is_sorted row_cmp rows) → Rising (filter (λ (r : Row). bytes_eq r.0.0 subject) rows)
subject_rises subject [] h = tt
subject_rises subject (row ∷ rows) h = by (bytes_eq row.0.0 subject) refl (subject_rises subject rows parts.1)
  where
    parts : T (below_all row_cmp row.0 rows) × T (is_sorted row_cmp rows)
    parts = both_of (below_all row_cmp row.0 rows) (is_sorted row_cmp rows) h

    by : (b : Bool) → bytes_eq row.0.0 subject ≡ b → Rising (filter (λ (r : Row). bytes_eq r.0.0 subject) rows)
        → Rising (if b then row ∷ filter (λ (r : Row). bytes_eq r.0.0 subject) rows else filter (λ (r : Row). bytes_eq r.0.0 subject) rows)
    by true e rest = (above_subject subject row rows ((bytes_eq-Decides row.0.0 subject).0 e) parts.0, rest)
    by false e rest = rest

pub rows_of-rise : (g : Registry) (subject : List ℕ) → Rising (rows_of g subject)
rows_of-rise g subject = subject_rises subject (entries g.rows) (entries_sorted g.rows)
