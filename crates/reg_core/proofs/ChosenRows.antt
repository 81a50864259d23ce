-- The chosen version of a subject, and which few versions suffice to choose it.
use Rattle.std.proofs.Common.{◌≡◌, ◌≢◌, inl, inr, ◌∙◌, ℕ, zero, suc, ◌<◌, ◌==◌, Bool, true, false, true≢false, List, [], ◌∷◌, map, length, refl, ap, sym, subst, eqb-true, arith}
use Rattle.std.specs.Prelude.{All, Option, None, Some, Ok, Err, find, filter, not, ◌||◌, option_map, option_to_list, slice_index_or, if◌then◌else◌}
use Rattle.std.specs.FinMap.{get}
use Rattle.std.specs.List.{Contains, last_or}
use Rattle.std.specs.Option.{ok_or}
use Rattle.std.proofs.lemmas.Bool.{cases_Bool, eq-eqb}
use Rattle.std.proofs.lemmas.List.Elements.{All-nil, All-cons, All-head, All-tail, All-filter, filter_passes}
use Rattle.std.proofs.lemmas.Option.{none-some, same_Some}
use Rattle.reg_core.specs.declared.code.Code.TheVariants.{VersionNotFound}
use Rattle.reg_core.specs.declared.number.VersionChoice.{VersionChoice}
use Rattle.reg_core.specs.declared.number.VersionChoice.TheVariants.{Latest, Numbered}
use Rattle.reg_core.specs.Compatibility.{latest}
use Rattle.reg_core.specs.Registry.{Registry, Row, Version}
use Rattle.reg_core.specs.Rows.{rows_of, visible_rows, chosen_row}
use Rattle.reg_core.specs.ReadCommands.{found_row}
use Rattle.reg_core.proofs.RowLemmas.{rows_of-subject, rows_of-got, got-rows_of, filter_keeps}

-- ---- facts about the chosen version

pub All-latest : {X : Type 0} (P : X → Type 0) (xs : List X) → All P xs → All P (latest xs)
All-latest P [] h = h
All-latest P (x ∷ []) h = h
All-latest P (x ∷ y ∷ ys) h = All-latest P (y ∷ ys) (All-tail P x (y ∷ ys) h)

All-find : (P : Row → Type 0) (p : Row → Bool) (ys : List Row) (x : Row) → All P ys → find p ys ≡ Some x → P x
All-find P p [] x h e = absurd (none-some x e)
All-find P p (y ∷ ys) x h e = by (p y) e (All-find P p ys x (All-tail P y ys h))
  where
    by : (b : Bool) → (if b then Some y else find p ys) ≡ Some x → (find p ys ≡ Some x → P x) → P x
    by true f rest = subst P (same_Some y x f) (All-head P y ys h)
    by false f rest = rest f

All-chosen : (P : Row → Type 0) (choice : VersionChoice) (rows : List Row) (row : Row) → All P rows → chosen_row choice rows ≡ Some row → P row
All-chosen P Latest rows row h e = All-head P row [] (subst (λ (o : Option Row). All P (option_to_list o)) e (All-latest P rows h))
All-chosen P (Numbered number) rows row h e = All-find P (λ (r : Row). r.0.1 == number) rows row h e

ok_of : {C : Type 0} (o : Option Row) (code : C) (row : Row) → ok_or o code ≡ Ok row → o ≡ Some row
ok_of None code row e = absurd cc
ok_of (Some other) code row e = cc

-- if `P` is true of each version, it is true of the found one
pub All-found : (P : Row → Type 0) (choice : VersionChoice) (rows : List Row) (row : Row) → All P rows → found_row (Some choice) rows ≡ Ok row → P row
All-found P choice [] row h e = absurd cc
All-found P choice (r ∷ rows) row h e = All-chosen P choice (r ∷ rows) row h (ok_of (chosen_row choice (r ∷ rows)) VersionNotFound row e)

-- ---- only the last version in place of all

pub last_or-map : {X Y : Type 0} (f : X → Y) (o : Option X) (xs : List X) → last_or (option_map f o) (map f xs) ≡ option_map f (last_or o xs)
last_or-map f o [] = refl
last_or-map f o (x ∷ xs) = last_or-map f (Some x) xs

pub filter_all : {X : Type 0} (p : X → Bool) (xs : List X) → All (λ x. p x ≡ true) xs → filter p xs ≡ xs
filter_all p [] h = refl
filter_all p (x ∷ xs) h =
    ap (λ b. if b then x ∷ filter p xs else filter p xs) (All-head (λ y. p y ≡ true) x xs h) ∙ ap (λ rest. x ∷ rest) (filter_all p xs (All-tail (λ y. p y ≡ true) x xs h))

-- the last shown version is shown
pub last_is_shown : (deleted : Bool) (rows : List Row) → visible_rows deleted (latest (visible_rows deleted rows)) ≡ latest (visible_rows deleted rows)
last_is_shown deleted rows =
    let p = λ (row : Row). deleted || not row.1.deleted in
    filter_all p (latest (visible_rows deleted rows)) (All-latest (λ row. p row ≡ true) (visible_rows deleted rows) (filter_passes p rows))

-- the last version suffices to find the latest one, or that there is none
last_alone : (rows : List Row) → found_row (Some Latest) (latest rows) ≡ found_row (Some Latest) rows
last_alone [] = refl
last_alone (row ∷ []) = refl
last_alone (row ∷ next ∷ rows) = last_alone (next ∷ rows)

-- the last shown version suffices to find the latest shown one
pub latest_tells : (deleted : Bool) (rows : List Row) → found_row (Some Latest) (visible_rows deleted (latest (visible_rows deleted rows))) ≡ found_row (Some Latest) (visible_rows deleted rows)
latest_tells deleted rows = ap (found_row (Some Latest)) (last_is_shown deleted rows) ∙ last_alone (visible_rows deleted rows)

-- ---- a version by its number

find_none : (p : Row → Bool) (rows : List Row) → All (λ row. p row ≡ false) rows → find p rows ≡ None
find_none p [] h = refl
find_none p (row ∷ rows) h =
    ap (λ b. if b then Some row else find p rows) (All-head (λ r. p r ≡ false) row rows h) ∙ find_none p rows (All-tail (λ r. p r ≡ false) row rows h)

abbrev HasNotNumber : ℕ → Row → Type 0
HasNotNumber number row = (row.0.1 == number) ≡ false

pub some_last : (row : Row) (rows : List Row) → latest (row ∷ rows) ≢ []
some_last row [] e = cc
some_last row (next ∷ rows) e = some_last next rows e

none_found : (number : ℕ) (row : Row) (rows : List Row) → All (HasNotNumber number) (row ∷ rows) → found_row (Some (Numbered number)) (row ∷ rows) ≡ Err VersionNotFound
none_found number row rows none = ap (λ (o : Option Row). ok_or o VersionNotFound) (find_none (λ (r : Row). r.0.1 == number) (row ∷ rows) none)

-- if no version has the number, the last version suffices to find none
absent_among : (number : ℕ) (rows : List Row) → All (HasNotNumber number) rows → found_row (Some (Numbered number)) (latest rows) ≡ found_row (Some (Numbered number)) rows
absent_among number [] h = refl
absent_among number (row ∷ rows) h = by (latest (row ∷ rows)) refl (All-latest (HasNotNumber number) (row ∷ rows) h) ∙ sym (none_found number row rows h)
  where
    by : (last : List Row) → latest (row ∷ rows) ≡ last → All (HasNotNumber number) last → found_row (Some (Numbered number)) last ≡ Err VersionNotFound
    by [] is none = absurd (some_last row rows is)
    by (r ∷ rs) is none = none_found number r rs none

module _ (g : Registry) (subject : List ℕ) (number : ℕ) (deleted : Bool) where
  abbrev rows : List Row
  rows = visible_rows deleted (rows_of g subject)

  abbrev HasNumber : Row → Bool
  HasNumber row = row.0.1 == number

  abbrev IsShown : Row → Bool
  IsShown row = deleted || not row.1.deleted

  -- if no shown version has the number, the last shown one suffices to find none
  pub absent_told : ((version : Version) → get g.rows (subject, number) ≡ Some version → (deleted || not version.deleted) ≡ false)
      → found_row (Some (Numbered number)) (visible_rows deleted (latest rows)) ≡ found_row (Some (Numbered number)) rows
  absent_told hidden = ap (found_row (Some (Numbered number))) (last_is_shown deleted (rows_of g subject)) ∙ absent_among number rows (λ k d lt. not_it _ (of_subject k d lt) (got k d lt) (filter_passes IsShown (rows_of g subject) k d lt))
    where
      of_subject : All (λ (row : Row). row.0.0 ≡ subject) rows
      of_subject = All-filter IsShown (λ (row : Row). row.0.0 ≡ subject) (rows_of g subject) (rows_of-subject g subject)

      got : All (λ (row : Row). get g.rows row.0 ≡ Some row.1) rows
      got = All-filter IsShown (λ (row : Row). get g.rows row.0 ≡ Some row.1) (rows_of g subject) (rows_of-got g subject)

      not_it : (row : Row) → row.0.0 ≡ subject → get g.rows row.0 ≡ Some row.1 → IsShown row ≡ true → HasNumber row ≡ false
      not_it row its found shown = elim (cases_Bool (HasNumber row)) [
        | inl has ↦ absurd (true≢false (sym shown ∙ hidden row.1 (subst (λ (key : List ℕ × ℕ). get g.rows key ≡ Some row.1) (λ i. (its i, eqb-true row.0.1 number has i)) found)))
        | inr not ↦ not
      ]

  module _ (version : Version) (there : get g.rows (subject, number) ≡ Some version) (shown : (deleted || not version.deleted) ≡ true) where
    abbrev row : Row
    row = ((subject, number), version)

    -- only this version has the number
    only : All (λ (r : Row). HasNumber r ≡ true → r ≡ row) rows
    only = λ k d lt has. same _ (of_subject k d lt) (got k d lt) has
      where
        of_subject : All (λ (r : Row). r.0.0 ≡ subject) rows
        of_subject = All-filter IsShown (λ (r : Row). r.0.0 ≡ subject) (rows_of g subject) (rows_of-subject g subject)

        got : All (λ (r : Row). get g.rows r.0 ≡ Some r.1) rows
        got = All-filter IsShown (λ (r : Row). get g.rows r.0 ≡ Some r.1) (rows_of g subject) (rows_of-got g subject)

        same : (r : Row) → r.0.0 ≡ subject → get g.rows r.0 ≡ Some r.1 → HasNumber r ≡ true → r ≡ row
        same r its found has =
            let key : r.0 ≡ (subject, number) = λ i. (its i, eqb-true r.0.1 number has i) in
            let value : r.1 ≡ version = same_Some r.1 version (sym found ∙ ap (get g.rows) key ∙ there) in
            λ i. (key i, value i)

    later : (r : Row) (rs : List Row) → HasNumber r ≡ false → (k : ℕ) → k < length (r ∷ rs) → slice_index_or (r ∷ rs) k row ≡ row → Contains rs row
    later r rs has zero lt e = absurd (true≢false (sym (ap HasNumber e ∙ eq-eqb number number refl) ∙ has))
    later r rs has (suc k) lt e = (k, omega arith, e)

    find_only : (rs : List Row) → All (λ (r : Row). HasNumber r ≡ true → r ≡ row) rs → Contains rs row → find HasNumber rs ≡ Some row
    find_only [] one there = absurd (omega (arith, there.1))
    find_only (r ∷ rs) one there = by (HasNumber r) refl (find_only rs (All-tail (λ (x : Row). HasNumber x ≡ true → x ≡ row) r rs one))
      where
        by : (b : Bool) → HasNumber r ≡ b → (Contains rs row → find HasNumber rs ≡ Some row) → (if b then Some r else find HasNumber rs) ≡ Some row
        by true has rest = ap Some (All-head (λ (x : Row). HasNumber x ≡ true → x ≡ row) r rs one has)
        by false has rest = rest (later r rs has there.0 there.1 there.2)

    found_only : (rs : List Row) → All (λ (r : Row). HasNumber r ≡ true → r ≡ row) rs → Contains rs row → found_row (Some (Numbered number)) rs ≡ Ok row
    found_only [] one there = absurd (omega (arith, there.1))
    found_only (r ∷ rs) one there = ap (λ (o : Option Row). ok_or o VersionNotFound) (find_only (r ∷ rs) one there)

    -- the version with the number suffices to find it
    pub number_told : found_row (Some (Numbered number)) (visible_rows deleted (row ∷ [])) ≡ found_row (Some (Numbered number)) rows
    number_told =
        ap (found_row (Some (Numbered number))) (filter_all IsShown (row ∷ []) (All-cons (λ (r : Row). IsShown r ≡ true) row [] shown (All-nil (λ (r : Row). IsShown r ≡ true))))
        ∙ ap (λ b. ok_or (if b then Some row else None) VersionNotFound) (eq-eqb number number refl)
        ∙ sym (found_only rows only (filter_keeps IsShown (rows_of g subject) row (got-rows_of g subject number version there) shown))
