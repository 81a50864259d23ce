-- Free rowids after the last row: what an insert leaves, and what new tables have.
use Rattle.std.proofs.Common.{arith, ◌≡◌, inl, inr, None, Option, ℕ, ◌+◌, ◌+ℤ◌, ◌^◌, ◌<◌, ◌≤◌, ◌<ℤ◌, ℤ, pos, List, [], ◌∷◌, fold, refl, sym, ap, subst, ◌∙◌}
use Rattle.reg_tables.proofs.Kit.{match_ordering, Ordering, Less, int_cmp_is, ints, empty, get, get-empty, Value, Int, Row, value_cmp, rowid, put_row, next_rowid, id_in, Has, value_cmp-Int}
use Rattle.reg_tables.specs.TableMaps.{RowForm, ShowsMap}
use Rattle.reg_tables.specs.Rooms.{Ascends, HasRoom}

-- one above the last rowid, or this number if there is no row
abbrev next_from : ℕ → List Row → ℤ
next_from low = fold (λ _ r. id_in (rowid r) +ℤ pos 1) (pos low)

-- each rowid is below the next one, which is at least the given minimum
record EndsAt (low : ℕ) (rows : List Row) (next : ℕ) : Type 0 where
  is_next : next_from low rows ≡ pos next
  least : low ≤ next
  below : (row : Row) → Has rows row → (id : ℕ) × (rowid row ≡ Int (pos id)) × (id < next)

ends : (low : ℕ) (rows : List Row) → Ascends low rows → (next : ℕ) × EndsAt low rows next
ends low [] h = (low, record { is_next = refl; least = omega arith; below = λ row none. absurd none })
ends low (r ∷ rows) h =
    let rest = ends (h.0 + 1) rows h.3 in
    let first : id_in (rowid r) +ℤ pos 1 ≡ pos (h.0 + 1) = ap (λ v. id_in v +ℤ pos 1) h.1 in (
      rest.0,
      record {
        is_next = ap (λ n. fold (λ _ r. id_in (rowid r) +ℤ pos 1) n rows) first ∙ rest.1.is_next;
        least = let up = rest.1.least in omega (arith, up, h.2);
        below = λ row there. elim there [
          | inl same ↦ (h.0, ap rowid same ∙ h.1, let up = rest.1.least in omega (arith, up))
          | inr also ↦ rest.1.below row also
        ];
      },
    )

-- ---- a row that is inserted after the last

pub less : (a b : Value) (i n : ℕ) → a ≡ Int (pos i) → b ≡ Int (pos n) → i < n → value_cmp a b ≡ Less
less a b i n first second low = let below : pos i <ℤ pos n = grind (arith, ints, low) in rw (first, second) (value_cmp-Int (pos i) (pos n) ∙ sym (int_cmp_is (pos i) (pos n) Less below))

appended : (low : ℕ) (rows : List Row) (next : ℕ) → Ascends low rows → next_from low rows ≡ pos next → ((r : Row) → Has rows r → (id : ℕ) × (rowid r ≡ Int (pos id)) × (id < next)) → (row : Row) → rowid row ≡ Int (pos next)
    → Ascends low (put_row row rows) × (next_from low (put_row row rows) ≡ pos (next + 1))
appended low [] next h is below row its =
    let same : pos low ≡ pos next = is in
    let same_next : low ≡ next = cc in
    ((next, its, omega (arith, same_next), tt), ap (λ v. id_in v +ℤ pos 1) its)
appended low (r ∷ rows) next h is below row its =
    let mine = below r (inl refl) in
    let same : Int (pos mine.0) ≡ Int (pos h.0) = sym mine.1 ∙ h.1 in
    let same_id : mine.0 ≡ h.0 = cc in
    let lower : value_cmp (rowid r) (rowid row) ≡ Less = less (rowid r) (rowid row) h.0 next h.1 its (let up = mine.2 in omega (arith, up, same_id)) in
    let later : next_from (h.0 + 1) rows ≡ pos next = ap (λ n. fold (λ _ r. id_in (rowid r) +ℤ pos 1) n rows) (sym (ap (λ v. id_in v +ℤ pos 1) h.1)) ∙ is in
    let rest = appended (h.0 + 1) rows next h.3 later (λ x there. below x (inr there)) row its in
    let placed : put_row row (r ∷ rows) ≡ r ∷ put_row row rows = ap (λ o. match_ordering o (r ∷ put_row row rows) (row ∷ rows) (row ∷ r ∷ rows)) lower in
    subst (λ l. Ascends low l × (next_from low l ≡ pos (next + 1))) (sym placed)
    ((h.0, h.1, h.2, rest.0), ap (λ n. fold (λ _ r. id_in (rowid r) +ℤ pos 1) n (put_row row rows)) (ap (λ v. id_in v +ℤ pos 1) h.1) ∙ rest.1)

same_next : (rows : List Row) (count next : ℕ) → (h : HasRoom rows count) → next_rowid rows ≡ pos next → next ≡ h.next
same_next rows count next h is = let both : pos next ≡ pos h.next = sym is ∙ h.is_next in cc

pub above : (rows : List Row) (count : ℕ) → (h : HasRoom rows count) → (r : Row) → Has rows r → (id : ℕ) × (rowid r ≡ Int (pos id)) × (id < h.next)
above rows count h r there =
    let it = ends 1 rows h.ascends in
    let next : it.0 ≡ h.next = same_next rows count it.0 h it.1.is_next in
    let mine = it.1.below r there in
    (mine.0, mine.1, let up = mine.2 in omega (arith, up, next))

pub room_after : (rows : List Row) (count : ℕ) → HasRoom rows (count + 1) → (row : Row) → rowid row ≡ Int (next_rowid rows) → HasRoom (put_row row rows) count
room_after rows count h row its =
    let it = appended 1 rows h.next h.ascends h.is_next (above rows (count + 1) h) row (its ∙ ap Int h.is_next) in
    record { ascends = it.0; next = h.next + 1; is_next = it.1; room = let room = h.room in omega (arith, room) }

-- ---- empty tables

-- a table that shows an empty map has no rows
no_rows : {K V : Type 0} (form : RowForm K V) (rows : List Row) (value_at : K → Option V) → ((key : K) → value_at key ≡ None) → ShowsMap form rows value_at → rows ≡ []
no_rows form [] value_at none shows = refl
no_rows form (row ∷ rows) value_at none shows = let it = shows.sound row (inl refl) in absurd (let clash = sym (none it.0) ∙ it.2 in cc)

pub room_if_none : {K V : Type 0} (form : RowForm K V) (R : K → K → Ordering) (rows : List Row) → ShowsMap form rows (get {R = R} empty) → (count : ℕ) → count < 2 ^ 63 → HasRoom rows count
room_if_none form R rows shows count low =
    subst (λ rows. HasRoom rows count) (sym (no_rows form rows (get {R = R} empty) (get-empty R) shows)) (record { ascends = tt; next = 1; is_next = refl; room = omega (arith, low) })
