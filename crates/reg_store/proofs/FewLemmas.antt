-- What the last version of a subject with an id determines.
use Rattle.std.proofs.Common.{◌≡◌, ◌⊎◌, inl, inr, ℕ, ◌==◌, Bool, true, false, List, [], ◌∷◌, refl, sym, eqb-true}
use Rattle.std.specs.Prelude.{Option, None, Some, not, ◌||◌, length, nat_lt}
use Rattle.std.specs.List.{Contains, last_or}
use Rattle.sqlite_rules.specs.Lists.{Has}
use Rattle.sqlite_rules.proofs.ListLemmas.{contains_had, has_filtered}
use Rattle.reg_core.specs.Registry.{Row}
use Rattle.reg_core.specs.RegisterCommands.{is_among}
use Rattle.reg_core.specs.Rows.{rows_with, visible_rows}

-- ---- the last version

module _ (id : ℕ) (deleted : Bool) (all : List Row) where
  abbrev those : List Row
  those = rows_with id (visible_rows deleted all)

  last_has : (xs : List Row) (o : Option Row) (row : Row) → last_or o xs ≡ Some row → (o ≡ Some row) ⊎ Has xs row
  last_has [] o row e = inl e
  last_has (x ∷ xs) o row e = elim (last_has xs (Some x) row e) [ inl same ↦ inr (inl (let is : x ≡ row = cc in sym is)) | inr later ↦ inr (inr later) ]

  found_with_it : (row : Row) → last_or None those ≡ Some row → Has those row
  found_with_it row e = elim (last_has those None row e) [ inl none ↦ absurd (cc) | inr there ↦ there ]

  pub found_there : (row : Row) → last_or None those ≡ Some row → Contains (visible_rows deleted all) row
  found_there row e = contains_had (visible_rows deleted all) row (has_filtered (λ (r : Row). r.1.id == id) (visible_rows deleted all) row (found_with_it row e)).0

  pub found_is_shown : (row : Row) → last_or None those ≡ Some row → (deleted || not row.1.deleted) ≡ true
  found_is_shown row e =
      (has_filtered (λ (r : Row). deleted || not r.1.deleted) all row (has_filtered (λ (r : Row). r.1.id == id) (visible_rows deleted all) row (found_with_it row e)).0).1

  pub found_has : (row : Row) → last_or None those ≡ Some row → row.1.id ≡ id
  found_has row e = eqb-true row.1.id id (has_filtered (λ (r : Row). r.1.id == id) (visible_rows deleted all) row (found_with_it row e)).1

pub none_among : (id : ℕ) (rows : List Row) → last_or None (rows_with id rows) ≡ None → is_among (Some id) rows ≡ false
none_among id rows e = by (rows_with id rows) e
  where
    ends : (xs : List Row) (x : Row) → last_or (Some x) xs ≡ None → ⊥
    ends [] x h = cc
    ends (y ∷ ys) x h = ends ys y h

    by : (xs : List Row) → last_or None xs ≡ None → nat_lt 0 (length xs) ≡ false
    by [] h = refl
    by (x ∷ xs) h = absurd (ends xs x h)
