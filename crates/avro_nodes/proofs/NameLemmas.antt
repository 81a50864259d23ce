-- Lemmas on names, for loops over their bytes.
use Rattle.std.proofs.Common.{◌≡◌, ℕ, ◌+◌, ◌<◌, List, [], ◌∷◌, ◌++◌, length, take, drop, Bool, true, false, not, get_or, ◌-◌, subst, ◌≤◌, ◌⊎◌, inl, inr, refl, sym, ap, ◌∙◌, arith}
use Rattle.std.proofs.Math.Seq.{take-suc}
use Rattle.std.specs.Str.{IsCharBoundary, IsUtf8}
use Rattle.std.proofs.lemmas.Str.{IsCharBoundary-after_ascii, IsCharBoundary-before_ascii, IsCharBoundary-start}
use Rattle.std.proofs.lemmas.List.Sums.{suffix_len-take_no}
use Rattle.std.proofs.Common.{add-one}
use Rattle.std.proofs.lemmas.Bool.Decides.{eqb_tells}
use Rattle.std.specs.List.{list_any, suffix_len}
use Rattle.avro_nodes.specs.Names.{is_dot, last_part, namespace_of}

any_push : (xs : List ℕ) (c : ℕ) → is_dot c ≡ true → list_any is_dot (xs ++ c ∷ []) ≡ true
any_push [] c h = rw h
any_push (x ∷ xs) c h = grind (arith, any_push xs c h)

any_push_other : (xs : List ℕ) (c : ℕ) → is_dot c ≡ false → list_any is_dot (xs ++ c ∷ []) ≡ list_any is_dot xs
any_push_other [] c h = rw h
any_push_other (x ∷ xs) c h = rw (any_push_other xs c h)

pub namespace_at_dot : (xs : List ℕ) (c : ℕ) → is_dot c ≡ true → namespace_of (xs ++ c ∷ []) ≡ xs
unfolding namespace_of
namespace_at_dot [] c h = refl
namespace_at_dot (x ∷ xs) c h = rw (any_push xs c h, namespace_at_dot xs c h)

pub namespace_past : (xs : List ℕ) (c : ℕ) → is_dot c ≡ false → namespace_of (xs ++ c ∷ []) ≡ namespace_of xs
unfolding namespace_of
namespace_past [] c h = refl
namespace_past (x ∷ xs) c h = rw (any_push_other xs c h, namespace_past xs c h)

not_dot : (c : ℕ) → (c ≡ 46 → ⊥) → is_dot c ≡ false
not_dot c other = elim (eqb_tells c 46) [ inl p ↦ absurd (other p.1) | inr p ↦ p.0 ]

further : (end i : ℕ) (s : List ℕ) → (end ≡ 0) ⊎ ((end < i) × (get_or s end 0 ≡ 46)) → (end ≡ 0) ⊎ ((end < i + 1) × (get_or s end 0 ≡ 46))
further end i s (inl e) = inl e
further end i s (inr e) = inr (omega arith, e.1)

abbrev pub EndsObject : List ℕ → ℕ → ℕ → Type 0
EndsObject s end i = (take end s ≡ namespace_of (take i s)) × ((end ≡ 0) ⊎ ((end < i) × (get_or s end 0 ≡ 46)))

pub at_dot : (s : List ℕ) (i : ℕ) → i < length s → get_or s i 0 ≡ 46 → EndsObject s i (i + 1)
at_dot s i h e =
    (sym (ap namespace_of (rw add-one (take-suc s i 0 h)) ∙ namespace_at_dot (take i s) (get_or s i 0) (rw e refl)), inr (omega arith, e))

pub past_dot : (s : List ℕ) (end i : ℕ) → i < length s → (get_or s i 0 ≡ 46 → ⊥) → EndsObject s end i → EndsObject s end (i + 1)
past_dot s end i h other so_far =
    (so_far.0 ∙ sym (ap namespace_of (rw add-one (take-suc s i 0 h)) ∙ namespace_past (take i s) (get_or s i 0) (not_dot (get_or s i 0) other)), further end i s so_far.1)

pub boundary : (s : List ℕ) (end i : ℕ) → IsUtf8 s → i ≤ length s → (end ≡ 0) ⊎ ((end < i) × (get_or s end 0 ≡ 46)) → IsCharBoundary s end
boundary s end i u h (inl e) = rw e (IsCharBoundary-start s u)
boundary s end i u h (inr e) = IsCharBoundary-before_ascii s end (omega arith) (omega arith)

-- ---- the part after the last dot, searched from the end

abbrev pub Stops : List ℕ → ℕ → Type 0
Stops s start = (start ≡ 0) ⊎ ((0 < start) × (get_or s (start - 1) 0 ≡ 46))

pub stop_boundary : (s : List ℕ) (start : ℕ) → IsUtf8 s → start ≤ length s → Stops s start → IsCharBoundary s start
stop_boundary s start u h (inl e) = rw e (IsCharBoundary-start s u)
stop_boundary s start u h (inr e) =
    let same : start - 1 + 1 ≡ start = omega (arith, e.0) in
    subst (λ (n : ℕ). IsCharBoundary s n) same (IsCharBoundary-after_ascii s (start - 1) u (omega (arith, e.0)) (omega (arith, e.1)))

abbrev pub is_no_dot : ℕ → Bool
is_no_dot c = not (is_dot c)

none_before : (s : List ℕ) (start : ℕ) → start ≤ length s → Stops s start → suffix_len is_no_dot (take start s) ≡ 0
none_before s start h (inl e) = rw e refl
none_before s start h (inr e) = suffix_len-take_no is_no_dot s start 0 e.0 h (rw e.1 refl)

pub part_after_dot : (s : List ℕ) (start : ℕ) → start ≤ length s → start + suffix_len is_no_dot s ≡ length s + suffix_len is_no_dot (take start s) → Stops s start → drop start s ≡ last_part s
unfolding last_part
part_after_dot s start h passed stops =
    let none = none_before s start h stops in
    let same : start ≡ length s - suffix_len is_no_dot s = omega arith in
    ap (λ (n : ℕ). drop n s) same
