-- Sorted names without duplicates, and the search among them.
use Rattle.std.proofs.Common.{◌≡◌, ℕ, ◌+◌, ◌<◌, ◌≤◌, List, [], ◌∷◌, length, map, get_or, Bool, true, nat_cmp, bytes_eq, Some, refl, sym, ap, ◌∙◌, subst, inl, inr, arith}
use Rattle.std.specs.Prelude.{Contains, All, slice_get}
use Rattle.std.specs.Borrow.{Bor}
use Rattle.std.specs.Cmp.{IsTotalOrder}
use Rattle.std.specs.Cmp.Lexicographic.{slice_cmp}
use Rattle.std.specs.List.{AllByRecursion, dedup}
use Rattle.std.specs.List.Sorted.{IsStrictlySortedBy, IsSorted, IsSortedBy, IsSortedByKey, IsPermutation, IsPartitionPoint, IsNonDecreasingBy}
use denote.Param.Members.{Mut}
use Rattle.std.specs.Fn.{Called, ComputesKey}
use Rattle.std.proofs.lemmas.Fn.{always_returns_same}
use Rattle.std.specs.Ordering.{on, ordering_index, ordering_reverse, eq_by_cmp, is_eq, is_lt}
use Rattle.std.specs.declared.cmp.Ordering.{Ordering}
use Rattle.std.specs.declared.cmp.Ordering.TheVariants.{Less, Equal, Greater}
use Rattle.std.proofs.Math.Path.{fun_ext}
use Rattle.std.proofs.lemmas.Bool.{cases_lt, true≢false}
use Rattle.std.proofs.lemmas.Cmp.{nat_list_cmp_total, on_total, eq_by_cmp_equiv}
use Rattle.std.proofs.lemmas.List.{get_or-map, length-map}
use Rattle.std.proofs.lemmas.List.Elements.{All-from_recursion, All-map, Contains-get_or}
use Rattle.std.proofs.lemmas.List.Kept.{AllPairs-cons, Any-dedup, IsStrictlySortedBy-dedup}
use Rattle.std.proofs.lemmas.List.Sorted.{Contains-permutation}
use Rattle.std.proofs.lemmas.Map.Lookups.{exact_bytes}
use Rattle.std.proofs.lemmas.Map.Text.{is_eq-slice_cmp}
use Rattle.std.proofs.lemmas.Option.{slice_get-get_or}
use Rattle.avro_schema.specs.Index.{AreStrictlySorted}
use Rattle.avro_schema.specs.Inside.NodeTexts.{borrowed}

-- the text that a reference borrows
abbrev pub text : Bor (List ℕ) → List ℕ
text t = t.now

abbrev pub no_text : Bor (List ℕ)
no_text = record { ref_ptr = (0, 0); now = [] }

abbrev pub order : List ℕ → List ℕ → Ordering
order = slice_cmp nat_cmp

total : IsTotalOrder (on text order)
total = on_total text nat_list_cmp_total

-- ---- results of the comparison

self : (a : Ordering) → a ≡ ordering_reverse a → a ≡ Equal
self Less e = absurd (true≢false (ap is_lt e))
self Equal e = refl
self Greater e = absurd (true≢false (sym (ap is_lt e)))

pub level : (x y : List ℕ) → x ≡ y → order x y ≡ Equal
level x y e = subst (λ (z : List ℕ). order x z ≡ Equal) e (self (order x x) (nat_list_cmp_total.antisymm x x))

pub less_not_equal : (a : Ordering) → a ≡ Less → a ≡ Equal → ⊥
less_not_equal a e f = true≢false (sym (ap is_lt e) ∙ ap is_lt f)

greater_not_equal : (a : Ordering) → a ≡ Greater → a ≡ Equal → ⊥
greater_not_equal a e f = true≢false (sym (ap is_eq f) ∙ ap is_eq e)

-- ---- each name less than all later ones

each_of : (x : List ℕ) (ts : List (Bor (List ℕ))) → AllByRecursion (λ t. order x (text t) ≡ Less) ts → AllByRecursion (λ y. order x y ≡ Less) (map text ts)
each_of x [] h = tt
each_of x (t ∷ ts) h = (h.0, each_of x ts h.1)

rise_from : (ts : List (Bor (List ℕ))) → IsStrictlySortedBy (on text order) ts → AreStrictlySorted (map text ts)
unfolding IsStrictlySortedBy
rise_from [] h = λ i j d l m. absurd (omega arith)
rise_from (t ∷ ts) h = AllPairs-cons (λ x y. order x y ≡ Less) (text t) (map text ts) (All-from_recursion (λ y. order (text t) y ≡ Less) (map text ts) (each_of (text t) ts h.0)) (rise_from ts h.1)

abbrev pub same : Bor (List ℕ) → Bor (List ℕ) → Bool
same x y = bytes_eq (text x) (text y)

ties : (x y : Bor (List ℕ)) → same x y ≡ eq_by_cmp (on text order) x y
ties x y = sym (is_eq-slice_cmp (text x) (text y))

-- a sorted list without duplicates is strictly sorted
pub rise_once : (ts : List (Bor (List ℕ))) → IsSorted (on text order) ts → AreStrictlySorted (map text (dedup same ts))
rise_once ts h = rise_from (dedup same ts) (IsStrictlySortedBy-dedup total ties ts h)

-- ---- sorted with indices

abbrev pub Placed : Type 0
Placed = Bor (List ℕ) × ℕ

abbrev no_place : Placed
no_place = (no_text, 0)

without_places : (ps : List Placed) → IsSortedBy (λ x y. is_lt (order (text x.0) (text y.0))) ps → IsSorted (on text order) (map (λ p. p.0) ps)
without_places ps up k d z l =
    let within : k + 1 < length ps = omega (arith, length-map ps (λ (p : Placed). p.0)) in
    let before : k < length ps = omega arith in
    rw (get_or-map (λ (p : Placed). p.0) ps (k + 1) no_place d within, get_or-map (λ (p : Placed). p.0) ps k no_place d before) (up k no_place z within)

-- the result of sorting by the texts
pub sorted_by_text : {F : Type 0} {g : Mut F (Bor Placed × Unit {0}) (Bor (List ℕ))} {f : F} (ps : List Placed)
    → ((key : Placed → Bor (List ℕ)) → ComputesKey g key f → IsSortedByKey key (on text order) ps)
    → ((a : Bor Placed × Unit {0}) (r : Bor (List ℕ)) (f' : F) → Called g f a r f' → (r ≡ a.0.now.0) × (f' ≡ f)) → IsSorted (on text order) (map (λ p. p.0) ps)
sorted_by_text {g = g} {f = f} ps up h = without_places ps (up (λ p. p.0) (always_returns_same g (λ a r. r ≡ a.0.now.0) f h))

-- ---- no text is lost

equal_by : (a : Ordering) → is_eq a ≡ true → a ≡ Equal
equal_by Less e = absurd (true≢false (sym e))
equal_by Equal e = refl
equal_by Greater e = absurd (true≢false (sym e))

all_level : (ts us : List (Bor (List ℕ))) → IsPermutation ts us → All (λ t. Contains (map text (dedup (eq_by_cmp (on text order)) us)) (text t)) ts
all_level ts us moved k d l =
    let x = get_or ts k d in
    let kept = Any-dedup (eq_by_cmp_equiv total) us x (Contains-permutation ts us x moved (Contains-get_or ts k d l)) in
    let left = dedup (eq_by_cmp (on text order)) us in
    let alike : text x ≡ text kept.1 = exact_bytes (text x) (text kept.1) (equal_by (order (text x) (text kept.1)) kept.4) in
    (kept.0, rw length-map kept.2, get_or-map text left kept.0 kept.1 (text x) kept.2 ∙ ap text kept.3 ∙ sym alike)

-- the list without duplicates has every text of the given list
pub all_once : (ts us : List (Bor (List ℕ))) → IsPermutation ts us → All (Contains (borrowed (dedup same us))) (borrowed ts)
all_once ts us moved =
    All-map (Contains (map text (dedup same us))) text ts (subst (λ (E : Bor (List ℕ) → Bor (List ℕ) → Bool). All (λ t. Contains (map text (dedup E us)) (text t)) ts) (fun_ext (λ x. fun_ext (λ y. sym (ties x y)))) (all_level ts us moved))

-- ---- a search

pub text_at : (ts : List (Bor (List ℕ))) (x : List ℕ) (rank : ℕ) → rank < length ts → text (get_or ts rank no_text) ≡ x → slice_get (map text ts) rank ≡ Some x
text_at ts x rank l e =
    let within : rank < length (map text ts) = rw length-map l in
    slice_get-get_or (map text ts) rank [] within ∙ ap (λ (y : List ℕ). Some y) (get_or-map text ts rank no_text [] l ∙ e)

pub found : (ts : List (Bor (List ℕ))) (x : List ℕ) (rank : ℕ) → rank < length ts → order (text (get_or ts rank no_text)) x ≡ Equal → slice_get (map text ts) rank ≡ Some x
found ts x rank l e = text_at ts x rank l (exact_bytes (text (get_or ts rank no_text)) x e)

-- a text less than y can't come after it
no_later : (x y z : List ℕ) (a b : Ordering) → order x z ≡ a → order y z ≡ b → order x y ≡ Less → ordering_index a ≤ ordering_index b
no_later x y z Less b e f g = omega arith
no_later x y z Equal Less e f g = absurd (less_not_equal (order x z) (nat_list_cmp_total.trans x y z g f) e)
no_later x y z Equal Equal e f g = omega arith
no_later x y z Equal Greater e f g = omega arith
no_later x y z Greater Less e f g = absurd (true≢false (sym (ap is_lt (nat_list_cmp_total.trans x y z g f)) ∙ ap is_lt e))
no_later x y z Greater Equal e f g = absurd (true≢false (sym (ap is_lt (subst (λ (u : List ℕ). order x u ≡ Less) (exact_bytes y z f) g)) ∙ ap is_lt e))
no_later x y z Greater Greater e f g = omega arith

one : (ts : List (Bor (List ℕ))) (x : List ℕ) → AreStrictlySorted (map text ts) → IsNonDecreasingBy (λ t. ordering_index (order (text t) x)) ts
one ts x rise i j d le l = elim (cases_lt i j) [
  | inl g ↦ (
      let li : i < length ts = omega arith in
      let below = rise i j (text d) g (rw length-map l) in
      no_later (text (get_or ts i d)) (text (get_or ts j d)) x _ _ refl refl (subst (λ (y : List ℕ). order y (text (get_or ts j d)) ≡ Less) (get_or-map text ts i d (text d) li) (subst (λ (y : List ℕ). order (get_or (map text ts) i (text d)) y ≡ Less) (get_or-map text ts j d (text d) l) below)))
  | inr g ↦ (let e : i ≡ j = omega arith in omega (arith, ap (λ (k : ℕ). ordering_index (order (text (get_or ts k d)) x)) e))
]

pub lost : (ts : List (Bor (List ℕ))) (x : List ℕ) (at : ℕ) → AreStrictlySorted (map text ts) → Contains (map text ts) x
    → (IsNonDecreasingBy (λ t. ordering_index (order (text t) x)) ts → IsPartitionPoint (λ t. order (text t) x ≡ Less) (λ t. order (text t) x ≡ Greater) ts at) → ⊥
lost ts x at rise there point =
    let k = there.0 in
    let l : k < length ts = subst (λ (n : ℕ). k < n) (length-map ts text) there.1 in
    let parts = point (one ts x rise) in
    let here = level (text (get_or ts k no_text)) x (sym (get_or-map text ts k no_text x l) ∙ there.2) in
    elim (cases_lt k at) [
      | inl g ↦ less_not_equal (order (text (get_or ts k no_text)) x) (parts.0 k no_text (omega arith) g) here
      | inr g ↦ greater_not_equal (order (text (get_or ts k no_text)) x) (parts.1 k no_text g l) here
    ]
