-- A full name is its namespace, its last dot, and the simple name after it.
use Rattle.std.proofs.Common.{◌≡◌, ℕ, suc, ◌-◌, ◌≤◌, List, [], ◌∷◌, ◌++◌, length, drop, reverse, Bool, true, false, not, cond, ◌||◌, refl, sym, ap, ◌∙◌, true≢false, inl, inr, arith}
use Rattle.std.specs.List.{list_any, prefix_len, suffix_len}
use Rattle.std.proofs.lemmas.Bool.{or_parts, or_right}
use Rattle.std.proofs.lemmas.Bool.Decides.{eqb_tells}
use Rattle.std.proofs.lemmas.List.{append_cancel_left, length-reverse, reverse-append}
use Rattle.std.proofs.lemmas.List.Folds.{list_any-append}
use Rattle.std.proofs.lemmas.List.Sorted.{IsPermutation-reverse, list_any-IsPermutation}
use Rattle.std.proofs.lemmas.List.Sums.{suffix_len-le-length}
use Rattle.avro_nodes.specs.Names.{is_dot, has_dot, namespace_of, last_part}
use Rattle.avro_schema.specs.Names.{qualified}
use Rattle.avro_schema.specs.Inside.NameTables.{without_namespace}
use Rattle.avro_schema.proofs.RoundNames.{no_namespace}

abbrev is_no_dot : ℕ → Bool
is_no_dot c = not (is_dot c)

-- ---- the name after the last dot

any_reverse : (cs : List ℕ) → list_any is_dot (reverse cs) ≡ list_any is_dot cs
any_reverse cs = sym (list_any-IsPermutation is_dot cs (reverse cs) (IsPermutation-reverse cs))

up_to_dot : (rs : List ℕ) (c : ℕ) → list_any is_dot rs ≡ false → is_dot c ≡ true → prefix_len is_no_dot (rs ++ c ∷ []) ≡ length rs
up_to_dot [] c e dot = rw dot refl
up_to_dot (r ∷ rs) c e dot =
    let p = or_parts (is_dot r) (list_any is_dot rs) e in
    let so_far = up_to_dot rs c p.1 dot in
    rw p.0 (omega arith)

before_dot : (here : Bool) (r : ℕ) (rs : List ℕ) (c : ℕ) → is_dot r ≡ here → (list_any is_dot rs ≡ true → prefix_len is_no_dot (rs ++ c ∷ []) ≡ prefix_len is_no_dot rs)
    → (here || list_any is_dot rs) ≡ true → prefix_len is_no_dot ((r ∷ rs) ++ c ∷ []) ≡ prefix_len is_no_dot (r ∷ rs)
before_dot true r rs c is ih e = rw is refl
before_dot false r rs c is ih e = let so_far = ih e in rw is (omega arith)

up_to_same : (rs : List ℕ) (c : ℕ) → list_any is_dot rs ≡ true → prefix_len is_no_dot (rs ++ c ∷ []) ≡ prefix_len is_no_dot rs
up_to_same [] c e = absurd (true≢false (sym e))
up_to_same (r ∷ rs) c e = before_dot (is_dot r) r rs c refl (up_to_same rs c) e

turned : (c : ℕ) (cs : List ℕ) → reverse (c ∷ cs) ≡ reverse cs ++ c ∷ []
turned c cs = reverse-append (c ∷ []) cs

last_past : (c : ℕ) (cs : List ℕ) → list_any is_dot cs ≡ true → last_part (c ∷ cs) ≡ last_part cs
unfolding last_part
last_past c cs any =
    let same : suffix_len is_no_dot (c ∷ cs) ≡ suffix_len is_no_dot cs = ap (prefix_len is_no_dot) (turned c cs) ∙ up_to_same (reverse cs) c (any_reverse cs ∙ any) in
    let within : suffix_len is_no_dot cs ≤ length cs = suffix_len-le-length is_no_dot cs in
    let start : suc (length cs) - suffix_len is_no_dot (c ∷ cs) ≡ suc (length cs - suffix_len is_no_dot cs) = omega arith in
    ap (λ (n : ℕ). drop n (c ∷ cs)) start

last_here : (c : ℕ) (cs : List ℕ) → list_any is_dot cs ≡ false → is_dot c ≡ true → last_part (c ∷ cs) ≡ cs
unfolding last_part
last_here c cs none dot =
    let same : suffix_len is_no_dot (c ∷ cs) ≡ length cs = ap (prefix_len is_no_dot) (turned c cs) ∙ up_to_dot (reverse cs) c (any_reverse cs ∙ none) dot ∙ length-reverse cs in
    let start : suc (length cs) - suffix_len is_no_dot (c ∷ cs) ≡ suc 0 = omega arith in
    ap (λ (n : ℕ). drop n (c ∷ cs)) start

-- ---- the namespace, a dot, and the name

or_false : (a : Bool) → (a || false) ≡ true → a ≡ true
or_false true e = refl
or_false false e = e

abbrev Splits : List ℕ → Type 0
Splits name = name ≡ namespace_of name ++ 46 ∷ last_part name

split_at : (any : Bool) (c : ℕ) (cs : List ℕ) → list_any is_dot cs ≡ any → (is_dot c || any) ≡ true → (list_any is_dot cs ≡ true → Splits cs)
    → c ∷ cs ≡ cond any (c ∷ namespace_of cs) [] ++ 46 ∷ last_part (c ∷ cs)
split_at true c cs is e ih = rw (last_past c cs is) (ap (λ (l : List ℕ). c ∷ l) (ih is))
split_at false c cs is e ih =
    let dot : is_dot c ≡ true = or_false (is_dot c) e in
    rw (last_here c cs is dot) (elim (eqb_tells c 46) [ inl p ↦ rw p.1 refl | inr p ↦ absurd (true≢false (sym dot ∙ p.0)) ])

splits : (name : List ℕ) → list_any is_dot name ≡ true → Splits name
unfolding namespace_of
splits [] e = absurd (true≢false (sym e))
splits (c ∷ cs) e = split_at (list_any is_dot cs) c cs refl e (splits cs)

whole_by : (space full : List ℕ) (any : Bool) → namespace_of full ≡ space → list_any is_dot full ≡ any → qualified space (without_namespace space full) ≡ full
unfolding qualified
whole_by [] full any e is = refl
whole_by (c ∷ space) full true e is = ap (λ (s : List ℕ). s ++ 46 ∷ last_part full) (sym e) ∙ sym (splits full is)
whole_by (c ∷ space) full false e is = let none : c ∷ space ≡ [] = sym e ∙ no_namespace full is in absurd cc

-- adding the namespace to the name without it gives the full name
pub whole : (full : List ℕ) → qualified (namespace_of full) (without_namespace (namespace_of full) full) ≡ full
whole full = whole_by (namespace_of full) full (list_any is_dot full) refl refl

-- the namespace and the name without it determine the full name
pub same_full : (a b : List ℕ) → namespace_of a ≡ namespace_of b → without_namespace (namespace_of a) a ≡ without_namespace (namespace_of b) b → a ≡ b
same_full a b spaces names = sym (whole a) ∙ ap (λ (s : List ℕ). qualified s (without_namespace (namespace_of a) a)) spaces ∙ ap (qualified (namespace_of b)) names ∙ whole b

-- ---- a name without a dot in a namespace

dot_between : (cs name : List ℕ) → list_any is_dot (cs ++ 46 ∷ name) ≡ true
dot_between cs name = list_any-append is_dot cs (46 ∷ name) ∙ or_right (list_any is_dot cs) true refl

cut_back : (cs name : List ℕ) → list_any is_dot name ≡ false → namespace_of (cs ++ 46 ∷ name) ≡ cs
unfolding namespace_of
cut_back [] name plain = rw plain refl
cut_back (c ∷ cs) name plain = rw (dot_between cs name, cut_back cs name plain) refl

-- its namespace is the given one
pub joined_space : (space name : List ℕ) → has_dot name ≡ false → namespace_of (qualified space name) ≡ space
unfolding qualified has_dot
joined_space [] name plain = no_namespace name plain
joined_space (c ∷ space) name plain = cut_back (c ∷ space) name plain

same_name : (space a b : List ℕ) → qualified space a ≡ qualified space b → a ≡ b
unfolding qualified
same_name [] a b e = e
same_name (c ∷ space) a b e = let tails : 46 ∷ a ≡ 46 ∷ b = append_cancel_left (c ∷ space) (46 ∷ a) (46 ∷ b) e in cc

-- without its namespace it is the given name
pub joined_name : (space name : List ℕ) → has_dot name ≡ false → without_namespace (namespace_of (qualified space name)) (qualified space name) ≡ name
joined_name space name plain =
    let full = qualified space name in
    let within : qualified space (without_namespace (namespace_of full) full) ≡ full = ap (λ (s : List ℕ). qualified s (without_namespace (namespace_of full) full)) (sym (joined_space space name plain)) ∙ whole full in
    same_name space (without_namespace (namespace_of full) full) name within
