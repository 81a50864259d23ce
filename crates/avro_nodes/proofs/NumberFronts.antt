-- A JSON number at the front of a text: it begins with a minus or a digit, and has only number characters.
use Rattle.std.proofs.Common.{◌≡◌, ℕ, suc, ◌+◌, ◌==◌, ◌⊎◌, inl, inr, List, [], ◌∷◌, ◌++◌, drop, Bool, true, false, ◌||◌, cond, Option, Some, None, is_some, option_and_then, refl, sym, ap, subst, ◌∙◌, append_assoc, arith}
use Rattle.std.specs.Prelude.{IfSome}
use Rattle.std.specs.Char.{is_ascii_digit}
use Rattle.std.specs.List.{list_all, prefix_len}
use Rattle.std.proofs.lemmas.Bool.{false≢true, true≢false, eqb-true, or_cases}
use Rattle.std.proofs.lemmas.List.Folds.{list_all-append}
use Rattle.std.proofs.Math.Bool.{or-true}
use Rattle.json.specs.Word.{head, after_digits, after_minus, after_sign, after_whole, after_fraction, after_exponent, after_number}
use Rattle.avro_nodes.specs.Plain.{is_number_char, begins_number}

-- t is number characters followed by u
abbrev pub Front : List ℕ → List ℕ → Type 0
Front t u = (s : List ℕ) × (t ≡ s ++ u) × (list_all is_number_char s ≡ true)

-- the rest after a part, if the part is there, follows number characters
abbrev pub Leaves : List ℕ → Option (List ℕ) → Type 0
Leaves t o = IfSome o (Front t)

-- two such steps in a row
further : (t u : List ℕ) (o : Option (List ℕ)) → Front t u → Leaves u o → Leaves t o
further t u None f l = tt
further t u (Some r) f l = (f.0 ++ l.0, f.1 ∙ ap (λ (x : List ℕ). f.0 ++ x) l.1 ∙ sym (append_assoc f.0 l.0 r), rw (list_all-append is_number_char f.0 l.0, f.2, l.2) refl)

-- either of two
pick : (t : List ℕ) (b : Bool) (x y : Option (List ℕ)) → (b ≡ true → Leaves t x) → Leaves t y → Leaves t (cond b x y)
pick t true x y p q = p refl
pick t false x y p q = q

-- the rest after one number character
one_front : (k : ℕ) (t : List ℕ) → (32 == k) ≡ false → is_number_char k ≡ true → (head t == k) ≡ true → Front t (drop 1 t)
one_front k [] n chars h = absurd (true≢false (sym h ∙ n))
one_front k (x ∷ xs) n chars h = (k ∷ [], ap (λ y. y ∷ xs) (eqb-true x k h), rw chars refl)

-- after an optional one
optional : (t : List ℕ) (b : Bool) → (b ≡ true → Front t (drop 1 t)) → Front t (cond b (drop 1 t) t)
optional t true f = f refl
optional t false f = ([], refl, refl)

-- after one more digit
digit_front : (b : Bool) (x : ℕ) (xs : List ℕ) (n : ℕ) → is_ascii_digit x ≡ b → Front xs (drop n xs) → Front (x ∷ xs) (drop (cond b (1 + n) 0) (x ∷ xs))
digit_front false x xs n e f = ([], refl, refl)
digit_front true x xs n e f =
    let one : suc n ≡ 1 + n = omega arith in
    let P : ℕ → Type 0 = λ k. Front (x ∷ xs) (drop k (x ∷ xs)) in
    subst P one (x ∷ f.0, ap (λ (y : List ℕ). x ∷ y) f.1, rw e f.2)

-- after all digits
digits_front : (t : List ℕ) → Front t (drop (prefix_len is_ascii_digit t) t)
digits_front [] = ([], refl, refl)
digits_front (x ∷ xs) = digit_front (is_ascii_digit x) x xs (prefix_len is_ascii_digit xs) refl (digits_front xs)

-- after one digit or more
digits : (t : List ℕ) → Leaves t (after_digits t)
digits t = pick t (prefix_len is_ascii_digit t == 0) None (Some (drop (prefix_len is_ascii_digit t) t)) (λ e. tt) (digits_front t)

-- after an optional minus
minus_front : (t : List ℕ) → Front t (after_minus t)
minus_front t = optional t (head t == 45) (one_front 45 t refl refl)

-- after a sign
either_front : (t : List ℕ) → ((head t == 45) ≡ true) ⊎ ((head t == 43) ≡ true) → Front t (drop 1 t)
either_front t (inl e) = one_front 45 t refl refl e
either_front t (inr e) = one_front 43 t refl refl e

-- after an optional sign
sign_front : (t : List ℕ) → Front t (after_sign t)
sign_front t = optional t ((head t == 45) || (head t == 43)) (λ e. either_front t (or_cases (head t == 45) (head t == 43) e))

-- after the whole part
whole : (t : List ℕ) → Leaves t (after_whole t)
whole t = pick t (head t == 48) (Some (drop 1 t)) (after_digits t) (one_front 48 t refl refl) (digits t)

-- after an optional fraction
fraction : (t : List ℕ) → Leaves t (after_fraction t)
fraction t = pick t (head t == 46) (after_digits (drop 1 t)) (Some t) (λ e. further t (drop 1 t) (after_digits (drop 1 t)) (one_front 46 t refl refl e) (digits (drop 1 t))) ([], refl, refl)

-- after an `e`
power_front : (t : List ℕ) → ((head t == 101) ≡ true) ⊎ ((head t == 69) ≡ true) → Front t (drop 1 t)
power_front t (inl e) = one_front 101 t refl refl e
power_front t (inr e) = one_front 69 t refl refl e

-- after an optional exponent
exponent : (t : List ℕ) → Leaves t (after_exponent t)
exponent t =
    let u = drop 1 t in
    let o = after_digits (after_sign u) in
    pick t ((head t == 101) || (head t == 69)) o (Some t)
    (λ e. further t u o (power_front t (or_cases (head t == 101) (head t == 69) e)) (further u (after_sign u) o (sign_front u) (digits (after_sign u)))) ([], refl, refl)

-- one part after another
then : (t : List ℕ) (f : List ℕ → Option (List ℕ)) → ((u : List ℕ) → Leaves u (f u)) → (o : Option (List ℕ)) → Leaves t o → Leaves t (option_and_then f o)
then t f g None h = tt
then t f g (Some r) h = further t r (f r) h (g r)

-- the rest after a number follows number characters
pub leaves : (t : List ℕ) → Leaves t (after_number t)
unfolding after_number
leaves t =
    let u = after_minus t in
    then t after_exponent exponent (option_and_then after_fraction (after_whole u)) (then t after_fraction fraction (after_whole u) (further t u (after_whole u) (minus_front t) (whole u)))

-- ---- a number begins with a minus or a digit

-- a step succeeds only after its predecessor
found : (f : List ℕ → Option (List ℕ)) (o : Option (List ℕ)) → is_some (option_and_then f o) ≡ true → is_some o ≡ true
found f None h = h
found f (Some t) h = refl

-- digits begin with a digit
first_digit : (b : Bool) (n : ℕ) (t : List ℕ) → is_some (cond (cond b (1 + n) 0 == 0) None (Some (drop (cond b (1 + n) 0) t))) ≡ true → b ≡ true
first_digit true n t h = refl
first_digit false n t h = h

digits_first : (t : List ℕ) → is_some (after_digits t) ≡ true → is_ascii_digit (head t) ≡ true
digits_first [] h = absurd (false≢true h)
digits_first (x ∷ xs) h = first_digit (is_ascii_digit x) (prefix_len is_ascii_digit xs) (x ∷ xs) h

-- so does the whole part
whole_first : (t : List ℕ) (z : Bool) → (z ≡ true → head t ≡ 48) → is_some (cond z (Some (drop 1 t)) (after_digits t)) ≡ true → is_ascii_digit (head t) ≡ true
whole_first t true e h = ap is_ascii_digit (e refl)
whole_first t false e h = digits_first t h

-- a minus may come before it
minus_first : (t : List ℕ) (m : Bool) → is_some (after_whole (cond m (drop 1 t) t)) ≡ true → (is_ascii_digit (head t) || m) ≡ true
minus_first t true h = or-true (is_ascii_digit (head t))
minus_first t false h = rw (whole_first t (head t == 48) (eqb-true (head t) 48) h) refl

-- a text that begins with a number begins with a minus or a digit
pub first_byte : (c : ℕ) (cs : List ℕ) → is_some (after_number (c ∷ cs)) ≡ true → begins_number (c ∷ cs) ≡ true
unfolding after_number
first_byte c cs h = minus_first (c ∷ cs) (c == 45) (found after_fraction (after_whole (after_minus (c ∷ cs))) (found after_exponent (option_and_then after_fraction (after_whole (after_minus (c ∷ cs)))) h))
