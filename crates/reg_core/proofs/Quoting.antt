-- The escaped bytes of JSON strings.
use Rattle.std.proofs.Common.{◌≡◌, ℕ, zero, suc, ◌+◌, ◌-◌, ◌<◌, ◌≤◌, List, [], ◌∷◌, ◌++◌, length, take, drop, get_or, Bool, true, false, refl, sym, ap, ap₂, ◌∙◌, append_assoc, append-nil, arith}
use Rattle.std.specs.Prelude.{◌==◌, ◌||◌, nat_lt}
use Rattle.std.proofs.Math.Seq.{take-add}
use Rattle.std.proofs.lemmas.Bool.{or_parts, eqb-true, eqb-false, ltb-true, ltb-false}
use Rattle.std.proofs.lemmas.List.{drop-drop, take_all}
use Rattle.std.proofs.lemmas.List.Concat.{flat_map-append}
use Rattle.json.specs.Print.{escape, escape_byte}
use Rattle.json.proofs.Printed.Strings.{escape_byte_plain}

-- a quotation mark, a backslash or a control character
abbrev pub needs_escape : ℕ → Bool
needs_escape c = c == 34 || (c == 92 || nat_lt c 32)

pub plain_kept : (c : ℕ) → needs_escape c ≡ false → escape_byte c ≡ c ∷ []
plain_kept c is =
    let one = or_parts (c == 34) (c == 92 || nat_lt c 32) is in
    let two = or_parts (c == 92) (nat_lt c 32) one.1 in
    escape_byte_plain c (eqb-false c 34 one.0) (eqb-false c 92 two.0) (ltb-false c 32 two.1)

pub quote_escaped : (a c : ℕ) → a ≡ 92 → c ≡ 34 → escape_byte c ≡ a ∷ c ∷ []
unfolding escape_byte
quote_escaped a c e f = rw (e, f) refl

pub backslash_escaped : (a c : ℕ) → a ≡ 92 → c ≡ 92 → escape_byte c ≡ a ∷ c ∷ []
unfolding escape_byte
backslash_escaped a c e f = rw (e, f) refl

pub mark_escaped : (c : ℕ) → needs_escape c ≡ true → 32 ≤ c → escape_byte c ≡ 92 ∷ c ∷ []
mark_escaped c is h = split (c == 34) (c == 92) refl refl where
  split : (a b : Bool) → (c == 34) ≡ a → (c == 92) ≡ b → escape_byte c ≡ 92 ∷ c ∷ []
  split true b e f = quote_escaped 92 c refl (eqb-true c 34 e)
  split false true e f = backslash_escaped 92 c refl (eqb-true c 92 f)
  split false false e f = absurd (omega (arith, h, ltb-true c 32 (rw (e, f) at is)))

-- a backslash and the byte, appended one after the other
pub mark_written : (old one two : List ℕ) (c : ℕ) → needs_escape c ≡ true → 32 ≤ c → one ≡ old ++ 92 ∷ [] → two ≡ one ++ c ∷ [] → two ≡ old ++ escape_byte c
mark_written old one two c is h first second =
    second ∙ ap (λ (xs : List ℕ). xs ++ c ∷ []) first ∙ append_assoc old (92 ∷ []) (c ∷ []) ∙ ap (λ (xs : List ℕ). old ++ xs) (sym (mark_escaped c is h))

-- ---- parts of a text

one_byte : (xs : List ℕ) (n : ℕ) → n < length xs → take 1 (drop n xs) ≡ get_or xs n 0 ∷ []
one_byte [] n h = absurd (omega arith)
one_byte (x ∷ xs) zero h = refl
one_byte (x ∷ xs) (suc n) h = one_byte xs n (omega arith)

two_bytes : (xs : List ℕ) (n : ℕ) → n + 1 < length xs → take 2 (drop n xs) ≡ get_or xs n 0 ∷ get_or xs (n + 1) 0 ∷ []
two_bytes xs n h =
    take-add 1 1 (drop n xs) ∙ ap₂ (λ (a b : List ℕ). a ++ b) (one_byte xs n (omega arith)) (ap (take 1) (drop-drop 1 n xs) ∙ one_byte xs (n + 1) (omega arith))

-- ---- writing

pub byte_written : (bs out next : List ℕ) (i : ℕ) → i < length bs → out ≡ 34 ∷ escape (take i bs) → next ≡ out ++ escape_byte (get_or bs i 0) → next ≡ 34 ∷ escape (take (i + 1) bs)
byte_written bs out next i within so_far step =
    let more : escape (take (i + 1) bs) ≡ escape (take i bs) ++ escape_byte (get_or bs i 0) =
    ap escape (take-add i 1 bs ∙ ap (λ (xs : List ℕ). take i bs ++ xs) (one_byte bs i within)) ∙ flat_map-append escape_byte (take i bs) (get_or bs i 0 ∷ []) ∙ ap (λ (xs : List ℕ). escape (take i bs) ++ xs) (append-nil (escape_byte (get_or bs i 0))) in
    step ∙ ap (λ (xs : List ℕ). xs ++ escape_byte (get_or bs i 0)) so_far ∙ ap (λ (xs : List ℕ). 34 ∷ xs) (sym more)

pub all_written : (bs out last : List ℕ) (i : ℕ) → length bs ≤ i → out ≡ 34 ∷ escape (take i bs) → last ≡ out ++ 34 ∷ [] → last ≡ 34 ∷ (escape bs ++ 34 ∷ [])
all_written bs out last i past so_far step = step ∙ ap (λ (xs : List ℕ). xs ++ 34 ∷ []) (so_far ∙ ap (λ (xs : List ℕ). 34 ∷ escape xs) (take_all i bs past))

-- ---- reading

pub one_spelled : (es : List ℕ) (at : ℕ) → at < length es → needs_escape (get_or es at 0) ≡ false → escape_byte (get_or es at 0) ≡ take (at + 1 - at) (drop at es)
one_spelled es at within plain =
    let one : 1 ≡ at + 1 - at = omega arith in
    plain_kept (get_or es at 0) plain ∙ sym (one_byte es at within) ∙ ap (λ n. take n (drop at es)) one

pub two_spelled : (es : List ℕ) (at : ℕ) → at + 1 < length es → escape_byte (get_or es (at + 1) 0) ≡ get_or es at 0 ∷ get_or es (at + 1) 0 ∷ [] → escape_byte (get_or es (at + 1) 0) ≡ take (at + 2 - at) (drop at es)
two_spelled es at within escaped =
    let two : 2 ≡ at + 2 - at = omega arith in
    escaped ∙ sym (two_bytes es at within) ∙ ap (λ n. take n (drop at es)) two

pub more_spelled : (es out new : List ℕ) (at next byte : ℕ) → at < next → escape out ≡ take at es → new ≡ out ++ byte ∷ [] → escape_byte byte ≡ take (next - at) (drop at es) → escape new ≡ take next es
more_spelled es out new at next byte after so_far step is =
    let whole : at + (next - at) ≡ next = omega arith in
    ap escape step ∙ flat_map-append escape_byte out (byte ∷ []) ∙ ap₂ (λ (a b : List ℕ). a ++ b) so_far (append-nil (escape_byte byte) ∙ is) ∙ sym (take-add at (next - at) es) ∙ ap (λ n. take n es) whole

pub all_spelled : (es out : List ℕ) (at : ℕ) → length es ≤ at → escape out ≡ take at es → escape out ≡ es
all_spelled es out at past so_far = so_far ∙ take_all at es past

-- nine parts appended in order
pub joined_nine : (a b c d e f g h i : List ℕ) → (((((((([] ++ a) ++ b) ++ c) ++ d) ++ e) ++ f) ++ g) ++ h) ++ i ≡ a ++ (b ++ (c ++ (d ++ (e ++ (f ++ (g ++ (h ++ i)))))))
joined_nine a b c d e f g h i =
    append_assoc (((((((a ++ b) ++ c) ++ d) ++ e) ++ f) ++ g)) h i
    ∙ append_assoc ((((((a ++ b) ++ c) ++ d) ++ e) ++ f)) g (h ++ i)
    ∙ append_assoc (((((a ++ b) ++ c) ++ d) ++ e)) f (g ++ (h ++ i))
    ∙ append_assoc ((((a ++ b) ++ c) ++ d)) e (f ++ (g ++ (h ++ i)))
    ∙ append_assoc (((a ++ b) ++ c)) d (e ++ (f ++ (g ++ (h ++ i))))
    ∙ append_assoc ((a ++ b)) c (d ++ (e ++ (f ++ (g ++ (h ++ i)))))
    ∙ append_assoc a b (c ++ (d ++ (e ++ (f ++ (g ++ (h ++ i))))))
