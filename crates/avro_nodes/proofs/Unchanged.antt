-- A compact text whose numbers are integers stays as it is when its numbers are rewritten.
use Rattle.std.proofs.Common.{◌≡◌, ℕ, zero, suc, ◌+◌, ◌/◌, ◌%◌, ◌^◌, ◌<◌, ◌≤◌, ◌==◌, List, [], ◌∷◌, ◌++◌, length, get_or, Bool, true, false, not, ◌&&◌, ◌||◌, nat_lt, cond, Option, Some, refl, sym, ap, subst, ◌∙◌, append_assoc, arith, rules, tests}
use Rattle.std.specs.Prelude.{pos, negsuc, decimal, slice_index, IsTrue, codes}
use Rattle.std.specs.Char.{is_ascii_digit, digit_char}
use Rattle.std.specs.List.{list_all, position_or_len}
use Rattle.std.specs.Str.Parse.{digits_value}
use Rattle.std.proofs.lemmas.Nat.{mod_below}
use Rattle.std.proofs.Math.Nat.{div-lt_iff_lt-mul}
use Rattle.std.proofs.lemmas.Bool.{false≢true, true≢false, ltb-true, lt-ltb, le-leb, and_parts, and_from, eq-eqb, ne_eqb}
use Rattle.std.proofs.lemmas.Fmt.{decimal_is_IsNumeral, decimal_digit, first_decimal}
use Rattle.std.proofs.lemmas.List.{append-nil, take_all}
use Rattle.std.proofs.lemmas.Str.Parse.{digit_at, digits_value_short}
use Rattle.std.specs.List.{flat_map}
use Rattle.serde_json.proofs.OnLiterals.{serde_json_on_literals}
use Rattle.serde_json.specs.Data.{Num, unsigned, negative, float, Data, null, boolean, number, string, array, object, Items, no_items, item, Members, no_members, member}
use Rattle.serde_json.specs.Written.{number_text, comma_if, compact_text, items_text, members_text}
use Rattle.avro_nodes.specs.Plain.{StringState, Outside, Inside, Escaped, next_state, is_number_char, is_outside, Piece, run, in_run, pieces, joined, prepended, piece_text, is_point, is_minus, is_canonical_decimal, respelt_whole, respelt, begins_number, plain}
use Rattle.avro_nodes.specs.Whole.{is_whole_number, has_whole_numbers, items_have_whole_numbers, members_have_whole_numbers}
use Rattle.avro_nodes.specs.Nodes.{NodeView}
use Rattle.avro_nodes.specs.Identity.{identity, identity_value, nodes_pass}
use Rattle.avro_nodes.proofs.Runs.{prepended_prepended, prepended_nothing, number_next, no_number_next, alone}
use Rattle.avro_nodes.proofs.Numbers.{own, spells, digits_of_digits}
use Rattle.avro_nodes.proofs.Plainness.{identity_is_whole}

-- ---- bytes that are copied, and don't change the position in or outside strings

abbrev From : StringState → List ℕ → Option (List ℕ)
From q bs = joined (pieces q bs)

-- these bytes are followed by no number character
abbrev pub Stops : List ℕ → Type 0
Stops [] = Unit {0}
Stops (c ∷ cs) = is_number_char c ≡ false

abbrev Copies : List ℕ → Type 0
Copies bs = (rest : List ℕ) → From Outside (bs ++ rest) ≡ prepended bs (From Outside rest)

abbrev CopiesUntil : List ℕ → Type 0
CopiesUntil bs = (rest : List ℕ) → Stops rest → From Outside (bs ++ rest) ≡ prepended bs (From Outside rest)

abbrev Stays : List ℕ → Type 0
Stays bs = (rest : List ℕ) → From Inside (bs ++ rest) ≡ prepended bs (From Inside rest)

other_from : (q : StringState) (c : ℕ) (cs : List ℕ) → (is_outside q && is_number_char c) ≡ false → From q (c ∷ cs) ≡ prepended (c ∷ []) (From (next_state q c) cs)
unfolding pieces joined
other_from q c cs e = rw e refl

copies_byte : (c : ℕ) → is_number_char c ≡ false → next_state Outside c ≡ Outside → Copies (c ∷ [])
copies_byte c e f rest = other_from Outside c rest e ∙ ap (λ (q : StringState). prepended (c ∷ []) (From q rest)) f

copies_both : (a b : List ℕ) → Copies a → Copies b → Copies (a ++ b)
copies_both a b f g rest = ap (From Outside) (append_assoc a b rest) ∙ f (b ++ rest) ∙ ap (prepended a) (g rest) ∙ prepended_prepended a b (From Outside rest)

copies_then : (a b : List ℕ) → CopiesUntil a → ((rest : List ℕ) → Stops (b ++ rest)) → Copies b → Copies (a ++ b)
copies_then a b f s g rest = ap (From Outside) (append_assoc a b rest) ∙ f (b ++ rest) (s rest) ∙ ap (prepended a) (g rest) ∙ prepended_prepended a b (From Outside rest)

stays_both : (a b : List ℕ) → Stays a → Stays b → Stays (a ++ b)
stays_both a b f g rest = ap (From Inside) (append_assoc a b rest) ∙ f (b ++ rest) ∙ ap (prepended a) (g rest) ∙ prepended_prepended a b (From Inside rest)

-- ---- strings

stays_byte : (c : ℕ) → next_state Inside c ≡ Inside → Stays (c ∷ [])
stays_byte c e rest = other_from Inside c rest refl ∙ ap (λ (q : StringState). prepended (c ∷ []) (From q rest)) e

letter_stays : (l : ℕ) → Stays (92 ∷ l ∷ [])
letter_stays l rest = other_from Inside 92 (l ∷ rest) refl ∙ ap (prepended (92 ∷ [])) (other_from Escaped l rest refl) ∙ prepended_prepended (92 ∷ []) (l ∷ []) (From Inside rest)

hex_stays : (a b : ℕ) → next_state Inside a ≡ Inside → next_state Inside b ≡ Inside → Stays (92 ∷ 117 ∷ 48 ∷ 48 ∷ a ∷ b ∷ [])
hex_stays a b e f =
    stays_both (92 ∷ 117 ∷ []) (48 ∷ 48 ∷ a ∷ b ∷ []) (letter_stays 117)
    (stays_both (48 ∷ []) (48 ∷ a ∷ b ∷ []) (stays_byte 48 refl) (stays_both (48 ∷ []) (a ∷ b ∷ []) (stays_byte 48 refl) (stays_both (a ∷ []) (b ∷ []) (stays_byte a e) (stays_byte b f))))

-- a byte of a string, as `serde_json` writes it
abbrev pub letter_of : ℕ → ℕ
letter_of x = cond ((x == 34) || (x == 92)) x (cond (x == 8) 98 (cond (x == 12) 102 (cond (x == 10) 110 (cond (x == 13) 114 (cond (x == 9) 116 0)))))

abbrev pub escaped : ℕ → List ℕ
escaped x = cond (nat_lt 0 (letter_of x)) (92 ∷ letter_of x ∷ []) (cond (nat_lt x 32) (92 ∷ 117 ∷ 48 ∷ 48 ∷ digit_char (x / 16) ∷ digit_char (x % 16) ∷ []) (x ∷ []))

inside_still : (c : ℕ) → (c ≡ 34 → ⊥) → (c ≡ 92 → ⊥) → next_state Inside c ≡ Inside
inside_still c a b = rw (ne_eqb c 34 a, ne_eqb c 92 b) refl

ten_up : (m n : ℕ) → nat_lt m n ≡ false → n ≤ m
ten_up m n e = search (rules, tests)

digit_inside : (d : ℕ) (b : Bool) → nat_lt d 10 ≡ b → d < 16 → next_state Inside (cond b (48 + d) (87 + d)) ≡ Inside
digit_inside d true e h = inside_still (48 + d) (λ is. omega (arith, is)) (λ is. omega (arith, is))
digit_inside d false e h = inside_still (87 + d) (λ is. omega (arith, is)) (λ is. omega (arith, is, ten_up d 10 e))

plain_inside : (x : ℕ) → nat_lt 0 (letter_of x) ≡ false → next_state Inside x ≡ Inside
plain_inside x e = inside_still x (λ is. true≢false (sym (ap (λ y. nat_lt 0 (letter_of y)) is) ∙ e)) (λ is. true≢false (sym (ap (λ y. nat_lt 0 (letter_of y)) is) ∙ e))

below_16 : (x : ℕ) → nat_lt x 32 ≡ true → x / 16 < 16
below_16 x e = (div-lt_iff_lt-mul {k = 16} {x = x} {y = 16} (omega arith)).1 (omega (arith, ltb-true x 32 e))

escape_stays : (x : ℕ) (short low : Bool) → nat_lt 0 (letter_of x) ≡ short → nat_lt x 32 ≡ low → Stays (escaped x)
escape_stays x true low e f = rw e (letter_stays (letter_of x))
escape_stays x false true e f =
    rw (e, f) (hex_stays (digit_char (x / 16)) (digit_char (x % 16)) (digit_inside (x / 16) (nat_lt (x / 16) 10) refl (below_16 x f)) (digit_inside (x % 16) (nat_lt (x % 16) 10) refl (mod_below x 16 (omega arith))))
escape_stays x false false e f = rw (e, f) (stays_byte x (plain_inside x e))

stays_nothing : Stays []
stays_nothing rest = sym (prepended_nothing (From Inside rest))

escaped_stays : (s : List ℕ) → Stays (flat_map escaped s)
escaped_stays [] = stays_nothing
escaped_stays (x ∷ xs) = stays_both (escaped x) (flat_map escaped xs) (escape_stays x (nat_lt 0 (letter_of x)) (nat_lt x 32) refl refl) (escaped_stays xs)

abbrev pub quoted : List ℕ → List ℕ
quoted s = compact_text (string s)

pub quoted_is : (s : List ℕ) → quoted s ≡ 34 ∷ (flat_map escaped s ++ 34 ∷ [])
unfolding serde_json_on_literals
quoted_is s = refl

quoted_copies : (s : List ℕ) → Copies (quoted s)
quoted_copies s =
    let t = flat_map escaped s in
    let P : List ℕ → Type 0 = Copies in
    subst P (sym (quoted_is s)) (λ rest. other_from Outside 34 ((t ++ 34 ∷ []) ++ rest) refl
    ∙ ap (prepended (34 ∷ [])) (ap (From Inside) (append_assoc t (34 ∷ []) rest) ∙ escaped_stays s (34 ∷ rest) ∙ ap (prepended t) (other_from Inside 34 rest refl) ∙ prepended_prepended t (34 ∷ []) (From Outside rest))
    ∙ prepended_prepended (34 ∷ []) (t ++ 34 ∷ []) (From Outside rest))

-- ---- numbers

run_ends : (c : ℕ) (rest : List ℕ) → Stops rest → in_run c (pieces Outside rest) ≡ run (c ∷ []) ∷ pieces Outside rest
run_ends c [] s = alone c
run_ends c (d ∷ ds) s = ap (in_run c) (no_number_next d ds s) ∙ ap (λ ps. run (c ∷ []) ∷ ps) (sym (no_number_next d ds s))

pub run_copies : (c : ℕ) (cs rest : List ℕ) → list_all is_number_char (c ∷ cs) ≡ true → Stops rest → pieces Outside ((c ∷ cs) ++ rest) ≡ run (c ∷ cs) ∷ pieces Outside rest
run_copies c [] rest e s = number_next c rest (and_parts (is_number_char c) true e).0 ∙ run_ends c rest s
run_copies c (d ∷ ds) rest e s =
    let h = and_parts (is_number_char c) (list_all is_number_char (d ∷ ds)) e in
    number_next c ((d ∷ ds) ++ rest) h.0 ∙ ap (in_run c) (run_copies d ds rest h.1 s)

joined_run : (s : List ℕ) (ps : List Piece) → piece_text (run s) ≡ Some s → joined (run s ∷ ps) ≡ prepended s (joined ps)
unfolding joined
joined_run s ps e = rw e refl

run_until : (s : List ℕ) → list_all is_number_char s ≡ true → 0 < length s → piece_text (run s) ≡ Some s → CopiesUntil s
run_until [] e h p = absurd (omega arith)
run_until (c ∷ cs) e h p = λ rest s. ap joined (run_copies c cs rest e s) ∙ joined_run (c ∷ cs) (pieces Outside rest) p

either_spelt : (b : Bool) (s : List ℕ) → respelt s ≡ Some s → cond b (respelt s) (Some s) ≡ Some s
either_spelt true s e = e
either_spelt false s e = refl

pub number_chars : (ds : List ℕ) → list_all is_ascii_digit ds ≡ true → list_all is_number_char ds ≡ true
number_chars [] e = refl
number_chars (c ∷ cs) e = let h = and_parts (is_ascii_digit c) (list_all is_ascii_digit cs) e in rw (h.0) (number_chars cs h.1)

digit_no_point : (c : ℕ) → is_ascii_digit c ≡ true → (c ≡ 46 → ⊥) × (c ≡ 45 → ⊥)
digit_no_point c e = (λ is. false≢true (sym (ap is_ascii_digit is) ∙ e), λ is. false≢true (sym (ap is_ascii_digit is) ∙ e))

no_point : (ds : List ℕ) → list_all is_ascii_digit ds ≡ true → position_or_len is_point ds ≡ length ds
no_point [] e = refl
no_point (c ∷ cs) e =
    let h = and_parts (is_ascii_digit c) (list_all is_ascii_digit cs) e in
    rw (ne_eqb c 46 (digit_no_point c h.0).0, no_point cs h.1) (omega arith)

whole_alone : (s : List ℕ) → position_or_len is_point s ≡ length s → respelt s ≡ respelt_whole s
unfolding respelt
whole_alone s e = rw (e, eq-eqb (length s) (length s) refl, take_all (length s) s (omega arith)) refl

-- the digits of a number
module _ (n : ℕ) (small : n < 2 ^ 64) where
  abbrev digits : List ℕ
  digits = decimal n

  pub some_digits : 0 < length digits
  some_digits = (decimal_is_IsNumeral n small).0.0

  pub all_digits : list_all is_ascii_digit digits ≡ true
  all_digits = own.from digits (decimal_is_IsNumeral n small).0.1

  value_is : digits_value 10 digits ≡ n
  value_is = (decimal_is_IsNumeral n small).1

  first_is : 48 ≤ get_or digits 0 0
  first_is = (digit_at digits 0 (decimal_is_IsNumeral n small).0.1 some_digits).0

digits_are : (n : ℕ) → n < 2 ^ 64 → is_canonical_decimal (decimal n) ≡ true
digits_are zero h = ap is_canonical_decimal (decimal_digit 0 (omega arith))
digits_are (suc n) h =
    let ds = decimal (suc n) in
    let some : not (length ds == 0) ≡ true = rw (ne_eqb (length ds) 0 (λ e. omega (arith, e, some_digits (suc n) h))) refl in
    let first : (not (slice_index ds 0 == 48) || (length ds == 1)) ≡ true = rw (ne_eqb (get_or ds 0 0) 48 (λ e. omega (arith, e, first_decimal (suc n) (omega arith) h))) refl in
    and_from (not (length ds == 0) && list_all is_ascii_digit ds) (not (slice_index ds 0 == 48) || (length ds == 1)) (and_from (not (length ds == 0)) (list_all is_ascii_digit ds) some (all_digits (suc n) h)) first

digits_respelt : (n : ℕ) → n < 2 ^ 64 → respelt (decimal n) ≡ Some (decimal n)
digits_respelt n h =
    let ds = decimal n in
    let bare : is_minus (slice_index ds 0) ≡ false = ne_eqb (get_or ds 0 0) 45 (λ e. omega (arith, e, first_is n h)) in
    whole_alone ds (no_point ds (all_digits n h)) ∙ rw (bare, digits_are n h, value_is n h, lt-ltb n (2 ^ 64) h) refl

-- a number of at most 19 digits without a leading zero stays as it is
pub short_number_stays : (s : List ℕ) → is_canonical_decimal s ≡ true → length s < 20 → piece_text (run s) ≡ Some s
short_number_stays s e short =
    let small : digits_value 10 s < 2 ^ 64 = omega (arith, digits_value_short own s 19 (digits_of_digits s e) (omega arith)) in
    either_spelt (begins_number s) s (subst (λ (t : List ℕ). respelt t ≡ Some t) (spells s e small) (digits_respelt (digits_value 10 s) small))

below_respelt : (n : ℕ) → n < 2 ^ 63 → respelt (45 ∷ decimal (suc n)) ≡ Some (45 ∷ decimal (suc n))
below_respelt n h =
    let ds = decimal (suc n) in
    let point : position_or_len is_point (45 ∷ ds) ≡ length (45 ∷ ds) = omega (arith, no_point ds (all_digits (suc n) (omega arith))) in
    whole_alone (45 ∷ ds) point ∙ rw (digits_are (suc n) (omega arith), value_is (suc n) (omega arith), le-leb (suc n) (2 ^ 63) (omega arith)) refl

number_copies : (n : Num) → is_whole_number n ≡ true → CopiesUntil (number_text n)
number_copies (unsigned n) e =
    let h = ltb-true n (2 ^ 64) e in
    let ds = decimal n in
    run_until ds (number_chars ds (all_digits n h)) (some_digits n h) (either_spelt (begins_number ds) ds (digits_respelt n h))
number_copies (negative (pos n)) e = absurd (false≢true e)
number_copies (negative (negsuc n)) e =
    let h = ltb-true n (2 ^ 63) e in
    let s = 45 ∷ decimal (suc n) in
    run_until s (number_chars (decimal (suc n)) (all_digits (suc n) (omega arith))) (omega arith) (either_spelt (begins_number s) s (below_respelt n h))
number_copies (float x) e = absurd (false≢true e)

-- ---- JSON

stops_items : (ds : Items) (rest : List ℕ) → Stops (items_text true ds ++ rest)
stops_items no_items rest = refl
stops_items (item d ds) rest = refl

stops_members : (ms : Members) (rest : List ℕ) → Stops (members_text true ms ++ rest)
stops_members no_members rest = refl
stops_members (member k d ms) rest = refl

copies_nothing : Copies []
copies_nothing rest = sym (prepended_nothing (From Outside rest))

comma_copies : (later : Bool) → Copies (comma_if later)
comma_copies true = copies_byte 44 refl refl
comma_copies false = copies_nothing

until : (bs : List ℕ) → Copies bs → CopiesUntil bs
until bs f rest s = f rest

copies_until : (a b : List ℕ) → Copies a → CopiesUntil b → CopiesUntil (a ++ b)
copies_until a b f g rest s = ap (From Outside) (append_assoc a b rest) ∙ f (b ++ rest) ∙ ap (prepended a) (g rest s) ∙ prepended_prepended a b (From Outside rest)

letter : (c : ℕ) (bs : List ℕ) → is_number_char c ≡ false → next_state Outside c ≡ Outside → CopiesUntil bs → CopiesUntil (c ∷ bs)
letter c bs e f more = copies_until (c ∷ []) bs (copies_byte c e f) more

e_copies : CopiesUntil (101 ∷ [])
e_copies = run_until (101 ∷ []) refl (omega arith) refl

null_copies : CopiesUntil (codes "null")
null_copies = letter 110 (117 ∷ 108 ∷ 108 ∷ []) refl refl (letter 117 (108 ∷ 108 ∷ []) refl refl (letter 108 (108 ∷ []) refl refl (until (108 ∷ []) (copies_byte 108 refl refl))))

true_copies : CopiesUntil (codes "true")
true_copies = letter 116 (114 ∷ 117 ∷ 101 ∷ []) refl refl (letter 114 (117 ∷ 101 ∷ []) refl refl (letter 117 (101 ∷ []) refl refl e_copies))

false_copies : CopiesUntil (codes "false")
false_copies = letter 102 (97 ∷ 108 ∷ 115 ∷ 101 ∷ []) refl refl (letter 97 (108 ∷ 115 ∷ 101 ∷ []) refl refl (letter 108 (115 ∷ 101 ∷ []) refl refl (letter 115 (101 ∷ []) refl refl e_copies)))

mutual
  text_copies : (d : Data) → has_whole_numbers d ≡ true → CopiesUntil (compact_text d)
  text_copies null e = null_copies
  text_copies (boolean true) e = true_copies
  text_copies (boolean false) e = false_copies
  text_copies (number n) e = number_copies n e
  text_copies (string s) e = until (quoted s) (quoted_copies s)
  text_copies (array ds) e = until (91 ∷ items_text false ds) (copies_both (91 ∷ []) (items_text false ds) (copies_byte 91 refl refl) (items_copy false ds e))
  text_copies (object ms) e = until (123 ∷ members_text false ms) (copies_both (123 ∷ []) (members_text false ms) (copies_byte 123 refl refl) (members_copy false ms e))

  items_copy : (later : Bool) (ds : Items) → items_have_whole_numbers ds ≡ true → Copies (items_text later ds)
  items_copy later no_items e = copies_byte 93 refl refl
  items_copy later (item d ds) e =
      let h = and_parts (has_whole_numbers d) (items_have_whole_numbers ds) e in
      copies_both (comma_if later) (compact_text d ++ items_text true ds) (comma_copies later) (copies_then (compact_text d) (items_text true ds) (text_copies d h.0) (stops_items ds) (items_copy true ds h.1))

  members_copy : (later : Bool) (ms : Members) → members_have_whole_numbers ms ≡ true → Copies (members_text later ms)
  members_copy later no_members e = copies_byte 125 refl refl
  members_copy later (member k d ms) e =
      let h = and_parts (has_whole_numbers d) (members_have_whole_numbers ms) e in
      let rest = compact_text d ++ members_text true ms in
      copies_both (comma_if later) (quoted k ++ 58 ∷ rest) (comma_copies later)
      (copies_both (quoted k) (58 ∷ rest) (quoted_copies k) (copies_both (58 ∷ []) rest (copies_byte 58 refl refl) (copies_then (compact_text d) (members_text true ms) (text_copies d h.0) (stops_members ms) (members_copy true ms h.1))))

nothing_from : From Outside [] ≡ Some []
unfolding pieces joined
nothing_from = refl

pub plain-compact_text : (d : Data) → has_whole_numbers d ≡ true → plain (compact_text d) ≡ Some (compact_text d)
plain-compact_text d e =
    let t = compact_text d in
    ap (From Outside) (sym (append-nil t)) ∙ text_copies d e [] tt ∙ ap (prepended t) nothing_from ∙ ap (λ (s : List ℕ). Some s) (append-nil t)

-- the identity text has its numbers in plain decimal digits
pub plain-identity : (nodes : List NodeView) → IsTrue (nodes_pass has_whole_numbers nodes) → plain (identity nodes) ≡ Some (identity nodes)
plain-identity nodes e = plain-compact_text (identity_value nodes) (identity_is_whole nodes e)
