-- In a rewritten text, each run that begins as a number is the text of an integer.
use Rattle.std.proofs.Common.{◌≡◌, ℕ, zero, suc, ◌^◌, ◌<◌, List, [], ◌∷◌, ◌++◌, length, Bool, true, false, ◌&&◌, cond, Option, Some, None, refl, sym, subst, ◌∙◌, arith}
use Rattle.std.specs.Prelude.{negsuc, decimal, slice_index, drop}
use Rattle.std.specs.Fmt.{signed_decimal}
use Rattle.std.specs.List.{list_all}
use Rattle.std.specs.Str.Parse.{digits_value}
use Rattle.std.proofs.lemmas.Bool.{false≢true, and_parts, leb-true, ltb-true, lt-ltb}
use Rattle.std.proofs.lemmas.Option.{none-some, same_Some, cond_some, option_and_then_some}
use Rattle.serde_json.specs.Data.{Num, unsigned, negative}
use Rattle.serde_json.specs.Read.{number_of}
use Rattle.serde_json.proofs.Numbers.{number_of-decimal, number_of-negative}
use Rattle.avro_nodes.specs.Plain.{StringState, Outside, Inside, Escaped, next_state, is_number_char, is_outside, Piece, run, other, in_run, pieces, joined, prepended, piece_text, is_whole, whole_part, is_minus, in_range, signed, is_canonical_decimal, respelt_digits, respelt_whole, respelt, begins_number, plain}
use Rattle.avro_nodes.specs.Whole.{is_whole_number}
use Rattle.avro_nodes.proofs.Unchanged.{Stops, run_copies, number_chars, some_digits, all_digits}

-- the text of an integer of 64 bits
abbrev pub IsWholeText : List ℕ → Type 0
IsWholeText s = (n : Num) × (number_of s ≡ Some n) × (is_whole_number n ≡ true)

-- if the run begins as a number, it is the text of an integer
abbrev IsGood : List ℕ → Type 0
IsGood s = begins_number s ≡ true → IsWholeText s

abbrev pub AllGood : List Piece → Type 0
AllGood [] = Unit {0}
AllGood (run s ∷ ps) = IsGood s × AllGood ps
AllGood (other c ∷ ps) = AllGood ps

-- ---- the shape of pieces

-- the first piece isn't a run
abbrev NoRun : List Piece → Type 0
NoRun [] = Unit {0}
NoRun (run s ∷ ps) = ⊥
NoRun (other c ∷ ps) = Unit {0}

-- each run is outside the strings, consists of number characters, and is followed by another byte or the end
abbrev Shaped : StringState → List Piece → Type 0
Shaped q [] = Unit {0}
Shaped q (run s ∷ ps) = (q ≡ Outside) × (0 < length s) × (list_all is_number_char s ≡ true) × NoRun ps × Shaped Outside ps
Shaped q (other c ∷ ps) = ((is_outside q && is_number_char c) ≡ false) × Shaped (next_state q c) ps

-- a run with one more character before it
shaped_run : (c : ℕ) (ps : List Piece) → is_number_char c ≡ true → Shaped Outside ps → Shaped Outside (in_run c ps)
shaped_run c [] e h = (refl, omega arith, rw e refl, tt, tt)
shaped_run c (run s ∷ ps) e h = (refl, omega arith, rw e h.2, h.3, h.4)
shaped_run c (other d ∷ ps) e h = (refl, omega arith, rw e refl, tt, h)

-- a byte before the pieces of the rest
shaped_at : (b : Bool) (q : StringState) (c : ℕ) (cs : List ℕ) → (is_outside q && is_number_char c) ≡ b → Shaped q (pieces q cs) → Shaped (next_state q c) (pieces (next_state q c) cs)
    → Shaped q (cond b (in_run c (pieces q cs)) (other c ∷ pieces (next_state q c) cs))
shaped_at true Outside c cs e h g = shaped_run c (pieces Outside cs) e h
shaped_at true Inside c cs e h g = absurd (false≢true e)
shaped_at true Escaped c cs e h g = absurd (false≢true e)
shaped_at false q c cs e h g = (e, g)

-- the pieces of each text have this shape
shaped : (q : StringState) (cs : List ℕ) → Shaped q (pieces q cs)
unfolding pieces
shaped q [] = tt
shaped q (c ∷ cs) = shaped_at (is_outside q && is_number_char c) q c cs refl (shaped q cs) (shaped (next_state q c) cs)

-- ---- the text that replaces a run

abbrev IsSpelt : List ℕ → Type 0
IsSpelt s = (0 < length s) × (list_all is_number_char s ≡ true) × IsWholeText s

-- the digits of a number
of_decimal : (n : ℕ) → n < 2 ^ 64 → IsSpelt (decimal n)
of_decimal n h = (some_digits n h, number_chars (decimal n) (all_digits n h), (unsigned n, number_of-decimal n h, lt-ltb n (2 ^ 64) h))

-- a number in range, with its sign
of_signed : (below : Bool) (n : ℕ) → in_range below n ≡ true → IsSpelt (signed_decimal (signed below n))
of_signed false n e = of_decimal n (ltb-true n (2 ^ 64) e)
of_signed true zero e = of_decimal 0 (omega arith)
of_signed true (suc n) e =
    let h = leb-true (suc n) (2 ^ 63) e in
    let ds = of_decimal (suc n) (omega arith) in
    (omega arith, ds.1, (negative (negsuc n), number_of-negative n (omega arith), lt-ltb n (2 ^ 63) (omega arith)))

-- digits
digits_spelt : (below : Bool) (ds r : List ℕ) → respelt_digits below ds ≡ Some r → IsSpelt r
digits_spelt below ds r e =
    let v = digits_value 10 ds in
    let g = cond_some (is_canonical_decimal ds && in_range below v) (signed_decimal (signed below v)) r e in
    subst IsSpelt g.1 (of_signed below v (and_parts (is_canonical_decimal ds) (in_range below v) g.0).1)

-- a whole part, with a minus or not
whole_spelt : (b : Bool) (w r : List ℕ) → cond b (respelt_digits true (drop 1 w)) (respelt_digits false w) ≡ Some r → IsSpelt r
whole_spelt true w r e = digits_spelt true (drop 1 w) r e
whole_spelt false w r e = digits_spelt false w r e

-- the whole part of a number that is an integer
run_at : (b : Bool) (w r : List ℕ) → cond b (respelt_whole w) None ≡ Some r → IsSpelt r
run_at true w r e = whole_spelt (is_minus (slice_index w 0)) w r e
run_at false w r e = absurd (none-some r e)

-- a run
run_spelt : (s r : List ℕ) → respelt s ≡ Some r → IsSpelt r
unfolding respelt
run_spelt s r e = run_at (is_whole s) (whole_part s) r e

-- the text that replaces a run is a good run
good_at : (b : Bool) (s r : List ℕ) → begins_number s ≡ b → 0 < length s → list_all is_number_char s ≡ true → cond b (respelt s) (Some s) ≡ Some r → (0 < length r) × (list_all is_number_char r ≡ true) × IsGood r
good_at true s r e some chars is = let h = run_spelt s r is in (h.0, h.1, λ _. h.2)
good_at false s r e some chars is = let P : List ℕ → Type 0 = λ x. (0 < length x) × (list_all is_number_char x ≡ true) × IsGood x in subst P (same_Some s r is) (some, chars, λ yes. absurd (false≢true (sym e ∙ yes)))

-- ---- the pieces of the rewritten text

-- the two parts of a joined text
prepended_some : (a : List ℕ) (o : Option (List ℕ)) (r : List ℕ) → prepended a o ≡ Some r → (x : List ℕ) × (o ≡ Some x) × (a ++ x ≡ r)
prepended_some a None r e = absurd (none-some r e)
prepended_some a (Some x) r e = (x, refl, same_Some (a ++ x) r e)

-- in the rewritten text, no number character follows a run
stops_at : (ps : List Piece) (r : List ℕ) → NoRun ps → Shaped Outside ps → joined ps ≡ Some r → Stops r
unfolding joined
stops_at [] r n h e = subst Stops (same_Some [] r e) tt
stops_at (run s ∷ ps) r n h e = absurd n
stops_at (other c ∷ ps) r n h e = let x = prepended_some (c ∷ []) (joined ps) r e in subst Stops x.2 h.0

-- another byte, before good pieces
good_other : (q : StringState) (c : ℕ) (cs : List ℕ) → (is_outside q && is_number_char c) ≡ false → AllGood (pieces (next_state q c) cs) → AllGood (pieces q (c ∷ cs))
unfolding pieces
good_other q c cs e h = rw e h

-- a good run, before good pieces
good_front : (s rest : List ℕ) → 0 < length s → list_all is_number_char s ≡ true → IsGood s → Stops rest → AllGood (pieces Outside rest) → AllGood (pieces Outside (s ++ rest))
good_front [] rest some chars g stops h = absurd (omega arith)
good_front (c ∷ cs) rest some chars g stops h = subst AllGood (sym (run_copies c cs rest chars stops)) (g, h)

-- the pieces of a joined text are good
good : (ps : List Piece) (q : StringState) (r : List ℕ) → Shaped q ps → joined ps ≡ Some r → AllGood (pieces q r)
unfolding joined pieces
good [] q r h e = subst (λ (x : List ℕ). AllGood (pieces q x)) (same_Some [] r e) tt
good (other c ∷ ps) q r h e =
    let x = prepended_some (c ∷ []) (joined ps) r e in
    subst (λ (y : List ℕ). AllGood (pieces q y)) x.2 (good_other q c x.0 h.0 (good ps (next_state q c) x.0 h.1 x.1))
good (run s ∷ ps) q r h e =
    option_and_then_some (λ (u : List ℕ). prepended u (joined ps)) (piece_text (run s)) r e (λ t is put.
    let x = prepended_some t (joined ps) r put in
    let g = good_at (begins_number s) s t refl h.1 h.2 is in
    let front = good_front t x.0 g.0 g.1 g.2 (stops_at ps x.0 h.3 h.4 x.1) (good ps Outside x.0 h.4 x.1) in
    subst (λ (p : StringState). AllGood (pieces p r)) (sym h.0) (subst (λ (y : List ℕ). AllGood (pieces Outside y)) x.2 front))

-- each run of a rewritten text is good
pub good_pieces : (text r : List ℕ) → plain text ≡ Some r → AllGood (pieces Outside r)
good_pieces text r e = good (pieces Outside text) Outside r (shaped Outside text) e
