-- The runs of a text, for loops over its bytes.
use Rattle.std.proofs.Common.{◌≡◌, ℕ, zero, suc, ◌+◌, ◌-◌, ◌<◌, ◌≤◌, ◌⊎◌, inl, inr, List, [], ◌∷◌, ◌++◌, length, take, drop, get_or, Bool, true, false, ◌&&◌, ◌||◌, cond, Option, Some, None, refl, sym, ap, ◌∙◌, append_assoc, subst, length-drop, arith}
use Rattle.std.proofs.Common.{tests}
use Rattle.std.specs.List.{prefix_len}
use Rattle.std.specs.Str.{IsCharBoundary, IsUtf8}
use Rattle.std.proofs.lemmas.List.Sums.{prefix_len-le-length, prefix_len_passes}
use Rattle.std.proofs.lemmas.Str.{IsCharBoundary-before_ascii, IsCharBoundary-after_ascii, IsCharBoundary-end}
use Rattle.std.specs.Prelude.{◌==◌, slice_range, option_and_then, unwrap_or, is_some}
use Rattle.std.proofs.Math.Seq.{take-suc, take-add}
use Rattle.std.proofs.lemmas.Bool.{false≢true, cases_lt, false_from_ne_true, or_parts}
use Rattle.std.proofs.lemmas.List.{drop_all, get_or-drop, get_or-take, length-take-le, drop-drop}
use Rattle.avro_nodes.proofs.Lists.{drop_item}
use Rattle.avro_nodes.specs.Plain.{StringState, Outside, Inside, Escaped, next_state, is_number_char, is_outside, run, other, in_run, pieces, joined, prepended, piece_text, is_whole, whole_part, respelt, respelt_whole, begins_number}

pub prepended_prepended : (a b : List ℕ) (o : Option (List ℕ)) → prepended a (prepended b o) ≡ prepended (a ++ b) o
prepended_prepended a b None = refl
prepended_prepended a b (Some r) = ap (λ (s : List ℕ). Some s) (sym (append_assoc a b r))

pub prepended_nothing : (o : Option (List ℕ)) → prepended [] o ≡ o
prepended_nothing None = refl
prepended_nothing (Some r) = refl

-- ---- bytes outside the runs

other_next : (q : StringState) (c : ℕ) (cs : List ℕ) → (is_outside q && is_number_char c) ≡ false → joined (pieces q (c ∷ cs)) ≡ prepended (c ∷ []) (joined (pieces (next_state q c) cs))
unfolding pieces joined
other_next q c cs e = rw e refl

pub range_more : (xs : List ℕ) (i j : ℕ) → i ≤ j → j < length xs → slice_range xs i (j + 1) ≡ slice_range xs i j ++ get_or xs j 0 ∷ []
range_more xs i j a b =
    let one : j + 1 - i ≡ suc (j - i) = omega arith in
    let there : i + (j - i) ≡ j = omega arith in
    rw one (take-suc (drop i xs) (j - i) 0 (omega (arith, length-drop i xs)) ∙ ap (λ d. take (j - i) (drop i xs) ++ d ∷ []) (get_or-drop i xs (j - i) 0 ∙ ap (λ k. get_or xs k 0) there))

pub other_more : (bs : List ℕ) (from at : ℕ) (q : StringState) → from ≤ at → at < length bs → (is_outside q && is_number_char (get_or bs at 0)) ≡ false
    → prepended (slice_range bs from (at + 1)) (joined (pieces (next_state q (get_or bs at 0)) (drop (at + 1) bs))) ≡ prepended (slice_range bs from at) (joined (pieces q (drop at bs)))
other_more bs from at q a b e =
    rw (range_more bs from at a b, drop_item bs at 0 b, other_next q (get_or bs at 0) (drop (at + 1) bs) e)
    (sym (prepended_prepended (slice_range bs from at) (get_or bs at 0 ∷ []) (joined (pieces (next_state q (get_or bs at 0)) (drop (at + 1) bs)))))

pub range_join : (xs : List ℕ) (i j k : ℕ) → i ≤ j → j ≤ k → slice_range xs i j ++ slice_range xs j k ≡ slice_range xs i k
range_join xs i j k a b =
    let total : k - i ≡ (j - i) + (k - j) = omega arith in
    let there : i + (j - i) ≡ j = omega arith in
    let parts : take (k - i) (drop i xs) ≡ take (j - i) (drop i xs) ++ take (k - j) (drop (j - i) (drop i xs)) = rw total (take-add (j - i) (k - j) (drop i xs)) in
    sym (parts ∙ ap (λ (ys : List ℕ). take (j - i) (drop i xs) ++ take (k - j) ys) (drop-drop (j - i) i xs ∙ ap (λ n. drop n xs) there))

pub joined_more : (q r : StringState) (bs : List ℕ) (from at end : ℕ) → from ≤ at → at ≤ end → joined (pieces q (drop at bs)) ≡ prepended (slice_range bs at end) (joined (pieces r (drop end bs)))
    → prepended (slice_range bs from at) (joined (pieces q (drop at bs))) ≡ prepended (slice_range bs from end) (joined (pieces r (drop end bs)))
joined_more q r bs from at end a b e =
    ap (prepended (slice_range bs from at)) e
    ∙ prepended_prepended (slice_range bs from at) (slice_range bs at end) (joined (pieces r (drop end bs)))
    ∙ ap (λ (s : List ℕ). prepended s (joined (pieces r (drop end bs)))) (range_join bs from at end a b)

pub nothing_skipped : (bs : List ℕ) (at : ℕ) (q : StringState) → joined (pieces q (drop at bs)) ≡ prepended (slice_range bs at at) (joined (pieces q (drop at bs)))
nothing_skipped bs at q = let none : at - at ≡ 0 = omega arith in rw none (sym (prepended_nothing (joined (pieces q (drop at bs)))))

-- a byte inside a string is copied
pub inside_next : (bs : List ℕ) (at : ℕ) (q r : StringState) → at < length bs → is_outside q ≡ false → next_state q (get_or bs at 0) ≡ r
    → joined (pieces q (drop at bs)) ≡ prepended (slice_range bs at (at + 1)) (joined (pieces r (drop (at + 1) bs)))
inside_next bs at q r h inside goes =
    nothing_skipped bs at q ∙ sym (other_more bs at at q (omega arith) h (rw inside refl))
    ∙ ap (λ (p : StringState). prepended (slice_range bs at (at + 1)) (joined (pieces p (drop (at + 1) bs)))) goes

pub quote_ends : (c : ℕ) → c ≡ 34 → next_state Inside c ≡ Outside
quote_ends c e = rw e refl

pub escape_begins : (c : ℕ) → c ≡ 92 → next_state Inside c ≡ Escaped
escape_begins c e = rw e refl

stays_inside : (c : ℕ) → (c == 34) ≡ false → (c == 92) ≡ false → next_state Inside c ≡ Inside
stays_inside c e f = rw (e, f) refl

-- neither a quote nor a backslash
abbrev IsPlainByte : ℕ → Type 0
IsPlainByte c = (c == 34 || c == 92) ≡ false

one_inside : (bs : List ℕ) (at : ℕ) → at < length bs → IsPlainByte (get_or bs at 0)
    → joined (pieces Inside (drop at bs)) ≡ prepended (slice_range bs at (at + 1)) (joined (pieces Inside (drop (at + 1) bs)))
one_inside bs at h is =
    let c = get_or bs at 0 in
    let parts = or_parts (c == 34) (c == 92) is in
    inside_next bs at Inside Inside h refl (stays_inside c parts.0 parts.1)

pub marks_skipped : (bs : List ℕ) (from n : ℕ) → from + n ≤ length bs → ((k : ℕ) → k < n → IsPlainByte (get_or bs (from + k) 0))
    → joined (pieces Inside (drop from bs)) ≡ prepended (slice_range bs from (from + n)) (joined (pieces Inside (drop (from + n) bs)))
marks_skipped bs from zero h each =
    let here : from + 0 ≡ from = omega arith in
    rw here (nothing_skipped bs from Inside)
marks_skipped bs from (suc n) h each =
    let next : from + n + 1 ≡ from + suc n = omega arith in
    marks_skipped bs from n (omega (arith, h)) (λ k below. each k (omega (arith, below)))
    ∙ joined_more Inside Inside bs from (from + n) (from + n + 1) (omega arith) (omega arith) (one_inside bs (from + n) (omega (arith, h)) (each n (omega arith)))
    ∙ ap (λ m. prepended (slice_range bs from m) (joined (pieces Inside (drop m bs)))) next

pub length_from : (bs : List ℕ) (from : ℕ) → length (take (length bs - from) (drop from bs)) ≡ length bs - from
length_from bs from = length-take-le (length bs - from) (drop from bs) (omega (arith, length-drop from bs))

-- a byte that the search passes over is neither a quote nor a backslash in the text either
pub plain_from : (bs : List ℕ) (from k : ℕ) → k < length bs - from → ¬ ((get_or (take (length bs - from) (drop from bs)) k 0 == 34 || get_or (take (length bs - from) (drop from bs)) k 0 == 92) ≡ true)
    → IsPlainByte (get_or bs (from + k) 0)
plain_from bs from k h differs =
    let same : get_or (take (length bs - from) (drop from bs)) k 0 ≡ get_or bs (from + k) 0 = get_or-take (length bs - from) (drop from bs) k 0 h ∙ get_or-drop from bs k 0 in
    subst IsPlainByte same (false_from_ne_true (get_or (take (length bs - from) (drop from bs)) k 0 == 34 || get_or (take (length bs - from) (drop from bs)) k 0 == 92) differs)

other_skipped : (bs : List ℕ) (at : ℕ) → at < length bs → is_number_char (get_or bs at 0) ≡ false → joined (pieces Outside (drop at bs)) ≡ prepended (slice_range bs at (at + 1)) (joined (pieces (next_state Outside (get_or bs at 0)) (drop (at + 1) bs)))
other_skipped bs at h e = nothing_skipped bs at Outside ∙ sym (other_more bs at at Outside (omega arith) h e)

pub byte_skipped : (bs : List ℕ) (at : ℕ) → at < length bs → is_number_char (get_or bs at 0) ≡ false → (get_or bs at 0 == 34) ≡ false → joined (pieces Outside (drop at bs)) ≡ prepended (slice_range bs at (at + 1)) (joined (pieces Outside (drop (at + 1) bs)))
byte_skipped bs at h e differs =
    let stays : next_state Outside (get_or bs at 0) ≡ Outside = rw differs refl in
    other_skipped bs at h e ∙ ap (λ (q : StringState). prepended (slice_range bs at (at + 1)) (joined (pieces q (drop (at + 1) bs)))) stays

pub string_skipped : (bs : List ℕ) (at end : ℕ) → at < length bs → is_number_char (get_or bs at 0) ≡ false → (get_or bs at 0 == 34) ≡ true → at + 1 ≤ end
    → joined (pieces Inside (drop (at + 1) bs)) ≡ prepended (slice_range bs (at + 1) end) (joined (pieces Outside (drop end bs)))
    → joined (pieces Outside (drop at bs)) ≡ prepended (slice_range bs at end) (joined (pieces Outside (drop end bs)))
string_skipped bs at end h e quote in_range ends =
    let enters : next_state Outside (get_or bs at 0) ≡ Inside = rw quote refl in
    other_skipped bs at h e
    ∙ ap (λ (q : StringState). prepended (slice_range bs at (at + 1)) (joined (pieces q (drop (at + 1) bs)))) enters
    ∙ ap (prepended (slice_range bs at (at + 1))) ends
    ∙ prepended_prepended (slice_range bs at (at + 1)) (slice_range bs (at + 1) end) (joined (pieces Outside (drop end bs)))
    ∙ ap (λ (s : List ℕ). prepended s (joined (pieces Outside (drop end bs)))) (range_join bs at (at + 1) end (omega arith) in_range)

pub front_range : (xs : List ℕ) (k : ℕ) → slice_range xs 0 k ≡ take k xs
front_range xs k = let all : k - 0 ≡ k = omega arith in ap (λ n. take n xs) all

taken : (xs : List ℕ) (i j : ℕ) → i ≤ j → take i xs ++ slice_range xs i j ≡ take j xs
taken xs i j a = let there : i + (j - i) ≡ j = omega arith in sym (take-add i (j - i) xs) ∙ ap (λ n. take n xs) there

-- a front of the text, with the bytes before a run and then the run
pub taken_more : (xs : List ℕ) (i j k : ℕ) → i ≤ j → j ≤ k → (take i xs ++ slice_range xs i j) ++ slice_range xs j k ≡ take k xs
taken_more xs i j k a b = ap (λ (s : List ℕ). s ++ slice_range xs j k) (taken xs i j a) ∙ taken xs j k b

pub nothing_left : (q : StringState) (bs : List ℕ) (at : ℕ) → length bs ≤ at → joined (pieces q (drop at bs)) ≡ Some []
unfolding pieces joined
nothing_left q bs at h = rw (drop_all at bs h) refl

-- ---- a run

pub number_next : (c : ℕ) (cs : List ℕ) → is_number_char c ≡ true → pieces Outside (c ∷ cs) ≡ in_run c (pieces Outside cs)
unfolding pieces
number_next c cs e = rw e refl

pub no_number_next : (c : ℕ) (cs : List ℕ) → is_number_char c ≡ false → pieces Outside (c ∷ cs) ≡ other c ∷ pieces (next_state Outside c) cs
unfolding pieces
no_number_next c cs e = rw e refl

abbrev run_len : List ℕ → ℕ
run_len cs = prefix_len is_number_char cs

-- the text begins with a run of n bytes
abbrev BeginsRun : List ℕ → ℕ → Type 0
BeginsRun cs n = pieces Outside cs ≡ run (take n cs) ∷ pieces Outside (drop n cs)

run_on : (c d : ℕ) (ds : List ℕ) (b : Bool) → is_number_char d ≡ b → is_number_char c ≡ true → (is_number_char d ≡ true → BeginsRun (d ∷ ds) (run_len (d ∷ ds))) → BeginsRun (c ∷ d ∷ ds) (1 + run_len (d ∷ ds))
run_on c d ds true e f more =
    let one : 1 + run_len (d ∷ ds) ≡ suc (run_len (d ∷ ds)) = omega arith in
    let P : ℕ → Type 0 = BeginsRun (c ∷ d ∷ ds) in
    subst P (sym one) (number_next c (d ∷ ds) f ∙ ap (in_run c) (more e))
run_on c d ds false e f more =
    let ends : run_len (d ∷ ds) ≡ 0 = rw e refl in
    let P : ℕ → Type 0 = λ n. BeginsRun (c ∷ d ∷ ds) (1 + n) in
    subst P (sym ends) (number_next c (d ∷ ds) f ∙ ap (in_run c) (no_number_next d ds e) ∙ ap (λ ps. run (c ∷ []) ∷ ps) (sym (no_number_next d ds e)))

one_of : (c : ℕ) (cs : List ℕ) → is_number_char c ≡ true → run_len (c ∷ cs) ≡ 1 + run_len cs
one_of c cs e = rw e refl

pub alone : (c : ℕ) → in_run c (pieces Outside []) ≡ run (c ∷ []) ∷ pieces Outside []
unfolding pieces
alone c = refl

run_first : (c : ℕ) (cs : List ℕ) → is_number_char c ≡ true → BeginsRun (c ∷ cs) (run_len (c ∷ cs))
run_first c [] e = let P : ℕ → Type 0 = BeginsRun (c ∷ []) in subst P (sym (one_of c [] e)) (number_next c [] e ∙ alone c)
run_first c (d ∷ ds) e = let P : ℕ → Type 0 = BeginsRun (c ∷ d ∷ ds) in subst P (sym (one_of c (d ∷ ds) e)) (run_on c d ds (is_number_char d) refl e (λ h. run_first d ds h))

-- the text is the run `s`, followed by `more`
abbrev FromRun : List ℕ → List ℕ → List ℕ → Type 0
FromRun cs s more = joined (pieces Outside cs) ≡ option_and_then (λ t. prepended t (joined (pieces Outside more))) (piece_text (run s))

run_then : (cs : List ℕ) (n : ℕ) → BeginsRun cs n → FromRun cs (take n cs) (drop n cs)
unfolding joined
run_then cs n e = ap joined e

run_of_none : FromRun [] [] []
unfolding pieces joined
run_of_none = refl

run_from : (bs : List ℕ) (start : ℕ) (more : (start < length bs) ⊎ (length bs ≤ start)) → (start < length bs → is_number_char (get_or bs start 0) ≡ true) → FromRun (drop start bs) (take (run_len (drop start bs)) (drop start bs)) (drop (run_len (drop start bs)) (drop start bs))
run_from bs start (inl h) found = rw (drop_item bs start 0 h) (run_then (get_or bs start 0 ∷ drop (start + 1) bs) (run_len (get_or bs start 0 ∷ drop (start + 1) bs)) (run_first (get_or bs start 0) (drop (start + 1) bs) (found h)))
run_from bs start (inr h) found = rw (drop_all start bs h) run_of_none

pub run_at : (bs : List ℕ) (start end : ℕ) → (start < length bs → is_number_char (get_or bs start 0) ≡ true) → end ≡ start + prefix_len is_number_char (drop start bs) → FromRun (drop start bs) (slice_range bs start end) (drop end bs)
run_at bs start end found e =
    let cs = drop start bs in
    let n : end - start ≡ run_len cs = omega (arith, e) in
    let taken : ℕ → Type 0 = λ k. FromRun cs (take k cs) (drop end bs) in
    let left : List ℕ → Type 0 = λ more. FromRun cs (take (run_len cs) cs) more in
    subst taken (sym n) (subst left (drop-drop (run_len cs) start bs ∙ ap (λ k. drop k bs) (sym e)) (run_from bs start (cases_lt start (length bs)) found))

-- ---- one iteration: writes the bytes before a run, and then the text that replaces the run

module _ (bs out : List ℕ) (total : Option (List ℕ)) (at start end : ℕ) (so_far : prepended out (joined (pieces Outside (drop at bs))) ≡ total)
    (skipped : joined (pieces Outside (drop at bs)) ≡ prepended (slice_range bs at start) (joined (pieces Outside (drop start bs))))
    (found : start < length bs → is_number_char (get_or bs start 0) ≡ true) (ends : end ≡ start + prefix_len is_number_char (drop start bs)) where
  turn : (o : Option (List ℕ)) → o ≡ piece_text (run (slice_range bs start end)) → total ≡ prepended (out ++ slice_range bs at start) (option_and_then (λ t. prepended t (joined (pieces Outside (drop end bs)))) o)
  turn o e = rw e (sym so_far ∙ ap (prepended out) skipped ∙ prepended_prepended out (slice_range bs at start) (joined (pieces Outside (drop start bs))) ∙ ap (prepended (out ++ slice_range bs at start)) (run_at bs start end found ends))

  pub turn_done : (number : List ℕ) → Some number ≡ piece_text (run (slice_range bs start end)) → prepended ((out ++ slice_range bs at start) ++ number) (joined (pieces Outside (drop end bs))) ≡ total
  turn_done number e = sym (turn (Some number) e ∙ prepended_prepended (out ++ slice_range bs at start) number (joined (pieces Outside (drop end bs))))

  pub turn_fails : None ≡ piece_text (run (slice_range bs start end)) → None ≡ total
  turn_fails e = sym (turn None e)

-- ---- the ends of a run are character boundaries

is_ascii : (c : ℕ) → is_number_char c ≡ true → c < 128
is_ascii c e = grind (arith, tests)

pub start_cut : (bs : List ℕ) (start : ℕ) → start ≤ length bs → (start < length bs → is_number_char (get_or bs start 0) ≡ true) → (start < length bs) ⊎ (length bs ≤ start) → IsCharBoundary bs start
start_cut bs start in_range found (inl h) = IsCharBoundary-before_ascii bs start h (is_ascii (get_or bs start 0) (found h))
start_cut bs start in_range found (inr h) = let there : start ≡ length bs = omega arith in rw there (IsCharBoundary-end bs)

end_cut : (bs : List ℕ) (start end n : ℕ) → IsUtf8 bs → start ≤ length bs → IsCharBoundary bs start → prefix_len is_number_char (drop start bs) ≡ n → end ≡ start + n → IsCharBoundary bs end
end_cut bs start end zero u in_range cut is e = let there : end ≡ start = omega arith in rw there cut
end_cut bs start end (suc n) u in_range cut is e =
    let within = prefix_len-le-length is_number_char (drop start bs) in
    let last : start + n < length bs = omega (arith, length-drop start bs) in
    let there : end ≡ start + n + 1 = omega arith in
    let passes = prefix_len_passes is_number_char (drop start bs) n 0 (omega arith) in
    rw there (IsCharBoundary-after_ascii bs (start + n) u last (is_ascii (get_or bs (start + n) 0) (ap is_number_char (sym (get_or-drop start bs n 0)) ∙ passes)))

pub run_cut : (bs : List ℕ) (start end : ℕ) → IsUtf8 bs → start ≤ length bs → (start < length bs → is_number_char (get_or bs start 0) ≡ true) → end ≡ start + prefix_len is_number_char (drop start bs) → IsCharBoundary bs end
run_cut bs start end u in_range found e = end_cut bs start end (prefix_len is_number_char (drop start bs)) u in_range (start_cut bs start in_range found (cases_lt start (length bs))) refl e

-- ---- the text that replaces a run

pub whole_refused : (s : List ℕ) (b : Bool) → is_whole s ≡ b → None ≡ cond b (Some (whole_part s)) None → None ≡ respelt s
unfolding respelt
whole_refused s true e h = absurd (false≢true (ap is_some h))
whole_refused s false e h = rw e refl

pub whole_respelt : (s w : List ℕ) (b : Bool) → is_whole s ≡ b → Some w ≡ cond b (Some (whole_part s)) None → respelt_whole w ≡ respelt s
unfolding respelt
whole_respelt s w true e h = rw e (ap (λ o. respelt_whole (unwrap_or o [])) h)
whole_respelt s w false e h = absurd (false≢true (sym (ap is_some h)))

pub spelt_number : (s : List ℕ) (b : Bool) (o : Option (List ℕ)) → b ≡ begins_number s → b ≡ true → o ≡ respelt s → o ≡ piece_text (run s)
spelt_number s b o e f h = rw (sym e ∙ f) h
