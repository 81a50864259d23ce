-- Bits in words of 64, and bits by row and column.
use Rattle.std.proofs.Common.{◌≡◌, ◌≢◌, ℕ, ◌+◌, ◌*◌, ◌/◌, ◌%◌, ◌<◌, ◌≤◌, List, [], Bool, true, false, ◌&&◌, length, get_or, refl, sym, ap, ◌∙◌, arith, inl, inr, get_or-set_other, get_or-set_same}
use Rattle.std.proofs.Math.ListN.{set}
use Rattle.std.specs.Prelude.{◌==◌, if◌then◌else◌, ◌⊎◌, slice_index_or}
use Rattle.std.specs.Int.{bit_at}
use Rattle.std.proofs.lemmas.List.{get_or_past}
use Rattle.std.proofs.lemmas.Nat.{same_from_place, div-add-mod'}
use Rattle.std.proofs.lemmas.Nat.Bits.{bit_at-zero}
use Rattle.std.proofs.lemmas.Bool.{cases_lt}
use Rattle.std.proofs.lemmas.Bool.Decides.{nat_tests}
use Rattle.avro_resolve.specs.Inside.PairSets.{bit}

pub bit_none : (k : ℕ) → bit [] k ≡ false
unfolding bit
bit_none k = rw bit_at-zero refl

-- a bit's index, from its word and its index in the word
same_place : (k m : ℕ) → m / 64 ≡ k / 64 → m % 64 ≡ k % 64 → m ≡ k
same_place k m e f = let p = div-add-mod' m 64 in let q = div-add-mod' k 64 in omega arith

word_cases : (words : List ℕ) (k word : ℕ) (b : Bool) → k / 64 < length words → (bit_at word (k % 64) == 1) ≡ b → ((i : ℕ) → i < 64 → i ≢ k % 64 → bit_at word i ≡ bit_at (get_or words (k / 64) 0) i) → (m : ℕ) (x y : Bool) → (m / 64 == k / 64) ≡ x → (m % 64 == k % 64) ≡ y → bit (set words (k / 64) word) m ≡ (if m == k then b else bit words m)
unfolding bit
word_cases words k word b l e h m true true f g =
    let p : m / 64 ≡ k / 64 = grind (arith, nat_tests) in
    let q : m % 64 ≡ k % 64 = grind (arith, nat_tests) in
    let same : m ≡ k = same_place k m p q in
    let t : (m == k) ≡ true = grind (arith, nat_tests) in
    rw (t, p, q) (rw get_or-set_same e)
word_cases words k word b l e h m false y f g =
    let p : m / 64 ≢ k / 64 = grind (arith, nat_tests) in
    let ne : m ≢ k = λ s. p (ap (λ (x : ℕ). x / 64) s) in
    let t : (m == k) ≡ false = grind (arith, nat_tests) in
    rw t (rw get_or-set_other refl)
word_cases words k word b l e h m true false f g =
    let p : m / 64 ≡ k / 64 = grind (arith, nat_tests) in
    let q : m % 64 ≢ k % 64 = grind (arith, nat_tests) in
    let ne : m ≢ k = λ s. q (ap (λ (x : ℕ). x % 64) s) in
    let t : (m == k) ≡ false = grind (arith, nat_tests) in
    let low : m % 64 < 64 = omega arith in
    rw (t, p) (rw get_or-set_same (ap (λ (x : ℕ). x == 1) (h (m % 64) low q)))

-- the bits after one word changed in one bit
pub bit_set : (words : List ℕ) (k word : ℕ) (b : Bool) → k / 64 < length words → (bit_at word (k % 64) == 1) ≡ b → ((i : ℕ) → i < 64 → i ≢ k % 64 → bit_at word i ≡ bit_at (get_or words (k / 64) 0) i) → (m : ℕ) → bit (set words (k / 64) word) m ≡ (if m == k then b else bit words m)
bit_set words k word b l e h m = word_cases words k word b l e h m (m / 64 == k / 64) (m % 64 == k % 64) refl refl

word_at : (words : List ℕ) (k : ℕ) → length words ≤ k / 64 → get_or words (k / 64) 0 ≡ 0
word_at words k l = get_or_past words (k / 64) 0 l

-- past the last word no bit is set
pub bit_past : (words : List ℕ) (k : ℕ) → length words ≤ k / 64 → bit words k ≡ false
unfolding bit
bit_past words k l = rw (word_at words k l) (bit_none k)

more_cases : (old new : List ℕ) (n : ℕ) → length old ≤ n → length new ≡ n → ((k d : ℕ) → k < n → k < length old → slice_index_or new k d ≡ slice_index_or old k d) → ((k d : ℕ) → length old ≤ k → k < n → slice_index_or new k d ≡ 0) → (m : ℕ) → (m / 64 < length old) ⊎ (length old ≤ m / 64) → (m / 64 < n) ⊎ (n ≤ m / 64) → bit new m ≡ bit old m
unfolding bit
more_cases old new n l e same zero m (inl c) d = ap (λ (word : ℕ). bit_at word (m % 64) == 1) (same (m / 64) 0 (omega arith) c)
more_cases old new n l e same zero m (inr c) (inl d) = ap (λ (word : ℕ). bit_at word (m % 64) == 1) (zero (m / 64) 0 c d ∙ sym (word_at old m c))
more_cases old new n l e same zero m (inr c) (inr d) = ap (λ (word : ℕ). bit_at word (m % 64) == 1) (word_at new m (omega arith) ∙ sym (word_at old m c))

-- words without a set bit are appended
pub bit_more : (old new : List ℕ) (n : ℕ) → length old ≤ n → length new ≡ n → ((k d : ℕ) → k < n → k < length old → slice_index_or new k d ≡ slice_index_or old k d) → ((k d : ℕ) → length old ≤ k → k < n → slice_index_or new k d ≡ 0) → (m : ℕ) → bit new m ≡ bit old m
bit_more old new n l e same zero m = more_cases old new n l e same zero m (cases_lt (m / 64) (length old)) (cases_lt (m / 64) n)

-- the index of a pair determines the pair
pub place_test : (i j a b w : ℕ) → j < w → b < w → (a * w + b == i * w + j) ≡ (a == i && b == j)
place_test i j a b w l k = test_cases (a == i) (b == j) refl refl
  where
    test_cases : (x y : Bool) → (a == i) ≡ x → (b == j) ≡ y → (a * w + b == i * w + j) ≡ (x && y)
    test_cases true true e f =
        let p : a ≡ i = grind (arith, nat_tests) in
        let q : b ≡ j = grind (arith, nat_tests) in
        let s : a * w + b ≡ i * w + j = rw (p, q) refl in
        grind (arith, nat_tests)
    test_cases false y e f =
        let p : a ≢ i = grind (arith, nat_tests) in
        let s : a * w + b ≢ i * w + j = λ g. p (same_from_place a b i j w k l g).0 in
        grind (arith, nat_tests)
    test_cases true false e f =
        let p : b ≢ j = grind (arith, nat_tests) in
        let s : a * w + b ≢ i * w + j = λ g. p (same_from_place a b i j w k l g).1 in
        grind (arith, nat_tests)

pub bit_read : (words : List ℕ) (k : ℕ) → bit words k ≡ (bit_at (get_or words (k / 64) 0) (k % 64) == 1)
unfolding bit
bit_read words k = refl

past_test : (words : List ℕ) (k m : ℕ) (x : Bool) → (m == k) ≡ x → bit words k ≡ false → bit words m ≡ (if x then false else bit words m)
past_test words k m true e h = let same : m ≡ k = grind (arith, nat_tests) in rw same h
past_test words k m false e h = refl

-- clearing a bit past the last word changes nothing
pub past_place : (words : List ℕ) (k m : ℕ) → length words ≤ k / 64 → bit words m ≡ (if m == k then false else bit words m)
past_place words k m l = past_test words k m (m == k) refl (bit_past words k l)
