-- The rule for the numbers in a schema text (this project's choice, stricter than RFC 8259, section 6). Each must be an integer of
-- 64 bits, in a form that `respelt` accepts, and is rewritten in plain decimal digits. The rule applies to the bytes of the text, before
-- it is parsed as JSON.
use Rattle.std.specs.Prelude.{ℕ, ◌^◌, ◌==◌, ◌&&◌, ◌||◌, not, nat_lt, nat_le, if◌then◌else◌, Bool, true, false, ℤ, pos, neg_ℤ, List, [], ◌∷◌, ◌++◌, length, drop, Option, Some, None, option_map, option_and_then, slice_index, codes}
use Rattle.std.specs.Char.{is_ascii_digit}
use Rattle.std.specs.Fmt.{signed_decimal}
use Rattle.std.specs.List.{list_any, list_all, before_first, after_first, position_or_len}
use Rattle.std.specs.Str.Parse.{digits_value}

-- ---- the runs of a text

-- where a byte is: outside the strings, inside one, or inside one after a backslash
pub data StringState : Type 0 where
  Outside : StringState
  Inside : StringState
  Escaped : StringState

-- the state of the next byte, given the state and value of this one (RFC 8259, section 7)
abbrev pub next_state : StringState → ℕ → StringState
next_state Outside c = if c == 34 then Inside else Outside
next_state Inside c = if c == 34 then Outside else (if c == 92 then Escaped else Inside)
next_state Escaped c = Inside

abbrev pub is_outside : StringState → Bool
is_outside Outside = true
is_outside Inside = false
is_outside Escaped = false

abbrev pub is_number_char : ℕ → Bool
is_number_char c = is_ascii_digit c || list_any (λ d. d == c) (codes "+-.eE")

-- a maximal run of number characters outside the strings, or another byte
pub data Piece : Type 0 where
  run : List ℕ → Piece
  other : ℕ → Piece

-- the pieces with one more number character at the front, which joins a run there
abbrev pub in_run : ℕ → List Piece → List Piece
in_run c [] = run (c ∷ []) ∷ []
in_run c (run s ∷ more) = run (c ∷ s) ∷ more
in_run c (other d ∷ more) = run (c ∷ []) ∷ other d ∷ more

-- the pieces of a text whose first byte has this state
unfoldable pub pieces : StringState → List ℕ → List Piece
pieces p [] = []
pieces p (c ∷ cs) = if is_outside p && is_number_char c then in_run c (pieces p cs) else other c ∷ pieces (next_state p c) cs

-- ---- the number of a run

abbrev pub is_point : ℕ → Bool
is_point c = c == 46

abbrev pub is_minus : ℕ → Bool
is_minus c = c == 45

-- all before the first point, or everything if there is none; a sign stays
abbrev pub whole_part : List ℕ → List ℕ
whole_part s = before_first is_point s

-- one or more zeros
abbrev pub are_zeros : List ℕ → Bool
are_zeros ds = not (length ds == 0) && list_all (λ c. c == 48) ds

-- no point, or after the first point one or more zeros and nothing else
abbrev pub is_whole : List ℕ → Bool
is_whole s = (position_or_len is_point s == length s) || are_zeros (after_first is_point s)

-- 0, or digits without a leading 0
abbrev pub is_canonical_decimal : List ℕ → Bool
is_canonical_decimal ds = not (length ds == 0) && list_all is_ascii_digit ds && (not (slice_index ds 0 == 48) || (length ds == 1))

-- whether the number, with its sign, is from -2^63 to 2^64 - 1
abbrev pub in_range : Bool → ℕ → Bool
in_range negative n = if negative then nat_le n (2 ^ 63) else nat_lt n (2 ^ 64)

abbrev pub signed : Bool → ℕ → ℤ
signed negative n = if negative then neg_ℤ (pos n) else pos n

-- the number with this sign and these digits, in plain decimal digits; `None` if they aren't canonical or it is out of range
abbrev pub respelt_digits : Bool → List ℕ → Option (List ℕ)
respelt_digits negative ds = if is_canonical_decimal ds && in_range negative (digits_value 10 ds) then Some (signed_decimal (signed negative (digits_value 10 ds))) else None

-- the same for a whole part, which may begin with `-`
abbrev pub respelt_whole : List ℕ → Option (List ℕ)
respelt_whole w = if is_minus (slice_index w 0) then respelt_digits true (drop 1 w) else respelt_digits false w

-- The number of a run in plain decimal digits: `16.0` becomes `16`, and `-0` becomes `0`. The run must be an optional `-`, then `0` or
-- digits without a leading zero, then nothing, or a point and one or more zeros. Its number must be from -2^63 to 2^64 - 1. Otherwise the
-- result is `None`.
unfoldable pub respelt : List ℕ → Option (List ℕ)
respelt s = if is_whole s then respelt_whole (whole_part s) else None

-- whether a run is a number: it begins with a digit or `-`
abbrev pub begins_number : List ℕ → Bool
begins_number s = is_ascii_digit (slice_index s 0) || is_minus (slice_index s 0)

-- the text that replaces a piece; a run that is no number stays as it is, such as the `e` of `true`
abbrev pub piece_text : Piece → Option (List ℕ)
piece_text (other c) = Some (c ∷ [])
piece_text (run s) = if begins_number s then respelt s else Some s

-- ---- the text

-- `front`, followed by the rest
abbrev pub prepended : List ℕ → Option (List ℕ) → Option (List ℕ)
prepended front rest = option_map (λ r. front ++ r) rest

unfoldable pub joined : List Piece → Option (List ℕ)
joined [] = Some []
joined (p ∷ ps) = option_and_then (λ s. prepended s (joined ps)) (piece_text p)

-- the text with each number rewritten as in `respelt`; `None` if a number breaks that rule
abbrev pub plain : List ℕ → Option (List ℕ)
plain text = joined (pieces Outside text)
