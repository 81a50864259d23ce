-- Numbers in decimal digits, with an optional leading plus.
use Rattle.std.specs.Prelude.{ℕ, ◌^◌, ◌&&◌, Bool, nat_lt, Option, Some, None, if◌then◌else◌}
use Rattle.std.specs.Str.Parse.{digits_value, without_leading_plus}
use Rattle.clap.specs.ValueTests.{is_numeral}
use Rattle.clap.specs.Words.{Text}

-- whether the text is one or more digits, whose number has at most `bits` bits
abbrev pub fits_in_bits : ℕ → Text → Bool
fits_in_bits bits digits = is_numeral digits && nat_lt (digits_value 10 digits) (2 ^ bits)

-- the number that a text of decimal digits, without a sign, denotes; `None` for any other text, and for a number of more than `bits` bits
abbrev pub decimal_number : ℕ → Text → Option ℕ
decimal_number bits text = if fits_in_bits bits text then Some (digits_value 10 text) else None

-- the number that a text denotes in decimal digits, with an optional leading plus; `None` if it denotes none, or one of more than `bits` bits
abbrev pub unsigned_in : ℕ → Text → Option ℕ
unsigned_in bits text = decimal_number bits (without_leading_plus text)
