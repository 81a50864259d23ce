-- Sets of pairs of places, one bit a pair.
use Rattle.std.specs.Prelude.{ℕ, ◌+◌, ◌*◌, ◌/◌, ◌%◌, ◌==◌, List, Bool, slice_index_or}
use Rattle.std.specs.Int.{bit_at}
use Rattle.avro_resolve.specs.declared.pair_set.PairSet.{PairSet}

-- whether the bit at an index is set, in words of 64 bits; false past the last word
unfoldable pub bit : List ℕ → ℕ → Bool
bit words k = bit_at (slice_index_or words (k / 64) 0) (k % 64) == 1

-- if j is a place of the reader: whether the pair is in the set, whose bits are row by row
abbrev pub has : PairSet → ℕ → ℕ → Bool
has s i j = bit s.words.items (i * s.readers + j)
