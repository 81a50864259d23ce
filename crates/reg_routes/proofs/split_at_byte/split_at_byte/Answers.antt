use Rattle.std.proofs.Common.{◌≡◌, ℕ, ◌≤◌, Bool, true, false, List, length, refl}
use Rattle.std.specs.Prelude.{Some, None, cond, nat_lt}
use Rattle.std.specs.List.{position, position_or_len}
use Rattle.std.proofs.lemmas.Bool.{ltb-false}

-- if no byte passes the test, all bytes are before it and none after it
past_the_end : {X : Type 0} (p : X → Bool) (xs : List X) → None ≡ position p xs → length xs ≤ position_or_len p xs
past_the_end p xs e = by (nat_lt (position_or_len p xs) (length xs)) refl e
  where
    by : (b : Bool) → nat_lt (position_or_len p xs) (length xs) ≡ b → None ≡ cond b (Some (position_or_len p xs)) None → length xs ≤ position_or_len p xs
    by true t h = absurd (cc)
    by false t h = ltb-false (position_or_len p xs) (length xs) t

first_position : {X : Type 0} (p : X → Bool) (xs : List X) (at : ℕ) → Some at ≡ position p xs → at ≡ position_or_len p xs
first_position p xs at e = by (nat_lt (position_or_len p xs) (length xs)) e
  where
    by : (b : Bool) → Some at ≡ cond b (Some (position_or_len p xs)) None → at ≡ position_or_len p xs
    by true h = cc
    by false h = absurd (cc)
