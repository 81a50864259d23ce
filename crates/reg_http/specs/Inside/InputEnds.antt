-- How a session ends when its input ends.
use Rattle.std.specs.Prelude.{ℕ, List, [], ◌∷◌}
use Rattle.reg_http.specs.declared.serving.Ended.{Ended}
use Rattle.reg_http.specs.declared.serving.Ended.TheVariants.{Closed, Malformed}

-- how a session ends at the end of its input, by the bytes that are left in the buffer
abbrev pub end_of : List ℕ → Ended
end_of [] = Closed
end_of (byte ∷ bytes) = Malformed
