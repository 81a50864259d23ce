use Rattle.std.proofs.Common.{◌≡◌, ◌-◌, ◌≤◌, length, take, vec_len}
use Rattle.std.specs.Prelude.{vec_capacity}
use Rattle.json.specs.Print.{escape}
use Rattle.reg_core.proofs.json_strings.unescaped.Given as goal

abbrev pub invariant-bytes : goal.invariant-bytes
invariant-bytes l =
    record {
      within : l.at ≤ length l.escaped;
      so_far : escape l.out.items ≡ take l.at l.escaped;
      room : vec_len l.out ≤ l.at;
      capacity : length l.escaped ≤ vec_capacity l.out;
    }

abbrev pub decreases-bytes : goal.decreases-bytes
decreases-bytes l = length l.escaped - l.at
