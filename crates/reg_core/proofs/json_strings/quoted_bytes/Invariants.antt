use Rattle.std.proofs.Common.{◌≡◌, ◌+◌, ◌*◌, ◌≤◌, ◌∷◌, length, take, vec_len}
use Rattle.std.specs.Prelude.{vec_capacity}
use Rattle.json.specs.Print.{escape}
use Rattle.reg_core.proofs.json_strings.quoted_bytes.Given as goal

abbrev pub invariant-loop-byte : goal.invariant-loop-byte
invariant-loop-byte l =
    record {
      so_far : l.out.items ≡ 34 ∷ escape (take l.byte-index l.bytes);
      room : vec_len l.out ≤ 2 * l.byte-index + 1;
      capacity : 2 * length l.bytes + 1 ≤ vec_capacity l.out;
    }
