use Rattle.std.proofs.Common.{◌≡◌, ◌+◌, true, min, take}
use Rattle.std.specs.List.{list_all}
use Rattle.std.specs.Char.{is_ascii_digit}
use Rattle.std.specs.Str.Parse.{digits_value}
use Rattle.reg_core.proofs.number.parse_number.Given as goal

abbrev pub invariant-loop-digit : goal.invariant-loop-digit
invariant-loop-digit l = record {
  value : l.number ≡ min (digits_value 10 (take l.digit-index l.text)) (l.most + 1);
  digits : list_all is_ascii_digit (take l.digit-index l.text) ≡ true;
}
