use Rattle.std.proofs.Common.{◌≡◌, take, map}
use Rattle.reg_tables.proofs.declared.listed_forms.are_declared.Given as goal

abbrev pub invariant-loop-at : goal.invariant-loop-at
invariant-loop-at g l = take l.at l.items ≡ map g.F.Form.meaning (take l.at l.forms)
