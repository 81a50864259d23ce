use Rattle.std.proofs.Common.{◌++◌, List, ℕ, sym, ap, ◌∙◌}
use Rattle.reg_core.proofs.Quoting.{plain_kept}
use Rattle.reg_core.proofs.json_strings.push_escaped.Goals as goal

pub returns-clause-written : goal.returns-clause-written
returns-clause-written c done =
    c.push_reserved.ensures.items ∙ ap (λ (xs : List ℕ). c.args.out.now.items ++ xs) (sym (plain_kept c.args.byte (sym c.needs_escape.ensures ∙ c.if-needs_escape.false)))
