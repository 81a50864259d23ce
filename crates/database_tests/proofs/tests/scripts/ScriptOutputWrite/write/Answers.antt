use Rattle.std.proofs.Common.{rules, ◌≡◌, ◌∙◌, ◌+◌, ◌-◌, ◌++◌, ℕ, List, take, drop, sym, ap, arith}
use Rattle.std.specs.List.{slice_range}
use Rattle.std.proofs.Math.Seq.{take-add}
use Rattle.database_tests.proofs.tests.scripts.ScriptOutputWrite.write.Goals as goal

pub returns-clause-bytes : goal.returns-clause-bytes
returns-clause-bytes c =
    let s = c.args.self.now.size in
    let n = c.min-size.result in
    let due = c.args.self.now.due.now in
    let same : slice_range due s (s + n) ≡ take n c.args.buf.now = search rules in
    let size : (s + n) - s ≡ n = omega arith in
    take-add s n due ∙ ap (λ t. take s due ++ t) (sym (ap (λ k. take k (drop s due)) size) ∙ same)
