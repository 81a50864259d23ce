use Rattle.std.proofs.Common.{◌∙◌, ◌+◌, ◌++◌, ap, arith}
use Rattle.std.specs.List.{slice_range}
use Rattle.reg_http.proofs.Ranges.{range_on, same_range, whole_length, at_err}
use Rattle.reg_http.proofs.buffer.Buffer.fill.Goals as goal

pub returns-in_err-count-clause-err : goal.returns-in_err-count-clause-err
returns-in_err-count-clause-err g c =
    let made = c.in_ok-first.ensures.ok in
    let read = c.in_err-count.ensures in
    at_err c.from_residual-in_err-count.result (same_range _ _ c.in_ok-first.first c.in_ok-first.last made.0 read.front ∙ (made.3 ∙ c.self.view_is), read.err)

pub returns-clause-ok : goal.returns-clause-ok
returns-clause-ok g c =
    let made = c.in_ok-first.ensures.ok in
    let first = c.in_ok-first.first in
    let last = c.in_ok-first.last in
    let read = c.in_ok-count.ensures in
    let now = c.read_into.new.bytes in
    let n = c.in_ok-count.count in
    let more = slice_range now.items last (last + n) in (
      more,
      range_on now.items first last (last + n) made.0 (omega arith) ∙ ap (λ t. t ++ more) (same_range now.items _ first last made.0 read.front ∙ (made.3 ∙ c.self.view_is)),
      whole_length now.items last (last + n) (omega (arith, read.ok.0, now.ok.0)) ∙ omega arith,
      read.ok.1,
      λ none. read.ok.2 none (omega (arith, made.1)),
    )
