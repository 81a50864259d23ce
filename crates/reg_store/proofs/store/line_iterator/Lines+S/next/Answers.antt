use Rattle.std.proofs.Common.{Some, sym, subst, ◌∙◌}
use Rattle.std.specs.Prelude.{◌≡◌, None}
use Rattle.reg_store.specs.NextLines.{IsCursorAt, failure_in}
use Rattle.reg_store.proofs.NextLineLemmas.{hands_on}
use Rattle.reg_store.proofs.ReadLemmas.{tells_stored}
use Rattle.reg_store.proofs.store.line_iterator.Lines+S.next.Goals as goal

pub returns-in-Ok-clause-tells : goal.returns-in-Ok-clause-tells
returns-in-Ok-clause-tells g c clean =
    let it = tells_stored {WasUsable = failure_in c.args.self.now ≡ None} c.in-Ok.ensures.reads clean in
    record {
      answers = λ was over kind done h.
          hands_on c.args.self.now _ kind was.registry done h c.in-Ok.line (it.answers was over kind h.count (subst (IsCursorAt kind was.registry h.count) (sym c.replace-cursor.ensures.value) h.cursor));
      same = it.same;
      crash = it.crash;
    }

pub returns-in-Err-clause-tells : goal.returns-in-Err-clause-tells
returns-in-Err-clause-tells g c clean =
    let it = tells_stored {WasUsable = failure_in c.args.self.now ≡ None} c.in-Err.ensures.reads clean in
    record { answers = it.answers; same = it.same; crash = it.crash }

pub returns-in-Some-clause-tells : goal.returns-in-Some-clause-tells
returns-in-Some-clause-tells g c clean = record { answers = λ was over going. absurd (let none : Some c.in-Some.error ≡ None = sym c.in-Some.is ∙ going in cc); same = λ was over. over; crash = λ db it. it }
