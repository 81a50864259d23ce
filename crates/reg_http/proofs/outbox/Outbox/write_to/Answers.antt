use Rattle.std.proofs.Common.{◌∙◌, ℕ, List, ◌++◌, take, drop, sym, ap, subst, length, length-take, arith}
use Rattle.std.specs.Io.KnownBytes.{Appends}
use Rattle.std.proofs.lemmas.List.{take-append-drop, drop-drop, take_rest}
use Rattle.reg_http.proofs.outbox.Outbox.write_to.Goals as goal

pub returns-clause-ok : goal.returns-clause-ok
returns-clause-ok g c =
    let items = c.self.inside.bytes.items in
    let start = c.self.inside.start in
    let n = c.in_ok-count.count in
    let wrote = c.in_ok-count.ensures.ok in
    let front = take n (drop start items) in
    let rest = take_rest items start in
    let P : List ℕ → Type 0 = λ t. Appends (g.W.Write.contents c.args.writer.now) (g.W.Write.contents c.write_part.new.writer) (take n t) in (
      front,
      sym c.self.view_is ∙ (sym (take-append-drop n (drop start items)) ∙ ap (λ t. front ++ t) (drop-drop n start items)),
      omega (arith, length-take n (drop start items), rw c.deref.ensures.value at wrote.0, ap length rest),
      subst P rest (rw c.deref.ensures.value at wrote.1),
    )
