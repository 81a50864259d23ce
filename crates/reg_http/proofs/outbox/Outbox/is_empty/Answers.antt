use Rattle.std.proofs.Common.{◌∙◌, sym, ap, length, length-drop, arith}
use Rattle.std.proofs.lemmas.Bool.{eqb-true, eq-eqb}
use Rattle.std.proofs.lemmas.List.{drop_all}
use Rattle.reg_http.proofs.outbox.Outbox.is_empty.Goals as goal

pub returns : goal.returns
returns c =
    let bytes = c.self.inside.bytes in
    let start = c.self.inside.start in
    let size = length-drop start bytes.items in (
      λ test. let at = eqb-true start c.len.result test in sym c.self.view_is ∙ drop_all start bytes.items (omega (arith, at, c.len.ensures, bytes.ok.0)),
      λ none. eq-eqb start c.len.result (omega (arith, size, ap length (c.self.view_is ∙ none), c.len.ensures, bytes.ok.0, c.self.invariant)),
    )
