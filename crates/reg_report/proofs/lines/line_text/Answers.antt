use Rattle.std.proofs.Common.{◌≡◌, ◌≢◌, ◌∙◌, ◌<◌, ◌-◌, ◌^◌, map, length, sym, ap, arith}
use Rattle.std.proofs.lemmas.List.{length-map}
use Rattle.std.proofs.lemmas.Simd.{map-map}
use Rattle.std.specs.Slice.Iter.{iter_rest}
use Rattle.csv.specs.declared.writer.QuoteStyle.TheVariants as style
use Rattle.reg_report.proofs.lines.line_text.Goals as goal

pub returns-in-Ok-into_inner : goal.returns-in-Ok-into_inner
returns-in-Ok-into_inner g c =
    let from = c.from_writer-csv.ensures in
    let plain : c.from_writer-csv.result.cfg.style ≢ style.NonNumeric = rw (from.cfg, c.new.ensures) (λ e. cc e) in
    let (start, is, ran) = c.in-Ok.ensures.bytes from.fields from.wrote plain in
    let (run, starts, whole, bytes) = ran in
    let shown : map (λ field. field.now) run.items ≡ c.args.fields.now = (c.iter.ensures.runs run run.seen).4 whole ∙ ap iter_rest (starts ∙ is) ∙ c.iter.ensures.rest in
    let short : length run.items < 2 ^ 64 - 1 = omega (arith, c.requires, sym (length-map run.items (λ field. field.now)) ∙ ap length shown) in
    let fields : map (λ field. g.T.AsSlice.items field.now) run.items ≡ map g.T.AsSlice.items c.args.fields.now = sym (map-map g.T.AsSlice.items (λ field. field.now) run.items) ∙ ap (map g.T.AsSlice.items) shown in
    c.in-Ok-into_inner.ensures.ok ∙ (rw (fields, from.cfg, c.new.ensures, from.wtr, c.new-2.ensures.items, from.empty) at (bytes short))
