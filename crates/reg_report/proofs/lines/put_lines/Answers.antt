use Rattle.std.proofs.Common.{◌∙◌, ◌++◌, ◌∷◌, [], suc, map, refl, sym, ap, subst}
use Rattle.std.specs.Prelude.{Err, string_bytes}
use Rattle.csv.specs.Writing.{default_writer, row_text}
use Rattle.reg_store.specs.NextLines.{store_of}
use Rattle.reg_store.specs.Listings.{fields_of}
use Rattle.reg_report.specs.Csv.{csv_text, header}
use Rattle.reg_report.specs.Buffering.{Puts, Cuts, output_of}
use Rattle.reg_report.specs.declared.error.ReportError.TheVariants.{Store as Stops, OutOfMemory}
use Rattle.reg_report.proofs.CsvLemmas.{csv_text-one, csv_text-snoc}
use Rattle.reg_report.proofs.BufferLemmas.{Puts-none, Puts-append}
use Rattle.reg_report.proofs.KeepingLemmas.{keeps_still, keeps_then, fault_on}
use Rattle.reg_report.proofs.PrintingLemmas.{BeginsLines, begun_handed, begun_none, lists_cut, lists_early, lists_whole}
use Rattle.reg_report.proofs.lines.put_lines.Goals as goal

pub loop-init : goal.loop-init
loop-init g c =
    let old = output_of g.W.Write.contents c.args.writer.now c.args.buffer.now in
    let new = output_of g.W.Write.contents c.put_header.new.writer c.put_header.new.buffer in
    record {
      same_reference = refl;
      going = c.requires.going;
      keeps = keeps_still g.met.S.Store.settled (store_of c.args.lines.now);
      written = λ clean was over. ([], c.requires.starts was.registry, subst (Puts old new) (sym (csv_text-one (header c.args.kind))) c.in_ok-put_header.ensures);
    }

pub loop-preserved : goal.loop-preserved
loop-preserved g c =
    let old = output_of g.W.Write.contents c.args.writer.now c.args.buffer.now in
    let mid = output_of g.W.Write.contents c.loop.writer c.loop.buffer in
    let new = output_of g.W.Write.contents c.put_line.new.writer c.put_line.new.buffer in
    let before = c.loop.invariant in
    let it = c.in_ok-line.ensures in
    let line = subst (λ line. Puts mid new (row_text default_writer (map string_bytes line))) c.as_slice.ensures.value c.in_ok-put_line.ensures in
    record {
      same_reference = it.same_reference ∙ before.same_reference;
      going = it.going;
      keeps = keeps_then (store_of c.args.lines.now) (store_of c.loop.lines) (store_of c.next.new.self) _ before.keeps it.frame it.tells;
      written = λ clean was over.
          (let early = it.frame.clean clean in
          let done = before.written early was over in
          let handed = rw c.in-Some.is at ((it.tells clean).answers was (before.keeps.same early was over) c.args.kind done.0 done.1) in
          (done.0 ++ fields_of c.in-Some.line ∷ [], handed, subst (Puts old new) (sym (csv_text-snoc (header c.args.kind ∷ done.0) (fields_of c.in-Some.line))) (Puts-append old mid new _ _ done.2 line)));
    }

pub returns-in_err-put_header-clause-lists : goal.returns-in_err-put_header-clause-lists
unfolding BeginsLines csv_text
returns-in_err-put_header-clause-lists g c =
    let old = output_of g.W.Write.contents c.args.writer.now c.args.buffer.now in
    let new = output_of g.W.Write.contents c.put_header.new.writer c.put_header.new.buffer in
    lists_cut c.args.kind (store_of c.args.lines.now) (store_of c.args.lines.now) old old new (row_text default_writer (header c.args.kind)) c.from_residual.result c.in_err-put_header.field-0.0
    (keeps_still g.met.S.Store.settled (store_of c.args.lines.now)) c.from_residual.ensures.1 c.in_err-put_header.ensures
    (λ _ was over. (begun_none (Puts old old) _ (Puts-none old), ([], Puts-none old, (1, sym (csv_text-one (header c.args.kind))))))

pub returns-in_err-line-clause-lists : goal.returns-in_err-line-clause-lists
returns-in_err-line-clause-lists g c =
    let old = output_of g.W.Write.contents c.args.writer.now c.args.buffer.now in
    let new = output_of g.W.Write.contents c.loop.writer c.loop.buffer in
    let before = c.loop.invariant in
    let it = c.in_err-line.ensures in
    lists_early (Puts old new) (Cuts old new) c.args.kind (store_of c.args.lines.now) (store_of c.next.new.self) c.from_residual-in_err-line.result (Stops c.in_err-line.field-0.0)
    (keeps_then (store_of c.args.lines.now) (store_of c.loop.lines) (store_of c.next.new.self) _ before.keeps it.frame it.tells) c.from_residual-in_err-line.ensures.1
    (λ clean was over. begun_handed (Puts old new) c.args.kind c.loop.lines was.registry (before.written (it.frame.clean clean) was over))
    (λ clean. fault_on (store_of c.args.lines.now) (store_of c.loop.lines) (store_of c.next.new.self) _ before.keeps it.frame clean (it.tells clean) before.going)

pub returns-in_default-clause-lists : goal.returns-in_default-clause-lists
returns-in_default-clause-lists g c =
    let old = output_of g.W.Write.contents c.args.writer.now c.args.buffer.now in
    let new = output_of g.W.Write.contents c.loop.writer c.loop.buffer in
    let before = c.loop.invariant in
    let it = c.in_ok-line.ensures in
    lists_whole (Puts old new) (Cuts old new) c.args.kind (store_of c.args.lines.now) (store_of c.next.new.self)
    (keeps_then (store_of c.args.lines.now) (store_of c.loop.lines) (store_of c.next.new.self) _ before.keeps it.frame it.tells)
    (λ clean. before.keeps.connection.stays_closed (it.frame.clean clean) (it.frame.was_open clean))
    (λ clean was over.
    (let early = it.frame.clean clean in
    let done = before.written early was over in
    let handed = rw c.in_default.is at ((it.tells clean).answers was (before.keeps.same early was over) c.args.kind done.0 done.1) in
    subst (λ lines. Puts old new (csv_text (header c.args.kind ∷ lines))) handed.0 done.2))

pub returns-in_err-put_line-clause-lists : goal.returns-in_err-put_line-clause-lists
unfolding BeginsLines
returns-in_err-put_line-clause-lists g c =
    let old = output_of g.W.Write.contents c.args.writer.now c.args.buffer.now in
    let mid = output_of g.W.Write.contents c.loop.writer c.loop.buffer in
    let new = output_of g.W.Write.contents c.put_line.new.writer c.put_line.new.buffer in
    let before = c.loop.invariant in
    let it = c.in_ok-line.ensures in
    lists_cut c.args.kind (store_of c.args.lines.now) (store_of c.next.new.self) old mid new (row_text default_writer (map string_bytes c.as_slice.result.now))
    c.from_residual-in_err-put_line.result c.in_err-put_line.field-0.0
    (keeps_then (store_of c.args.lines.now) (store_of c.loop.lines) (store_of c.next.new.self) _ before.keeps it.frame it.tells) c.from_residual-in_err-put_line.ensures.1 c.in_err-put_line.ensures
    (λ clean was over.
    (let early = it.frame.clean clean in
    let done = before.written early was over in
    let handed = rw c.in-Some.is at ((it.tells clean).answers was (before.keeps.same early was over) c.args.kind done.0 done.1) in
    let lines = header c.args.kind ∷ done.0 in (
      begun_handed (Puts old mid) c.args.kind c.loop.lines was.registry done,
      (
        csv_text lines,
        done.2,
        (
          suc handed.count,
          ap (λ line. csv_text lines ++ row_text default_writer (map string_bytes line)) c.as_slice.ensures.value
              ∙ (sym (csv_text-snoc lines (fields_of c.in-Some.line)) ∙ ap (λ rest. csv_text (header c.args.kind ∷ rest)) handed.begins),
        ),
      ),
    )))

pub returns-clause-lists : goal.returns-clause-lists
returns-clause-lists g c =
    let old = output_of g.W.Write.contents c.args.writer.now c.args.buffer.now in
    let new = output_of g.W.Write.contents c.loop.writer c.loop.buffer in
    lists_early (Puts old new) (Cuts old new) c.args.kind (store_of c.args.lines.now) (store_of c.loop.lines) (Err OutOfMemory) OutOfMemory c.loop.invariant.keeps refl
    (λ clean was over. begun_handed (Puts old new) c.args.kind c.loop.lines was.registry (c.loop.invariant.written clean was over)) (λ _. tt)
