use Rattle.std.proofs.Common.{◌≡◌, Some, Err, sym, ap, ◌∙◌}
use Rattle.std.proofs.lemmas.Result.{err_from_is_err_and}
use Rattle.json.specs.Json as json
use Rattle.json.specs.Lex.{tokens}
use Rattle.json.specs.Reads.{token_of}
use Rattle.serde_json.specs.Read.{of_json, converted, max_depth}
use Rattle.avro_schema.specs.declared.error.JsonError.{JsonError}
use Rattle.avro_schema.specs.Inside.Borrowed.{value_data}
use Rattle.avro_schema.proofs.BorrowedReads.{value_is, more_follows, no_json, nothing_more, something_more, json_refused}
use Rattle.avro_schema.proofs.schema.value_of.Goals as goal

pub returns-in_err-value : goal.returns-in_err-value
returns-in_err-value c = λ text p.
    let q = err_from_is_err_and c.from_residual-in_err-value.result c.from_residual-in_err-value.ensures.1 in
    rw q.1 (json_refused c.in_err-value.field-0.0 q.0 _ q.2.0 q.2.1 (λ is. no_json text c.args.respelt.now p (rw c.in_ok-reader.ensures.ok at (c.in_err-value.ensures.invalid (ap (λ (e : JsonError). Err e) is)))))

pub returns-then-is_some : goal.returns-then-is_some
returns-then-is_some c = λ text p.
    let read : converted of_json (json.value max_depth (tokens c.args.respelt.now)) ≡ Some (value_data c.in_ok-value.value, c.tree_at.new.reader) = rw c.in_ok-reader.ensures.ok at c.in_ok-value.ensures.ok in
    let more = something_more token_of c.next.result c.tree_at.new.reader c.next.new.self c.next.ensures.value (sym c.is_some.ensures ∙ c.if-is_some.true) in
    more_follows text c.args.respelt.now p (value_data c.in_ok-value.value) more.0 c.next.new.self (rw more.1 at read)

pub returns : goal.returns
returns c = λ text p.
    let read : converted of_json (json.value max_depth (tokens c.args.respelt.now)) ≡ Some (value_data c.in_ok-value.value, c.tree_at.new.reader) = rw c.in_ok-reader.ensures.ok at c.in_ok-value.ensures.ok in
    let over = nothing_more token_of c.next.result c.tree_at.new.reader c.next.new.self c.next.ensures.value (sym c.is_some.ensures ∙ c.if-is_some.false) in
    value_is text c.args.respelt.now p (value_data c.in_ok-value.value) (rw over at read)
