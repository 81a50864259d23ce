use Rattle.std.proofs.Common.{◌≡◌, ◌≤◌, Some, get_or, length, subst, List, take_all}
use Rattle.std.specs.Prelude.{slice_get}
use Rattle.std.specs.List.{AllZip}
use Rattle.std.proofs.lemmas.Option.{slice_get-get_or}
use Rattle.avro_resolve.specs.declared.readable.Aliased.{Aliased}
use Rattle.avro_resolve.specs.Inside.Sources.{DescribesAliasedField}
use Rattle.avro_resolve.proofs.LinkLemmas.{zip_more}
use Rattle.avro_resolve.proofs.readable.reader_fields_of.Goals as goal

pub loop-field-preserved : goal.loop-field-preserved
loop-field-preserved c =
    let P = DescribesAliasedField c.args.indexed.now in let all = c.args.aliased.now in let n = c.loop-field.field-index in
    let none : Aliased = record { place = 0; index = 0 } in let e = get_or all n none in
    let at : slice_get all n ≡ Some e = slice_get-get_or all n none c.loop-field-test.true in
    rw c.in_ok-push.ensures.items (zip_more P all n e c.loop-field.wanted.items c.reader_field_of.result at c.loop-field.invariant c.reader_field_of.ensures)

pub returns : goal.returns
returns c =
    let P = DescribesAliasedField c.args.indexed.now in let all = c.args.aliased.now in let n = c.loop-field.field-index in
    let past : length all ≤ n = c.loop-field-test.false in
    subst (λ (xs : List Aliased). AllZip P xs c.loop-field.wanted.items) (take_all n all past) c.loop-field.invariant
