use Rattle.std.proofs.Common.{take}
use Rattle.std.specs.List.{AllZip}
use Rattle.avro_resolve.specs.Inside.Sources.{DescribesAliasedField}
use Rattle.avro_resolve.proofs.readable.reader_fields_of.Given as goal

abbrev pub invariant-loop-field : goal.invariant-loop-field
invariant-loop-field l = AllZip (DescribesAliasedField l.indexed) (take l.field-index l.aliased) l.wanted.items
