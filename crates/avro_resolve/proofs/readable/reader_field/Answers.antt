use Rattle.std.proofs.Common.{refl}
use Rattle.avro_resolve.proofs.SupportLemmas.{default_told}
use Rattle.avro_resolve.proofs.readable.reader_field.Goals as goal

pub returns : goal.returns
returns c = λ texts is. (refl, default_told c.args.field.now.value _ c.is_some.result c.is_some.ensures, is)
