use Rattle.std.proofs.Common.{◌∙◌, ◌*◌, ap}
use Rattle.avro_resolve.specs.Inside.Remaining.{count_flags}
use Rattle.avro_resolve.proofs.Flags.{flag_all, ups_all}
use Rattle.avro_resolve.proofs.table.Table.all.Goals as goal

pub returns-clause-whole : goal.returns-clause-whole
returns-clause-whole c i j li lj = flag_all c.in_ok-flags.flags.items c.args.writers c.args.readers i j (c.in_ok-flags.ensures.items_if_clones_equal (λ y h. h)) li lj

pub returns-clause-count : goal.returns-clause-count
returns-clause-count c = ap count_flags (c.in_ok-flags.ensures.items_if_clones_equal (λ y h. h)) ∙ ups_all (c.args.writers * c.args.readers)
