use Rattle.std.proofs.Common.{map, nat_cmp}
use Rattle.std.specs.BTreeMap.{get_by}
use Rattle.std.specs.Cmp.Lexicographic.{slice_cmp}
use Rattle.avro_nodes.specs.Nodes.{field_view}
use Rattle.avro_schema.specs.Inside.FieldTables.{CoversFirstFields}
use Rattle.avro_schema.proofs.tables.table_of.Given as goal

abbrev pub invariant-loop-index : goal.invariant-loop-index
invariant-loop-index l = CoversFirstFields l.index l.required.items (λ q. get_by (λ k. slice_cmp nat_cmp q k.now) l.by_name) (map field_view l.fields)
