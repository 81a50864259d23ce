use Rattle.avro_schema.proofs.Covering.{table_decides, last_decides, first_decides, table_is}
use Rattle.serde_json.specs.View.{members_view}
use Rattle.avro_nodes.specs.Nodes.{named_view, field_view, node_view}
use Rattle.std.proofs.Common.{map, refl, sym, ◌∙◌, arith}
use Rattle.avro_schema.proofs.defaults.+fit.Goals as goal

pub table_fits-returns-then-required_fit : goal.table_fits-returns-then-required_fit
table_fits-returns-then-required_fit t c = c.named_fit.ensures ∙ last_decides _ _ _ (sym c.required_fit.ensures ∙ c.if-required_fit.true) (table_decides _ _ _ c.args.table.now c.requires.table)

pub table_fits-returns-else-required_fit : goal.table_fits-returns-else-required_fit
table_fits-returns-else-required_fit t c = c.required_fit.ensures ∙ first_decides _ _ _ (sym c.required_fit.ensures ∙ c.if-required_fit.false) (table_decides _ _ _ c.args.table.now c.requires.table)

pub node_fits-table_fits-requires : goal.node_fits-table_fits-requires
node_fits-table_fits-requires t c = (
  omega arith,
  (c.requires.tables, table_is c.in-Some-table.table.now (node_view c.args.node.now) (named_view c.in-Rec.named) (map field_view c.in-Rec.fields.items) (members_view c.in-Rec.extra.entries) (rw c.in-Some-table.is at c.requires.table) (rw c.in-Rec.is refl)),
)
