use Rattle.avro_schema.proofs.Covering.{table_of_record}
use Rattle.avro_schema.proofs.tables.table_if_any.Goals as goal

pub returns-in_ok-table_of-in-Rec : goal.returns-in_ok-table_of-in-Rec
returns-in_ok-table_of-in-Rec c = rw c.in-Rec.is (table_of_record _ _ _ _ (rw c.deref.ensures.value at c.in_ok-table_of-in-Rec.ensures))
