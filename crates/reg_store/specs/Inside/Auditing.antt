-- The evidence that an audit checks, one version after another.
use Rattle.std.specs.Prelude.{◌≡◌, ℕ, List, Some}
use Rattle.std.specs.FinMap.{get}
use Rattle.avro_nodes.specs.Nodes.{NodeView}
use Rattle.reg_core.specs.Evidence.{Evidence, IsTrueForSchema}
use Rattle.reg_core.specs.Registry.{Row, RowKey, schema_at}
use Rattle.reg_core.specs.Stored.{Stored}

abbrev pub HasEvidence : Stored → RowKey → Evidence → Type 0
HasEvidence was key one = get was.evidence key ≡ Some one

abbrev pub HasSchema : Stored → ℕ → List NodeView → Type 0
HasSchema was id nodes = schema_at was.registry.schemas id ≡ Some nodes

-- the version's evidence, if any, is true of this schema
abbrev pub IsTrueAt : Stored → RowKey → List NodeView → Type 0
IsTrueAt was key nodes = (one : Evidence) → HasEvidence was key one → IsTrueForSchema was.registry.schemas nodes one

-- the version's evidence, if any, is true of its own schema
abbrev pub IsTrueFor : Stored → Row → Type 0
IsTrueFor was row = (nodes : List NodeView) → HasSchema was row.1.id nodes → IsTrueAt was row.0 nodes
