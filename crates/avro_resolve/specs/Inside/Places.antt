-- The places to which a node refers (this project's choice: a schema is a list of nodes, a place is an index).
use Rattle.std.specs.Prelude.{ℕ, ◌<◌, List, All, length}
use Rattle.avro_nodes.specs.Nodes.{NodeView, primitive, array, mapping, union, enumeration, fixed, rec}

-- each place to which a node refers has the property
abbrev pub AllReferences : (ℕ → Type 0) → NodeView → Type 0
AllReferences P (primitive kind _) = Unit {0}
AllReferences P (array place _) = P place
AllReferences P (mapping place _) = P place
AllReferences P (union places) = All P places
AllReferences P (enumeration named symbols fallback _) = Unit {0}
AllReferences P (fixed named size _) = Unit {0}
AllReferences P (rec named fields _) = All (λ f. P f.place) fields

-- each place to which a node refers is below the number
abbrev pub RefersBelow : ℕ → NodeView → Type 0
RefersBelow n a = AllReferences (λ place. place < n) a

-- each node refers only to places of these nodes
abbrev pub IsSelfContained : List NodeView → Type 0
IsSelfContained nodes = All (RefersBelow (length nodes)) nodes
