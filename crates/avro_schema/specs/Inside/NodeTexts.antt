-- All names in nodes, in order of occurrence, with duplicates: full names and their last parts, aliases, field names and symbols.
use Rattle.std.specs.Prelude.{ℕ, List, [], ◌∷◌, ◌++◌, map}
use Rattle.std.specs.Borrow.{Bor}
use Rattle.avro_nodes.specs.Names.{last_part}
use Rattle.avro_nodes.specs.Nodes.{NamedView, FieldView, NodeView, primitive, array, mapping, union, enumeration, fixed, rec}

-- the texts that these references borrow
abbrev pub borrowed : List (Bor (List ℕ)) → List (List ℕ)
borrowed texts = map (λ text. text.now) texts

abbrev pub named_texts : NamedView → List (List ℕ)
named_texts named = last_part named.name ∷ (named.name ∷ named.aliases)

abbrev pub field_texts : FieldView → List (List ℕ)
field_texts field = field.name ∷ field.aliases

-- the names and aliases of the fields
abbrev pub fields_texts : List FieldView → List (List ℕ)
fields_texts [] = []
fields_texts (field ∷ fields) = field_texts field ++ fields_texts fields

abbrev pub node_texts : NodeView → List (List ℕ)
node_texts (primitive kind extra) = []
node_texts (array items extra) = []
node_texts (mapping values extra) = []
node_texts (union branches) = []
node_texts (enumeration named symbols fallback extra) = named_texts named ++ symbols
node_texts (fixed named size extra) = named_texts named
node_texts (rec named fields extra) = named_texts named ++ fields_texts fields

abbrev pub nodes_texts : List NodeView → List (List ℕ)
nodes_texts [] = []
nodes_texts (node ∷ nodes) = node_texts node ++ nodes_texts nodes
