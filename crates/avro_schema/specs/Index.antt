-- The index of a schema: all its names in byte order, without duplicates. The rank of a name is its position in this list (this project's
-- choice).
use Rattle.std.specs.Prelude.{◌≡◌, ℕ, ◌<◌, ◌^◌, List, Some, map, length, slice_get, All, Contains}
use Rattle.std.specs.Cmp.Lexicographic.{slice_cmp}
use Rattle.std.specs.List.{AllPairs, AllZip}
use Rattle.std.specs.List.Sorted.{IsStrictlyIncreasing}
use Rattle.std.specs.Ordering.{nat_cmp}
use Rattle.std.specs.declared.cmp.Ordering.TheVariants.{Less}
use Rattle.avro_nodes.specs.Names.{last_part}
use Rattle.avro_nodes.specs.Nodes.{NamedView, FieldView, NodeView, primitive, array, mapping, union, enumeration, fixed, rec, texts_view}
use Rattle.avro_schema.specs.declared.index.NamedRanks.{NamedRanks}
use Rattle.avro_schema.specs.declared.index.FieldRanks.{FieldRanks}
use Rattle.avro_schema.specs.declared.index.Ranks.{Ranks}
use Rattle.avro_schema.specs.declared.index.Ranks.TheVariants.{Unnamed, Fixed, Enum, Rec}
use Rattle.avro_schema.specs.declared.index.Index.{Index}

-- the names are in byte order, without duplicates
abbrev pub AreStrictlySorted : List (List ℕ) → Type 0
AreStrictlySorted names = AllPairs (λ x y. slice_cmp nat_cmp x y ≡ Less) names

-- the names are in byte order, without duplicates, and fewer than 2^32
pub record AreIndexNames (names : List (List ℕ)) : Type 0 where
  pub rise : AreStrictlySorted names
  pub few : length names < 2 ^ 32

-- the rank of a text is its position among the names
abbrev pub IsRank : List (List ℕ) → List ℕ → ℕ → Type 0
IsRank names text rank = slice_get names rank ≡ Some text

-- the ranks of the texts, in the order of the texts
abbrev pub AreRanks : List (List ℕ) → List (List ℕ) → List ℕ → Type 0
AreRanks names texts ranks = map (λ rank. slice_get names rank) ranks ≡ map (λ text. Some text) texts

-- the ranks of the texts, ascending and without duplicates
pub record AreSortedRanks (names texts : List (List ℕ)) (ranks : List ℕ) : Type 0 where
  pub rise : IsStrictlyIncreasing ranks
  -- the rank of each text is in the list
  pub each : All (λ text. (rank : ℕ) × Contains ranks rank × IsRank names text rank) texts
  -- each rank in the list is the rank of a text
  pub only : All (λ rank. (text : List ℕ) × Contains texts text × IsRank names text rank) ranks

-- the ranks of a definition's names
pub record IsDefinitionRanked (names : List (List ℕ)) (named : NamedView) (ranks : NamedRanks) : Type 0 where
  pub last : IsRank names (last_part named.name) ranks.last
  pub full : IsRank names named.name ranks.full
  pub aliases : AreSortedRanks names named.aliases ranks.aliases.items

-- the ranks of a field's names
pub record IsFieldRanked (names : List (List ℕ)) (field : FieldView) (ranks : FieldRanks) : Type 0 where
  pub name : IsRank names field.name ranks.name
  pub aliases : AreRanks names field.aliases ranks.aliases.items

-- the ranks of each field's names, in the order of the fields
abbrev pub AreFieldsRanked : List (List ℕ) → List FieldView → List FieldRanks → Type 0
AreFieldsRanked names fields ranks = AllZip (IsFieldRanked names) fields ranks

-- ---- the ranks of a node's names, by the form of the node

abbrev pub IsUnnamed : Ranks → Type 0
IsUnnamed Unnamed = Unit {0}
IsUnnamed (Fixed named) = ⊥
IsUnnamed (Enum named symbols) = ⊥
IsUnnamed (Rec named fields) = ⊥

abbrev pub IsFixedRanked : List (List ℕ) → NamedView → Ranks → Type 0
IsFixedRanked names named Unnamed = ⊥
IsFixedRanked names named (Fixed ranks) = IsDefinitionRanked names named ranks
IsFixedRanked names named (Enum ranks symbols) = ⊥
IsFixedRanked names named (Rec ranks fields) = ⊥

abbrev pub IsEnumRanked : List (List ℕ) → NamedView → List (List ℕ) → Ranks → Type 0
IsEnumRanked names named symbols Unnamed = ⊥
IsEnumRanked names named symbols (Fixed ranks) = ⊥
IsEnumRanked names named symbols (Enum ranks by_rank) = IsDefinitionRanked names named ranks × AreSortedRanks names symbols by_rank.items
IsEnumRanked names named symbols (Rec ranks fields) = ⊥

abbrev pub IsRecRanked : List (List ℕ) → NamedView → List FieldView → Ranks → Type 0
IsRecRanked names named fields Unnamed = ⊥
IsRecRanked names named fields (Fixed ranks) = ⊥
IsRecRanked names named fields (Enum ranks symbols) = ⊥
IsRecRanked names named fields (Rec ranks by_rank) = IsDefinitionRanked names named ranks × AreFieldsRanked names fields by_rank.items

abbrev pub IsRanked : List (List ℕ) → NodeView → Ranks → Type 0
IsRanked names (primitive kind extra) ranks = IsUnnamed ranks
IsRanked names (array items extra) ranks = IsUnnamed ranks
IsRanked names (mapping values extra) ranks = IsUnnamed ranks
IsRanked names (union branches) ranks = IsUnnamed ranks
IsRanked names (enumeration named symbols fallback extra) ranks = IsEnumRanked names named symbols ranks
IsRanked names (fixed named size extra) ranks = IsFixedRanked names named ranks
IsRanked names (rec named fields extra) ranks = IsRecRanked names named fields ranks

-- the ranks of each node's names, by place
abbrev pub AreRanked : List (List ℕ) → List NodeView → List Ranks → Type 0
AreRanked names nodes ranks = AllZip (IsRanked names) nodes ranks

-- the index of these nodes: each of their names has a rank; further names aren't excluded
pub record IsIndex (nodes : List NodeView) (index : Index) : Type 0 where
  pub names : AreIndexNames (texts_view index.names.items)
  pub ranked : AreRanked (texts_view index.names.items) nodes index.ranks.items
