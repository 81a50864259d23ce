-- The fields of a writer's record, in slots by the reader's ranks of their names, and the source of a reader's field (this project's choice).
use Rattle.std.specs.Prelude.{◌≡◌, ◌⊎◌, ℕ, ◌<◌, ◌≤◌, ◌∷◌, [], List, Option, None, Some, IfSome, get_or, length, map, slice_get}
use Rattle.avro_nodes.specs.Nodes.{FieldView, field_view}
use Rattle.avro_schema.specs.declared.index.FieldRanks.{FieldRanks}
use Rattle.avro_schema.specs.Index.{AreFieldsRanked}
use Rattle.avro_resolve.specs.declared.schemas.Fields.{Fields}
use Rattle.avro_resolve.specs.declared.schemas.SchemaPair.{SchemaPair}
use Rattle.avro_resolve.specs.Asking.{source_place}
use Rattle.avro_resolve.specs.Inside.RankMaps.{mapped_rank}
use Rattle.avro_resolve.specs.Inside.Schemas.{names_of, IsValidSchemaPair}

-- the name ranks of fields
abbrev pub names_in : List FieldRanks → List ℕ
names_in fields = map (λ f. f.name) fields

-- the name of the field at the index has this rank in the reader's schema
abbrev pub HasRank : List (Option ℕ) → List ℕ → ℕ → ℕ → Type 0
HasRank rank_map names k rank = (name : ℕ) × (slice_get names k ≡ Some name) × (mapped_rank rank_map name ≡ Some rank)

-- the field at the index k has this rank, and no field at or after the index n and before k has it; k may be below n
abbrev pub IsFirst : List (Option ℕ) → List ℕ → ℕ → ℕ → ℕ → Type 0
IsFirst rank_map names n k rank = HasRank rank_map names k rank × ((j : ℕ) → n ≤ j → j < k → HasRank rank_map names j rank → ⊥)

-- no field has a name of this rank
abbrev pub NoField : List (Option ℕ) → List ℕ → ℕ → Type 0
NoField rank_map names rank = (k : ℕ) → HasRank rank_map names k rank → ⊥

-- the content of the slot of a rank
abbrev pub slot : List (Option ℕ) → ℕ → Option ℕ
slot slots rank = get_or slots rank None

-- the slots have the fields from an index on, the first of each name, and nothing else
pub record AreInSlots (rank_map : List (Option ℕ)) (names : List ℕ) (n : ℕ) (slots : List (Option ℕ)) : Type 0 where
  pub found : (rank k : ℕ) → slot slots rank ≡ Some k → (n ≤ k) × IsFirst rank_map names n k rank
  pub none : (rank k : ℕ) → rank < length slots → slot slots rank ≡ None → n ≤ k → HasRank rank_map names k rank → ⊥

-- with two schemas: the slots, one for each of the reader's names, have the fields of a writer's place
pub record AreFieldsInSlots (schemas : SchemaPair) (fields : Fields) (slots : List (Option ℕ)) : Type 0 where
  pub both : IsValidSchemaPair schemas
  pub ranked : AreFieldsRanked (names_of schemas.writer) (map field_view fields.fields.now) fields.ranks.now
  pub in_slots : AreInSlots schemas.rank_map.ranks.items (names_in fields.ranks.now) 0 slots
  pub room : length (names_of schemas.reader) ≤ length slots

-- all slots are empty
abbrev pub IsClear : List (Option ℕ) → Type 0
IsClear slots = (rank k : ℕ) → slot slots rank ≡ Some k → ⊥

-- each mapped rank has a slot
abbrev pub HasSlots : List (Option ℕ) → List (Option ℕ) → Type 0
HasSlots slots rank_map = (name rank : ℕ) → mapped_rank rank_map name ≡ Some rank → rank < length slots

-- the first field with the first of these names that any field has, or `None` if no field has one of the names
abbrev pub IsSource : List (Option ℕ) → List ℕ → List ℕ → Option ℕ → Type 0
IsSource rank_map names [] source = source ≡ None
IsSource rank_map names (rank ∷ ranks) source = IfSome source (λ k. IsFirst rank_map names 0 k rank) × (source ≡ None → ⊥) ⊎ NoField rank_map names rank × IsSource rank_map names ranks source

-- for each of the reader's fields the place of the type of its source, or `None` without a source
abbrev pub AreFieldSources : List FieldView → List FieldView → List (Option ℕ) → Type 0
AreFieldSources fields wanted places = places ≡ map (source_place fields) wanted
