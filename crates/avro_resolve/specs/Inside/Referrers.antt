-- The nodes that refer to a place: unions that have it as a branch, and arrays, maps and records by labels.
use Rattle.std.specs.Prelude.{◌≡◌, ◌⊎◌, ℕ, ◌+◌, ◌<◌, List, [], All, Contains, Option, None, Some, length, option_map, slice_get, Vec}
use Rattle.std.specs.Borrow.{Bor}
use Rattle.std.specs.List.Sorted.{IsNonDecreasingBy}
use Rattle.std.specs.declared.alloc.Global.{Global}
use Rattle.avro_nodes.specs.Nodes.{FieldView, NodeView, primitive, array, mapping, union, enumeration, fixed, rec}
use Rattle.avro_schema.specs.declared.index.FieldRanks.{FieldRanks}
use Rattle.avro_schema.specs.Index.{AreFieldsRanked}
use Rattle.avro_resolve.specs.declared.readable.Aliased.{Aliased}
use Rattle.avro_resolve.specs.declared.links.Link.{Link}
use Rattle.avro_resolve.specs.declared.links.LinkKind.{LinkKind}
use Rattle.avro_resolve.specs.declared.links.LinkKind.TheVariants.{ByElement, ByName, ByAlias}
use Rattle.avro_resolve.specs.declared.links.Links.{Links}
use Rattle.avro_resolve.specs.declared.schemas.RankMap.{RankMap}
use Rattle.avro_resolve.specs.declared.schemas.SchemaPair.{SchemaPair}
use Rattle.avro_resolve.specs.Inside.Agreeing.{fields_of}
use Rattle.avro_resolve.specs.Inside.Lists.{list_at, OnlyAdds, IsListedAt}
use Rattle.avro_resolve.specs.Inside.RankMaps.{mapped_rank}
use Rattle.avro_resolve.specs.Inside.Schemas.{columns, names_of, rows}
use Rattle.avro_resolve.specs.Inside.Sources.{entry_at, AreSources}

-- if the node is a union, its place is in the list of each branch
abbrev pub IsUnionListed : List (Vec ℕ Global) → ℕ → NodeView → Type 0
IsUnionListed lists i (union branches) = All (IsListedAt lists i) branches
IsUnionListed lists i (primitive k _) = Unit {0}
IsUnionListed lists i (array place _) = Unit {0}
IsUnionListed lists i (mapping place _) = Unit {0}
IsUnionListed lists i (enumeration named symbols fallback _) = Unit {0}
IsUnionListed lists i (fixed named size _) = Unit {0}
IsUnionListed lists i (rec named fields _) = Unit {0}

-- the node is a union that has the place as a branch
abbrev pub HasBranch : NodeView → ℕ → Type 0
HasBranch (union branches) place = Contains branches place
HasBranch (primitive k _) place = ⊥
HasBranch (array items _) place = ⊥
HasBranch (mapping values _) place = ⊥
HasBranch (enumeration named symbols fallback _) place = ⊥
HasBranch (fixed named size _) place = ⊥
HasBranch (rec named fields _) place = ⊥

-- the list of each place has exactly the unions that have the place as a branch
pub record HasUnions (nodes : List NodeView) (lists : List (Vec ℕ Global)) : Type 0 where
  pub long : length lists ≡ length nodes
  pub within : (i place : ℕ) → IsListedAt lists i place → i < length nodes
  pub named : (i : ℕ) (a : NodeView) → slice_get nodes i ≡ Some a → IsUnionListed lists i a
  pub meant : (i place : ℕ) → IsListedAt lists i place → (a : NodeView) → slice_get nodes i ≡ Some a → HasBranch a place

-- the list has the places of all unions, and perhaps other places of these nodes
pub record HasAllUnions (nodes : List NodeView) (unions : List ℕ) : Type 0 where
  pub within : All (λ i. i < length nodes) unions
  pub all : (i : ℕ) (branches : List ℕ) → slice_get nodes i ≡ Some (union branches) → Contains unions i

-- the node at the place isn't a union
abbrev pub IsNoUnion : List NodeView → ℕ → Type 0
IsNoUnion nodes i = (branches : List ℕ) → slice_get nodes i ≡ Some (union branches) → ⊥

-- the link has the label and the kind
abbrev pub HasLabel : ℕ → LinkKind → Link → Type 0
HasLabel label kind x = (x.label ≡ label) × (x.kind ≡ kind)

-- the link has the label, and is by an alias of the record's field at this index
abbrev pub IsAlias : List Aliased → ℕ → ℕ → ℕ → Link → Type 0
IsAlias aliased referrer index label x = (number : ℕ) × HasLabel label (ByAlias number) x × (slice_get aliased number ≡ Some (record { place = referrer; index = index }))

-- the referrer refers to the place by such a link
abbrev pub LinkedBy : (Link → Type 0) → List (Vec Link Global) → ℕ → ℕ → Type 0
LinkedBy Such lists referrer place = (x : Link) × Such x × (x.referrer ≡ referrer) × IsListedAt lists x place

-- The label of a field's own name. For a writer, given its rank map: the reader's rank of the name, if the reader has it. For a reader, without a
-- rank map: the rank itself.
abbrev pub own_label : Option (List (Option ℕ)) → ℕ → Option ℕ
own_label None rank = Some rank
own_label (Some rank_map) rank = mapped_rank rank_map rank

-- the labels of a field's aliases; a writer's field has none
abbrev pub alias_labels : Option (List (Option ℕ)) → List ℕ → List ℕ
alias_labels None ranks = ranks
alias_labels (Some rank_map) ranks = []

-- the reader's ranks of the writer's names
abbrev pub ranks_of : Option (Bor RankMap) → Option (List (Option ℕ))
ranks_of rank_map = option_map (λ m. m.now.ranks.items) rank_map

-- The list of `place`, the place of the field's type, has the links of the referrer's field at this index, and perhaps others. If the field's own name
-- has a label (`own_label`), one link is by that name; the link doesn't contain the field's index. A reader's field (without a rank map) also has a
-- link by each alias (`IsAlias`).
pub record IsFieldLinked (rank_map : Option (List (Option ℕ))) (links : Links) (referrer index place : ℕ) (ranks : FieldRanks) : Type 0 where
  pub own : (label : ℕ) → own_label rank_map ranks.name ≡ Some label → LinkedBy (HasLabel label ByName) links.lists.items referrer place
  pub aliases : All (λ label. LinkedBy (IsAlias links.aliased.items referrer index label) links.lists.items referrer place) (alias_labels rank_map ranks.aliases.items)

-- the same for each of the referrer's fields
abbrev pub AreFieldsLinked : Option (List (Option ℕ)) → Links → ℕ → List FieldView → List FieldRanks → Type 0
AreFieldsLinked rank_map links referrer fields ranks = (index : ℕ) (f : FieldView) (x : FieldRanks) → slice_get fields index ≡ Some f → slice_get ranks index ≡ Some x → IsFieldLinked rank_map links referrer index f.place x

-- the place of an array's items or of a map's values, or `None` for another node
abbrev pub element_place : NodeView → Option ℕ
element_place (primitive k _) = None
element_place (array place _) = Some place
element_place (mapping place _) = Some place
element_place (union branches) = None
element_place (enumeration named symbols fallback _) = None
element_place (fixed named size _) = None
element_place (rec named fields _) = None

-- The referrer refers to the parts of its node: to items and values by the label 0, and to the types of fields by the labels of the fields, whose
-- name ranks are given.
pub record IsNodeLinked (names : List (List ℕ)) (rank_map : Option (List (Option ℕ))) (links : Links) (referrer : ℕ) (a : NodeView) (ranks : List FieldRanks) : Type 0 where
  pub contained : (place : ℕ) → element_place a ≡ Some place → LinkedBy (HasLabel 0 ByElement) links.lists.items referrer place
  pub ranked : AreFieldsRanked names (fields_of a) ranks
  pub fields : AreFieldsLinked rank_map links referrer (fields_of a) ranks

-- the same for some name ranks
abbrev pub IsPlaceLinked : List (List ℕ) → Option (List (Option ℕ)) → Links → ℕ → NodeView → Type 0
IsPlaceLinked names rank_map links referrer a = (ranks : List FieldRanks) × IsNodeLinked names rank_map links referrer a ranks

-- The link is one of the field at this index, by the rule for the link's kind. By name: the link's label is that of the field's own name; index and
-- referrer aren't tested. By alias: the kind has the number of the referrer's field at this index among the aliased ones; the label isn't tested.
-- By element: never.
abbrev pub IsLinkOfField : Option (List (Option ℕ)) → List Aliased → ℕ → FieldRanks → Link → LinkKind → Type 0
IsLinkOfField rank_map aliased index ranks x ByElement = ⊥
IsLinkOfField rank_map aliased index ranks x ByName = own_label rank_map ranks.name ≡ Some x.label
IsLinkOfField rank_map aliased index ranks x (ByAlias number) = slice_get aliased number ≡ Some (record { place = x.referrer; index = index })

-- one of these fields has its type at the place, and gives such a link
abbrev pub IsLinkOfFields : Option (List (Option ℕ)) → List Aliased → List FieldView → List FieldRanks → Link → ℕ → Type 0
IsLinkOfFields rank_map aliased fields ranks x place = (index : ℕ) × (f : FieldView) × (y : FieldRanks) × (slice_get fields index ≡ Some f) × (slice_get ranks index ≡ Some y) × (f.place ≡ place) × IsLinkOfField rank_map aliased index y x x.kind

-- the node has such a link to the place: by its items or values, or by a field
abbrev pub IsLinkOfNode : List (List ℕ) → Option (List (Option ℕ)) → List Aliased → NodeView → Link → ℕ → Type 0
IsLinkOfNode names rank_map aliased a x place = ((x.kind ≡ ByElement) × (element_place a ≡ Some place)) ⊎ ((ranks : List FieldRanks) × AreFieldsRanked names (fields_of a) ranks × IsLinkOfFields rank_map aliased (fields_of a) ranks x place)

-- only such links were added to the lists of such places, each numbered field keeps its number, and the lists of unions are unchanged
pub record OnlyAddsLinks (Such : Link → ℕ → Type 0) (old new : Links) : Type 0 where
  pub adds : OnlyAdds Such old.lists.items new.lists.items
  pub kept : (number : ℕ) (field : Aliased) → slice_get old.aliased.items number ≡ Some field → slice_get new.aliased.items number ≡ Some field
  pub unions : new.unions ≡ old.unions

-- each list is sorted by label
abbrev pub AreSorted : List (Vec Link Global) → Type 0
AreSorted lists = (place : ℕ) → IsNonDecreasingBy (λ (x : Link). x.label) (list_at lists place)

-- The list of each place has a link for each reference to it, by each label. Its links are only of such references (IsLinkOfNode); the label of a link
-- by element or alias isn't restricted.
pub record HasLinks (names : List (List ℕ)) (rank_map : Option (List (Option ℕ))) (nodes : List NodeView) (links : Links) : Type 0 where
  pub within : (x : Link) (place : ℕ) → IsListedAt links.lists.items x place → x.referrer < length nodes
  pub sorted : AreSorted links.lists.items
  pub named : (i : ℕ) (a : NodeView) → slice_get nodes i ≡ Some a → IsPlaceLinked names rank_map links i a
  pub meant : (x : Link) (place : ℕ) → IsListedAt links.lists.items x place → (a : NodeView) → slice_get nodes x.referrer ≡ Some a → IsLinkOfNode names rank_map links.aliased.items a x place

-- the unions and the links of a schema
pub record HasReferrers (names : List (List ℕ)) (rank_map : Option (List (Option ℕ))) (nodes : List NodeView) (side_links : Links) : Type 0 where
  pub unions : HasUnions nodes side_links.unions.items
  pub links : HasLinks names rank_map nodes side_links

-- the references of both schemas, with the source entries of the reader's fields that have aliases
pub record AreReferrers (schemas : SchemaPair) (writer_links reader_links : Links) (table : List (Vec ℕ Global)) : Type 0 where
  pub writer : HasReferrers (names_of schemas.writer) (Some schemas.rank_map.ranks.items) (rows schemas) writer_links
  pub reader : HasReferrers (names_of schemas.reader) None (columns schemas) reader_links
  pub sources : AreSources (rows schemas) (columns schemas) reader_links.aliased.items table

-- The kinds of two links can match: both are by element, both are by name, or the source of the reader's aliased field has its type at the
-- writer's place.
abbrev pub CanMatchKinds : List (Vec ℕ Global) → ℕ → ℕ → LinkKind → LinkKind → Type 0
CanMatchKinds sources writer_place referrer ByElement ByElement = Unit {0}
CanMatchKinds sources writer_place referrer ByName ByName = Unit {0}
CanMatchKinds sources writer_place referrer ByName (ByAlias number) = entry_at sources referrer number ≡ writer_place + 1
CanMatchKinds sources writer_place referrer _ _ = ⊥

-- The kinds of a writer's link to this place and of a reader's link match. They do if both are by element, or both by name. They also do if the
-- writer's is by name, the reader's by alias, and the source of the reader's field, in the writer's referrer, has its type at this place. `sources`
-- has the source entries of the reader's aliased fields, for each of the writer's places. If such links of two schemas (AreReferrers) have the same
-- label, the pair of their referrers depends (`DependsOn`) on the pair of the places to which they refer.
abbrev pub LinkKindsMatch : List (Vec ℕ Global) → ℕ → Link → Link → Type 0
LinkKindsMatch sources writer_place writer_link reader_link = CanMatchKinds sources writer_place writer_link.referrer writer_link.kind reader_link.kind

-- if two links, one of each list, have the same label and matching kinds, their referrers are in the relation
abbrev pub Joins : List (Vec ℕ Global) → ℕ → (ℕ → ℕ → Type 0) → List Link → List Link → Type 0
Joins sources place Looked xs ys = (x y : Link) → Contains xs x → Contains ys y → x.label ≡ y.label → LinkKindsMatch sources place x y → Looked x.referrer y.referrer
