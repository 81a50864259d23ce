-- The kinds of a union's branches, which must be distinct (Avro 1.11 specification, Complex Types, Unions).
use Rattle.std.specs.Prelude.{ℕ, List, [], ◌∷◌, Option, Some, None}
use Rattle.avro_nodes.specs.declared.node.PrimitiveKind.{PrimitiveKind}
use Rattle.avro_nodes.specs.Nodes.{NodeView, primitive, array, mapping, union, enumeration, fixed, rec}

-- Each primitive type is a kind, all arrays are one kind, and all maps are another. Each named type is its own kind, identified by its
-- place.
pub data BranchKind : Type 0 where
  primitive_kind : PrimitiveKind → BranchKind
  array_kind : BranchKind
  map_kind : BranchKind
  named_kind : ℕ → BranchKind

-- The kind of a branch that has this place and added these nodes. A branch that added no nodes is a reference to a named type. A union
-- can't be a branch.
unfoldable pub branch_kind : ℕ → List NodeView → Option BranchKind
branch_kind place [] = Some (named_kind place)
branch_kind place (primitive kind extra ∷ more) = Some (primitive_kind kind)
branch_kind place (array items extra ∷ more) = Some array_kind
branch_kind place (mapping values extra ∷ more) = Some map_kind
branch_kind place (union branches ∷ more) = None
branch_kind place (enumeration named symbols fallback extra ∷ more) = Some (named_kind place)
branch_kind place (fixed named size extra ∷ more) = Some (named_kind place)
branch_kind place (rec named fields extra ∷ more) = Some (named_kind place)
