-- Numbers that identify the kinds of branches.
use Rattle.std.specs.Prelude.{ℕ, ◌+◌, List, Option, option_map}
use Rattle.avro_nodes.specs.declared.node.PrimitiveKind.{PrimitiveKind}
use Rattle.avro_nodes.specs.declared.node.PrimitiveKind.TheVariants.{Null, Boolean, Int, Long, Float, Double, Bytes, Text}
use Rattle.avro_nodes.specs.Nodes.{NodeView}
use Rattle.avro_schema.specs.Kinds.{BranchKind, primitive_kind, array_kind, map_kind, named_kind, branch_kind}
use Rattle.avro_schema.specs.declared.reading.kinds.Branch.{Branch}
use Rattle.avro_schema.specs.declared.reading.kinds.BranchKind.{BranchKind as KindRead}
use Rattle.avro_schema.specs.declared.reading.kinds.BranchKind.TheVariants.{Primitive, Array, Map, Named}

abbrev pub primitive_number : PrimitiveKind → ℕ
primitive_number Null = 0
primitive_number Boolean = 1
primitive_number Int = 2
primitive_number Long = 3
primitive_number Float = 4
primitive_number Double = 5
primitive_number Bytes = 6
primitive_number Text = 7

abbrev pub kind_number : BranchKind → ℕ
kind_number (primitive_kind kind) = primitive_number kind
kind_number array_kind = 8
kind_number map_kind = 9
kind_number (named_kind place) = 10 + place

-- the number of a branch's kind, from the branch's place and the nodes that it added
unfoldable pub branch_kind_number : ℕ → List NodeView → Option ℕ
branch_kind_number place nodes = option_map kind_number (branch_kind place nodes)

-- the kind that a `BranchKind` of the code means; the place identifies a named type
abbrev pub kind_view : ℕ → KindRead → BranchKind
kind_view place (Primitive kind) = primitive_kind kind
kind_view place Array = array_kind
kind_view place Map = map_kind
kind_view place Named = named_kind place

-- a branch: its place and the number of its kind
abbrev pub branch_view : Branch → ℕ × ℕ
branch_view b = (b.place, kind_number (kind_view b.place b.kind))
