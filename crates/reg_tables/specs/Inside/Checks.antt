-- The CHECK of `versions` as nodes.
use Rattle.std.specs.Prelude.{◌≡◌, ℕ, ℤ, pos, List, slice_index_or}
use Rattle.sqlite.specs.Collation.TheVariants as collation
use Rattle.sqlite.specs.declared.types.Value.TheVariants.{Null, Int}
use Rattle.sqlite_sql.specs.declared.ops.BinaryOp.TheVariants.{Compare, Or}
use Rattle.sqlite_sql.specs.declared.ops.CompareOp.TheVariants.{Eq}
use Rattle.sqlite_schema.specs.declared.code.Op.{Op}
use Rattle.sqlite_schema.specs.declared.code.Op.TheVariants.{Literal, Column, Binary}

-- the node at this index, or the literal NULL past the end
abbrev pub node_at : List Op → ℕ → Op
node_at nodes at = slice_index_or nodes at (Literal Null)

-- the node at this index is: the fourth column = this number
pub record IsTestAt (nodes : List Op) (at : ℕ) (number : ℤ) : Type 0 where
  pub left : ℕ
  pub right : ℕ
  pub test : node_at nodes at ≡ Binary (Compare Eq collation.Binary) left right
  pub column : node_at nodes left ≡ Column 1 4
  pub value : node_at nodes right ≡ Literal (Int number)

-- the node at this index is the check of a flag: the fourth column = 0 OR the fourth column = 1
pub record IsFlagCheckAt (nodes : List Op) (at : ℕ) : Type 0 where
  pub left : ℕ
  pub right : ℕ
  pub either : node_at nodes at ≡ Binary Or left right
  pub zero_test : IsTestAt nodes left (pos 0)
  pub one_test : IsTestAt nodes right (pos 1)
