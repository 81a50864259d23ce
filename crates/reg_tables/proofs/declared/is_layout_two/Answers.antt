use Rattle.std.proofs.Common.{inl, inr}
use Rattle.reg_tables.proofs.Kit.{both_ways}
use Rattle.reg_tables.proofs.declared.is_layout_two.Goals as goal

pub returns-then-is_schema : goal.returns-then-is_schema
returns-then-is_schema c = (λ told. inl (c.is_schema.ensures.0 c.if-is_schema.true), λ known. c.if-is_schema.true)

pub returns-else-is_schema : goal.returns-else-is_schema
returns-else-is_schema c = (
  λ told. inr (c.is_schema-else-is_schema.ensures.0 told),
  λ known. elim known [ inl is ↦ absurd (both_ways _ c.if-is_schema.false (c.is_schema.ensures.1 is)) | inr is ↦ c.is_schema-else-is_schema.ensures.1 is ],
)
