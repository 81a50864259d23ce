use Rattle.std.proofs.Common.{◌-◌, inl, inr, arith}
use Rattle.reg_rows.proofs.PositionLemmas.{position_search}
use Rattle.reg_rows.proofs.positions.has_predecessor.Goals as goal

pub returns-in_default : goal.returns-in_default
returns-in_default c =
    let search = position_search c.args.sorted.now (c.args.position.now.0, c.args.position.now.1, c.args.position.now.2 - 1) in (
      λ h. (omega arith, inr (search.0 (c.is_among.ensures.0 h))),
      λ h. elim (h.1) [ inl one ↦ absurd (omega arith) | inr before ↦ c.is_among.ensures.1 (search.1 before) ],
    )
