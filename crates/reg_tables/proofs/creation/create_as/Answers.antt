use Rattle.std.proofs.Common.{◌≡◌, ◌∙◌, List, ℕ, None, lit<, lit≤, codes, [], ◌∷◌}
use Rattle.reg_tables.proofs.Kit.{get, empty, get-empty, get-insert, nat_list_cmp_total, Text}
use Rattle.std.specs.FinMap.{insert}
use Rattle.reg_tables.specs.Contents.{text_cmp}
use Rattle.reg_tables.specs.Changes.{meta_before_level, contents_before_level}
use Rattle.reg_tables.specs.Layout.{meta}
use Rattle.reg_tables.specs.Rooms.{CanBeStored}
use Rattle.reg_tables.proofs.Steps.{turns_failed, turns_from, turns_then}
use Rattle.reg_tables.proofs.StoredRows.{meta_is_keyed, can_be_stored}
use Rattle.reg_tables.proofs.WriteFaults.{write_fault_later}
use Rattle.reg_tables.proofs.creation.create_as.Goals as goal

lacks_global : (number : List ℕ) → get (meta_before_level number) (codes "global") ≡ None
lacks_global number =
    get-insert nat_list_cmp_total (insert empty (codes "format") (codes "avroreg")) (codes "layout") number (codes "global")
    ∙ get-insert nat_list_cmp_total empty (codes "format") (codes "avroreg") (codes "global")
    ∙ get-empty text_cmp (codes "global")

global_fits : CanBeStored meta (Text (codes "global") ∷ Text (codes "BACKWARD") ∷ [])
global_fits = can_be_stored meta meta_is_keyed (Text (codes "global")) (Text (codes "BACKWARD") ∷ []) (tt, (tt, tt)) (lit< tt) (lit≤ tt)

pub returns-in_err-make_numbered : goal.returns-in_err-make_numbered
returns-in_err-make_numbered g c = turns_failed c.in_err-make_numbered.ensures c.from_residual.ensures.1

pub returns : goal.returns
returns g c = turns_then write_fault_later c.in_ok-make_numbered.ensures
    (turns_from (λ _. (contents_before_level c.args.number.now, 1)) (λ _ db held. (held.0, lacks_global c.args.number.now, held.1, global_fits)) c.put_meta.ensures)
