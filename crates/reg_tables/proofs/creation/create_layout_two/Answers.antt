use Rattle.std.proofs.Common.{◌≡◌, ◌∙◌, None, lit<, lit≤, codes, [], ◌∷◌}
use Rattle.reg_tables.proofs.Kit.{get, empty, get-empty, get-insert, nat_list_cmp_total, Text}
use Rattle.std.specs.FinMap.{insert}
use Rattle.reg_tables.specs.Contents.{text_cmp}
use Rattle.reg_tables.specs.Changes.{meta_of_layout, contents_of_layout, with_meta}
use Rattle.reg_tables.specs.Layout.{meta}
use Rattle.reg_tables.specs.Rooms.{CanBeStored}
use Rattle.reg_tables.proofs.Steps.{turns_failed, turns_from, turns_then}
use Rattle.reg_tables.proofs.StoredRows.{meta_is_keyed, can_be_stored}
use Rattle.reg_tables.proofs.WriteFaults.{write_fault_later}
use Rattle.reg_tables.proofs.creation.create_layout_two.Goals as goal

lacks_mode : get (meta_of_layout (codes "2") (codes "BACKWARD")) (codes "mode") ≡ None
lacks_mode =
    get-insert nat_list_cmp_total (insert (insert empty (codes "format") (codes "avroreg")) (codes "layout") (codes "2")) (codes "global") (codes "BACKWARD") (codes "mode")
    ∙ get-insert nat_list_cmp_total (insert empty (codes "format") (codes "avroreg")) (codes "layout") (codes "2") (codes "mode")
    ∙ get-insert nat_list_cmp_total empty (codes "format") (codes "avroreg") (codes "mode")
    ∙ get-empty text_cmp (codes "mode")

mode_fits : CanBeStored meta (Text (codes "mode") ∷ Text (codes "READWRITE") ∷ [])
mode_fits = can_be_stored meta meta_is_keyed (Text (codes "mode")) (Text (codes "READWRITE") ∷ []) (tt, (tt, tt)) (lit< tt) (lit≤ tt)

pub returns-in_err-create_as : goal.returns-in_err-create_as
returns-in_err-create_as g c = turns_failed c.in_err-create_as.ensures c.from_residual.ensures.1

pub returns-in_err-put_meta : goal.returns-in_err-put_meta
returns-in_err-put_meta g c =
    let mode = turns_from (λ _. (contents_of_layout (codes "2"), 0)) (λ _ db held. (held.0, lacks_mode, held.1, mode_fits)) c.in_err-put_meta.ensures in
    turns_failed (turns_then write_fault_later c.in_ok-create_as.ensures mode) c.from_residual-in_err-put_meta.ensures.1

pub returns : goal.returns
returns g c =
    let mode = turns_from (λ _. (contents_of_layout (codes "2"), 0)) (λ _ db held. (held.0, lacks_mode, held.1, mode_fits)) c.in_ok-put_meta.ensures in
    let added_tables = turns_from (λ _. with_meta (codes "mode") (codes "READWRITE") (contents_of_layout (codes "2"))) (λ _ db held. held.0) c.add_tables.ensures in
    turns_then write_fault_later (turns_then write_fault_later c.in_ok-create_as.ensures mode) added_tables
