use Rattle.std.proofs.Common.{◌≡◌, ◌∙◌, ◌⊎◌, inl, inr, sym, subst, List, ℕ, None, lit<, lit≤, codes, [], ◌∷◌}
use Rattle.reg_tables.proofs.Kit.{get, empty, get-empty, get-insert, nat_list_cmp_total, Text}
use Rattle.std.specs.FinMap.{insert}
use Rattle.reg_tables.specs.Contents.{text_cmp, TextMap, Contents, TableName, pair_form}
use Rattle.reg_tables.specs.Changes.{no_contents}
use Rattle.reg_tables.specs.Layout.{meta}
use Rattle.reg_tables.specs.Rooms.{CanBeStored}
use Rattle.reg_tables.proofs.Rooms.{room_if_none}
use Rattle.reg_tables.proofs.Steps.{turns_failed, turns_from, turns_then}
use Rattle.reg_tables.proofs.StoredRows.{meta_is_keyed, can_be_stored}
use Rattle.reg_tables.proofs.WriteFaults.{write_fault_later}
use Rattle.reg_tables.proofs.creation.make_numbered.Goals as goal

-- the rows of `meta` before the second is inserted
abbrev first : TextMap (List ℕ)
first = insert empty (codes "format") (codes "avroreg")

abbrev with_first : Contents
with_first = record no_contents { meta = first }

lacks_format : get {R = text_cmp} no_contents.meta (codes "format") ≡ None
lacks_format = get-empty text_cmp (codes "format")

lacks_layout : get first (codes "layout") ≡ None
lacks_layout = get-insert nat_list_cmp_total empty (codes "format") (codes "avroreg") (codes "layout") ∙ get-empty text_cmp (codes "layout")

format_fits : CanBeStored meta (Text (codes "format") ∷ Text (codes "avroreg") ∷ [])
format_fits = can_be_stored meta meta_is_keyed (Text (codes "format")) (Text (codes "avroreg") ∷ []) (tt, (tt, tt)) (lit< tt) (lit≤ tt)

layout_fits : (number : List ℕ) → (number ≡ codes "1") ⊎ (number ≡ codes "2") → CanBeStored meta (Text (codes "layout") ∷ Text number ∷ [])
layout_fits number (inl is) = subst (λ n. CanBeStored meta (Text (codes "layout") ∷ Text n ∷ [])) (sym is) (can_be_stored meta meta_is_keyed (Text (codes "layout")) (Text (codes "1") ∷ []) (tt, (tt, tt)) (lit< tt) (lit≤ tt))
layout_fits number (inr is) = subst (λ n. CanBeStored meta (Text (codes "layout") ∷ Text n ∷ [])) (sym is) (can_be_stored meta meta_is_keyed (Text (codes "layout")) (Text (codes "2") ∷ []) (tt, (tt, tt)) (lit< tt) (lit≤ tt))

pub returns-in_err-make_tables : goal.returns-in_err-make_tables
returns-in_err-make_tables g c = turns_failed c.in_err-make_tables.ensures c.from_residual.ensures.1

pub returns-in_err-put_meta : goal.returns-in_err-put_meta
returns-in_err-put_meta g c =
    let format = turns_from (λ _. (no_contents, 3)) (λ _ db bare. (bare, lacks_format, room_if_none pair_form text_cmp (db.trees meta.tree) (bare.shows TableName.Meta) 4 (lit< tt), format_fits)) c.in_err-put_meta.ensures in
    turns_failed (turns_then write_fault_later c.in_ok-make_tables.ensures format) c.from_residual-in_err-put_meta.ensures.1

pub returns : goal.returns
returns g c =
    let format = turns_from (λ _. (no_contents, 3)) (λ _ db bare. (bare, lacks_format, room_if_none pair_form text_cmp (db.trees meta.tree) (bare.shows TableName.Meta) 4 (lit< tt), format_fits)) c.in_ok-put_meta.ensures in
    let number = turns_from (λ _. (with_first, 2)) (λ _ db held. (held.0, lacks_layout, held.1, layout_fits c.args.number.now c.requires.known)) c.put_meta-2.ensures in
    turns_then write_fault_later (turns_then write_fault_later c.in_ok-make_tables.ensures format) number
