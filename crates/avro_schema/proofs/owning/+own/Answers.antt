use Rattle.std.proofs.Common.{◌≡◌, ℕ, List, length, true, cond, string_bytes, sym, ap, ◌∙◌, arith, rules}
use Rattle.std.specs.Vec.Iter.{into_iter_items}
use Rattle.serde_json.specs.Data.{put}
use Rattle.serde_json.specs.View.{view, items_view, members_view}
use Rattle.serde_json.proofs.Views.{members_view-insert_entry}
use Rattle.avro_schema.specs.Inside.Reserved.{is_reserved}
use Rattle.avro_schema.specs.Inside.Borrowed.{put_all, value_data}
use Rattle.avro_schema.proofs.AttributeLemmas.{nothing_left}
use Rattle.avro_schema.proofs.BorrowedLemmas.{item_owned, next_item, next_member}
use Rattle.avro_schema.proofs.BorrowedMembers.{read_of}
use Rattle.avro_schema.proofs.Conversions.{items_on-no_items}
use Rattle.avro_schema.proofs.owning.+own.Goals as goal

pub owned_items-owned-requires : goal.owned_items-owned-requires
owned_items-owned-requires t c =
    let h = rw c.into_iter-item-iterator.ensures.into_iter_gives.0 at (next_item _ _ _ _ c.in-Some.ensures.steps.0 c.loop-item.invariant.2).0 in
    let below = c.decreases in
    (omega arith, tt)

pub owned_members-owned-requires : goal.owned_members-owned-requires
owned_members-owned-requires t c =
    let h = (next_member _ _ _ _ c.in-Some.ensures.steps.0 c.loop-name.invariant.2).0 in
    let below = c.decreases in
    (omega arith, tt)

pub owned_items-loop-item-preserved : goal.owned_items-loop-item-preserved
owned_items-loop-item-preserved t c =
    let at = rw c.in-Some.ensures.steps.0 at c.loop-item.invariant.0 in
    let longer = c.in-Some.ensures.steps.1 in
    let short = ap length c.in-Some.ensures.steps.0 in
    let was = c.loop-item.invariant.1 in
    (rw c.in_ok-push.ensures.items (at ∙ item_owned c.loop-item.list.items c.in_ok-owned.field-0 _ _ c.in_ok-owned.ensures), omega arith, (next_item _ _ _ _ c.in-Some.ensures.steps.0 c.loop-item.invariant.2).1)

pub owned_items-returns : goal.owned_items-returns
owned_items-returns t c =
    let empty = nothing_left _ (sym c.in-None.ensures.steps.0 ∙ c.loop-item.invariant.1) in
    rw (← c.into_iter-item-iterator.ensures.into_iter_gives.0) (sym (rw empty at c.loop-item.invariant.0 ∙ items_on-no_items (items_view c.loop-item.list.items)))

pub owned_members-loop-name-preserved : goal.owned_members-loop-name-preserved
owned_members-loop-name-preserved t c =
    let at = rw c.in-Some.ensures.steps.0 at c.loop-name.invariant.0 in
    let longer = c.in-Some.ensures.steps.1 in
    let short = ap length c.in-Some.ensures.steps.0 in
    let was = c.loop-name.invariant.1 in
    let old = members_view c.loop-name.map.entries in
    let v = c.in_ok-value.value in
    let copied : string_bytes c.in_ok-key.key ≡ c.in-Some.name.now = search rules in
    let inserted : members_view c.insert.new.self.entries ≡ put c.in-Some.name.now (value_data c.in-Some.member) old =
    ap members_view c.in_ok-insert.ensures.entries ∙ members_view-insert_entry c.loop-name.map.entries c.in_ok-key.key v ∙ ap (λ (name : List ℕ). put name (view v) old) copied ∙ ap (λ d. put c.in-Some.name.now d old) c.in_ok-value.ensures in
    let reserved : is_reserved c.in-Some.name.now ≡ true = sym c.is_reserved.ensures ∙ c.if-not-is_reserved.false in
    let chosen : cond (is_reserved c.in-Some.name.now) (put c.in-Some.name.now (value_data c.in-Some.member) old) old ≡ members_view c.insert.new.self.entries = ap (λ b. cond b (put c.in-Some.name.now (value_data c.in-Some.member) old) old) reserved ∙ sym inserted in
    (at ∙ ap (put_all (read_of (into_iter_items c.next.new.self))) chosen, omega arith, (next_member _ _ _ _ c.in-Some.ensures.steps.0 c.loop-name.invariant.2).1)
