use Rattle.std.proofs.Common.{◌≡◌, ◌+◌, ◌≤◌, ◌<◌, sym, ap, subst, ◌∙◌, arith, length, nat_eq}
use Rattle.std.specs.Cmp.{nat_eq_equiv}
use Rattle.std.specs.Map.{lookup}
use Rattle.lru.proofs.CallerLemmas.{lookup-put_entries}
use Rattle.schema_cache.specs.Entries.{entry_text_bytes, text_bytes, max_total_bytes, max_entries, HasRoom}
use Rattle.schema_cache.proofs.TextBytes.{text_bytes-put, lookup-put_other}
use Rattle.schema_cache.proofs.lru_entries.LruEntries.add.Goals as goal

pub overflow_sub-self : goal.overflow_sub-self
overflow_sub-self c =
    let cache = c.self.inside.cache in
    let cap = c.self.invariant.capacity in
    let few : length cache.entries < max_entries = rw c.self.view_is c.make_room.ensures.few in
    let all = text_bytes-put nat_eq cache c.args.id c.args.entry (omega arith) (omega arith) in
    let replaced = c.freed_bytes.ensures ∙ ap entry_text_bytes c.in-Ok.ensures.old in
    let kept = c.self.invariant.counted in
    let text = ap length c.text-text_len.ensures.text in
    omega arith

pub invariant_of-self : goal.invariant_of-self
invariant_of-self c =
    let cache = c.self.inside.cache in
    let cap = c.self.invariant.capacity in
    let few : length cache.entries < max_entries = rw c.self.view_is c.make_room.ensures.few in
    let room : text_bytes cache.entries + length c.text-text_len.result.now ≤ max_total_bytes = rw c.self.view_is c.make_room.ensures.text_bytes in
    let all = text_bytes-put nat_eq cache c.args.id c.args.entry (omega arith) (omega arith) in
    let replaced = c.freed_bytes.ensures ∙ ap entry_text_bytes c.in-Ok.ensures.old in
    let kept = c.self.invariant.counted in
    let text = ap length c.text-text_len.ensures.text in
    rw c.in-Ok.ensures.entries (record { counted = omega arith; small = omega arith; capacity = cap })

pub returns-in-Ok-clause-ok : goal.returns-in-Ok-clause-ok
returns-in-Ok-clause-ok c = rw c.in-Ok.ensures.entries (lookup-put_entries nat_eq c.self.inside.cache c.args.id c.args.entry nat_eq_equiv)

pub returns-in-Ok-clause-kept : goal.returns-in-Ok-clause-kept
returns-in-Ok-clause-kept c room other apart =
    let cache = c.self.inside.cache in
    let cap = c.self.invariant.capacity in
    let few : length cache.entries < max_entries = rw c.self.view_is c.make_room.ensures.few in
    let one_more : length cache.entries < cache.cap = omega arith in
    let same : c.make_room.new.self ≡ c.args.self.now = c.make_room.ensures.kept (subst (λ n. HasRoom n c.args.self.now) (sym (ap length c.text-text_len.ensures.text)) room) in
    rw c.in-Ok.ensures.entries (lookup-put_other cache c.args.id c.args.entry one_more other apart ∙ ap (lookup (nat_eq other)) (c.self.view_is ∙ same))
