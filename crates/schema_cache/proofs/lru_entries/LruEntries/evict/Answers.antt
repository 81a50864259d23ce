use Rattle.std.proofs.Common.{ap, ◌∙◌, arith}
use Rattle.schema_cache.specs.Entries.{entry_text_bytes}
use Rattle.schema_cache.proofs.TextBytes.{text_bytes-last}
use Rattle.schema_cache.proofs.lru_entries.LruEntries.evict.Goals as goal

pub overflow_sub-self : goal.overflow_sub-self
overflow_sub-self c =
    let all = text_bytes-last c.self.inside.cache.entries in
    let freed = c.freed_bytes.ensures ∙ ap entry_text_bytes c.pop_lru-evicted.ensures.value in
    let kept = c.self.invariant.counted in
    omega arith

pub invariant_of-self : goal.invariant_of-self
invariant_of-self c =
    let all = text_bytes-last c.self.inside.cache.entries in
    let freed = c.freed_bytes.ensures ∙ ap entry_text_bytes c.pop_lru-evicted.ensures.value in
    let kept = c.self.invariant in
    let counted = kept.counted in
    let small = kept.small in
    rw c.pop_lru-evicted.ensures.entries (record { counted = omega arith; small = omega arith; capacity = kept.capacity })
