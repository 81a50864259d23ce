use Rattle.std.proofs.Common.{nat_eq, sym, ◌∙◌}
use Rattle.schema_cache.proofs.TextBytes.{text_bytes-promoted}
use Rattle.schema_cache.proofs.lru_entries.LruEntries.promote.Goals as goal

pub invariant_of-self : goal.invariant_of-self
invariant_of-self c =
    let kept = c.self.invariant in
    rw c.promote.ensures.entries (record {
      counted = kept.counted ∙ sym (text_bytes-promoted (nat_eq c.args.id) c.self.inside.cache.entries);
      small = kept.small;
      capacity = kept.capacity;
    })
