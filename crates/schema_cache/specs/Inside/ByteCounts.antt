-- The byte count of the entries.
use Rattle.std.specs.Prelude.{◌≡◌, ℕ, ◌≤◌}
use Rattle.lru.specs.LruCache.{LruCache}
use Rattle.schema_cache.specs.Entries.{EntryView, text_bytes, max_entries, max_total_bytes}

-- the count is the total length of the entries' texts, and within its limit, and the capacity is the maximum number of entries
pub record IsCounted (cache : LruCache ℕ EntryView) (bytes : ℕ) : Type 0 where
  pub counted : bytes ≡ text_bytes cache.entries
  pub small : bytes ≤ max_total_bytes
  pub capacity : cache.cap ≡ max_entries
