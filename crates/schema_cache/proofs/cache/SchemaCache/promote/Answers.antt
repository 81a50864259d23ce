use Rattle.std.proofs.Common.{nat_eq, ap, refl}
use Rattle.schema_cache.specs.Cached.{entries_in}
use Rattle.schema_cache.proofs.TextBytes.{lookup-promoted}
use Rattle.schema_cache.proofs.cache.SchemaCache.promote.Goals.{in-Some, in_default}
use Rattle.schema_cache.proofs.cache.SchemaCache.promote.Goals as goal

pub returns : goal.returns
returns c = elim c.match-self.branch [
  | in-Some w ↦
      let before = ap entries_in w.in-Some.is in
      rw (w.self-inside-is, w.promote.ensures, ← c.self.view_is, w.in-Some.is) (lookup-promoted (nat_eq c.args.id) w.in-Some.lru_entries)
  | in_default w ↦ rw (w.self-inside-is, ← c.self.view_is) refl
]
