-- The rows that a SELECT returns over any database.
use Rattle.std.specs.Prelude.{◌≡◌, ℕ, List, [], map, codes, Ok}
use Rattle.sqlite.specs.Order.{Row}
use Rattle.sqlite.specs.Clock.{timed}
use Rattle.sqlite.specs.Effect.{Database, Reads}
use Rattle.sqlite.specs.Listing.{understood, reads_listing, IsSourceOf}
use Rattle.sqlite_resolve.specs.declared.compiled.Compiled.{Compiled}
use Rattle.reg_tables.specs.declared.meta.RawMeta.{RawMeta}
use Rattle.reg_tables.specs.Contents.{pair_form}
use Rattle.reg_tables.specs.Listings.{parts_of, entry_parts, meta_entry}

-- SQLite, SELECT: the statement, which has no parameters, returns these rows of the database
pub record Selects (db : Database) (sql : List ℕ) (rows : List Row) : Type 0 where
  pub compiled : Compiled
  pub compiles : understood db.schema sql ≡ Ok compiled
  pub source : Database
  pub from : IsSourceOf (reads_listing db.schema sql) db source
  -- the time, if the statement reads it
  pub now : ℕ
  pub reads : Reads compiled.command source (timed [] compiled.formats now) rows

-- SQLite returns these rows for `meta`, which may be any table or view
abbrev pub ShowsMeta : Database → List Row → Type 0
ShowsMeta db rows = Selects db (codes "SELECT rowid, name, value FROM meta") rows

-- the lines are the rows that SQLite returns for `meta`, in the same order
pub record ReadsMeta (db : Database) (lines : List RawMeta) : Type 0 where
  pub rows : List Row
  pub shows : ShowsMeta db rows
  pub read : map (parts_of pair_form) rows ≡ map (entry_parts pair_form) (map meta_entry lines)
