-- What a listing writes, and what it keeps of its store.
use Rattle.std.specs.Prelude.{◌≡◌, ℕ, List, [], ◌∷◌, false, IsTrue, Option, None, Result, Ok, Err, IfErr}
use Rattle.std.specs.Io.KnownBytes.{Appends}
use Rattle.sqlite.specs.State.{HasCleanDisk}
use Rattle.sqlite_trees.specs.declared.store.Store.{Ghosts}
use Rattle.reg_core.specs.Registry.{Registry}
use Rattle.reg_core.specs.Stored.{Stored}
use Rattle.reg_store.specs.declared.error.StoreError.TheVariants.{Disk}
use Rattle.reg_store.specs.declared.listing.Listing.{Listing}
use Rattle.reg_store.specs.declared.store.cursor.Cursor.{Cursor}
use Rattle.reg_store.specs.declared.store.Store.{Store}
use Rattle.reg_store.specs.declared.store.line_iterator.Lines.{Lines}
use Rattle.reg_store.specs.Failures.{IsFaultOver}
use Rattle.reg_store.specs.NextLines.{store_of, failure_in, HasYielded}
use Rattle.reg_store.specs.Listings.{listing_lines}
use Rattle.reg_store.specs.Spells.{SpellsWhileOpen}
use Rattle.reg_store.specs.Stores.{state_of, has_failed, AddsNoCrashState, StillSpells}
use Rattle.reg_output.specs.Prefixes.{AppendsPrefix}
use Rattle.reg_report.specs.Csv.{WritesLines, header, listing}
use Rattle.reg_report.specs.Keeping.{PreservesListed}
use Rattle.reg_report.specs.StoreResults.{store_result}
use Rattle.reg_report.specs.declared.error.ReportError.{ReportError}
use Rattle.reg_report.specs.declared.error.ReportError.TheVariants.{Store as Stops, OutOfMemory, Write}

-- the lines of a listing, before the first one was read, of a store that hasn't failed
pub record IsAtStart {S : Type 0} {g : Ghosts S} (kind : Listing) (lines : Lines S Cursor g) : Type 0 where
  pub going : failure_in lines ≡ None
  pub unfailed : has_failed (store_of lines) ≡ false
  pub starts : (registry : Registry) → HasYielded lines kind registry []

-- What was written of a listing, by its result. `Writes` is true of bytes if exactly these were written, and `Cuts` if a beginning of them was. After
-- `Ok` it is the whole listing; after a failed write any beginning of it; otherwise its first lines, perhaps none, each in full.
abbrev pub WritesListing : (Writes Cuts : List ℕ → Type 0) → Listing → Registry → Result (Unit {0}) ReportError → Type 0
WritesListing Writes Cuts kind g (Ok done) = Writes (listing kind g)
WritesListing Writes Cuts kind g (Err Write) = Cuts (listing kind g)
WritesListing Writes Cuts kind g (Err OutOfMemory) = WritesLines Writes (header kind ∷ listing_lines kind g)
WritesListing Writes Cuts kind g (Err (Stops error)) = WritesLines Writes (header kind ∷ listing_lines kind g)

-- this project's choice: what a listing writes, and what it keeps of its store
pub record Lists {S : Type 0} {g : Ghosts S} (Writes Cuts : List ℕ → Type 0) (kind : Listing) (old new : Store S g) (result : Result (Unit {0}) ReportError) : Type 0 where
  pub frame : PreservesListed old new result
  pub written : HasCleanDisk (state_of new) → (was : Stored) → SpellsWhileOpen (state_of old) was → WritesListing Writes Cuts kind was.registry result
  -- over tables that spell a registry, the store fails only because of memory or the disk
  pub fault : HasCleanDisk (state_of new) → has_failed old ≡ false → IfErr (store_result result) (IsFaultOver (state_of old) (state_of new))
  pub same : HasCleanDisk (state_of new) → StillSpells (state_of old) (state_of new)
  pub crash : HasCleanDisk (state_of new) → AddsNoCrashState (state_of old) (state_of new)

-- a listing to a writer
pub record PrintsListing {S : Type 0} {g : Ghosts S} (kind : Listing) (old new : Store S g) (writer writer' : Option (List ℕ)) (result : Result (Unit {0}) ReportError) : Type 0 where
  -- a store that has failed yields no line, and nothing is written
  pub failed_before : IsTrue (has_failed old) → (store_result result ≡ Err Disk) × (new ≡ old) × (writer' ≡ writer)
  pub lists : Lists (Appends writer writer') (AppendsPrefix writer writer') kind old new result
