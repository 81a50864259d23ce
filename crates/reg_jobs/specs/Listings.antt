-- The output of a listing.
use Rattle.std.specs.Prelude.{◌∷◌, ℕ, List, Option, Result, Ok, Err}
use Rattle.std.specs.Io.KnownBytes.{Appends}
use Rattle.reg_output.specs.Prefixes.{AppendsPrefix}
use Rattle.reg_core.specs.Registry.{Registry}
use Rattle.reg_store.specs.declared.listing.Listing.{Listing}
use Rattle.reg_store.specs.declared.listing.Listing.TheVariants.{Subjects, Versions, Schemas}
use Rattle.reg_store.specs.declared.error.StoreError.{StoreError}
use Rattle.reg_store.specs.Listings.{listing_lines}
use Rattle.reg_report.specs.Csv.{WritesLines, header, listing}
use Rattle.reg_report.specs.declared.error.ReportError.{ReportError}
use Rattle.reg_report.specs.declared.error.ReportError.TheVariants.{Store, Write, OutOfMemory as ReportOutOfMemory}
use Rattle.reg_cli.specs.declared.task.ListingKind.{ListingKind as Word}
use Rattle.reg_cli.specs.declared.task.ListingKind.TheVariants.{Subjects as WordSubjects, Versions as WordVersions, Schemas as WordSchemas}
use Rattle.reg_jobs.specs.declared.listings.ListOutcome.{ListOutcome}
use Rattle.reg_jobs.specs.declared.listings.ListOutcome.TheVariants.{Whole, Unread, NotWritten, OutOfMemory}

-- the listing that an argument names
abbrev pub listing_of : Word → Listing
listing_of WordSubjects = Subjects
listing_of WordVersions = Versions
listing_of WordSchemas = Schemas

-- the outcome of a listing, by the result of printing it
abbrev pub listed_as : Result (Unit {0}) ReportError → ListOutcome
listed_as (Ok done) = Whole
listed_as (Err (Store error)) = Unread error
listed_as (Err Write) = NotWritten
listed_as (Err ReportOutOfMemory) = OutOfMemory

-- The output of a listing, by its outcome. If the registry couldn't be read to the end, or an allocation failed, its first lines were written,
-- perhaps none, each in full. If a write or the final flush failed, any beginning of the listing was written.
abbrev pub ListsAs : Listing → Registry → Option (List ℕ) → Option (List ℕ) → ListOutcome → Type 0
ListsAs kind g writer writer' Whole = Appends writer writer' (listing kind g)
ListsAs kind g writer writer' (Unread error) = WritesLines (Appends writer writer') (header kind ∷ listing_lines kind g)
ListsAs kind g writer writer' NotWritten = AppendsPrefix writer writer' (listing kind g)
ListsAs kind g writer writer' OutOfMemory = WritesLines (Appends writer writer') (header kind ∷ listing_lines kind g)

-- `P` is true of the store's error, if the registry couldn't be read
abbrev pub IfUnread : ListOutcome → (StoreError → Type 0) → Type 0
IfUnread Whole P = Unit {0}
IfUnread (Unread error) P = P error
IfUnread NotWritten P = Unit {0}
IfUnread OutOfMemory P = Unit {0}
