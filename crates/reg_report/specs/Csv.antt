-- Listings as CSV.
use Rattle.std.specs.Prelude.{ℕ, List, [], ◌∷◌, ◌++◌, take, codes}
use Rattle.csv.specs.Writing.{default_writer, row_text}
use Rattle.reg_core.specs.Registry.{Registry}
use Rattle.reg_store.specs.declared.listing.Listing.{Listing}
use Rattle.reg_store.specs.declared.listing.Listing.TheVariants.{Subjects, Versions, Schemas}
use Rattle.reg_store.specs.Listings.{Fields, listing_lines}

-- lines as CSV, each ended by a line feed: commas between the fields, and quotes around those that need them
unfoldable pub csv_text : List Fields → List ℕ
csv_text [] = []
csv_text (line ∷ rest) = row_text default_writer line ++ csv_text rest

-- this project's choice: the header of a listing
abbrev pub header : Listing → Fields
header Subjects = codes "subject" ∷ codes "level" ∷ codes "live" ∷ codes "deleted" ∷ []
header Versions = codes "subject" ∷ codes "version" ∷ codes "id" ∷ codes "deleted" ∷ []
header Schemas = codes "id" ∷ codes "text" ∷ []

-- this project's choice: a header line, and the lines of the listing
abbrev pub listing : Listing → Registry → List ℕ
listing kind g = csv_text (header kind ∷ listing_lines kind g)

-- the first of these lines, perhaps none or all, were written, each in full. `Writes` is true of the bytes that were written
abbrev pub WritesLines : (List ℕ → Type 0) → List Fields → Type 0
WritesLines Writes lines = (count : ℕ) × Writes (csv_text (take count lines))
