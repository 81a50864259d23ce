-- The output of a listing, by the result of printing it.
use Rattle.std.proofs.Common.{◌≡◌, ◌⊎◌, inl, inr, ◌∷◌, ℕ, List, take, drop, sym, subst}
use Rattle.std.specs.Prelude.{Option, Result, Ok, Err, IfErr}
use Rattle.std.specs.Io.KnownBytes.{Appends, Keeps}
use Rattle.std.proofs.KnownBytes.{Appends-kept}
use Rattle.reg_core.specs.Registry.{Registry}
use Rattle.reg_store.specs.declared.error.StoreError.{StoreError}
use Rattle.reg_store.specs.declared.listing.Listing.{Listing}
use Rattle.reg_store.specs.Listings.{listing_lines}
use Rattle.reg_output.specs.Prefixes.{AppendsPrefix}
use Rattle.reg_output.proofs.PrefixLemmas.{AppendsPrefix-whole}
use Rattle.reg_report.specs.Csv.{WritesLines, csv_text, header, listing}
use Rattle.reg_report.specs.Printing.{WritesListing}
use Rattle.reg_report.specs.StoreResults.{store_result}
use Rattle.reg_report.specs.declared.error.ReportError.{ReportError}
use Rattle.reg_report.specs.declared.error.ReportError.TheVariants.{Store, Write, OutOfMemory}
use Rattle.reg_report.proofs.CsvLemmas.{csv_text-take}
use Rattle.reg_jobs.specs.declared.listings.ListOutcome.{ListOutcome}
use Rattle.reg_jobs.specs.declared.listings.ListOutcome.TheVariants as listed
use Rattle.reg_jobs.specs.Listings.{IfUnread, ListsAs, listed_as}

-- what was written, by the outcome
pub ListsAs-printed : (kind : Listing) (g : Registry) (writer writer' : Option (List ℕ)) (printed : Result (Unit {0}) ReportError)
    → WritesListing (Appends writer writer') (AppendsPrefix writer writer') kind g printed → ListsAs kind g writer writer' (listed_as printed)
ListsAs-printed kind g writer writer' (Ok done) lists = lists
ListsAs-printed kind g writer writer' (Err (Store error)) lists = lists
ListsAs-printed kind g writer writer' (Err Write) lists = lists
ListsAs-printed kind g writer writer' (Err OutOfMemory) lists = lists

-- flushing changes nothing of the output
ListsAs-kept : (kind : Listing) (g : Registry) (old mid new : Option (List ℕ)) (outcome : ListOutcome) → Keeps mid new → ListsAs kind g old mid outcome → ListsAs kind g old new outcome
ListsAs-kept kind g old mid new listed.Whole kept lists = Appends-kept old mid new _ lists kept
ListsAs-kept kind g old mid new (listed.Unread error) kept lists = (lists.0, Appends-kept old mid new _ lists.1 kept)
ListsAs-kept kind g old mid new listed.NotWritten kept lists = (lists.0, lists.1, Appends-kept old mid new _ lists.2 kept)
ListsAs-kept kind g old mid new listed.OutOfMemory kept lists = (lists.0, Appends-kept old mid new _ lists.1 kept)

-- the first lines are a beginning of the listing
first_lines : (kind : Listing) (g : Registry) (old new : Option (List ℕ)) → WritesLines (Appends old new) (header kind ∷ listing_lines kind g) → AppendsPrefix old new (listing kind g)
first_lines kind g old new lists =
    let lines = header kind ∷ listing_lines kind g in
    (csv_text (take lists.0 lines), (csv_text (drop lists.0 lines), csv_text-take lists.0 lines), lists.1)

-- what was written is a beginning of the listing
ListsAs-begun : (kind : Listing) (g : Registry) (old new : Option (List ℕ)) (outcome : ListOutcome) → ListsAs kind g old new outcome → AppendsPrefix old new (listing kind g)
ListsAs-begun kind g old new listed.Whole lists = AppendsPrefix-whole old new (listing kind g) lists
ListsAs-begun kind g old new (listed.Unread error) lists = first_lines kind g old new lists
ListsAs-begun kind g old new listed.NotWritten lists = lists
ListsAs-begun kind g old new listed.OutOfMemory lists = first_lines kind g old new lists

pub ListsAs-flushed : (kind : Listing) (g : Registry) (old mid new : Option (List ℕ)) (outcome flushed : ListOutcome) → Keeps mid new
    → (flushed ≡ outcome) ⊎ (flushed ≡ listed.NotWritten) → ListsAs kind g old mid outcome → ListsAs kind g old new flushed
ListsAs-flushed kind g old mid new outcome flushed kept (inl same) lists = subst (ListsAs kind g old new) (sym same) (ListsAs-kept kind g old mid new outcome kept lists)
ListsAs-flushed kind g old mid new outcome flushed kept (inr failed) lists =
    subst (ListsAs kind g old new) (sym failed) (ListsAs-begun kind g old new outcome (ListsAs-kept kind g old mid new outcome kept lists))

-- what is true of the store's error, if the registry couldn't be read
IfUnread-printed : (P : StoreError → Type 0) (printed : Result (Unit {0}) ReportError) → IfErr (store_result printed) P → IfUnread (listed_as printed) P
IfUnread-printed P (Ok done) holds = tt
IfUnread-printed P (Err (Store error)) holds = holds
IfUnread-printed P (Err Write) holds = tt
IfUnread-printed P (Err OutOfMemory) holds = tt

pub IfUnread-flushed : (P : StoreError → Type 0) (printed : Result (Unit {0}) ReportError) (outcome flushed : ListOutcome) → outcome ≡ listed_as printed
    → (flushed ≡ outcome) ⊎ (flushed ≡ listed.NotWritten) → IfErr (store_result printed) P → IfUnread flushed P
IfUnread-flushed P printed outcome flushed is (inl same) holds = subst (λ (o : ListOutcome). IfUnread o P) (sym same) (subst (λ (o : ListOutcome). IfUnread o P) (sym is) (IfUnread-printed P printed holds))
IfUnread-flushed P printed outcome flushed is (inr failed) holds = subst (λ (o : ListOutcome). IfUnread o P) (sym failed) tt
