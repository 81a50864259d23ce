-- The result of a listing, by how it ended.
use Rattle.std.proofs.Common.{◌≡◌, inl, inr, ℕ, suc, List, [], ◌∷◌, ◌++◌, take, drop, refl, sym, subst}
use Rattle.std.specs.Prelude.{false, IsTrue, Option, Result, Ok, Err, IsErrAnd, IfErr}
use Rattle.std.specs.Io.KnownBytes.{Appends}
use Rattle.std.proofs.KnownBytes.{Appends-nil}
use Rattle.sqlite.specs.State.{HasCleanDisk}
use Rattle.sqlite_trees.specs.declared.store.Store.{Ghosts}
use Rattle.reg_core.specs.Registry.{Registry}
use Rattle.reg_core.specs.Stored.{Stored}
use Rattle.reg_store.specs.declared.error.StoreError.{StoreError}
use Rattle.reg_store.specs.declared.error.StoreError.TheVariants.{Disk}
use Rattle.reg_store.specs.declared.listing.Listing.{Listing}
use Rattle.reg_store.specs.declared.store.cursor.Cursor.{Cursor}
use Rattle.reg_store.specs.declared.store.Store.{Store}
use Rattle.reg_store.specs.declared.store.line_iterator.Lines.{Lines}
use Rattle.reg_store.specs.Failures.{IsFaultOver}
use Rattle.reg_store.specs.NextLines.{HasYielded}
use Rattle.reg_store.specs.Listings.{Fields, listing_lines}
use Rattle.reg_store.specs.Spells.{SpellsWhileOpen}
use Rattle.reg_store.specs.Stores.{state_of, has_failed}
use Rattle.reg_store.proofs.Keeping.{Settles}
use Rattle.reg_output.specs.Prefixes.{AppendsPrefix}
use Rattle.reg_output.proofs.PrefixLemmas.{AppendsPrefix-longer, AppendsPrefix-whole}
use Rattle.reg_report.specs.Csv.{WritesLines, csv_text, header, listing}
use Rattle.reg_report.specs.Buffering.{Output, Puts, Cuts, Buffers, FlushesBuffer}
use Rattle.reg_report.specs.Printing.{WritesListing, Lists as IsListed, PrintsListing}
use Rattle.reg_report.specs.StoreResults.{store_result}
use Rattle.reg_report.specs.declared.error.ReportError.{ReportError}
use Rattle.reg_report.specs.declared.error.ReportError.TheVariants.{Store as Stops, OutOfMemory, Write}
use Rattle.reg_report.proofs.CsvLemmas.{csv_text-take}
use Rattle.reg_report.proofs.BufferLemmas.{Cuts-after, Cuts-longer, Buffers-no_fault, put_flushed, put_cut, stays_cut}
use Rattle.reg_report.proofs.KeepingLemmas.{Keeps, keeps_still, keeps_listed}

-- no line was written yet
pub begun_none : (Writes : List ℕ → Type 0) (lines : List Fields) → Writes [] → WritesLines Writes lines
unfolding csv_text
begun_none Writes lines none = (0, none)

-- the text that was put, if it and these bytes are the first lines of a list
unfoldable pub BeginsLines : Output → Output → List ℕ → List Fields → Type 0
BeginsLines old mid bytes lines = (text : List ℕ) × Puts old mid text × ((count : ℕ) × (text ++ bytes ≡ csv_text (take count lines)))

-- an allocation or a write failed while a line was appended
cut_line : (kind : Listing) (g : Registry) (old mid new : Output) (bytes : List ℕ) (e : ReportError) → Buffers (Err e) mid new bytes
    → WritesLines (Puts old mid) (header kind ∷ listing_lines kind g) → BeginsLines old mid bytes (header kind ∷ listing_lines kind g)
    → WritesListing (Puts old new) (Cuts old new) kind g (Err e)
unfolding BeginsLines
cut_line kind g old mid new bytes OutOfMemory put begun next = subst (λ (o : Output). WritesLines (Puts old o) (header kind ∷ listing_lines kind g)) (sym put) begun
cut_line kind g old mid new bytes Write put begun next =
    let lines = header kind ∷ listing_lines kind g in
    let count = next.2.0 in
    subst (Cuts old new) (csv_text-take count lines)
    (Cuts-longer old new (csv_text (take count lines)) (csv_text (drop count lines)) (subst (Cuts old new) next.2.1 (Cuts-after old mid new next.0 bytes next.1 put)))
cut_line kind g old mid new bytes (Stops error) put begun next = absurd put

-- the buffer is written
flush_whole : (kind : Listing) (g : Registry) (w w' : Option (List ℕ)) (mid : Output) (put : Result (Unit {0}) ReportError) → Appends mid.written w' mid.waiting
    → WritesListing (Puts (record { written = w; waiting = [] }) mid) (Cuts (record { written = w; waiting = [] }) mid) kind g put → WritesListing (Appends w w') (AppendsPrefix w w') kind g put
flush_whole kind g w w' mid (Ok done) flushed lists = put_flushed w w' mid (listing kind g) lists flushed
flush_whole kind g w w' mid (Err OutOfMemory) flushed lists = (lists.0, put_flushed w w' mid _ lists.1 flushed)
flush_whole kind g w w' mid (Err (Stops error)) flushed lists = (lists.0, put_flushed w w' mid _ lists.1 flushed)
flush_whole kind g w w' mid (Err Write) flushed lists = stays_cut w w' mid (listing kind g) lists (AppendsPrefix-whole mid.written w' mid.waiting flushed)

-- a beginning of the first lines is a beginning of the listing
cut_lines : (kind : Listing) (g : Registry) (w w' : Option (List ℕ)) (mid : Output) → AppendsPrefix mid.written w' mid.waiting
    → WritesLines (Puts (record { written = w; waiting = [] }) mid) (header kind ∷ listing_lines kind g) → AppendsPrefix w w' (listing kind g)
cut_lines kind g w w' mid cut lists =
    let lines = header kind ∷ listing_lines kind g in
    subst (AppendsPrefix w w') (csv_text-take lists.0 lines)
    (AppendsPrefix-longer w w' (csv_text (take lists.0 lines)) (csv_text (drop lists.0 lines)) (put_cut w w' mid (csv_text (take lists.0 lines)) lists.1 cut))

-- a beginning of the buffer is written
flush_cut : (kind : Listing) (g : Registry) (w w' : Option (List ℕ)) (mid : Output) (put : Result (Unit {0}) ReportError) → AppendsPrefix mid.written w' mid.waiting
    → WritesListing (Puts (record { written = w; waiting = [] }) mid) (Cuts (record { written = w; waiting = [] }) mid) kind g put → AppendsPrefix w w' (listing kind g)
flush_cut kind g w w' mid (Ok done) cut lists = put_cut w w' mid (listing kind g) lists cut
flush_cut kind g w w' mid (Err OutOfMemory) cut lists = cut_lines kind g w w' mid cut lists
flush_cut kind g w w' mid (Err (Stops error)) cut lists = cut_lines kind g w w' mid cut lists
flush_cut kind g w w' mid (Err Write) cut lists = stays_cut w w' mid (listing kind g) lists cut

module _ {S : Type 0} {g : Ghosts S} where
  -- the header and the lines read so far were written
  pub begun_handed : (Writes : List ℕ → Type 0) (kind : Listing) (lines : Lines S Cursor g) (registry : Registry)
      → (done : List Fields) × HasYielded lines kind registry done × Writes (csv_text (header kind ∷ done)) → WritesLines Writes (header kind ∷ listing_lines kind registry)
  begun_handed Writes kind lines registry it = (suc it.1.count, subst (λ rest. Writes (csv_text (header kind ∷ rest))) it.1.begins it.2)

  -- it ended with an error
  pub lists_early : (Writes Cut : List ℕ → Type 0) (kind : Listing) (a b : Store S g) (r : Result (Unit {0}) ReportError) (e : ReportError) → Keeps a b
      → IsErrAnd r (λ failure. failure ≡ e)
      → (HasCleanDisk (state_of b) → (was : Stored) → SpellsWhileOpen (state_of a) was → WritesListing Writes Cut kind was.registry (Err e))
      → (HasCleanDisk (state_of b) → IfErr (store_result {T = Unit {0}} (Err e)) (IsFaultOver (state_of a) (state_of b))) → IsListed Writes Cut kind a b r
  lists_early Writes Cut kind a b (Ok x) e keeps is written fault = absurd is
  lists_early Writes Cut kind a b (Err failure) e keeps is written fault =
      subst (λ (f : ReportError). IsListed Writes Cut kind a b (Err f)) (sym is) (record {
        frame = keeps_listed a b (Err e) keeps (λ _. tt);
        written = written;
        fault = λ clean _. fault clean;
        same = keeps.same;
        crash = keeps.crash;
      })

  -- an allocation or a write failed while a line was appended
  pub lists_cut : (kind : Listing) (a b : Store S g) (old mid new : Output) (bytes : List ℕ) (r : Result (Unit {0}) ReportError) (e : ReportError) → Keeps a b
      → IsErrAnd r (λ failure. failure ≡ e) → Buffers (Err e) mid new bytes
      → (HasCleanDisk (state_of b) → (was : Stored) → SpellsWhileOpen (state_of a) was
      → WritesLines (Puts old mid) (header kind ∷ listing_lines kind was.registry) × BeginsLines old mid bytes (header kind ∷ listing_lines kind was.registry))
      → IsListed (Puts old new) (Cuts old new) kind a b r
  lists_cut kind a b old mid new bytes r e keeps is put begun =
      lists_early (Puts old new) (Cuts old new) kind a b r e keeps is
      (λ clean was over. (let it = begun clean was over in cut_line kind was.registry old mid new bytes e put it.0 it.1))
      (λ _. Buffers-no_fault mid new bytes e _ put)

  -- all lines were appended
  pub lists_whole : (Writes Cut : List ℕ → Type 0) (kind : Listing) (a b : Store S g) → Keeps a b → (HasCleanDisk (state_of b) → IsTrue (state_of a).is_open)
      → (HasCleanDisk (state_of b) → (was : Stored) → SpellsWhileOpen (state_of a) was → Writes (listing kind was.registry)) → IsListed Writes Cut kind a b (Ok tt)
  lists_whole Writes Cut kind a b keeps was_open whole = record {
    frame = keeps_listed a b (Ok tt) keeps was_open;
    written = whole;
    fault = λ _ _. tt;
    same = keeps.same;
    crash = keeps.crash;
  }

  -- the store had failed before
  pub lists_refused : (kind : Listing) (a : Store S g) (w : Option (List ℕ)) (r : Result (Unit {0}) ReportError) (e : StoreError) → Settles g → IsTrue (has_failed a) → e ≡ Disk
      → IsErrAnd r (λ failure. failure ≡ Stops e) → PrintsListing kind a a w w r
  lists_refused kind a w (Ok x) e settles failed disk is = absurd is
  lists_refused kind a w (Err failure) e settles failed disk is =
      subst (λ (f : ReportError). PrintsListing kind a a w w (Err f)) (sym is) (subst (λ (told : StoreError). PrintsListing kind a a w w (Err (Stops told))) (sym disk) (record {
        failed_before = λ _. (refl, refl, refl);
        lists = record {
          frame = keeps_listed a a (Err (Stops Disk)) (keeps_still settles a) (λ _. tt);
          written = λ _ was over. begun_none (Appends w w) _ (Appends-nil w);
          fault = λ _ unfailed. cc;
          same = (keeps_still settles a).same;
          crash = (keeps_still settles a).crash;
        };
      }))

  -- the buffer is written at the end, or a write fails
  pub lists_ended : (kind : Listing) (a b : Store S g) (w : Option (List ℕ)) (mid : Output) (w' : Option (List ℕ)) (put r : Result (Unit {0}) ReportError) → has_failed a ≡ false
      → IsListed (Puts (record { written = w; waiting = [] }) mid) (Cuts (record { written = w; waiting = [] }) mid) kind a b put → FlushesBuffer put mid w' r
      → PrintsListing kind a b w w' r
  lists_ended kind a b w mid w' put r unfailed lists (inl ended) =
      subst (PrintsListing kind a b w w') (sym ended.0) (record {
        failed_before = λ again. cc;
        lists = record {
          frame = lists.frame;
          written = λ clean was over. flush_whole kind was.registry w w' mid put ended.1 (lists.written clean was over);
          fault = lists.fault;
          same = lists.same;
          crash = lists.crash;
        };
      })
  lists_ended kind a b w mid w' put r unfailed lists (inr failed) =
      subst (PrintsListing kind a b w w') (sym failed.0) (record {
        failed_before = λ again. cc;
        lists = record {
          frame = record { failed = lists.frame.failed; clean = lists.frame.clean; was_open = λ _. tt; connection = lists.frame.connection; settled = lists.frame.settled };
          written = λ clean was over. flush_cut kind was.registry w w' mid put failed.1 (lists.written clean was over);
          fault = λ _ _. tt;
          same = lists.same;
          crash = lists.crash;
        };
      })
