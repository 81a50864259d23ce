-- The result of checking `texts`, which counts the ids and then reads the texts in chunks.
use Rattle.std.proofs.Common.{◌≡◌, ℕ, ◌+◌, ◌≤◌, List, [], ◌∷◌, map, length, Bool, false, Ok, Err, Result, IsTrue, sym, ap, subst, ◌∙◌, arith}
use Rattle.std.specs.Prelude.{OnOk}
use Rattle.std.specs.List.{AllByRecursion}
use Rattle.std.specs.List.Sorted.{IsPermutation}
use Rattle.std.proofs.lemmas.Bool.{both_ways}
use Rattle.std.proofs.lemmas.List.{length-map}
use Rattle.std.proofs.lemmas.List.Sorted.{IsPermutation-sym}
use Rattle.std.proofs.lemmas.Simd.{map-map}
use Rattle.sqlite.specs.Schema.{Schema}
use Rattle.sqlite.specs.Effect.{Database}
use Rattle.sqlite.specs.Held.{Held, state}
use Rattle.sqlite.specs.State.{HasCleanDisk}
use Rattle.sqlite_trees.specs.declared.store.Store.{Ghosts}
use Rattle.sqlite_rules.proofs.ListLemmas.{all_has, all_from}
use Rattle.reg_rows.specs.Spelling.{Text, AreConsecutive, IsTextRow}
use Rattle.reg_tables.specs.declared.raw_texts.RawText.{RawText}
use Rattle.reg_tables.specs.Frames.{ReadsInAutocommit}
use Rattle.reg_tables.specs.Listings.{ListsTexts}
use Rattle.reg_tables.specs.Reads.{HoldsReadable}
use Rattle.reg_tables.proofs.ListMembers.{has_permuted}
use Rattle.reg_store.specs.declared.error.StoreError.{StoreError}
use Rattle.reg_store.specs.Opening.{text_columns}
use Rattle.reg_store.specs.Inside.TableChecks.{text_fits, SpellsSome, Checks, TextsPass, NumbersTexts, Judges}
use Rattle.reg_store.specs.Inside.Reads.{SpellsBase, CommitsNothing}
use Rattle.reg_store.proofs.Numbering.{Rises}
use Rattle.reg_store.proofs.CheckLemmas.{each_row, lists_sorted, texts_pass}
use Rattle.reg_store.proofs.TextParts.{within, in_order}
use Rattle.reg_store.proofs.ReadLemmas.{rests_read, rests_on, clean_at, same_db, fault_of_all, disk_cause_of_all}

-- ---- the rows of the whole table

fits_permuted : (old new : List RawText) → IsPermutation old new → AllByRecursion text_fits old → AllByRecursion text_fits new
fits_permuted old new same all = all_from text_fits new (λ line there. all_has text_fits old line all (has_permuted new old line (IsPermutation-sym old new same) there))

numbered_rise : (first : ℕ) (ids : List ℕ) → AreConsecutive first ids → Rises ids
numbered_rise first [] h = tt
numbered_rise first (id ∷ ids) h = (all_from (λ m. id ≤ m) ids (λ m there. let low = (within (first + 1) ids h.1 m there).0 in let is = h.0 in omega (arith, low, is)), numbered_rise (first + 1) ids h.1)

module _ (db : Database) (count : ℕ) (numbers : NumbersTexts db count) (fit : Bool) (it : Judges (ListsTexts db) fit) where
  ordered : (sorted : List RawText) × IsPermutation it.lines sorted × (map (λ (line : RawText). line.id) sorted ≡ numbers.ids)
  ordered = in_order db count numbers it.lines it.lists

  lists : ListsTexts db ordered.0
  lists = lists_sorted db it.lines ordered.0 ordered.1 it.lists

  ids : map (λ (row : ℕ × Text). row.0) (map text_columns ordered.0) ≡ numbers.ids
  ids = map-map (λ (row : ℕ × Text). row.0) text_columns ordered.0 ∙ ordered.2

  pub texts_passed : IsTrue fit → TextsPass db
  texts_passed fits = record {
    lines = ordered.0;
    lists = lists;
    fit = record {
      numbered = subst (AreConsecutive 1) (sym ids) numbers.numbered;
      few =
          let rows = length-map ordered.0 text_columns in
          let line_ids = length-map ordered.0 (λ (line : RawText). line.id) in
          let same = ap length ordered.2 in
          let all = numbers.is in
          let few = numbers.few in
          omega (arith, rows, line_ids, same, all, few);
      identities = each_row text_columns IsTextRow ordered.0 (fits_permuted it.lines ordered.0 ordered.1 (it.judged.0 fits));
    };
  }

  pub texts_allowed : SpellsSome SpellsBase db → fit ≡ false → ⊥
  texts_allowed s unfit =
      let fits = texts_pass db s.stored s.spells ordered.0 lists (subst Rises (sym ids) (numbered_rise 1 numbers.ids numbers.numbered)) in
      both_ways _ unfit (it.judged.1 (fits_permuted ordered.0 it.lines (IsPermutation-sym _ _ ordered.1) (each_fit ordered.0 fits.identities)))
    where
      each_fit : (lines : List RawText) → AllByRecursion IsTextRow (map text_columns lines) → AllByRecursion text_fits lines
      each_fit [] h = tt
      each_fit (line ∷ lines) h = (h.0, each_fit lines h.1)

-- ---- texts in chunks

pub readable_if_spelled : (db : Database) → SpellsSome SpellsBase db → HoldsReadable db
readable_if_spelled db s = let it = s.spells in record { schema = it.schema; known = it.first; contents = it.contents; holds = it.holds; readable = it.readable }

module _ {S : Type 0} (g : Ghosts S) (a c : Held S) (settled : IsTrue (state g a).is_open → (state g a).now ≡ (state g a).committed) where
  stays : {X : Type 0} (r : Result X StoreError) → CommitsNothing (state g a) (state g c) → (HasCleanDisk (state g c) → OnOk r (IsTrue (state g a).is_open)) → ReadsInAutocommit g a c r
  stays r rests was_open = record {
    was_open = was_open;
    only_reads = λ clean. let keeps = rests.commit_stays clean in record { commit_stays = keeps; settled = λ is_open. rests.settled clean is_open (settled (keeps.was_open is_open)) };
    survives = rests.survives;
  }

  same_there : (b : Held S) → CommitsNothing (state g a) (state g b) → HasCleanDisk (state g b) → IsTrue (state g b).is_open → (state g b).now ≡ (state g a).now
  same_there b rests clean = same_db (state g a) (state g b) rests settled clean

  module _ {Declared : Schema → Type 0} {Spelled : Database → Type 0} where
    pub all_read : {X : Type 0} {P : X → Database → Type 0} (x : X) → CommitsNothing (state g a) (state g c) → (HasCleanDisk (state g c) → IsTrue (state g a).is_open)
        → (HasCleanDisk (state g c) → Declared (state g a).now.schema → P x (state g a).now) → Checks Declared Spelled g a c (Ok x) P
    all_read x rests was_open tells = record { frame = stays (Ok x) rests was_open; tells = tells; fault = λ clean. tt; disk_cause = λ clean. tt }

    module _ (b : Held S) (rests : CommitsNothing (state g a) (state g b)) where
      -- reading a chunk failed, after others were read
      pub some_unread : {X Y : Type 0} {P : X → Database → Type 0} {Q : Y → Database → Type 0} (e : StoreError) → Checks {X = X} Declared Spelled g b c (Err e) P → Checks {X = Y} Declared Spelled g a c (Err e) Q
      some_unread e t =
          let step = rests_read g b c (Err e) t.frame in
          let early = clean_at (state g a) (state g b) (state g c) step in
          let was_open : HasCleanDisk (state g c) → IsTrue (state g b).is_open → IsTrue (state g a).is_open = λ clean. (rests.commit_stays (early clean)).was_open in
          record {
            frame = stays (Err e) (rests_on (state g a) (state g b) (state g c) rests step) (λ clean. tt);
            tells = λ clean. tt;
            fault = λ clean can. fault_of_all (state g a) (state g b) (state g c) rests step clean e (t.fault clean (λ is_open. subst Spelled (sym (same_there b rests (early clean) is_open)) (can (was_open clean is_open))));
            disk_cause = λ clean known. disk_cause_of_all (state g a) (state g b) (state g c) rests step clean e (t.disk_cause clean (λ is_open. subst (λ (d : Database). Declared d.schema) (sym (same_there b rests (early clean) is_open)) (known (was_open clean is_open))));
          }

      pub last_read : {X : Type 0} {P : X → Database → Type 0} {R : Database → Type 0} (x : X) → (HasCleanDisk (state g b) → Declared (state g a).now.schema → R (state g a).now) → Checks Declared Spelled g b c (Ok x) P
          → Checks Declared Spelled g a c (Ok x) (λ y db. R db × P y db)
      last_read {P = P} x before t =
          let step = rests_read g b c (Ok x) t.frame in
          let early = clean_at (state g a) (state g b) (state g c) step in
          record {
            frame = stays (Ok x) (rests_on (state g a) (state g b) (state g c) rests step) (λ clean. (rests.commit_stays (early clean)).was_open (t.frame.was_open clean));
            tells = λ clean known.
                (let same = same_there b rests (early clean) (t.frame.was_open clean) in
                (before (early clean) known, subst (P x) same (t.tells clean (subst (λ (d : Database). Declared d.schema) (sym same) known))));
            fault = λ clean. tt;
            disk_cause = λ clean. tt;
          }
