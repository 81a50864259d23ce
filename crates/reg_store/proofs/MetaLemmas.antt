-- The layout that the rows of `meta` name.
use Rattle.std.proofs.Common.{◌≡◌, ◌<◌, ◌⊎◌, inl, inr, ℕ, List, [], map, Bool, true, false, Option, Some, None, Ok, Err, Result, IsTrue, codes, refl, sym, ap, subst, ◌∙◌, arith}
use Rattle.std.specs.Prelude.{IfOk, IfErr, IsErrAnd, ◌&&◌, nat_lt, option_and_then, if◌then◌else◌}
use Rattle.std.specs.FinMap.{get, get-from_entries}
use Rattle.std.proofs.lemmas.Bool.{and_parts, both_ways}
use Rattle.std.proofs.lemmas.Bool.Decides.{nat_tests}
use Rattle.std.specs.List.Sorted.{IsPermutation}
use Rattle.std.proofs.lemmas.List.Sorted.{IsPermutation-refl}
use Rattle.sqlite.specs.Order.{Row}
use Rattle.sqlite.specs.Effect.{Database}
use Rattle.sqlite.specs.Schema.{Schema}
use Rattle.sqlite.specs.Held.{Held, state}
use Rattle.sqlite.specs.State.{State, HasCleanDisk}
use Rattle.sqlite.specs.declared.error.Error.{Error}
use Rattle.sqlite_trees.specs.declared.store.Store.{Ghosts}
use Rattle.reg_tables.specs.declared.meta.RawMeta.{RawMeta}
use Rattle.reg_tables.specs.Layout.{HasFiveTables, meta}
use Rattle.reg_tables.specs.Contents.{pair_form, text_cmp}
use Rattle.reg_tables.specs.Frames.{ReadsInAutocommit}
use Rattle.reg_tables.specs.Listings.{RowParts, Lists, entry_parts, without_rowid, meta_entry, ListsMeta}
use Rattle.reg_tables.specs.Selects.{ReadsMeta}
use Rattle.reg_tables.specs.Reads.{CanBeRead, HasReadableMeta, CanReadMeta}
use Rattle.reg_tables.specs.FailedCalls.{IsFault}
use Rattle.reg_tables.proofs.KeyedTables.{text_order, distinct_texts}
use Rattle.reg_tables.proofs.ListingLemmas.{find_had, stored, listed_if_shown}
use Rattle.reg_tables.proofs.UniqueKeys.{rowids_of}
use Rattle.reg_tables.proofs.Tables.{openable_has_eight, five, eight_has_five}
use Rattle.reg_tables.proofs.Statements.{laid_out, one_has_five}
use Rattle.reg_rows.specs.Meta.{value_of, layout_one_names, layout_two_names, value_equals, has_level, has_mode, has_common, has_only_known_names, number_in, layout_of}
use Rattle.reg_store.specs.declared.error.StoreError.{StoreError}
use Rattle.reg_store.specs.declared.error.StoreError.TheVariants.{Memory, Disk, NotARegistry, OldLayout, NewerLayout}
use Rattle.reg_store.specs.declared.layout.Layout.{Layout}
use Rattle.reg_store.specs.declared.layout.Layout.TheVariants.{One, Two}
use Rattle.reg_store.specs.Failures.{failure_of, IsFaultBy, HasDiskCause}
use Rattle.reg_store.specs.Opening.{HasMetaRow, RowsNameLayout, NamesLayout, ShowsLayout, HasOtherLayout, layout_error, HasMetaNumberOf, ReportsOther}
use Rattle.reg_store.specs.Inside.TableChecks.{AreDistinct, pairs_of, number_of, is_meta_of, PassesMeta, RequiresLayout, JudgesMeta, MetaPass, SpellsAs, Checks}
use Rattle.reg_store.proofs.Bases.{some_of_one, some_unopened}
use Rattle.reg_store.proofs.MetaRows.{value_is, layout_is, meta_found, meta_fit, layout_two_meta_fit}
use Rattle.reg_store.proofs.LayoutNumbers.{above_zero}
use Rattle.reg_store.proofs.Failing.{fault_if_by, fault_by, disk_cause_if_by, number_if_plain, plain_if_by, passed}
use Rattle.reg_store.proofs.Maps.{same_bytes}
use Rattle.reg_store.proofs.CheckLemmas.{framed, some_known, some_can_be_read}

layout_named : (number : ℕ) (text : List ℕ) (lines : List RawMeta) → number_in text ≡ Some number → has_common text (pairs_of lines) ≡ true → layout_of (pairs_of lines) ≡ Some number
layout_named number text lines is common =
    let format = value_equals (codes "avroreg") (value_of (codes "format") (pairs_of lines)) in
    let layout = value_equals text (value_of (codes "layout") (pairs_of lines)) in
    let one = (and_parts format layout (and_parts (format && layout) (has_level (value_of (codes "global") (pairs_of lines))) common).0).0 in
    ap (λ b. if b then option_and_then number_in (value_of (codes "layout") (pairs_of lines)) else None) one ∙ ap (option_and_then number_in) (layout_is lines text common) ∙ is

names_own : (layout : Layout) (lines : List RawMeta) → IsTrue (is_meta_of layout (pairs_of lines)) → layout_of (pairs_of lines) ≡ Some (number_of layout)
names_own One lines passes = layout_named 1 (codes "1") lines refl (and_parts (has_common (codes "1") (pairs_of lines)) (has_only_known_names layout_one_names (pairs_of lines)) passes).0
names_own Two lines passes =
    let parts = and_parts (has_common (codes "2") (pairs_of lines) && has_mode (value_of (codes "mode") (pairs_of lines))) (has_only_known_names layout_two_names (pairs_of lines)) passes in
    layout_named 2 (codes "2") lines refl (and_parts (has_common (codes "2") (pairs_of lines)) (has_mode (value_of (codes "mode") (pairs_of lines))) parts.0).0

spelled_passes : (layout : Layout) (db : Database) → SpellsAs layout db → (lines : List RawMeta) → ListsMeta db lines → PassesMeta layout lines
spelled_passes One db s lines lists =
    let shown = listed_if_shown pair_form text_cmp text_order distinct_texts (db.trees meta.tree) (map meta_entry lines) lists s.spells.contents.meta distinct_texts (five s.spells.holds (one_has_five s.spells.schema s.spells.known)).meta in
    (subst AreDistinct (rowids_of meta_entry (λ (line : RawMeta). line.rowid) (λ line. refl) lines) shown.apart.rowids, meta_fit lines shown.apart s.stored.registry.global (sym shown.is ∙ s.spells.spelled.meta))
spelled_passes Two db s lines lists =
    let shown = listed_if_shown pair_form text_cmp text_order distinct_texts (db.trees meta.tree) (map meta_entry lines) lists s.spells.contents.meta distinct_texts (five s.spells.holds (eight_has_five s.spells.schema (openable_has_eight s.spells.schema s.spells.known))).meta in
    (subst AreDistinct (rowids_of meta_entry (λ (line : RawMeta). line.rowid) (λ line. refl) lines) shown.apart.rowids, layout_two_meta_fit lines shown.apart s.stored.registry.global s.stored.registry.global_mode (sym shown.is ∙ s.spells.spelled.meta))

spelled_has_five : (layout : Layout) (db : Database) → SpellsAs layout db → HasFiveTables db.schema
spelled_has_five One db s = some_known db (some_of_one s)
spelled_has_five Two db s = some_known db (some_unopened s)

pub spelled_can_be_read : (layout : Layout) (s : State) → (IsTrue s.is_open → SpellsAs layout s.now) → CanBeRead s
spelled_can_be_read One s over = some_can_be_read s (λ is_open. some_of_one (over is_open))
spelled_can_be_read Two s over = some_can_be_read s (λ is_open. some_unopened (over is_open))

named_in : (format : Bool) (layout : Option ℕ) (number : ℕ) → (if format then layout else None) ≡ Some number → (format ≡ true) × (layout ≡ Some number)
named_in true layout number h = (refl, h)
named_in false layout number h = absurd (cc)

text_of : (o : Option (List ℕ)) (number : ℕ) → option_and_then number_in o ≡ Some number → (text : List ℕ) × (o ≡ Some text) × (number_in text ≡ Some number)
text_of None number h = absurd (cc)
text_of (Some text) number h = (text, refl, h)

module _ (lines : List RawMeta) (rows : List Row) (lists : Lists pair_form rows (map meta_entry lines)) where
  -- a row has each name and value of the list
  said : (q v : List ℕ) → value_of q (pairs_of lines) ≡ Some v → HasMetaRow rows q v
  said q v there =
      let entries = map meta_entry lines in
      let e = find_had text_cmp text_order entries q v (sym (get-from_entries text_order.total (map without_rowid entries) q) ∙ sym (meta_found lines q) ∙ there) in
      let r = stored pair_form text_cmp text_order distinct_texts rows entries lists e.0 e.1 in
      (r.0, r.1, (sym (ap (λ (p : RowParts). p.1) r.2) ∙ ap pair_form.key_cells e.2, sym (ap (λ (p : RowParts). p.2) r.2) ∙ ap pair_form.value_cells e.3))

  pub names_if_in : (number : ℕ) → layout_of (pairs_of lines) ≡ Some number → RowsNameLayout rows number
  names_if_in number h =
      let both = named_in (value_equals (codes "avroreg") (value_of (codes "format") (pairs_of lines))) (option_and_then number_in (value_of (codes "layout") (pairs_of lines))) number h in
      let it = text_of (value_of (codes "layout") (pairs_of lines)) number both.1 in
      record { format = said (codes "format") (codes "avroreg") (value_is (codes "avroreg") _ both.0); text = it.0; layout = said (codes "layout") it.0 it.1; is = it.2 }

module _ (lines : List RawMeta) (db : Database) (lists : ListsMeta db lines) where
  -- and the list has those of each row, if the names differ
  module _ (holds : HasReadableMeta db) where
    found : (q v : List ℕ) → HasMetaRow (db.trees meta.tree) q v → value_of q (pairs_of lines) ≡ Some v
    found q v says =
        let shown = listed_if_shown pair_form text_cmp text_order distinct_texts (db.trees meta.tree) (map meta_entry lines) lists holds.values distinct_texts holds.shows in
        let entry = holds.shows.sound says.0 says.1 in
        let key : entry.0 ≡ q = distinct_texts entry.0 q (sym entry.3.0 ∙ says.2.0) in
        let value : entry.1 ≡ v = distinct_texts entry.1 v (sym entry.3.1 ∙ says.2.1) in
        meta_found lines q ∙ ap (λ m. get m q) (sym shown.is) ∙ ap (get holds.values) (sym key) ∙ entry.2 ∙ ap Some value

    pub in_if_names : (number : ℕ) → NamesLayout db number → layout_of (pairs_of lines) ≡ Some number
    in_if_names number n =
        ap (λ o. if value_equals (codes "avroreg") o then option_and_then number_in (value_of (codes "layout") (pairs_of lines)) else None) (found (codes "format") (codes "avroreg") n.format)
        ∙ ap (λ b. if b then option_and_then number_in (value_of (codes "layout") (pairs_of lines)) else None) (same_bytes (codes "avroreg"))
        ∙ ap (option_and_then number_in) (found (codes "layout") n.text n.layout) ∙ n.is

shows_layout : (lines : List RawMeta) (db : Database) → db.schema.views ≡ [] → ReadsMeta db lines → (number : ℕ) → layout_of (pairs_of lines) ≡ Some number → ShowsLayout db number
shows_layout lines db none reads number is =
    let entries = map (entry_parts pair_form) (map meta_entry lines) in
    let lists : Lists pair_form reads.rows (map meta_entry lines) = subst (λ (parts : List RowParts). IsPermutation parts entries) (sym reads.read) (IsPermutation-refl entries) in
    record { no_views = none; rows = reads.rows; shows = reads.shows; names = names_if_in lines reads.rows lists number is }

pub judged : (layout : Layout) (lines : List RawMeta) (named : Option ℕ) (passes : Bool) (r : Result (Unit {0}) StoreError) → named ≡ layout_of (pairs_of lines) → (IsTrue passes → PassesMeta layout lines) → (PassesMeta layout lines → IsTrue passes)
    → RequiresLayout (number_of layout) named passes r → JudgesMeta layout lines r
judged layout lines named passes (Ok y) is to from a = to a
judged layout lines named passes (Err Memory) is to from a = absurd a
judged layout lines named passes (Err Disk) is to from a = absurd a
judged layout lines named passes (Err NotARegistry) is to from a = (λ h. both_ways _ a.0 (from h), λ number there. a.1 number (is ∙ there))
judged layout lines named passes (Err (OldLayout number)) is to from a = (sym is ∙ a.0, a.1)
judged layout lines named passes (Err (NewerLayout number)) is to from a = (sym is ∙ a.0, a.1)

same_number : (a b : ℕ) → Some a ≡ Some b → a ≡ b
same_number a b h = cc

pub tells_meta : (s : State) → CanBeRead s → CanReadMeta s
tells_meta s can is_open =
    let there = can is_open in
    record { first = laid_out there.holds there.known; values = there.contents.meta; shows = (five there.holds there.known).meta; readable = there.readable.meta }

-- the error for another layout
refuses_old : (own number : ℕ) → number < own → OldLayout number ≡ layout_error own number
refuses_old own number less = go (nat_lt number own) refl
  where
    go : (b : Bool) → nat_lt number own ≡ b → OldLayout number ≡ (if b then OldLayout number else NewerLayout number)
    go true e = refl
    go false e = absurd (grind (arith, nat_tests))

refuses_newer : (own number : ℕ) → own < number → NewerLayout number ≡ layout_error own number
refuses_newer own number more = go (nat_lt number own) refl
  where
    go : (b : Bool) → nat_lt number own ≡ b → NewerLayout number ≡ (if b then OldLayout number else NewerLayout number)
    go true e = absurd (grind (arith, nat_tests))
    go false e = refl

module _ {S : Type 0} (g : Ghosts S) (old new : Held S) (layout : Layout) where
  -- reading `meta` failed
  pub other_unread : (r : Result (Unit {0}) StoreError) (e : Error) → old.step_limit ≡ None → (CanReadMeta (state g old) → IsFault (state g old) (state g new) e) → IsErrAnd r (λ failure. failure ≡ failure_of e) → IfErr r (ReportsOther (number_of layout) (state g old))
  other_unread r e unlimited fault is = passed (ReportsOther (number_of layout) (state g old)) r (failure_of e) is (λ number is_open out.
      inr (fault_if_by (state g old) (state g new) (failure_of e) (fault_by (state g old) (state g new) e unlimited (fault (λ _. out.holds)))))

  module _ {X : Type 0} (x : X) (lines : List RawMeta) (f : ReadsInAutocommit {X = X} {E = Error} g old new (Ok x)) (listed : HasCleanDisk (state g new) → HasFiveTables (state g old).now.schema → ListsMeta (state g old).now lines) where
    abbrev db : Database
    db = (state g old).now

    spelled : HasCleanDisk (state g new) → SpellsAs layout db → PassesMeta layout lines
    spelled clean s = spelled_passes layout db s lines (listed clean (spelled_has_five layout db s))

    other_spelled : HasCleanDisk (state g new) → SpellsAs layout db → (number : ℕ) → layout_of (pairs_of lines) ≡ Some number → number ≡ number_of layout
    other_spelled clean s number named = same_number number (number_of layout) (sym named ∙ names_own layout lines (spelled clean s).1)

    -- `meta` was read and checked
    pub meta_tests : (r : Result (Unit {0}) StoreError) → JudgesMeta layout lines r → Checks HasFiveTables (SpellsAs layout) g old new r (λ _. MetaPass layout)
    meta_tests (Ok y) j = record { frame = framed g old new (Ok x) (Ok y) f f.was_open; tells = λ clean known. record { lines = lines; lists = listed clean known; apart = j.0; fit = j.1 }; fault = λ clean. tt; disk_cause = λ clean. tt }
    meta_tests (Err Memory) j = record { frame = framed g old new (Ok x) (Err Memory) f (λ clean. tt); tells = λ clean. tt; fault = λ clean over. tt; disk_cause = λ clean known. tt }
    meta_tests (Err Disk) j = absurd j
    meta_tests (Err NotARegistry) j = record { frame = framed g old new (Ok x) (Err NotARegistry) f (λ clean. tt); tells = λ clean. tt; fault = λ clean over. absurd (j.0 (spelled clean (over (f.was_open clean)))); disk_cause = λ clean known. tt }
    meta_tests (Err (OldLayout number)) j = record {
      frame = framed g old new (Ok x) (Err (OldLayout number)) f (λ clean. tt);
      tells = λ clean. tt;
      fault = λ clean over. absurd (let is = other_spelled clean (over (f.was_open clean)) number j.0 in let less = j.1 in omega (arith, is, less));
      disk_cause = λ clean known. tt;
    }
    meta_tests (Err (NewerLayout number)) j = record {
      frame = framed g old new (Ok x) (Err (NewerLayout number)) f (λ clean. tt);
      tells = λ clean. tt;
      fault = λ clean over. absurd (let is = other_spelled clean (over (f.was_open clean)) number j.0 in let more = j.1 in omega (arith, is, more));
      disk_cause = λ clean known. tt;
    }

    names_first : HasCleanDisk (state g new) → (number : ℕ) → layout_of (pairs_of lines) ≡ Some number → HasFiveTables db.schema → NamesLayout db number
    names_first clean number is first = names_if_in lines (db.trees meta.tree) (listed clean first) number is

    pub meta_number_of : db.schema.views ≡ [] → (HasCleanDisk (state g new) → ReadsMeta db lines) → (r : Result (Unit {0}) StoreError) → JudgesMeta layout lines r → HasCleanDisk (state g new) → IfErr r (HasMetaNumberOf (number_of layout) db)
    meta_number_of none reads (Ok y) j clean = tt
    meta_number_of none reads (Err Memory) j clean = tt
    meta_number_of none reads (Err Disk) j clean = tt
    meta_number_of none reads (Err NotARegistry) j clean = tt
    meta_number_of none reads (Err (OldLayout number)) j clean = (above_zero (pairs_of lines) number j.0, j.1, shows_layout lines db none (reads clean) number j.0, names_first clean number j.0)
    meta_number_of none reads (Err (NewerLayout number)) j clean = (j.1, shows_layout lines db none (reads clean) number j.0, names_first clean number j.0)

    -- the check itself never returns `Disk`
    pub meta_disk_cause : (r : Result (Unit {0}) StoreError) → JudgesMeta layout lines r → IfErr r (HasDiskCause (state g old) (state g new))
    meta_disk_cause (Ok y) j = tt
    meta_disk_cause (Err Memory) j = tt
    meta_disk_cause (Err Disk) j = absurd j
    meta_disk_cause (Err NotARegistry) j = tt
    meta_disk_cause (Err (OldLayout number)) j = tt
    meta_disk_cause (Err (NewerLayout number)) j = tt

    named : HasCleanDisk (state g new) → (number : ℕ) → HasOtherLayout (number_of layout) db number → layout_of (pairs_of lines) ≡ Some number
    named clean number out = in_if_names lines db (listed clean out.holds.first) out.holds number out.names

    pub meta_other : (r : Result (Unit {0}) StoreError) → JudgesMeta layout lines r → HasCleanDisk (state g new) → IfErr r (ReportsOther (number_of layout) (state g old))
    meta_other (Ok y) j clean = tt
    meta_other (Err Memory) j clean = λ number is_open out. inr refl
    meta_other (Err Disk) j clean = absurd j
    meta_other (Err NotARegistry) j clean = λ number is_open out. absurd (out.other (j.1 number (named clean number out)))
    meta_other (Err (OldLayout older)) j clean = λ number is_open out.
        inl (let is = same_number older number (sym j.0 ∙ named clean number out) in refuses_old (number_of layout) older j.1 ∙ ap (layout_error (number_of layout)) is)
    meta_other (Err (NewerLayout newer)) j clean = λ number is_open out.
        inl (let is = same_number newer number (sym j.0 ∙ named clean number out) in refuses_newer (number_of layout) newer j.1 ∙ ap (layout_error (number_of layout)) is)

pub not_other : (layout : Layout) (db : Database) (number : ℕ) → MetaPass layout db → HasOtherLayout (number_of layout) db number → ⊥
not_other layout db number p out = out.other (same_number number (number_of layout) (sym (in_if_names p.lines db p.lists out.holds number out.names) ∙ names_own layout p.lines p.fit))

each_failure : {X : Type 0} {P Q : StoreError → Type 0} (r : Result X StoreError) → IsErrAnd r P → ((e : StoreError) → P e → Q e) → IfErr r Q
each_failure (Ok x) failed f = tt
each_failure (Err e) failed f = f e failed

no_answer : {X : Type 0} (P : StoreError → Type 0) (Q : X → Type 0) (r : Result X StoreError) → IsErrAnd r P → IfOk r Q
no_answer P Q (Ok x) failed = absurd failed
no_answer P Q (Err e) failed = tt

-- a database with a view is rejected
module _ {S : Type 0} (g : Ghosts S) (old new : Held S) (layout : Layout) (viewed : (state g old).now.schema.views ≡ [] → ⊥) (r : Result (Unit {0}) StoreError) (f : ReadsInAutocommit g old new r)
    (fails : IsErrAnd r (λ e. HasCleanDisk (state g new) → IsFaultBy (state g old) (state g new) e ⊎ ((e ≡ NotARegistry) × IsTrue (state g old).is_open))) where
  has_not_five : HasFiveTables (state g old).now.schema → ⊥
  has_not_five first = viewed (ap (λ (schema : Schema). schema.views) first.is)

  pub views_tests : Checks HasFiveTables (SpellsAs layout) g old new r (λ _. MetaPass layout)
  views_tests = record {
    frame = f;
    tells = λ clean. no_answer _ _ r fails;
    fault = λ clean. each_failure r fails (λ e why over. elim (why clean) [ inl fault ↦ fault | inr rejected ↦ absurd (has_not_five (spelled_has_five layout (state g old).now (over rejected.1))) ]);
    disk_cause = λ clean. each_failure r fails (λ e why known. elim (why clean) [ inl fault ↦ disk_cause_if_by (state g old) (state g new) e fault | inr rejected ↦ absurd (has_not_five (known rejected.1)) ]);
  }

  pub views_disk_cause : HasCleanDisk (state g new) → IfErr r (HasDiskCause (state g old) (state g new))
  views_disk_cause clean = each_failure r fails (λ e why. elim (why clean) [ inl fault ↦ disk_cause_if_by (state g old) (state g new) e fault | inr rejected ↦ subst (HasDiskCause (state g old) (state g new)) (sym rejected.0) tt ])

  pub views_number : HasCleanDisk (state g new) → IfErr r (HasMetaNumberOf (number_of layout) (state g old).now)
  views_number clean = each_failure r fails (λ e why. elim (why clean) [
    | inl fault ↦ number_if_plain (number_of layout) (state g old).now e (plain_if_by (state g old) (state g new) e fault)
    | inr rejected ↦ subst (HasMetaNumberOf (number_of layout) (state g old).now) (sym rejected.0) tt
  ])

  pub views_other : HasCleanDisk (state g new) → IfErr r (ReportsOther (number_of layout) (state g old))
  views_other clean = each_failure r fails (λ e why number is_open out. absurd (has_not_five out.holds.first))
