-- How the DELETE of a version changes the tables of layout 2, and why it fails.
use Rattle.std.proofs.Common.{◌≡◌, ◌≢◌, ◌≤◌, ◌+◌, slice_get, inl, inr, arith, ℕ, pos, List, [], ◌∷◌, Bool, true, false, not, cond, Some, None, Ok, Err, lit≤, refl, sym, ap, subst, ◌∙◌, Ordering}
use Rattle.reg_tables.proofs.Kit.{is_eq, FinMap, get, remove, get-remove, get-retain_keys, both_ways, cases_Bool, Null, Int, Text, Row, Trees, Table, Schema, col, Edit, edit_of, taken_by, IsRefused, Given, Delete, Database, IsDatabase, Answers, State, Executes, ExecutesInside, Error, statement_of, runs_as, Enforced, All, Unique, ForeignKey, Index, Program, Obeys, Refers, Refusal, works, ids_of, Has, has_got}
use Rattle.sqlite.specs.Listing.{understood}
use Rattle.sqlite_rules.specs.Action as action
use Rattle.sqlite_tied.specs.Compute.{everything}
use Rattle.reg_tables.specs.Layout.{five_tables_then, texts, versions, levels, kept, meta, modes, added_tables}
use Rattle.reg_tables.specs.TableMaps.{RowForm, ShowsMap, HaveRowids}
use Rattle.reg_tables.specs.Contents.{version_cmp, version_key_cells, text_form, version_form, pair_form, kept_form, evidence_form, against_form, PositionKey, position_cmp, Contents, HoldsContents, ShowsIn, TableName, Texts, Versions, Levels, Kept, Meta, Modes, Evidence, Against, ordinal_of, form_of, map_of}
use Rattle.reg_tables.specs.Changes.{without_version, without_positions}
use Rattle.reg_tables.specs.FailedCalls.{IsFault}
use Rattle.reg_tables.specs.Inside.Statements.{IsCommand, plain_query, by_version}
use Rattle.reg_tables.proofs.MapLemmas.{same_key}
use Rattle.reg_tables.proofs.Queries.{passes}
use Rattle.reg_tables.proofs.RowLemmas.{same_rows}
use Rattle.reg_tables.proofs.Writes.{cuts}
use Rattle.reg_tables.proofs.KeyedTables.{version_order, by_version_test, finds_one}
use Rattle.reg_tables.proofs.Statements.{drop_version}
use Rattle.reg_tables.proofs.WriteFaults.{NeverStops, refused_by, delete_fits, delete_refused}
use Rattle.reg_tables.proofs.TableFaults.{obeys, plain_fits}
use Rattle.reg_tables.proofs.Keys.{position_order, versions_tied}
use Rattle.reg_tables.proofs.LayoutTables.{place_version}
use Rattle.reg_tables.proofs.WellDeclared.{IsWellDeclared}
use Rattle.reg_tables.proofs.ForeignKeys.{has_version, has_text_at, more_versions, Refer, refer_if, refers_if}
use Rattle.reg_tables.proofs.Cascades.{Loses, never_stops, delete_allowed}
use Rattle.reg_tables.proofs.Drops.{HasVersionKey, HasVersions, IsDropped, drops, leaves}

flipped : {A : Type 0} (b : Bool) (x y : A) → cond b x y ≡ cond (not b) y x
flipped true x y = refl
flipped false x y = refl

twice_not : (b : Bool) → b ≡ not (not b)
twice_not true = refl
twice_not false = refl

-- the map without the keys of the deleted rows
module _ {K V : Type 0} (form : RowForm K V) (R : K → K → Ordering) (m later : FinMap R V) (named : Row → Bool) (old new : List Row) (shows : ShowsMap form old (get m)) (loses : Loses (λ r. named r ≡ true) old new)
    (stays : K → Bool) (test : (row : Row) (q : K) → form.key_of row ≡ form.key_cells q → named row ≡ not (stays q)) (kept : (q : K) → get later q ≡ cond (stays q) (get m q) None) where
  kept_if : (q : K) → stays q ≡ true → get later q ≡ get m q
  kept_if q is = kept q ∙ ap (λ b. cond b (get m q) None) is

  found_if : (q : K) (v : V) → get later q ≡ Some v → stays q ≡ true
  found_if q v is = elim (cases_Bool (stays q)) [
    | inl still ↦ still
    | inr off ↦ absurd (let none = sym (kept q ∙ ap (λ b. cond b (get m q) None) off) ∙ is in cc)
  ]

  shows_left : ShowsMap form new (get later)
  shows_left = record {
    rowids = loses.rowids;
    sound = λ r there.
        let was = loses.was r there in
        let entry = shows.sound r was.0 in
        let still : stays entry.0 ≡ true = elim (cases_Bool (stays entry.0)) [ inl on ↦ on | inr off ↦ absurd (was.1 (test r entry.0 entry.3.0 ∙ ap not off)) ] in
        (entry.0, entry.1, kept_if entry.0 still ∙ entry.2, entry.3);
    complete = λ q v is.
        let still = found_if q v is in
        let row = shows.complete q v (sym (kept_if q still) ∙ is) in
        (row.0, loses.stays row.0 row.1 (λ gone. both_ways _ (test row.0 q row.2.0 ∙ ap not still) gone), row.2);
    once = λ a b x y e. shows.once a b (loses.was a x).0 (loses.was b y).0 e;
  }

abbrev dropping : Program
dropping = record { lets = []; body = plain_query 2 by_version (col 1 0 ∷ []) }

module _ (first : ℕ) (high : 10 ≤ first) (indexes : List Index) (s : IsWellDeclared (five_tables_then (added_tables first) indexes)) where
  abbrev layout : Schema
  layout = five_tables_then (added_tables first) indexes

  drop_version_is : IsCommand layout drop_version (Delete 1 dropping)
  unfolding understood everything
  drop_version_is = record { is = refl; plain = (refl, refl) }

  module _ (old : Database) (contents : Contents) (h : HoldsContents layout old contents) (key : List ℕ × ℕ) where
    abbrev named : Row → Bool
    named = passes by_version (Text key.0 ∷ Int (pos key.1) ∷ [])

    lawful : Obeys layout old.trees
    lawful = obeys layout old h.declared h.sound

    had : Refer first old.trees
    had = refer_if first indexes old.trees (lawful.rules ForeignKey)

    versions_had : HasVersions (old.trees 2) (old.trees (first + 2))
    versions_had row there = let entry = (h.shows TableName.Evidence).sound row there in (entry.0, entry.3.0, had.evidence row there)

    positions_had : HasVersions (old.trees 2) (old.trees (first + 4))
    positions_had row there = let entry = (h.shows TableName.Against).sound row there in (entry.0.0, place_version row entry.0 entry.3.0, had.places row there)

    shaped : (t : Table) → Has layout.tables t → HaveRowids (old.trees t.tree)
    shaped t (inl same) = subst (λ (t : Table). HaveRowids (old.trees t.tree)) (sym same) (h.shows TableName.Texts).rowids
    shaped t (inr (inl same)) = subst (λ (t : Table). HaveRowids (old.trees t.tree)) (sym same) (h.shows TableName.Versions).rowids
    shaped t (inr (inr (inl same))) = subst (λ (t : Table). HaveRowids (old.trees t.tree)) (sym same) (h.shows TableName.Levels).rowids
    shaped t (inr (inr (inr (inl same)))) = subst (λ (t : Table). HaveRowids (old.trees t.tree)) (sym same) (h.shows TableName.Kept).rowids
    shaped t (inr (inr (inr (inr (inl same))))) = subst (λ (t : Table). HaveRowids (old.trees t.tree)) (sym same) (h.shows TableName.Meta).rowids
    shaped t (inr (inr (inr (inr (inr (inl same)))))) = subst (λ (t : Table). HaveRowids (old.trees t.tree)) (sym same) (h.shows TableName.Modes).rowids
    shaped t (inr (inr (inr (inr (inr (inr (inl same))))))) = subst (λ (t : Table). HaveRowids (old.trees t.tree)) (sym same) (h.shows TableName.Evidence).rowids
    shaped t (inr (inr (inr (inr (inr (inr (inr (inl same)))))))) = subst (λ (t : Table). HaveRowids (old.trees t.tree)) (sym same) (h.shows TableName.Against).rowids
    shaped t (inr (inr (inr (inr (inr (inr (inr (inr none)))))))) = absurd none

    -- the tables after a successful DELETE
    dropped : (found : List Row) (next : Trees) → Answers (record { schema = layout; trees = old.trees }) dropping (Text key.0 ∷ Int (pos key.1) ∷ []) found
        → action.Writes layout Enforced old.trees (edit_of old.trees versions (ids_of found) Given 0 []) (Ok next) → IsDropped first indexes named old.trees next
    dropped found next asked writes =
        let finds = finds_one version_form version_cmp version_order old.trees 2 contents.versions (h.shows TableName.Versions) key by_version (Text key.0 ∷ Int (pos key.1) ∷ []) (λ row q is. by_version_test row key q is) [] found (asked.answer Null) in
        drops first high indexes s.apart old.trees next contents.versions (h.shows TableName.Versions) key found finds.finds shaped versions_had positions_had writes

    version_test : (row : Row) (q : List ℕ × ℕ) → HasVersionKey row q → named row ≡ not (not (is_eq (version_cmp q key)))
    version_test row q is = by_version_test row key q is ∙ twice_not _

    module _ (new : Database) (d : IsDropped first indexes named old.trees new.trees) where
      -- no other table changes
      same : (at : ℕ) (t : Table) → slice_get layout.tables at ≡ Some t → t.tree ≢ 2 → t.tree ≢ first + 2 → t.tree ≢ first + 4 → new.trees t.tree ≡ old.trees t.tree
      same at t there = d.others t (has_got layout.tables at t there)

      shows_dropped : (name : TableName) → ShowsIn (form_of name) new.trees (slice_get layout.tables (ordinal_of name)) (map_of name (without_version key contents))
      shows_dropped Texts = same_rows {form = text_form} (same 0 texts refl (λ e. omega (arith, e)) (λ e. omega (arith, e, high)) (λ e. omega (arith, e, high))) (h.shows Texts)
      shows_dropped Versions = shows_left version_form version_cmp contents.versions (remove contents.versions key) named (old.trees 2) (new.trees 2) (h.shows Versions) d.versions (λ q. not (is_eq (version_cmp q key))) version_test
          (λ q. get-remove version_order.total contents.versions key q ∙ flipped _ None (get contents.versions q))
      shows_dropped Levels = same_rows {form = pair_form} (same 2 levels refl (λ e. omega (arith, e)) (λ e. omega (arith, e, high)) (λ e. omega (arith, e, high))) (h.shows Levels)
      shows_dropped Kept = same_rows {form = kept_form} (same 3 kept refl (λ e. omega (arith, e)) (λ e. omega (arith, e, high)) (λ e. omega (arith, e, high))) (h.shows Kept)
      shows_dropped Meta = same_rows {form = pair_form} (same 4 meta refl (λ e. omega (arith, e)) (λ e. omega (arith, e, high)) (λ e. omega (arith, e, high))) (h.shows Meta)
      shows_dropped Modes = same_rows {form = pair_form} (same 5 (modes first) refl (λ e. omega (arith, e, high)) (λ e. omega (arith, e)) (λ e. omega (arith, e))) (h.shows Modes)
      shows_dropped Evidence = shows_left evidence_form version_cmp contents.evidence (remove contents.evidence key) named (old.trees (first + 2)) (new.trees (first + 2)) (h.shows Evidence) d.evidence (λ q. not (is_eq (version_cmp q key))) version_test
          (λ q. get-remove version_order.total contents.evidence key q ∙ flipped _ None (get contents.evidence q))
      shows_dropped Against = shows_left against_form position_cmp contents.against (without_positions contents.against key) named (old.trees (first + 4)) (new.trees (first + 4)) (h.shows Against) d.against (λ q. not (is_eq (version_cmp q.0 key)))
          (λ row q is. version_test row q.0 (place_version row q is))
          (λ q. get-retain_keys contents.against (λ q. not (is_eq (version_cmp q.0 key))) q (λ x tie. ap (λ (p : PositionKey). not (is_eq (version_cmp p.0 key))) (sym (position_order.antisymmetric q x tie))))

      holds_dropped : new.schema ≡ layout → IsDatabase new → HoldsContents layout new (without_version key contents)
      holds_dropped declared sound = record { declared = declared; sound = sound; shows = shows_dropped }

    -- the remaining rows keep their parents: rows that referred to a deleted row are deleted too
    refers_dropped : (new : Trees) → IsDropped first indexes named old.trees new → Refers All layout new
    refers_dropped new d =
        let same : new 0 ≡ old.trees 0 = d.others texts (has_got layout.tables 0 texts refl) (λ e. omega (arith, e)) (λ e. omega (arith, e, high)) (λ e. omega (arith, e, high)) in
        refers_if first indexes new (record {
          versions = λ r there. subst (λ l. has_text_at 3 l r ≡ true) (sym same) (had.versions r (d.versions.was r there).0);
          evidence = λ r there. let was = d.evidence.was r there in still (old.trees (first + 2)) versions_had r was.0 was.1 (had.evidence r was.0);
          places = λ r there. let was = d.against.was r there in still (old.trees (first + 4)) positions_had r was.0 was.1 (had.places r was.0);
          seen = λ r there. subst (λ l. has_text_at 4 l r ≡ true) (sym same) (had.seen r (d.against.was r there).0);
        })
      where
        still : (rows : List Row) → HasVersions (old.trees 2) rows → (r : Row) → Has rows r → (named r ≡ true → ⊥) → has_version (old.trees 2) r ≡ true → has_version (new 2) r ≡ true
        still rows have r there other = more_versions (old.trees 2) (new 2) r (λ s was agrees.
            let its = have r there in
            let entry = (h.shows TableName.Versions).sound s was in
            let same : entry.0 ≡ its.0 = same_key version_cmp version_order entry.0 its.0 (sym (versions_tied s r entry.0 its.0 entry.3.0 its.1) ∙ agrees) in
            (s, d.versions.stays s was (λ gone. other (by_version_test r key its.0 its.1 ∙ sym (by_version_test s key its.0 (entry.3.0 ∙ ap version_key_cells same)) ∙ gone)), agrees))

  module _ (old new : State) (contents : Contents) (h : HoldsContents layout old.now contents) (key : List ℕ × ℕ) where
    abbrev params : Row
    params = Text key.0 ∷ Int (pos key.1) ∷ []

    pub drops_version : (count : ℕ) → Executes drop_version params old new (Ok count) → HoldsContents layout new.now (without_version key contents)
    drops_version count ran =
        let w = runs_as drop_version params old new layout h.declared (Delete 1 dropping) drop_version_is.is drop_version_is.plain count ran in
        let cut = cuts layout 1 versions refl old new h.declared (statement_of drop_version (understood layout drop_version)) params count dropping w in
        holds_dropped old.now contents h key new.now (dropped old.now contents h key cut.0 new.now.trees cut.1 cut.3) cut.2 w.sound

    abbrev cut_by : List Row → Edit
    cut_by found = edit_of old.now.trees versions (ids_of found) Given 0 []

    -- deleting the rows of `evidence` and `against` doesn't fail
    ends : (found : List Row) → NeverStops layout old.now.trees (cut_by found)
    ends found next why applies settles =
        never_stops layout s.apart settles.0 next (works layout Enforced 0 2 (taken_by old.now.trees (cut_by found)) []) why (leaves first high indexes (taken_by old.now.trees (cut_by found))) (applies.fits.rules Unique (λ e. absurd (cc))) settles.1

    allowed : (found : List Row) (why : Refusal) → IsRefused layout Enforced old.now.trees (cut_by found) why → ⊥
    allowed found why = delete_allowed layout s.apart old.now.trees versions (has_got layout.tables 1 versions refl) (λ gone. (s.at TableName.Versions).keys false gone) ((lawful old.now contents h key).rules Unique) (ids_of found) why

    pub drop_version_fails : (e : Error) → ExecutesInside 0 drop_version params old new (Err e) → IsFault old new e
    unfolding understood everything
    drop_version_fails e ran =
        elim (refused_by drop_version params old new layout h.declared (Delete 1 dropping) drop_version_is (lit≤ tt, refl) (record { silent = refl; stays = refl }) e ran) [
          | inl fault ↦ fault
          | inr rest ↦ elim rest [
            | inl large ↦ absurd (delete_fits layout 1 versions refl old new (statement_of drop_version (understood layout drop_version)) params e dropping refl (plain_fits old.now.trees params 2 by_version (col 1 0 ∷ [])) ends large.1)
            | inr does ↦ delete_refused layout 1 versions refl old new (statement_of drop_version (understood layout drop_version)) params e dropping refl (plain_fits old.now.trees params 2 by_version (col 1 0 ∷ [])) ends allowed
                (λ found next asked writes. refers_dropped old.now contents h key next (dropped old.now contents h key found next asked writes)) does
          ]
        ]
