-- The rows that the DELETE of a version deletes from each table.
use Rattle.std.proofs.Common.{◌≡◌, ◌≢◌, ◌≤◌, ◌+◌, ◌⊎◌, inl, inr, arith, ℕ, ℤ, pos, List, [], ◌∷◌, ◌++◌, Bool, true, false, Equal, cond, Some, None, Ok, Option, refl, sym, ap, subst, ◌∙◌}
use Rattle.reg_tables.proofs.Kit.{list_any, cons_option, unwrap_or, is_eq, FinMap, get, cases_eq, both_ways, and_parts, and_from, or_cases, tied_itself, Int, Text, Row, value_cmp, Trees, rowid, has_rowid, Table, Edit, edit_of, id_in, taken_by, row_at, without_all, Given, Enforced, agree, has_null, references_fit, plain, value_cmp_total, Work, works, pairs, loses, is_child_of, ids_of, Has, no_heir, all_has, has_got, has_found, some_has, some_from, int_is, Schema, Index}
use Rattle.std.specs.Prelude.{find}
use Rattle.sqlite.specs.Order.{column}
use Rattle.sqlite_schema.specs.Names.{same_name}
use Rattle.sqlite_value.specs.Keys.{joined}
use Rattle.sqlite_rules.specs.declared.action.Deed.TheVariants.{Delete}
use Rattle.sqlite_rules.specs.Action as action
use Rattle.reg_tables.specs.Layout.{five_tables_then, versions, evidence, against, added_tables, to_versions}
use Rattle.reg_tables.specs.Inside.KeyedLaws.{HaveOwnTrees}
use Rattle.reg_tables.specs.TableMaps.{HaveRowids, ShowsMap}
use Rattle.reg_tables.specs.Contents.{version_cmp, version_key_cells, VersionEntryView, version_form}
use Rattle.reg_tables.proofs.ListMembers.{has_mapped, maps_had}
use Rattle.reg_tables.proofs.MapLemmas.{equal_of, same_key, tied_key}
use Rattle.reg_tables.proofs.RowLemmas.{FindsRowids, same_if_tied}
use Rattle.reg_tables.specs.Inside.Statements.{by_version}
use Rattle.reg_tables.proofs.Queries.{passes}
use Rattle.reg_tables.proofs.ForeignKeys.{has_version}
use Rattle.reg_tables.proofs.KeyedTables.{version_order, by_version_test}
use Rattle.reg_tables.proofs.WellDeclared.{two_quiet}
use Rattle.reg_tables.proofs.Keys.{versions_tied}
use Rattle.reg_tables.proofs.Cascades.{Loses, loses_found, IsLeaf, Takes, AllLose, leads_to}

-- ---- the actions

-- rows that refer to a deleted version are deleted
abbrev pub deletion_of : Table → List Row → Work
deletion_of child olds = record { depth = 0; child = child; ref = to_versions; places = 1 ∷ 2 ∷ []; order = record { digits = 0 }; deed = Delete; moves = pairs olds [] }

-- some deleted row had a version's key, without NULL
abbrev pub have_keys : List Row → Bool
have_keys olds = list_any (loses (record { digits = 0 }) (1 ∷ 2 ∷ [])) (pairs olds [])

module _ (first : ℕ) (high : 10 ≤ first) (indexes : List Index) where
  abbrev layout : Schema
  layout = five_tables_then (added_tables first) indexes

  abbrev pub deletions : List Row → List Work
  deletions olds = deletion_of (evidence (first + 2)) olds ∷ deletion_of (against (first + 4)) olds ∷ []

  pub cascades : (olds : List Row) → works layout Enforced 0 2 olds [] ≡ cond (have_keys olds) (deletions olds) []
  unfolding same_name joined
  cascades olds = both (have_keys olds) (deletion_of (evidence (first + 2)) olds) (deletion_of (against (first + 4)) olds)
    where
      both : (b : Bool) (x y : Work) → cons_option (cond b (Some x) None) [] ++ (cons_option (cond b (Some y) None) [] ++ []) ≡ cond b (x ∷ y ∷ []) []
      both true x y = refl
      both false x y = refl

  evidence_keys : (gone : Bool) → references_fit layout (evidence (first + 2)) false gone ≡ true
  unfolding same_name joined
  evidence_keys true = refl
  evidence_keys false = refl

  against_keys : (gone : Bool) → references_fit layout (against (first + 4)) false gone ≡ true
  unfolding same_name joined
  against_keys true = refl
  against_keys false = refl

  one_of : (b : Bool) (olds : List Row) (w : Work) → Has (cond b (deletions olds) []) w → (w ≡ deletion_of (evidence (first + 2)) olds) ⊎ (w ≡ deletion_of (against (first + 4)) olds)
  one_of true olds w (inl same) = inl same
  one_of true olds w (inr (inl same)) = inr same
  one_of true olds w (inr (inr none)) = absurd none
  one_of false olds w none = absurd none

  pub due : (olds : List Row) (w : Work) → Has (works layout Enforced 0 2 olds []) w → (w ≡ deletion_of (evidence (first + 2)) olds) ⊎ (w ≡ deletion_of (against (first + 4)) olds)
  due olds w there = one_of (have_keys olds) olds w (subst (λ l. Has l w) (cascades olds) there)

  evidence_listed : Has layout.tables (evidence (first + 2))
  evidence_listed = has_got layout.tables 6 (evidence (first + 2)) refl

  against_listed : Has layout.tables (against (first + 4))
  against_listed = has_got layout.tables 7 (against (first + 4)) refl

  pub leaves : (olds : List Row) (w : Work) → Has (works layout Enforced 0 2 olds []) w → IsLeaf layout w
  leaves olds w there = elim (due olds w there) [
    | inl same ↦ subst (IsLeaf layout) (sym same) (record { deletes = refl; shallow = refl; listed = evidence_listed; keys = evidence_keys; quiet = λ more. two_quiet first indexes 1 (first + 2) (λ e. omega (arith, e, high)) more [] })
    | inr same ↦ subst (IsLeaf layout) (sym same) (record { deletes = refl; shallow = refl; listed = against_listed; keys = against_keys; quiet = λ more. two_quiet first indexes 1 (first + 4) (λ e. omega (arith, e, high)) more [] })
  ]

-- ---- keys

abbrev pub HasVersionKey : Row → (List ℕ × ℕ) → Type 0
HasVersionKey row key = column row 1 ∷ column row 2 ∷ [] ≡ version_key_cells key

pub not_null : (row : Row) (key : (List ℕ × ℕ)) → HasVersionKey row key → has_null (1 ∷ 2 ∷ []) row ≡ false
not_null row key is =
    let subject : column row 1 ≡ Text key.0 = cc in
    let number : column row 2 ≡ Int (pos key.1) = cc in
    rw (subject, number) refl

find_some : (p : Row → Bool) (rows : List Row) (row : Row) → Has rows row → p row ≡ true → find p rows ≡ None → ⊥
find_some p [] row there is none = there
find_some p (r ∷ rows) row (inl same) is none = go (p r) (ap p (sym same) ∙ is) none
  where
    go : (b : Bool) → b ≡ true → cond b (Some r) (find p rows) ≡ None → ⊥
    go true is e = cc
    go false is e = cc
find_some p (r ∷ rows) row (inr after) is none = go (p r) none (find_some p rows row after is)
  where
    go : (b : Bool) → cond b (Some r) (find p rows) ≡ None → (find p rows ≡ None → ⊥) → ⊥
    go true e more = cc
    go false e more = more e

-- a row by its rowid
row_at_is : (rows : List Row) → HaveRowids rows → (row : Row) → Has rows row → row_at rows (id_in (rowid row)) ≡ row
row_at_is rows shaped row there = go (find (has_rowid id) rows) refl
  where
    id : ℤ
    id = id_in (rowid row)

    its : rowid row ≡ Int id
    its = int_is (rowid row) (all_has _ rows row shaped.1 there)

    tied : has_rowid id row ≡ true
    tied = ap (λ v. is_eq (value_cmp (rowid row) v)) (sym its) ∙ ap is_eq (tied_itself value_cmp_total (rowid row))

    go : (o : Option Row) → find (has_rowid id) rows ≡ o → unwrap_or o [] ≡ row
    go None none = absurd (find_some (has_rowid id) rows row there tied none)
    go (Some r) is =
        let it = has_found (has_rowid id) rows r is in
        same_if_tied rows r row shaped it.0 there (subst (λ v. value_cmp (rowid r) v ≡ Equal) (sym its) (equal_of _ it.1))

pairs_has : (olds : List Row) (move : Row × Row) → Has (pairs olds []) move → (old : Row) × Has olds old × (move ≡ (old, []))
pairs_has [] move there = absurd there
pairs_has (old ∷ olds) move (inl same) = (old, inl refl, same)
pairs_has (old ∷ olds) move (inr later) = let it = pairs_has olds move later in (it.0, inr it.1, it.2)

has_pair : (olds : List Row) (old : Row) → Has olds old → Has (pairs olds []) (old, [])
has_pair [] old there = absurd there
has_pair (o ∷ olds) old (inl same) = inl (λ i. (same i, []))
has_pair (o ∷ olds) old (inr later) = inr (has_pair olds old later)

-- ---- the tables after the DELETE

-- the tables are unchanged except that a version's rows are deleted
pub record IsDropped (first : ℕ) (indexes : List Index) (named : Row → Bool) (old new : Trees) : Type 0 where
  pub others : (t : Table) → Has (five_tables_then (added_tables first) indexes).tables t → t.tree ≢ 2 → t.tree ≢ first + 2 → t.tree ≢ first + 4 → new t.tree ≡ old t.tree
  pub versions : Loses (λ r. named r ≡ true) (old 2) (new 2)
  pub evidence : Loses (λ r. named r ≡ true) (old (first + 2)) (new (first + 2))
  pub against : Loses (λ r. named r ≡ true) (old (first + 4)) (new (first + 4))

loses_same : {P Q : Row → Type 0} {old new : List Row} → ((r : Row) → Has old r → P r → Q r) → ((r : Row) → Has old r → Q r → P r) → Loses P old new → Loses Q old new
loses_same to from l = record {
  rowids = l.rowids;
  was = λ r there. let o = l.was r there in (o.0, λ q. o.1 (from r o.0 q));
  stays = λ r there kept. l.stays r there (λ p. kept (to r there p));
  ids = l.ids;
  is = l.is;
}

-- each row of the table has the key of a stored version
abbrev pub HasVersions : List Row → List Row → Type 0
HasVersions parents rows = (row : Row) → Has rows row → (key : (List ℕ × ℕ)) × HasVersionKey row key × (has_version parents row ≡ true)

module _ (first : ℕ) (high : 10 ≤ first) (indexes : List Index) (apart : HaveOwnTrees (five_tables_then (added_tables first) indexes)) (db next : Trees) (m : FinMap version_cmp VersionEntryView) (shows : ShowsMap version_form (db 2) (get m)) (key : (List ℕ × ℕ)) (found : List Row) where
  abbrev schema : Schema
  schema = five_tables_then (added_tables first) indexes

  abbrev named : Row → Bool
  named = passes by_version (Text key.0 ∷ Int (pos key.1) ∷ [])

  module _ (finds : FindsRowids named (λ row. []) (db 2) found) (shaped_all : (t : Table) → Has schema.tables t → HaveRowids (db t.tree)) where
    abbrev edit : Edit
    edit = edit_of db versions (ids_of found) Given 0 []

    abbrev gone : List Row
    gone = taken_by db edit

    shaped : HaveRowids (db 2)
    shaped = shows.rowids

    gone_from : (r : Row) → Has gone r → Has (db 2) r × (named r ≡ true)
    gone_from r there =
        let id = has_mapped (row_at (db 2)) (ids_of found) r there in
        let x = has_mapped (λ (r : Row). id_in (rowid r)) found id.0 id.1 in
        let row = finds.sound x.0 x.1 in
        let its : id.0 ≡ id_in (rowid row.0) = x.2 ∙ ap (λ (y : Row). id_in (rowid y)) row.3 in
        let same : r ≡ row.0 = id.2 ∙ ap (row_at (db 2)) its ∙ row_at_is (db 2) shaped row.0 row.1 in
        (subst (Has (db 2)) (sym same) row.1, ap named same ∙ row.2)

    goes : (r : Row) → Has (db 2) r → named r ≡ true → Has gone r
    goes r there is =
        let id : Has (ids_of found) (id_in (rowid r)) = maps_had (λ (r : Row). id_in (rowid r)) found (rowid r ∷ []) (finds.complete r there is) in
        subst (Has gone) (row_at_is (db 2) shaped r there) (maps_had (row_at (db 2)) (ids_of found) (id_in (rowid r)) id)

    had_key : (r : Row) → Has gone r → HasVersionKey r key
    had_key r there =
        let was = gone_from r there in
        let entry = shows.sound r was.0 in
        let same : entry.0 ≡ key = same_key version_cmp version_order entry.0 key (sym (by_version_test r key entry.0 entry.3.0) ∙ was.1) in
        entry.3.0 ∙ ap version_key_cells same

    loses_key : (r : Row) → HasVersionKey r key → loses (record { digits = 0 }) (1 ∷ 2 ∷ []) (r, []) ≡ true
    loses_key r is = and_from _ _ (versions_tied r r key key is is ∙ tied_key version_cmp version_order key key refl) (sym (no_heir (record { digits = 0 }) (1 ∷ 2 ∷ []) r))

    -- the children of the deleted row are the version's rows
    module _ (child : Table) (rows : List Row) (have : HasVersions (db 2) rows) where
      taken_named : (r : Row) → Has rows r → list_any (is_child_of (deletion_of child gone) r) (pairs gone []) ≡ true → named r ≡ true
      taken_named r there is =
          let move = some_has (is_child_of (deletion_of child gone) r) (pairs gone []) is in
          let pair = pairs_has gone move.0 move.1 in
          let it : is_child_of (deletion_of child gone) r (pair.0, []) ≡ true = subst (λ m. is_child_of (deletion_of child gone) r m ≡ true) pair.2 move.2 in
          let agrees = (and_parts _ _ it).1 in
          let its = have r there in
          by_version_test r key its.0 its.1 ∙ sym (versions_tied r pair.0 its.0 key its.1 (had_key pair.0 pair.1)) ∙ agrees

      -- the deleted row was the parent of a row of the version
      parent_of : (r : Row) → Has rows r → named r ≡ true → (s : Row) × Has gone s × HasVersionKey r key
      parent_of r there is =
          let its = have r there in
          let same : its.0 ≡ key = same_key version_cmp version_order its.0 key (sym (by_version_test r key its.0 its.1) ∙ is) in
          let mine : HasVersionKey r key = its.1 ∙ ap version_key_cells same in
          elim (or_cases _ _ its.2) [
            | inl null ↦ absurd (both_ways _ (not_null r its.0 its.1) null)
            | inr some ↦
                let s = some_has (λ parent. agree plain (1 ∷ 2 ∷ []) parent (1 ∷ 2 ∷ []) r) (db 2) some in
                let entry = shows.sound s.0 s.1 in
                let own = by_version_test s.0 key entry.0 entry.3.0 ∙ sym (versions_tied s.0 r entry.0 key entry.3.0 mine) ∙ s.2 in
                (s.0, goes s.0 s.1 own, mine)
          ]

      named_taken : (r : Row) → Has rows r → named r ≡ true → list_any (is_child_of (deletion_of child gone) r) (pairs gone []) ≡ true
      named_taken r there is =
          let s = parent_of r there is in
          let lost = loses_key s.0 (had_key s.0 s.1) in
          some_from (is_child_of (deletion_of child gone) r) (pairs gone []) (s.0, []) (has_pair gone s.0 s.1)
          (and_from _ _ lost (versions_tied r s.0 key key s.2 (had_key s.0 s.1) ∙ tied_key version_cmp version_order key key refl))

      named_works : (r : Row) → Has rows r → named r ≡ true → works schema Enforced 0 2 gone [] ≡ deletions first high indexes gone
      named_works r there is =
          let s = parent_of r there is in
          cascades first high indexes gone ∙ ap (λ b. cond b (deletions first high indexes gone) []) (some_from (loses (record { digits = 0 }) (1 ∷ 2 ∷ [])) (pairs gone []) (s.0, []) (has_pair gone s.0 s.1) (loses_key s.0 (had_key s.0 s.1)))

    module _ (of_evidence : HasVersions (db 2) (db (first + 2))) (of_against : HasVersions (db 2) (db (first + 4))) where
      abbrev child_evidence : Table
      child_evidence = evidence (first + 2)

      abbrev child_against : Table
      child_against = against (first + 4)

      none : (tree : ℕ) → tree ≢ first + 2 → tree ≢ first + 4 → (w : Work) → Has (works schema Enforced 0 2 gone []) w → w.child.tree ≡ tree → ⊥
      none tree not_evidence not_against w there is = elim (due first high indexes gone w there) [
        | inl same ↦ not_evidence (sym (ap (λ (w : Work). w.child.tree) (sym same) ∙ is))
        | inr same ↦ not_against (sym (ap (λ (w : Work). w.child.tree) (sym same) ∙ is))
      ]

      evidence_takes : (r : Row) → Takes schema (works schema Enforced 0 2 gone []) (first + 2) r → list_any (is_child_of (deletion_of child_evidence gone) r) (pairs gone []) ≡ true
      evidence_takes r takes = elim (due first high indexes gone takes.0 takes.1) [
        | inl same ↦ subst (λ (w : Work). list_any (is_child_of w r) w.moves ≡ true) same takes.3
        | inr same ↦ let tree : first + 4 ≡ first + 2 = ap (λ (w : Work). w.child.tree) (sym same) ∙ takes.2 in absurd (omega (arith, tree))
      ]

      against_takes : (r : Row) → Takes schema (works schema Enforced 0 2 gone []) (first + 4) r → list_any (is_child_of (deletion_of child_against gone) r) (pairs gone []) ≡ true
      against_takes r takes = elim (due first high indexes gone takes.0 takes.1) [
        | inl same ↦ let tree : first + 2 ≡ first + 4 = ap (λ (w : Work). w.child.tree) (sym same) ∙ takes.2 in absurd (omega (arith, tree))
        | inr same ↦ subst (λ (w : Work). list_any (is_child_of w r) w.moves ≡ true) same takes.3
      ]

      dropped_by : (mid : Trees) → mid 2 ≡ without_all (db 2) (ids_of found) → ((t : Table) → Has schema.tables t → t.tree ≢ 2 → mid t.tree ≡ db t.tree) → AllLose schema (works schema Enforced 0 2 gone []) mid next → IsDropped first indexes named db next
      dropped_by mid cut others lose = record {
        others = λ t known not_versions not_evidence not_against. (lose t known).same (λ w there is. none t.tree not_evidence not_against w there is) ∙ others t known not_versions;
        versions = subst (Loses (λ r. named r ≡ true) (db 2)) (sym ((lose versions (inr (inl refl))).same (λ w there is. none 2 (λ e. omega (arith, e, high)) (λ e. omega (arith, e, high)) w there is) ∙ cut)) (loses_found named (λ row. []) (db 2) found shaped finds);
        evidence = loses_same
            (λ r there takes. taken_named child_evidence (db (first + 2)) of_evidence r there (evidence_takes r takes))
            (λ r there is. (deletion_of child_evidence gone, subst (λ l. Has l (deletion_of child_evidence gone)) (sym (named_works child_evidence (db (first + 2)) of_evidence r there is)) (inl refl), refl, named_taken child_evidence (db (first + 2)) of_evidence r there is))
            (subst (λ l. Loses (Takes schema (works schema Enforced 0 2 gone []) (first + 2)) l (next (first + 2))) (others child_evidence (evidence_listed first high indexes) (λ e. omega (arith, e, high))) (lose child_evidence (evidence_listed first high indexes)).loses);
        against = loses_same
            (λ r there takes. taken_named child_against (db (first + 4)) of_against r there (against_takes r takes))
            (λ r there is. (deletion_of child_against gone, subst (λ l. Has l (deletion_of child_against gone)) (sym (named_works child_against (db (first + 4)) of_against r there is)) (inr (inl refl)), refl, named_taken child_against (db (first + 4)) of_against r there is))
            (subst (λ l. Loses (Takes schema (works schema Enforced 0 2 gone []) (first + 4)) l (next (first + 4))) (others child_against (against_listed first high indexes) (λ e. omega (arith, e, high))) (lose child_against (against_listed first high indexes)).loses);
      }

      -- the DELETE and its actions
      pub drops : action.Writes schema Enforced db edit (Ok next) → IsDropped first indexes named db next
      drops (inl refused) = absurd (let e = refused.2 in cc)
      drops (inr (inl big)) = absurd (let e = big.3 in cc)
      drops (inr (inr went)) =
          let mid = went.0 in
          let others : (t : Table) → Has schema.tables t → t.tree ≢ 2 → mid t.tree ≡ db t.tree = λ t known other. all_has (λ (t : Table). t.tree ≢ 2 → mid t.tree ≡ db t.tree) schema.tables t went.1.tables known other in
          let cut : mid 2 ≡ without_all (db 2) (ids_of found) = went.1.rows in
          let left = loses_found named (λ row. []) (db 2) found shaped finds in
          let all : (t : Table) → Has schema.tables t → HaveRowids (mid t.tree) = λ t known. elim (cases_eq t.tree 2) [
            | inl same ↦ subst (λ n. HaveRowids (mid n)) (sym same) (subst HaveRowids (sym cut) left.rowids)
            | inr other ↦ subst HaveRowids (sym (others t known other)) (shaped_all t known)
          ] in
          dropped_by mid cut others (leads_to schema apart went.2.0 mid next (works schema Enforced 0 2 gone []) (leaves first high indexes gone) all went.2.1)
