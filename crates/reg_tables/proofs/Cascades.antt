-- The tables after foreign-key actions have deleted rows that no other row refers to.
use Rattle.std.proofs.Common.{◌≡◌, ◌≢◌, inl, inr, ℕ, zero, suc, ℤ, ◌+◌, List, [], ◌∷◌, ◌++◌, length, map, Bool, true, false, Some, Ok, Err, Option, refl, sym, ap, subst, ◌∙◌, append-nil}
use Rattle.reg_tables.proofs.Kit.{MatchBool, nat_lt, list_any, both_ways, false_from_ne_true, cases_eq, Int, Row, Trees, IsAscending, rowid, without_rowid, with_tree, Table, Schema, edit_of, left_by, taken_by, without_all, id_in, IsRefused, Given, Enforced, Datatype, NotNull, Check, PrimaryKey, Unique, ForeignKey, references_fit, Keeps, Refusal, Violates, Mismatch, NoRowid, BadReference, TooDeep, End, Work, works, is_child_of, AreChildren, action_edit, max_depth, Acts, ActsOn, Leads, ids_of, Has, all_has, has_left, has_right, has_either, int_is, without_all_has}
use Rattle.sqlite_rules.specs.declared.action.Deed.TheVariants.{Delete}
use Rattle.reg_tables.specs.TableMaps.{HaveRowids}
use Rattle.reg_tables.proofs.ListMembers.{has_mapped, maps_had}
use Rattle.reg_tables.proofs.RowLemmas.{FindsRowids, rowids_left, left_fails, fails_left}
use Rattle.reg_tables.proofs.UniqueLemmas.{with_tree_there, with_tree_elsewhere, stays_unique}

-- ---- the rows of one table

-- exactly the rows for which this is true are deleted
pub record Loses (Gone : Row → Type 0) (old new : List Row) : Type 0 where
  pub rowids : HaveRowids new
  pub was : (r : Row) → Has new r → Has old r × (Gone r → ⊥)
  pub stays : (r : Row) → Has old r → (Gone r → ⊥) → Has new r
  pub ids : List ℤ
  pub is : new ≡ without_all old ids

pub loses_none : {Gone : Row → Type 0} (rows : List Row) → HaveRowids rows → ((r : Row) → Has rows r → Gone r → ⊥) → Loses Gone rows rows
loses_none rows shaped none = record { rowids = shaped; was = λ r there. (there, none r there); stays = λ r there _. there; ids = []; is = refl }

pub loses_found : (p : Row → Bool) (rest : Row → Row) (rows found : List Row) → HaveRowids rows → FindsRowids p rest rows found → Loses (λ r. p r ≡ true) rows (without_all rows (ids_of found))
loses_found p rest rows found shaped finds = record {
  rowids = rowids_left rows (ids_of found) shaped;
  was = λ r there. let it = left_fails p rest rows found shaped finds r there in (it.0, λ is. both_ways _ it.1 is);
  stays = λ r there not_gone. fails_left p rest rows found shaped finds r there (false_from_ne_true _ not_gone);
  ids = ids_of found;
  is = refl;
}

-- rows that are deleted in two steps
without_both : (ids more : List ℤ) (rows : List Row) → without_all rows (ids ++ more) ≡ without_all (without_all rows ids) more
without_both [] more rows = refl
without_both (id ∷ ids) more rows = without_both ids more (without_rowid id rows)

same_ids : (ids : List ℤ) → ids_of (map (λ id. Int id ∷ []) ids) ≡ ids
same_ids [] = refl
same_ids (id ∷ ids) = ap (λ l. id ∷ l) (same_ids ids)

loses_ids : (p : Row → Bool) (rows : List Row) (ids : List ℤ) → HaveRowids rows → ((id : ℤ) → Has ids id → (r : Row) × Has rows r × (p r ≡ true) × (rowid r ≡ Int id))
    → ((r : Row) (id : ℤ) → Has rows r → p r ≡ true → rowid r ≡ Int id → Has ids id) → Loses (λ r. p r ≡ true) rows (without_all rows ids)
loses_ids p rows ids shaped sound complete =
    let cell : ℤ → Row = λ id. Int id ∷ [] in
    let finds : FindsRowids p (λ row. []) rows (map cell ids) = record {
      sound = λ x there. let id = has_mapped cell ids x there in let r = sound id.0 id.1 in (r.0, r.1, r.2, id.2 ∙ ap (λ v. v ∷ []) (sym r.3));
      complete = λ row there is.
          let its = int_is (rowid row) (all_has _ rows row shaped.1 there) in
          subst (Has (map cell ids)) (ap (λ v. v ∷ []) (sym its)) (maps_had cell ids (id_in (rowid row)) (complete row (id_in (rowid row)) there is its));
    } in
    subst (λ l. Loses (λ r. p r ≡ true) rows (without_all rows l)) (same_ids ids) (loses_found p (λ row. []) rows (map cell ids) shaped finds)

-- ---- the rows of all tables

module _ (schema : Schema) where
  -- no two rows of a table have the same rowid
  abbrev pub Shaped : Trees → Type 0
  Shaped db = (t : Table) → Has schema.tables t → HaveRowids (db t.tree)

  -- one of these actions deletes the row
  abbrev pub Takes : List Work → ℕ → Row → Type 0
  Takes stack tree r = (w : Work) × Has stack w × (w.child.tree ≡ tree) × (list_any (is_child_of w r) w.moves ≡ true)

  -- the table has lost exactly the rows that the actions delete
  pub record Left (stack : List Work) (tree : ℕ) (old new : List Row) : Type 0 where
    pub loses : Loses (Takes stack tree) old new
    pub same : ((w : Work) → Has stack w → w.child.tree ≡ tree → ⊥) → new ≡ old

  abbrev pub AllLose : List Work → Trees → Trees → Type 0
  AllLose stack old new = (t : Table) → Has schema.tables t → Left stack t.tree (old t.tree) (new t.tree)

  -- the action deletes rows that no other row refers to
  pub record IsLeaf (w : Work) : Type 0 where
    pub deletes : w.deed ≡ Delete
    pub shallow : nat_lt w.depth max_depth ≡ true
    pub listed : Has schema.tables w.child
    pub keys : (gone : Bool) → references_fit schema w.child false gone ≡ true
    pub quiet : (olds : List Row) → works schema Enforced (w.depth + 1) w.child.tree olds [] ≡ []

  -- ---- rows may be deleted

  module _ (apart : IsAscending (λ (a : Table) (b : Table). a.tree ≡ b.tree → ⊥) schema.tables) where
    pub delete_allowed : (db : Trees) (table : Table) → Has schema.tables table → ((gone : Bool) → references_fit schema table false gone ≡ true) → Keeps Unique schema db
        → (ids : List ℤ) (why : Refusal) → IsRefused schema Enforced db (edit_of db table ids Given 0 []) why → ⊥
    delete_allowed db table listed keys unique ids why h = go why h
      where
        left : List Row
        left = left_by db (edit_of db table ids Given 0 [])

        -- fewer rows share no key
        fewer : Keeps Unique schema (with_tree db table.tree left)
        fewer = stays_unique schema db (with_tree db table.tree left) table [] apart listed (λ t known other. with_tree_elsewhere db table.tree left t.tree other)
            (λ r there. inr (without_all_has ids (db table.tree) r (subst (λ l. Has l r) (with_tree_there db table.tree left) there))) (λ i known on r fresh there none. absurd none) unique

        go : (why : Refusal) → IsRefused schema Enforced db (edit_of db table ids Given 0 []) why → ⊥
        go (Violates Datatype) h = cc
        go (Violates NotNull) h = cc
        go (Violates Check) h = cc
        go (Violates PrimaryKey) h = cc
        go (Violates Unique) h = h fewer
        go (Violates ForeignKey) h = h
        go Mismatch h = cc
        go NoRowid h = cc
        go BadReference h = both_ways _ h (keys (nat_lt 0 (length ids)))
        go TooDeep h = h

    -- ---- one action

    abbrev Goes : ℕ → Trees → List Work → Trees → Work → Type 0
    Goes n db below next w = IsLeaf w → Shaped db → Acts schema Enforced (Leads schema Enforced n) db w below (Ok next) → (mid : Trees) × AllLose (w ∷ []) db mid × Leads schema Enforced n mid below (Ok next)

    goes_by : (n : ℕ) (db : Trees) (below : List Work) (next : Trees) (w : Work) → Goes n db below next (record w { deed = Delete })
    goes_by n db below next w leaf shaped h = go_if (nat_lt w.depth max_depth) h
      where
        it : Work
        it = record w { deed = Delete }

        own : (t : Table) (r : Row) → Takes (it ∷ []) t.tree r → list_any (is_child_of it r) it.moves ≡ true
        own t r takes = elim takes.1 [ inl same ↦ subst (λ (x : Work). list_any (is_child_of x r) x.moves ≡ true) same takes.3 | inr none ↦ absurd none ]

        elsewhere : (t : Table) → t.tree ≢ it.child.tree → (r : Row) → Takes (it ∷ []) t.tree r → ⊥
        elsewhere t other r takes = elim takes.1 [ inl same ↦ other (sym takes.2 ∙ ap (λ (x : Work). x.child.tree) same) | inr none ↦ absurd none ]

        lost : (ids : List ℤ) → AreChildren db it ids → (mid : Trees) → mid it.child.tree ≡ without_all (db it.child.tree) ids → ((t : Table) → Has schema.tables t → t.tree ≢ it.child.tree → mid t.tree ≡ db t.tree) → AllLose (it ∷ []) db mid
        lost ids are mid rows others t known = elim (cases_eq t.tree it.child.tree) [
          | inl same ↦
              let by = loses_ids (λ r. list_any (is_child_of it r) it.moves) (db it.child.tree) ids (shaped it.child leaf.listed) are.sound are.complete in
              let here : Loses (Takes (it ∷ []) t.tree) (db it.child.tree) (mid it.child.tree) = record {
                ids = by.ids;
                is = rows ∙ by.is;
                rowids = subst HaveRowids (sym rows) by.rowids;
                was = λ r there. let o = by.was r (subst (λ l. Has l r) rows there) in (o.0, λ takes. o.1 (own t r takes));
                stays = λ r there not_taken. subst (λ l. Has l r) (sym rows) (by.stays r there (λ is. not_taken (it, inl refl, sym same, is)));
              } in
              record { loses = subst (λ n. Loses (Takes (it ∷ []) t.tree) (db n) (mid n)) (sym same) here; same = λ none. absurd (none it (inl refl) (sym same)) }
          | inr other ↦ record {
            loses = subst (Loses (Takes (it ∷ []) t.tree) (db t.tree)) (sym (others t known other)) (loses_none (db t.tree) (shaped t known) (λ r there takes. elsewhere t other r takes));
            same = λ _. others t known other;
          }
        ]

        go : (ids : List ℤ) → AreChildren db it ids → ActsOn schema Enforced (Leads schema Enforced n) db it below (Ok next) ids → (mid : Trees) × AllLose (it ∷ []) db mid × Leads schema Enforced n mid below (Ok next)
        go [] are h = (db, lost [] are db refl (λ t known other. refl), h)
        go (id ∷ ids) are (inl refused) = absurd (let e = refused.2 in cc)
        go (id ∷ ids) are (inr (inl big)) = absurd (let e = big.3 in cc)
        go (id ∷ ids) are (inr (inr went)) =
            let edit = action_edit db it (id ∷ ids) in
            let none : below ++ works schema Enforced (it.depth + 1) edit.table.tree (taken_by db edit) edit.news ≡ below = ap (λ l. below ++ l) (leaf.quiet (taken_by db edit)) ∙ append-nil below in
            (went.0, lost (id ∷ ids) are went.0 went.1.rows (λ t known other. all_has _ schema.tables t went.1.tables known other), subst (λ l. Leads schema Enforced n went.0 l (Ok next)) none went.2)

        go_if : (b : Bool) → MatchBool b ((ids : List ℤ) × AreChildren db it ids × ActsOn schema Enforced (Leads schema Enforced n) db it below (Ok next) ids) (◌≡◌ {A = End} (Ok next) (Err (Some TooDeep)))
            → (mid : Trees) × AllLose (it ∷ []) db mid × Leads schema Enforced n mid below (Ok next)
        go_if true h = go h.0 h.1 h.2
        go_if false h = absurd (cc)

    goes : (n : ℕ) (db : Trees) (below : List Work) (next : Trees) (w : Work) → Goes n db below next w
    goes n db below next w leaf = subst (λ d. Goes n db below next (record w { deed = d })) (sym leaf.deletes) (goes_by n db below next w) leaf

    -- ---- all of them

    -- the tables after the actions
    pub leads_to : (n : ℕ) (db next : Trees) (stack : List Work) → ((w : Work) → Has stack w → IsLeaf w) → Shaped db → Leads schema Enforced n db stack (Ok next) → AllLose stack db next
    leads_to zero db next stack leaves shaped h = λ t known.
        let same : next ≡ db = (let e = h.1 in cc) in
        let none : stack ≡ [] = h.0 in
        record {
          loses = subst (λ (n : Trees). Loses (Takes stack t.tree) (db t.tree) (n t.tree)) (sym same) (loses_none (db t.tree) (shaped t known) (λ r there takes. subst (λ l. Has l takes.0) none takes.1));
          same = λ _. ap (λ (n : Trees). n t.tree) same;
        }
    leads_to (suc n) db next stack leaves shaped h =
        let below = h.0 in
        let w = h.1 in
        let is : stack ≡ below ++ w ∷ [] = h.2 in
        let here : Has stack w = subst (λ l. Has l w) (sym is) (has_right below (w ∷ []) w (inl refl)) in
        let step = goes n db below next w (leaves w here) shaped h.3 in
        let mid = step.0 in
        let front = λ (v : Work) (there : Has below v). subst (λ l. Has l v) (sym is) (has_left below (w ∷ []) v there) in
        let last = λ (v : Work) (there : Has (w ∷ []) v). subst (λ l. Has l v) (sym is) (has_right below (w ∷ []) v there) in
        let rest = leads_to n mid next below (λ v there. leaves v (front v there)) (λ t known. (step.1 t known).loses.rowids) step.2 in
        λ t known.
        let first = step.1 t known in
        let later = rest t known in
        record {
          loses = record {
            ids = first.loses.ids ++ later.loses.ids;
            is = later.loses.is ∙ ap (λ l. without_all l later.loses.ids) first.loses.is ∙ sym (without_both first.loses.ids later.loses.ids (db t.tree));
            rowids = later.loses.rowids;
            was = λ r there.
                let late = later.loses.was r there in
                let early = first.loses.was r late.0 in (
                  early.0,
                  λ takes. elim (has_either below (w ∷ []) takes.0 (subst (λ l. Has l takes.0) is takes.1)) [
                    | inl before ↦ late.1 (takes.0, before, takes.2, takes.3)
                    | inr after ↦ early.1 (takes.0, after, takes.2, takes.3)
                  ],
                );
            stays = λ r there not_taken.
                later.loses.stays r (first.loses.stays r there (λ takes. not_taken (takes.0, last takes.0 takes.1, takes.2, takes.3))) (λ takes. not_taken (takes.0, front takes.0 takes.1, takes.2, takes.3));
          };
          same = λ none. later.same (λ v there. none v (front v there)) ∙ first.same (λ v there. none v (last v there));
        }

    -- ---- no action fails

    abbrev Fails : ℕ → Trees → List Work → Option Refusal → Work → Type 0
    Fails n db below why w = IsLeaf w → Keeps Unique schema db → Acts schema Enforced (Leads schema Enforced n) db w below (Err why) → (mid : Trees) × Keeps Unique schema mid × Leads schema Enforced n mid below (Err why)

    fails_by : (n : ℕ) (db : Trees) (below : List Work) (why : Option Refusal) (w : Work) → Fails n db below why (record w { deed = Delete })
    fails_by n db below why w leaf unique h = go_if (nat_lt w.depth max_depth) leaf.shallow h
      where
        it : Work
        it = record w { deed = Delete }

        go : (ids : List ℤ) → ActsOn schema Enforced (Leads schema Enforced n) db it below (Err why) ids → (mid : Trees) × Keeps Unique schema mid × Leads schema Enforced n mid below (Err why)
        go [] h = (db, unique, h)
        go (id ∷ ids) (inl refused) = absurd (delete_allowed db it.child leaf.listed leaf.keys unique (id ∷ ids) refused.0 refused.1)
        go (id ∷ ids) (inr (inl big)) = absurd big.1
        go (id ∷ ids) (inr (inr went)) =
            let edit = action_edit db it (id ∷ ids) in
            let none : below ++ works schema Enforced (it.depth + 1) edit.table.tree (taken_by db edit) edit.news ≡ below = ap (λ l. below ++ l) (leaf.quiet (taken_by db edit)) ∙ append-nil below in
            (went.0, went.1.fits.rules Unique (λ e. absurd (cc)), subst (λ l. Leads schema Enforced n went.0 l (Err why)) none went.2)

        go_if : (b : Bool) → b ≡ true → MatchBool b ((ids : List ℤ) × AreChildren db it ids × ActsOn schema Enforced (Leads schema Enforced n) db it below (Err why) ids) (◌≡◌ {A = End} (Err why) (Err (Some TooDeep)))
            → (mid : Trees) × Keeps Unique schema mid × Leads schema Enforced n mid below (Err why)
        go_if true is h = go h.0 h.2
        go_if false is h = absurd (cc)

    fails : (n : ℕ) (db : Trees) (below : List Work) (why : Option Refusal) (w : Work) → Fails n db below why w
    fails n db below why w leaf = subst (λ d. Fails n db below why (record w { deed = d })) (sym leaf.deletes) (fails_by n db below why w) leaf

    pub never_stops : (n : ℕ) (db : Trees) (stack : List Work) (why : Option Refusal) → ((w : Work) → Has stack w → IsLeaf w) → Keeps Unique schema db → Leads schema Enforced n db stack (Err why) → ⊥
    never_stops zero db stack why leaves unique h = let e = h.1 in cc
    never_stops (suc n) db stack why leaves unique h =
        let is : stack ≡ h.0 ++ h.1 ∷ [] = h.2 in
        let step = fails n db h.0 why h.1 (leaves h.1 (subst (λ l. Has l h.1) (sym is) (has_right h.0 (h.1 ∷ []) h.1 (inl refl)))) unique h.3 in
        never_stops n step.0 h.0 why (λ v there. leaves v (subst (λ l. Has l v) (sym is) (has_left h.0 (h.1 ∷ []) v there))) step.1 step.2
