-- How the statements on one table change the map that its rows show.
use Rattle.std.proofs.Common.{T, arith, ◌≤◌, ◌+◌, ◌≡◌, inl, ◌&&◌, ℕ, ℤ, length, map, drop, List, [], ◌∷◌, ◌/◌, Option, Some, None, Bool, true, false, cond, Ok, MatchOption, slice_get, refl, sym, ap, subst, ◌∙◌, Ordering, Less, Equal, Greater, pos, nat_le, ◌^◌}
use Rattle.reg_tables.proofs.Kit.{int_cmp_is, ◌<ℤ◌, ◌<◌, is_eq, nat_cmp, int_cmp, ordering_then, MatchOrdering, FinMap, get, remove, slice_cmp-IsAntisymmetric, nat_cmp-IsAntisymmetric, IsAntisymmetric, ranked, nat_list_cmp_total, nat_cmp_total, on_total, then_total, lt-ltb, and_parts, not-true, Value, Null, Int, Text, Row, Trees, put_row, rowid, is_int, Integer, cast, cast_row, ids_of, edit_of, is_taken, put_all, are_fresh, have_rowids, without_all, numbered, next_rowid, Chosen, Given, Term, col, eval_all, Table, Query, IsAnswer, overlay, Insert, Update, Delete, Select, Values, value_rows, stamped, State, Executes, Shown, understood, statement_of, runs_as, reads_as, value_cmp-Text, value_cmp-Int, is_true, from_truth, Program, Has, Schema}
use Rattle.std.specs.FinMap.{insert}
use Rattle.sqlite.specs.Order.{column}
use Rattle.sqlite.specs.Ops.{unary}
use Rattle.sqlite_sql.specs.Ops.{binary}
use Rattle.reg_tables.specs.TableMaps.{RowForm, IsEntry, ShowsMap}
use Rattle.reg_tables.specs.Changes.{altered}
use Rattle.reg_tables.specs.Rooms.{HasRoom}
use Rattle.reg_tables.proofs.Rooms.{room_after}
use Rattle.reg_tables.proofs.ListMembers.{has_mapped, maps_had}
use Rattle.reg_tables.specs.Contents.{version_cmp, number_cells, version_key_cells, flag_cell, text_cmp, text_cells}
use Rattle.reg_tables.specs.Inside.KeyedLaws.{HasNoForeignKeyAction, HasNoUpdateAction, ReplacesMap, IsKeyOrder}
use Rattle.reg_tables.specs.Inside.Statements.{plain_query, IsCommand, IsSelect, TableQuery, body_of, IsQuery, by_first_column, by_id, by_version}
use Rattle.reg_tables.proofs.Queries.{passes, passing, one_passing, found_count, answer_has, has_answer}
use Rattle.reg_tables.proofs.MapLemmas.{same_key, tied_key}
use Rattle.reg_tables.proofs.RowLemmas.{FindsRowids, shows_inserted, shows_removed, shows_altered}
use Rattle.reg_tables.proofs.Statements.{by_text}
use Rattle.reg_tables.proofs.Writes.{inserted, updated, deleted}

-- ---- values that a column stores unchanged

either : (b : Bool) (x : Value) → cond b x x ≡ x
either true x = refl
either false x = refl

pub cast-Null : cast Integer Null ≡ Null
unfolding unary
cast-Null = either _ Null

pub cast-Int : (n : ℤ) → cast Integer (Int n) ≡ Int n
unfolding unary
cast-Int n = either _ (Int n)

-- ---- text keys

pub text_order : IsKeyOrder text_cmp
text_order = record { total = nat_list_cmp_total; antisymmetric = slice_cmp-IsAntisymmetric nat_cmp-IsAntisymmetric }

pub distinct_texts : (a b : List ℕ) → text_cells a ≡ text_cells b → a ≡ b
distinct_texts a b h = cc

-- a row passes if it has the key
pub by_first_column_test : (row : Row) (k q : List ℕ) → column row 1 ∷ [] ≡ text_cells q → passes by_first_column (Text k ∷ []) row ≡ is_eq (text_cmp q k)
unfolding binary
by_first_column_test row k q is = let its : column row 1 ≡ Text q = cc in rw (its, value_cmp-Text q k) (truth (is_eq (text_cmp q k)))
  where
    truth : (b : Bool) → (is_true (from_truth (Some b)) && true) ≡ b
    truth true = refl
    truth false = refl

-- a row passes if it has the text
pub by_text_test : (row : Row) (k q : List ℕ) → column row 2 ∷ [] ≡ text_cells q → passes by_text (Text k ∷ []) row ≡ is_eq (text_cmp q k)
unfolding binary
by_text_test row k q is = let its : column row 2 ≡ Text q = cc in rw (its, value_cmp-Text q k) (truth (is_eq (text_cmp q k)))
  where
    truth : (b : Bool) → (is_true (from_truth (Some b)) && true) ≡ b
    truth true = refl
    truth false = refl

-- ---- numbers, and versions

pub number_order : IsKeyOrder nat_cmp
number_order = record { total = nat_cmp_total; antisymmetric = nat_cmp-IsAntisymmetric }

pub distinct_numbers : (a b : ℕ) → number_cells a ≡ number_cells b → a ≡ b
distinct_numbers a b h = cc

same_versions : IsAntisymmetric version_cmp
same_versions a b h = go (text_cmp a.0 b.0) refl h
  where
    go : (o : Ordering) → text_cmp a.0 b.0 ≡ o → ordering_then o (nat_cmp a.1 b.1) ≡ Equal → a ≡ b
    go Less e h = absurd (cc)
    go Equal e h = let subject = text_order.antisymmetric a.0 b.0 e in let number = nat_cmp-IsAntisymmetric a.1 b.1 h in λ i. (subject i, number i)
    go Greater e h = absurd (cc)

pub version_order : IsKeyOrder version_cmp
version_order = record { total = then_total (on_total (λ (key : List ℕ × ℕ). key.0) nat_list_cmp_total) (on_total (λ (key : List ℕ × ℕ). key.1) nat_cmp_total); antisymmetric = same_versions }

pub distinct_versions : (a b : List ℕ × ℕ) → version_key_cells a ≡ version_key_cells b → a ≡ b
distinct_versions a b h =
    let subject : a.0 ≡ b.0 = cc in
    let number : a.1 ≡ b.1 = cc in
    λ i. (subject i, number i)

pub cast-flag : (b : Bool) → cast Integer (flag_cell b) ≡ flag_cell b
cast-flag b = cast-Int (cond b (pos 1) (pos 0))

-- integers that are at least 0 are ordered as natural numbers
pub int_order : (a b : ℕ) → int_cmp (pos a) (pos b) ≡ nat_cmp a b
int_order a b = sym (int_cmp_is (pos a) (pos b) (nat_cmp a b) (go (nat_cmp a b) (ranked a b (nat_cmp a b) refl)))
  where
    go : (r : Ordering) → MatchOrdering r (a < b) (a ≡ b) (b < a) → MatchOrdering r (pos a <ℤ pos b) (pos a ≡ pos b) (pos b <ℤ pos a)
    go Less h = record { lt = subst T (sym (lt-ltb a b h)) tt }
    go Equal h = ap pos h
    go Greater h = record { lt = subst T (sym (lt-ltb b a h)) tt }

pub same_pos : (q k : ℕ) → is_eq (int_cmp (pos q) (pos k)) ≡ is_eq (nat_cmp q k)
same_pos q k = ap is_eq (int_order q k)

-- a row passes if it has the rowid
pub by_id_test : (row : Row) (k q : ℕ) → rowid row ∷ [] ≡ number_cells q → passes by_id (Int (pos k) ∷ []) row ≡ is_eq (nat_cmp q k)
unfolding binary
by_id_test row k q is = let its : rowid row ≡ Int (pos q) = cc in rw (its, value_cmp-Int (pos q) (pos k), same_pos q k) (truth (is_eq (nat_cmp q k)))
  where
    truth : (b : Bool) → (is_true (from_truth (Some b)) && true) ≡ b
    truth true = refl
    truth false = refl

-- a row passes if it has the subject and the number
pub by_version_test : (row : Row) (k q : List ℕ × ℕ) → column row 1 ∷ column row 2 ∷ [] ≡ version_key_cells q → passes by_version (Text k.0 ∷ Int (pos k.1) ∷ []) row ≡ is_eq (version_cmp q k)
unfolding binary
by_version_test row k q is =
    let subject : column row 1 ≡ Text q.0 = cc in
    let number : column row 2 ≡ Int (pos q.1) = cc in
    rw (subject, number, value_cmp-Text q.0 k.0, value_cmp-Int (pos q.1) (pos k.1), same_pos q.1 k.1) (truth (text_cmp q.0 k.0) (nat_cmp q.1 k.1))
  where
    truth : (a b : Ordering) → (is_true (from_truth (Some (is_eq a))) && (is_true (from_truth (Some (is_eq b))) && true)) ≡ is_eq (ordering_then a b)
    truth Less Less = refl
    truth Less Equal = refl
    truth Less Greater = refl
    truth Equal Less = refl
    truth Equal Equal = refl
    truth Equal Greater = refl
    truth Greater Less = refl
    truth Greater Equal = refl
    truth Greater Greater = refl

-- ---- one table

-- a query with no WITH reads the tables as they are
pub with_nothing : (db : Trees) (tree : ℕ) → overlay db [] tree ≡ db tree
with_nothing db tree = rw (no_table (nat_le (2 ^ 31) tree))
  where
    no_table : (b : Bool) → ◌≡◌ {A = Option (List Row)} (cond b None None) None
    no_table true = refl
    no_table false = refl

-- a row keeps a rowid that it already has
pub given_as_is : (rows news : List Row) → numbered Given rows news ≡ news
given_as_is rows [] = refl
given_as_is rows (r ∷ news) = ap (λ l. r ∷ l) (given_as_is (put_row r rows) news)

-- the cells of an inserted row
pub record IsRowOf {K V : Type 0} (form : RowForm K V) (row : Row) (key : K) (value : V) : Type 0 where
  pub has_id : is_int (rowid row) ≡ true
  pub has_key : form.key_of row ≡ form.key_cells key
  pub has_value : form.value_of row ≡ form.value_cells value

-- the query finds the rows that pass, at most one
pub record FindsOne (p : Row → Bool) (rest : Row → Row) (rows found : List Row) : Type 0 where
  pub finds : FindsRowids p rest rows found
  pub few : length found ≤ 1

-- the rows that a query by key finds
module _ {K V : Type 0} (form : RowForm K V) (R : K → K → Ordering) (order : IsKeyOrder R) (db : Trees) (tree : ℕ) (m : FinMap R V) (shows : ShowsMap form (db tree) (get m)) (k : K) (tests : List Term) (params : Row)
    (test : (row : Row) (q : K) → form.key_of row ≡ form.key_cells q → passes tests params row ≡ is_eq (R q k)) where
  -- a row that passes has the key
  pub own_row : (row : Row) → Has (db tree) row → passes tests params row ≡ true → (v : V) × (get m k ≡ Some v) × IsEntry form row k v
  own_row row there is =
      let entry = shows.sound row there in
      let same : entry.0 ≡ k = same_key R order entry.0 k (sym (test row entry.0 entry.3.0) ∙ is) in
      (entry.1, ap (get m) (sym same) ∙ entry.2, (entry.3.0 ∙ ap form.key_cells same, entry.3.1))

  pub finds_one : (shown : List Term) (found : List Row) → IsAnswer (plain_query tree tests (col 1 0 ∷ shown)) (overlay db []) params found → FindsOne (passes tests params) (λ row. eval_all shown (params ∷ row ∷ [])) (db tree) found
  finds_one shown found answer =
      let nothing = with_nothing db tree in
      let one = one_passing tests params (db tree) shows.rowids.0 (λ a b x y first second. shows.once a b x y ((own_row a x first).2.0 ∙ sym (own_row b y second).2.0)) in
      let all : length found ≡ length (passing tests params (db tree)) = found_count tests params tree (col 1 0 ∷ shown) (overlay db []) found answer ∙ ap (λ rows. length (passing tests params rows)) nothing in
      record {
        finds = record {
          sound = λ x there. let r = answer_has tests params tree (col 1 0 ∷ shown) (overlay db []) found answer x there in (r.0, subst (λ l. Has l r.0) nothing r.1, r.2, r.3);
          complete = λ row there. has_answer tests params tree (col 1 0 ∷ shown) (overlay db []) found answer row (subst (λ l. Has l row) (sym nothing) there);
        };
        few = omega (arith, one, all);
      }

module _ (schema : Schema) {K V : Type 0} (form : RowForm K V) (R : K → K → Ordering) (order : IsKeyOrder R) (distinct : (a b : K) → form.key_cells a ≡ form.key_cells b → a ≡ b) (at : ℕ) (table : Table)
    (there : slice_get schema.tables at ≡ Some table) (old new : State) (declared : old.now.schema ≡ schema) (m : FinMap R V) (shows : ShowsMap form (old.now.trees table.tree) (get m)) (k : K) (sql : List ℕ) (params : Row) (count : ℕ) where
  pub inserts : (terms : List Term) (width : ℕ) (new_row : Row) (v : V) → table.is_counted ≡ false → IsCommand schema sql (Insert at (Values terms width))
      → (edit_of old.now.trees table [] Chosen 0 (value_rows (stamped table params) width (length terms / width) terms)).news ≡ new_row ∷ [] → IsRowOf form new_row k v → get m k ≡ None
      → Executes sql params old new (Ok count) → ReplacesMap schema form table.tree old.now new.now (get (insert m k v))
  inserts terms width new_row v uncounted it news is free h =
      let db = old.now.trees in
      let w = runs_as sql params old new schema declared (Insert at (Values terms width)) it.is it.plain count h in
      let step = inserted schema at table there old new declared (statement_of sql (understood schema sql)) params count terms width uncounted w in
      let rows : new.now.trees table.tree ≡ put_row new_row (db table.tree) = step.applies.rows ∙ ap (put_all (db table.tree)) news in
      let fresh : is_taken (db table.tree) new_row ≡ false = not-true _ (and_parts _ _ (ap (are_fresh (db table.tree)) (sym news) ∙ step.applies.fresh)).0 in
      record {
        declared = step.same;
        sound = w.sound;
        rows = subst (λ r. ShowsMap form r (get (insert m k v))) (sym rows) (shows_inserted form R order distinct (db table.tree) m k shows v new_row free is.has_key is.has_value is.has_id fresh);
        others = step.applies.tables;
      }

  pub inserts_room : (terms : List Term) (width : ℕ) (new_row : Row) → table.is_counted ≡ false → IsCommand schema sql (Insert at (Values terms width))
      → (edit_of old.now.trees table [] Chosen 0 (value_rows (stamped table params) width (length terms / width) terms)).news ≡ new_row ∷ [] → rowid new_row ≡ Int (next_rowid (old.now.trees table.tree))
      → Executes sql params old new (Ok count) → (n : ℕ) → HasRoom (old.now.trees table.tree) (n + 1) → HasRoom (new.now.trees table.tree) n
  inserts_room terms width new_row uncounted it news its h n room =
      let db = old.now.trees in
      let w = runs_as sql params old new schema declared (Insert at (Values terms width)) it.is it.plain count h in
      let step = inserted schema at table there old new declared (statement_of sql (understood schema sql)) params count terms width uncounted w in
      let rows : new.now.trees table.tree ≡ put_row new_row (db table.tree) = step.applies.rows ∙ ap (put_all (db table.tree)) news in
      subst (λ r. HasRoom r n) (sym rows) (room_after (db table.tree) n room new_row its)

  -- the DELETE finds its rows by key
  pub removes : HasNoForeignKeyAction schema table.tree → (tests : List Term) → IsCommand schema sql (Delete at (record { lets = []; body = plain_query table.tree tests (col 1 0 ∷ []) }))
      → ((row : Row) (q : K) → form.key_of row ≡ form.key_cells q → passes tests params row ≡ is_eq (R q k)) → Executes sql params old new (Ok count)
      → ReplacesMap schema form table.tree old.now new.now (get (remove m k))
  removes idle tests it test h =
      let db = old.now.trees in
      let q : Program = record { lets = []; body = plain_query table.tree tests (col 1 0 ∷ []) } in
      let w = runs_as sql params old new schema declared (Delete at q) it.is it.plain count h in
      let cut = deleted schema at table there old new declared (statement_of sql (understood schema sql)) params count idle q w in
      let found = cut.0 in
      let answer : IsAnswer q.body (overlay db []) params found = cut.1.answer Null in
      let step = cut.2 in
      let finds : FindsRowids (passes tests params) (λ row. []) (db table.tree) found = record {
        sound = λ x there. let r = answer_has tests params table.tree (col 1 0 ∷ []) (overlay db []) found answer x there in (r.0, subst (λ l. Has l r.0) (with_nothing db table.tree) r.1, r.2, r.3);
        complete = λ row there. has_answer tests params table.tree (col 1 0 ∷ []) (overlay db []) found answer row (subst (λ l. Has l row) (sym (with_nothing db table.tree)) there);
      } in
      record {
        declared = step.same;
        sound = w.sound;
        rows = subst (λ r. ShowsMap form r (get (remove m k))) (sym step.applies.rows) (shows_removed form R order distinct (db table.tree) m k shows (passes tests params) (λ row. []) found finds test);
        others = step.applies.tables;
      }

  -- the UPDATE finds its rows by key, and returns the rowid and then the new row
  pub alters : HasNoUpdateAction schema table → (tests shown : List Term) (change : V → V) → IsCommand schema sql (Update at (record { lets = []; body = plain_query table.tree tests (col 1 0 ∷ shown) }))
      → ((row : Row) (q : K) → form.key_of row ≡ form.key_cells q → passes tests params row ≡ is_eq (R q k))
      → ((row : Row) (v : V) → IsEntry form row k v → IsEntry form (cast_row table (eval_all shown (params ∷ row ∷ []))) k (change v)) → Executes sql params old new (Ok count)
      → ReplacesMap schema form table.tree old.now new.now (get (altered m k change))
  alters steady tests shown change it test turns h =
      let db = old.now.trees in
      let q : Program = record { lets = []; body = plain_query table.tree tests (col 1 0 ∷ shown) } in
      let w = runs_as sql params old new schema declared (Update at q) it.is it.plain count h in
      let put = updated schema at table there old new declared (statement_of sql (understood schema sql)) params count steady q w in
      let found = put.0 in
      let answer : IsAnswer q.body (overlay db []) params found = put.1.answer Null in
      let step = put.2 in
      let rest = λ (row : Row). eval_all shown (params ∷ row ∷ []) in
      let finds = (finds_one form R order db table.tree m shows k tests params test shown found answer).finds in
      let left = without_all (db table.tree) (ids_of found) in
      let source = λ (s : Row). cast_row table (drop 1 s) in
      let news = map source found in
      let as_given : numbered Given left news ≡ news = given_as_is left news in
      let from : (x : Row) → Has news x → (row : Row) × Has (db table.tree) row × (passes tests params row ≡ true) × (x ≡ cast_row table (rest row)) = λ x there.
      let s = has_mapped source found x there in
      let r = finds.sound s.0 s.1 in
      (r.0, r.1, r.2, s.2 ∙ ap source r.3) in
      let gives = λ (row : Row) (there : Has (db table.tree) row) (is : passes tests params row ≡ true). maps_had source found (rowid row ∷ rest row) (finds.complete row there is) in
      record {
        declared = step.same;
        sound = w.sound;
        rows = subst (λ r. ShowsMap form r (get (altered m k change))) (sym (step.applies.rows ∙ ap (put_all left) as_given))
            (shows_altered form R order distinct (db table.tree) m k shows (passes tests params) rest found finds test change (λ row. cast_row table (rest row)) turns news from gives
            (ap have_rowids (sym as_given) ∙ step.applies.keyed) (ap (are_fresh left) (sym as_given) ∙ step.applies.fresh));
        others = step.applies.tables;
      }

-- ---- a lookup by key

-- a lookup returns the row of the key's value, or no row
pub record FindsValue {K V : Type 0} (form : RowForm K V) (value : Option V) (found : List Row) : Type 0 where
  pub sound : (x : Row) → Has found x → (v : V) × (value ≡ Some v) × (x ≡ form.value_cells v)
  pub complete : (v : V) → value ≡ Some v → Has found (form.value_cells v)

-- the returned rows are the query's result
pub select_answered : (sql : List ℕ) (names : List (List ℕ)) (body : Query) (params : Row) (old new : State) → IsSelect sql names body old.now.schema → (found : List Row) → Shown sql params old new found → IsAnswer body (overlay old.now.trees []) params found
select_answered sql names body params old new it found h = (reads_as sql params old new old.now.schema refl (Select (record { lets = []; body = body }) names) it.command.is it.command.plain it.unlisted found h).answer Null

-- the returned rows are those that pass
module _ (q : TableQuery) (params : Row) (old new : State) (it : IsQuery q old.now.schema) (found : List Row) (h : Shown q.sql params old new found) where
  pub answered : IsAnswer (body_of q) (overlay old.now.trees []) params found
  answered = select_answered q.sql q.names (body_of q) params old new it found h

  module _ (plain : body_of q ≡ plain_query q.tree q.tests q.shown) where
    answer : IsAnswer (plain_query q.tree q.tests q.shown) (overlay old.now.trees []) params found
    answer = subst (λ b. IsAnswer b (overlay old.now.trees []) params found) plain answered

    pub shown_has : (x : Row) → Has found x → (row : Row) × Has (old.now.trees q.tree) row × (passes q.tests params row ≡ true) × (x ≡ eval_all q.shown (params ∷ row ∷ []))
    shown_has x there =
        let r = answer_has q.tests params q.tree q.shown (overlay old.now.trees []) found answer x there in
        (r.0, subst (λ l. Has l r.0) (with_nothing old.now.trees q.tree) r.1, r.2, r.3)

    pub has_shown : (row : Row) → Has (old.now.trees q.tree) row → passes q.tests params row ≡ true → Has found (eval_all q.shown (params ∷ row ∷ []))
    has_shown row there = has_answer q.tests params q.tree q.shown (overlay old.now.trees []) found answer row (subst (λ l. Has l row) (sym (with_nothing old.now.trees q.tree)) there)

module _ {K V : Type 0} (form : RowForm K V) (R : K → K → Ordering) (order : IsKeyOrder R) (q : TableQuery) (plain : body_of q ≡ plain_query q.tree q.tests q.shown) (params : Row) (old new : State) (it : IsQuery q old.now.schema) (value_at : K → Option V) (shows : ShowsMap form (old.now.trees q.tree) value_at) where
  pub finds : (k : K) (found : List Row) → ((row : Row) (key : K) → form.key_of row ≡ form.key_cells key → passes q.tests params row ≡ is_eq (R key k)) → ((row : Row) → eval_all q.shown (params ∷ row ∷ []) ≡ form.value_of row)
      → Shown q.sql params old new found → FindsValue form (value_at k) found
  finds k found test whole h = record {
    sound = λ x there.
        let r = shown_has q params old new it found h plain x there in
        let entry = shows.sound r.0 r.1 in
        let same = same_key R order entry.0 k (sym (test r.0 entry.0 entry.3.0) ∙ r.2) in
        (entry.1, ap value_at (sym same) ∙ entry.2, r.3 ∙ whole r.0 ∙ entry.3.1);
    complete = λ v is.
        let r = shows.complete k v is in
        subst (Has found) (whole r.0 ∙ r.2.1) (has_shown q params old new it found h plain r.0 r.1 (test r.0 k r.2.0 ∙ tied_key R order k k refl));
  }

pub none_of : {X : Type 0} (o : Option X) → ((x : X) → o ≡ Some x → ⊥) → o ≡ None
none_of None f = refl
none_of (Some x) f = absurd (f x refl)
