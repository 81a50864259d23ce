-- The result of counting the rows of `against`.
use Rattle.std.proofs.Common.{◌≡◌, inl, inr, ℕ, pos, suc, List, [], ◌∷◌, map, filter, flat_map, length, Option, None, Some, false, lit≤, codes, refl, sym, ap, subst, ◌∙◌, arith}
use Rattle.reg_tables.proofs.Kit.{AllZip, list_all, Any, min, slice_get, option_map, unwrap_or, IsPermutation, length-map, length_permutation, Value, Null, Int, Binary, Row, lit, col, Env, eval, holds, Query, Output, IsAnswer, inner, Trees, overlay, State, Shown, Has, any_has, Schema, Aggregate, Grouping, IsSummary, value_over, ProgramOverflows, CountRows}
use Rattle.std.specs.Prelude.{All}
use Rattle.sqlite.specs.Order.{column}
use Rattle.sqlite.specs.Query.{end, output}
use Rattle.sqlite.specs.Listing.{understood}
use Rattle.sqlite_tied.specs.Compute.{everything}
use Rattle.reg_tables.specs.Layout.{HasEightTables}
use Rattle.reg_tables.specs.Contents.{Against}
use Rattle.reg_tables.specs.Listings.{against_rows, greatest_integer, HasAgainstRows}
use Rattle.reg_tables.specs.Inside.ReadableRows.{IsReadableCount}
use Rattle.reg_tables.specs.Inside.Statements.{no_limit, IsSelect, TakesSelect}
use Rattle.reg_tables.proofs.KeyedTables.{with_nothing, select_answered}
use Rattle.reg_tables.proofs.ListMembers.{has_permuted}
use Rattle.reg_tables.proofs.Faults.{Asks}
use Rattle.reg_tables.proofs.TableLines.{tree_of, all_if_each}
use Rattle.reg_tables.proofs.Tables.{at_both}

abbrev pub count_sql : List ℕ
count_sql = codes "SELECT count(*) FROM against"

abbrev counting : Grouping
counting = record { keys = []; collations = []; aggregates = record { op = CountRows; distinct = false; collation = Binary; argument = lit Null } ∷ []; having = [] }

abbrev count_query : ℕ → Query
count_query tree = record {
  from = inner tree end;
  filter = [];
  group = Some counting;
  project = col 1 0 ∷ [];
  distinct = false;
  collations = [];
  order = [];
  limit = no_limit;
  offset = lit (Int (pos 0));
}

abbrev count_names : List (List ℕ)
count_names = codes "count(*)" ∷ []

abbrev its_count : Schema → Query
its_count schema = count_query (tree_of Against schema)

count_is : (schema : Schema) → HasEightTables schema → IsSelect count_sql count_names (its_count schema) schema
unfolding understood everything
count_is = at_both (λ s. IsSelect count_sql count_names (its_count s) s) (λ indexes. record { command = record { is = refl; plain = (refl, refl) }; unlisted = refl }) (λ indexes. record { command = record { is = refl; plain = (refl, refl) }; unlisted = refl })

count_takes : (schema : Schema) → HasEightTables schema → TakesSelect count_sql (its_count schema) [] schema
unfolding understood everything
count_takes = at_both (λ s. TakesSelect count_sql (its_count s) [] s) (λ indexes. record { whole = (lit≤ tt, refl); typed = refl }) (λ indexes. record { whole = (lit≤ tt, refl); typed = refl })

-- a count never overflows
count_never : (tree : ℕ) (db : Trees) (params : Row) → ProgramOverflows db params [] [] (count_query tree) → ⊥
count_never tree db params (inl over) =
    let group = any_has (λ (envs : List Env). Any (λ (a : Aggregate). value_over envs a ≡ None) counting.aggregates) over.0 over.2 in
    let one = any_has (λ (a : Aggregate). value_over group.0 a ≡ None) counting.aggregates group.2 in
    none_is one.0 group.0 one.1 one.2
  where
    none_is : (a : Aggregate) (group : List Env) → Has counting.aggregates a → value_over group a ≡ None → ⊥
    none_is a group (inl same) none = let e = sym (ap (value_over group) same) ∙ none in cc
    none_is a group (inr later) none = absurd later
count_never tree db params (inr fold) = (any_has _ _ fold).2

-- ---- the result

alone : {X : Type 0} (x : X) (ys : List X) → IsPermutation (x ∷ []) ys → ys ≡ x ∷ []
alone {X} x ys same = go ys same (length_permutation (x ∷ []) ys same)
  where
    go : (ys : List X) → IsPermutation (x ∷ []) ys → length ys ≡ 1 → ys ≡ x ∷ []
    go [] same long = absurd (omega (arith, long))
    go (y ∷ []) same long = elim (has_permuted (x ∷ []) (y ∷ []) x same (inl refl)) [ inl is ↦ ap (λ z. z ∷ []) (sym is) | inr later ↦ absurd later ]
    go (y ∷ z ∷ ys) same long = absurd (omega (arith, long))

each_once : (rows : List Row) (params : Row) → length (flat_map (λ (r : Row). (params ∷ r ∷ []) ∷ []) rows) ≡ length rows
each_once [] params = refl
each_once (r ∷ rows) params = ap suc (each_once rows params)

abbrev many : List Row → Value
many rows = Int (pos (min (length rows) greatest_integer))

-- one row, which has the number of rows
module _ (tree : ℕ) (db : Trees) (found : List Row) (a : IsAnswer (count_query tree) db [] found) where
  abbrev order : List Env
  order = a.grouped.grouping.0

  long : length (map (eval (lit Null)) order) ≡ length (db tree)
  long = length-map order (eval (lit Null)) ∙ length_permutation _ _ a.grouped.grouping.1 ∙ each_once (db tree) []

  by_values : (row values : Row) → AllZip (λ a v. value_over order a ≡ Some v) counting.aggregates values → row ≡ values → row ≡ many (db tree) ∷ []
  by_values row [] h is = absurd h
  by_values row (v ∷ []) h is =
      let told = h.0 in
      let same : Int (pos (min (length (map (eval (lit Null)) order)) greatest_integer)) ≡ v = cc in
      is ∙ ap (λ x. x ∷ []) (sym same ∙ ap (λ n. Int (pos (min n greatest_integer))) long)
  by_values row (v ∷ w ∷ values) h is = absurd h.1

  by_rows : (rows : List Row) → AllZip (IsSummary counting) (order ∷ []) rows → a.staged ≡ filter (λ env. list_all (holds env) []) (map (λ (r : Row). [] ∷ r ∷ []) rows) → found ≡ (many (db tree) ∷ []) ∷ []
  by_rows [] h staged = absurd h
  by_rows (row ∷ x ∷ rows) h staged = absurd h.1
  by_rows (row ∷ []) h staged =
      let value = by_values row h.0.0 h.0.1 h.0.2 in
      let kept : a.kept ≡ output (count_query tree) ([] ∷ row ∷ []) ∷ [] = a.distinct ∙ ap (map (output (count_query tree))) staged in
      let ordered : a.ordered ≡ output (count_query tree) ([] ∷ row ∷ []) ∷ [] = alone _ a.ordered (subst (λ k. IsPermutation k a.ordered) kept a.same) in
      a.shown ∙ ap (map (λ (o : Output). o.1)) ordered ∙ ap (λ (r : Row). (column r 0 ∷ []) ∷ []) value

  pub shows_count : found ≡ (many (db tree) ∷ []) ∷ []
  shows_count = by_rows a.grouped.rows (subst (λ g. AllZip (IsSummary counting) g a.grouped.rows) a.grouped.grouping.2 a.grouped.summaries) a.grouped.having

pub asks_count : (schema : Schema) → HasEightTables schema → Asks count_sql [] schema
asks_count schema known = record { names = count_names; body = its_count schema; never = count_never (tree_of Against schema); is = count_is schema known; takes = count_takes schema known }

module _ (old new : State) (known : HasEightTables old.now.schema) (found : List Row) (h : Shown count_sql [] old new found) where
  count_found : found ≡ (many (against_rows old.now) ∷ []) ∷ []
  count_found =
      let tree = tree_of Against old.now.schema in
      shows_count tree (overlay old.now.trees []) found (select_answered count_sql count_names (count_query tree) [] old new (count_is old.now.schema known) found h)
      ∙ ap (λ l. (many l ∷ []) ∷ []) (with_nothing old.now.trees tree)

  pub readable_count : All IsReadableCount found
  readable_count = all_if_each IsReadableCount found (λ x has. elim (subst (λ l. Has l x) count_found has) [ inl is ↦ record { count = min (length (against_rows old.now)) greatest_integer; is = is } | inr later ↦ absurd later ])

  pub counted : option_map (λ (row : Row). column row 0) (slice_get found 0) ≡ Some (many (against_rows old.now))
  counted = ap (λ (l : List Row). option_map (λ (row : Row). column row 0) (slice_get l 0)) count_found

-- the number that the caller reads
pub count_told : (old new : State) (found : List Row) → Shown count_sql [] old new found → (o : Option ℕ) → option_map (λ (row : Row). column row 0) (slice_get found 0) ≡ option_map (λ n. Int (pos n)) o → HasEightTables old.now.schema
    → HasAgainstRows old.now (unwrap_or o 0)
count_told old new found h None read known = absurd (let e = sym read ∙ counted old new known found h in cc)
count_told old new found h (Some count) read known = (let e = sym read ∙ counted old new known found h in cc)
