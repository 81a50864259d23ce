-- The result of a query on one table: the columns of each row that passes.
use Rattle.std.proofs.Common.{arith, lit≤, length, ◌≤◌, ◌≡◌, inl, inr, ℕ, List, [], ◌∷◌, ◌++◌, map, filter, flat_map, Bool, true, false, cond, refl, sym, ap, subst, ◌∙◌}
use Rattle.reg_tables.proofs.Kit.{list_all, IsPermutation, IsPermutation-sym, IsPermutation-map, length_permutation, length-map, both_ways, tied_itself, is_eq, value_cmp_total, all_has, Key, Row, value_cmp, Trees, IsAscending, rowid, Term, Env, eval_all, holds, Output, IsAnswer, Has}
use Rattle.reg_tables.specs.TableMaps.{HaveDifferentRowids}
use Rattle.reg_tables.specs.Inside.Statements.{no_limit, ordered_query, plain_query}
use Rattle.sqlite.specs.Query.{output}
use Rattle.reg_tables.proofs.ListMembers.{has_mapped, maps_had, has_permuted}

module _ (tests : List Term) (params : Row) where
  abbrev pub passes : Row → Bool
  passes row = list_all (holds (params ∷ row ∷ [])) tests

  abbrev pub passing : List Row → List Env
  passing rows = flat_map (λ row. cond (passes row) ((params ∷ row ∷ []) ∷ []) []) rows

  pub passing_has : (rows : List Row) (e : Env) → Has (passing rows) e → (row : Row) × Has rows row × (passes row ≡ true) × (e ≡ params ∷ row ∷ [])
  passing_has [] e h = absurd h
  passing_has (r ∷ rows) e h = go (passes r) refl h (passing_has rows e)
    where
      go : (b : Bool) → passes r ≡ b → Has (cond b ((params ∷ r ∷ []) ∷ []) [] ++ passing rows) e → (Has (passing rows) e → (s : Row) × Has rows s × (passes s ≡ true) × (e ≡ params ∷ s ∷ []))
          → (s : Row) × Has (r ∷ rows) s × (passes s ≡ true) × (e ≡ params ∷ s ∷ [])
      go true is (inl same) later = (r, inl refl, is, same)
      go true is (inr more) later = let found = later more in (found.0, inr found.1, found.2, found.3)
      go false is more later = let found = later more in (found.0, inr found.1, found.2, found.3)

  has_passing : (rows : List Row) (row : Row) → Has rows row → passes row ≡ true → Has (passing rows) (params ∷ row ∷ [])
  has_passing [] r h is = absurd h
  has_passing (s ∷ rows) r (inl same) is = rw (← same, is) (inl refl)
  has_passing (s ∷ rows) r (inr later) is =
      elim (passes s) as (λ b. Has (cond b ((params ∷ s ∷ []) ∷ []) [] ++ passing rows) (params ∷ r ∷ [])) [ true ↦ inr (has_passing rows r later is) | false ↦ has_passing rows r later is ]

  none_passing : (rows : List Row) → ((r : Row) → Has rows r → passes r ≡ true → ⊥) → passing rows ≡ []
  none_passing [] none = refl
  none_passing (r ∷ rows) none = go (passes r) refl (none_passing rows (λ s h. none s (inr h)))
    where
      go : (b : Bool) → passes r ≡ b → passing rows ≡ [] → cond b ((params ∷ r ∷ []) ∷ []) [] ++ passing rows ≡ []
      go true is later = absurd (none r (inl refl) is)
      go false is later = later

  -- if all rows that pass are equal, at most one row passes
  pub one_passing : (rows : List Row) → IsAscending HaveDifferentRowids rows → ((a b : Row) → Has rows a → Has rows b → passes a ≡ true → passes b ≡ true → a ≡ b) → length (passing rows) ≤ 1
  one_passing [] up same = lit≤ tt
  one_passing (r ∷ rows) up same = go (passes r) refl (one_passing rows up.1 (λ a b x y. same a b (inr x) (inr y)))
    where
      alone : passes r ≡ true → (s : Row) → Has rows s → passes s ≡ true → ⊥
      alone is s there also =
          both_ways _ (all_has (HaveDifferentRowids r) rows s up.0 there)
          (ap (λ (x : Row). is_eq (value_cmp (rowid r) (rowid x))) (same s r (inr there) (inl refl) also is) ∙ ap is_eq (tied_itself value_cmp_total (rowid r)))

      go : (b : Bool) → passes r ≡ b → length (passing rows) ≤ 1 → length (cond b ((params ∷ r ∷ []) ∷ []) [] ++ passing rows) ≤ 1
      go true is later = let none : length (passing rows) ≡ 0 = ap length (none_passing rows (alone is)) in omega arith
      go false is later = later

  -- the ordered rows are a permutation of those that pass
  module _ (tree : ℕ) (shown : List Term) (order : List (Term × Key)) (limit : Term) (db : Trees) (found : List Row) (a : IsAnswer (ordered_query tree tests shown order limit) db params found) where
    pub ordered_outputs : IsPermutation (map (output (ordered_query tree tests shown order limit)) (passing (db tree))) a.ordered
    ordered_outputs = subst (λ k. IsPermutation k a.ordered) (a.distinct ∙ ap (map (output (ordered_query tree tests shown order limit))) a.grouped) a.same

    pub ordered_has : (o : Output) → Has a.ordered o → (row : Row) × Has (db tree) row × (passes row ≡ true) × (o ≡ output (ordered_query tree tests shown order limit) (params ∷ row ∷ []))
    ordered_has o h =
        let q = ordered_query tree tests shown order limit in
        let e = has_mapped (output q) (passing (db tree)) o (has_permuted a.ordered _ o (IsPermutation-sym _ a.ordered ordered_outputs) h) in
        let r = passing_has (db tree) e.0 e.1 in
        (r.0, r.1, r.2, e.2 ∙ ap (output q) r.3)

    pub has_ordered : (row : Row) → Has (db tree) row → passes row ≡ true → Has a.ordered (output (ordered_query tree tests shown order limit) (params ∷ row ∷ []))
    has_ordered r h is = has_permuted _ a.ordered _ ordered_outputs (maps_had (output (ordered_query tree tests shown order limit)) (passing (db tree)) (params ∷ r ∷ []) (has_passing (db tree) r h is))

  module _ (tree : ℕ) (shown : List Term) (db : Trees) (found : List Row) (a : IsAnswer (plain_query tree tests shown) db params found) where
    abbrev outputs : List Output
    outputs = map (output (plain_query tree tests shown)) (passing (db tree))

    pub found_count : length found ≡ length (passing (db tree))
    found_count =
        ap length a.shown ∙ length-map a.ordered (λ (o : Output). o.1) ∙ length_permutation outputs a.ordered (ordered_outputs tree shown [] no_limit db found a)
        ∙ length-map (passing (db tree)) (output (plain_query tree tests shown))

    pub answer_has : (x : Row) → Has found x → (row : Row) × Has (db tree) row × (passes row ≡ true) × (x ≡ eval_all shown (params ∷ row ∷ []))
    answer_has x h =
        let o = has_mapped (λ (o : Output). o.1) a.ordered x (subst (λ l. Has l x) a.shown h) in
        let r = ordered_has tree shown [] no_limit db found a o.0 o.1 in
        (r.0, r.1, r.2, o.2 ∙ ap (λ (p : Output). p.1) r.3)

    pub has_answer : (row : Row) → Has (db tree) row → passes row ≡ true → Has found (eval_all shown (params ∷ row ∷ []))
    has_answer r h is = subst (λ l. Has l (eval_all shown (params ∷ r ∷ []))) (sym a.shown) (maps_had (λ (p : Output). p.1) a.ordered _ (has_ordered tree shown [] no_limit db found a r h is))

-- the result has the columns of each row that passes
module _ (tests : List Term) (params : Row) (tree : ℕ) (shown : List Term) (db : Trees) (found : List Row) (a : IsAnswer (plain_query tree tests shown) db params found) where
  abbrev show : Row → Row
  show row = eval_all shown (params ∷ row ∷ [])

  outputs_are : (rows : List Row) → map (λ (o : Output). o.1) (map (output (plain_query tree tests shown)) (passing tests params rows)) ≡ map show (filter (passes tests params) rows)
  outputs_are [] = refl
  outputs_are (r ∷ rows) =
      elim (passes tests params r)
      as (λ b. map (λ (o : Output). o.1) (map (output (plain_query tree tests shown)) (cond b ((params ∷ r ∷ []) ∷ []) [] ++ passing tests params rows)) ≡ map show (cond b (r ∷ filter (passes tests params) rows) (filter (passes tests params) rows)))
      [ true ↦ ap (λ l. show r ∷ l) (outputs_are rows) | false ↦ outputs_are rows ]

  pub answer_passing : IsPermutation (map show (filter (passes tests params) (db tree))) found
  answer_passing =
      let q = plain_query tree tests shown in
      let kept : a.kept ≡ map (output q) (passing tests params (db tree)) = a.distinct ∙ ap (map (output q)) a.grouped in
      let moved = IsPermutation-map (λ (o : Output). o.1) _ _ (subst (λ k. IsPermutation k a.ordered) kept a.same) in
      subst (IsPermutation (map show (filter (passes tests params) (db tree)))) (sym a.shown)
      (subst (λ l. IsPermutation l (map (λ (o : Output). o.1) a.ordered)) (outputs_are (db tree)) moved)

-- without tests it has each row
pub answer_all : (params : Row) (tree : ℕ) (shown : List Term) (db : Trees) (found : List Row) → IsAnswer (plain_query tree [] shown) db params found → IsPermutation (map (λ row. eval_all shown (params ∷ row ∷ [])) (db tree)) found
answer_all params tree shown db found a = subst (λ l. IsPermutation (map (λ row. eval_all shown (params ∷ row ∷ [])) l) found) (all (db tree)) (answer_passing [] params tree shown db found a)
  where
    all : (rows : List Row) → filter (passes [] params) rows ≡ rows
    all [] = refl
    all (r ∷ rows) = ap (λ l. r ∷ l) (all rows)
