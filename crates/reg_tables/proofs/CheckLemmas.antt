-- The nodes that denote the CHECK of `versions`, and no others.
use Rattle.std.proofs.Common.{◌≡◌, ◌≢◌, inl, inr, ℕ, zero, suc, ℤ, pos, ◌<◌, ◌≤◌, ◌↔◌, length, List, [], ◌∷◌, get_or, refl, sym, ap, ◌∙◌, arith}
use Rattle.reg_tables.proofs.Kit.{cases_lt, Null, Int, Term, lit, col, op2, Compare, Or, Eq, op_term, term_to, term_in, terms_in, Op, Literal, Column, Unary, Case}
use Rattle.sqlite.specs.Collation.TheVariants as collation
use Rattle.sqlite_schema.specs.declared.code.Op.TheVariants.{Binary}
use Rattle.reg_tables.specs.Layout.{column_equals, versions}
use Rattle.reg_tables.specs.Inside.Checks.{node_at, IsTestAt, IsFlagCheckAt}

abbrev check : Term
check = op2 Or (column_equals 4 0) (column_equals 4 1)

-- ---- from the nodes to the term

past : {X : Type 0} (xs : List X) (at : ℕ) (d : X) → length xs ≤ at → get_or xs at d ≡ d
past [] at d h = refl
past (x ∷ xs) zero d h = absurd (omega arith)
past (x ∷ xs) (suc at) d h = past xs at d (omega (arith, h))

within : (nodes : List Op) (at : ℕ) (x : Op) → node_at nodes at ≡ x → x ≢ Literal Null → at < length nodes
within nodes at x is other = elim (cases_lt at (length nodes)) [ inl low ↦ low | inr high ↦ absurd (other (sym is ∙ past nodes at (Literal Null) high)) ]

apart : (nodes : List Op) (a b : ℕ) (x y : Op) → node_at nodes a ≡ x → node_at nodes b ≡ y → x ≢ y → a ≢ b
apart nodes a b x y p q other same = other (sym p ∙ ap (node_at nodes) same ∙ q)

-- with three nodes, the recursion depth suffices
three : (nodes : List Op) (at : ℕ) → IsFlagCheckAt nodes at → 3 ≤ length nodes
three nodes at it =
    let t = it.zero_test in
    let a : at < length nodes = within nodes at (Binary Or it.left it.right) it.either (λ h. cc) in
    let b : it.left < length nodes = within nodes it.left (Binary (Compare Eq collation.Binary) t.left t.right) t.test (λ h. cc) in
    let c : t.left < length nodes = within nodes t.left (Column 1 4) t.column (λ h. cc) in
    let ab : at ≢ it.left = apart nodes at it.left (Binary Or it.left it.right) (Binary (Compare Eq collation.Binary) t.left t.right) it.either t.test (λ h. cc) in
    let ac : at ≢ t.left = apart nodes at t.left (Binary Or it.left it.right) (Column 1 4) it.either t.column (λ h. cc) in
    let bc : it.left ≢ t.left = apart nodes it.left t.left (Binary (Compare Eq collation.Binary) t.left t.right) (Column 1 4) t.test t.column (λ h. cc) in
    omega arith

term_if_check : (nodes : List Op) (at depth : ℕ) → 3 ≤ depth → IsFlagCheckAt nodes at → term_to nodes depth at ≡ check
term_if_check nodes at zero deep it = absurd (omega arith)
term_if_check nodes at (suc zero) deep it = absurd (omega arith)
term_if_check nodes at (suc (suc zero)) deep it = absurd (omega arith)
term_if_check nodes at (suc (suc (suc d))) deep it = rw (it.either, it.zero_test.test, it.zero_test.column, it.zero_test.value, it.one_test.test, it.one_test.column, it.one_test.value)

-- ---- and back

column_back : (nodes : List Op) (depth at slot place : ℕ) → term_to nodes depth at ≡ col slot place → node_at nodes at ≡ Column slot place
column_back nodes zero at slot place h = absurd (cc)
column_back nodes (suc depth) at slot place h = go (node_at nodes at) h
  where
    go : (op : Op) → op_term (term_to nodes depth) op ≡ col slot place → op ≡ Column slot place
    go (Literal v) h = absurd (cc)
    go (Column s p) h = cc
    go (Unary o a) h = absurd (cc)
    go (Binary o a b) h = absurd (cc)
    go (Case t a b) h = absurd (cc)

number_back : (nodes : List Op) (depth at : ℕ) (n : ℤ) → term_to nodes depth at ≡ lit (Int n) → node_at nodes at ≡ Literal (Int n)
number_back nodes zero at n h = absurd (cc)
number_back nodes (suc depth) at n h = go (node_at nodes at) h
  where
    go : (op : Op) → op_term (term_to nodes depth) op ≡ lit (Int n) → op ≡ Literal (Int n)
    go (Literal v) h = cc
    go (Column s p) h = absurd (cc)
    go (Unary o a) h = absurd (cc)
    go (Binary o a b) h = absurd (cc)
    go (Case t a b) h = absurd (cc)

test_back : (nodes : List Op) (depth at n : ℕ) → term_to nodes depth at ≡ column_equals 4 n → IsTestAt nodes at (pos n)
test_back nodes zero at n h = absurd (cc)
test_back nodes (suc depth) at n h = go (node_at nodes at) refl h
  where
    go : (op : Op) → node_at nodes at ≡ op → op_term (term_to nodes depth) op ≡ column_equals 4 n → IsTestAt nodes at (pos n)
    go (Literal v) is h = absurd (cc)
    go (Column s p) is h = absurd (cc)
    go (Unary o a) is h = absurd (cc)
    go (Binary o a b) is h =
        let operator : o ≡ Compare Eq collation.Binary = cc in
        record { left = a; right = b; test = is ∙ ap (λ x. Binary x a b) operator; column = column_back nodes depth a 1 4 (cc); value = number_back nodes depth b (pos n) (cc) }
    go (Case t a b) is h = absurd (cc)

check_back : (nodes : List Op) (depth at : ℕ) → term_to nodes depth at ≡ check → IsFlagCheckAt nodes at
check_back nodes zero at h = absurd (cc)
check_back nodes (suc depth) at h = go (node_at nodes at) refl h
  where
    go : (op : Op) → node_at nodes at ≡ op → op_term (term_to nodes depth) op ≡ check → IsFlagCheckAt nodes at
    go (Literal v) is h = absurd (cc)
    go (Column s p) is h = absurd (cc)
    go (Unary o a) is h = absurd (cc)
    go (Binary o a b) is h =
        let operator : o ≡ Or = cc in
        record { left = a; right = b; either = is ∙ ap (λ x. Binary x a b) operator; zero_test = test_back nodes depth a 0 (cc); one_test = test_back nodes depth b 1 (cc) }
    go (Case t a b) is h = absurd (cc)

checks_are : (nodes : List Op) (at : ℕ) → IsFlagCheckAt nodes at → terms_in nodes (at ∷ []) ≡ versions.checks
checks_are nodes at it = ap (λ (t : Term). t ∷ []) (term_if_check nodes at (length nodes) (three nodes at it) it)

check_is : (nodes : List Op) (at : ℕ) → terms_in nodes (at ∷ []) ≡ versions.checks → IsFlagCheckAt nodes at
check_is nodes at h = let first : term_in nodes at ≡ check = cc in check_back nodes (length nodes) at first

one_only : (xs : List ℕ) (d : ℕ) → 1 ≤ length xs → length xs < 2 → xs ≡ get_or xs 0 d ∷ []
one_only [] d low high = absurd (omega arith)
one_only (x ∷ []) d low high = refl
one_only (x ∷ y ∷ more) d low high = absurd (omega arith)

-- the nodes of the only root determine the terms
pub root_tells : (nodes : List Op) (roots : List ℕ) (d : ℕ) (P : Type 0) (terms : List Term) → terms ≡ terms_in nodes roots → 1 ≤ length roots → length roots < 2 → P ↔ IsFlagCheckAt nodes (get_or roots 0 d) → P ↔ (terms ≡ versions.checks)
root_tells nodes roots d P terms is low high tells =
    let whole : terms ≡ terms_in nodes (get_or roots 0 d ∷ []) = is ∙ ap (terms_in nodes) (one_only roots d low high) in
    (λ p. whole ∙ checks_are nodes (get_or roots 0 d) (tells.0 p), λ same. tells.1 (check_is nodes (get_or roots 0 d) (sym whole ∙ same)))
