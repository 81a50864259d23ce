-- Steps of the recursion, from one state to the next.
use Rattle.std.proofs.Common.{◌≡◌, ℕ, ◌+◌, ◌*◌, ◌≤◌, List, [], ◌∷◌, ◌++◌, true, false, length, take, take-take, take_all, take_at, mul-le-mul_left, mul-le-mul_right, refl, sym, ap, subst, ◌∙◌, arith, true≢false, inl, inr}
use Rattle.std.proofs.lemmas.List.{length_push}
use Rattle.avro_nodes.specs.Nodes.{NodeView}
use Rattle.avro_resolve.specs.Resolution.{Supports}
use Rattle.avro_resolve.specs.Witnesses.{Pair, member, without}
use Rattle.avro_resolve.specs.Asking.{ContainsAsked}
use Rattle.avro_resolve.specs.Inside.Reachable.{IsReachable}
use Rattle.avro_resolve.specs.Inside.Walking.{WalkInvariant, Extends}
use Rattle.avro_resolve.proofs.Monotone.{Within, supports_within}
use Rattle.avro_resolve.proofs.PairLists.{false_unless, member_take, member_front, member_last, push_cases, differ_push, refutes_push, member-nil}
use Rattle.avro_resolve.proofs.Counting.{fewer, fewer_both}

some_member : (ps : List Pair) (i j : ℕ) → member ps i j ≡ true → 1 ≤ length ps
some_member [] i j m = absurd (true≢false (sym m ∙ member-nil i j))
some_member (p ∷ ps) i j m = omega arith

module _ (w r : List NodeView) where
  reachable_in : (i j : ℕ) (ps : List Pair) → ContainsAsked w r ps → IsReachable w r i j → member ps i j ≡ true
  unfolding IsReachable
  reachable_in i j ps h reachable = reachable ps h

  at_same : (i j x y : ℕ) → (x ≡ i) × (y ≡ j) → IsReachable w r i j → IsReachable w r x y
  at_same i j x y e reachable = subst (λ (q : ℕ). IsReachable w r q y) (sym e.0) (subst (λ (q : ℕ). IsReachable w r i q) (sym e.1) reachable)

  pub grown_same : (a f : List Pair) → Extends w r a f a f
  grown_same a f = record { longer = omega arith; front = take_all (length a) a (omega arith); supported = λ i j h. inl h; failed_kept = λ i j h. h }

  pub more : (a f a2 f2 : List Pair) → Extends w r a f a2 f2 → Within (member a) (member a2)
  more a f a2 f2 g i j h = member_take (length a) a2 i j (subst (λ (x : List Pair). member x i j ≡ true) (sym g.front) h)

  pub grown_then : (a f a2 f2 a3 f3 : List Pair) → Extends w r a f a2 f2 → Extends w r a2 f2 a3 f3 → Extends w r a f a3 f3
  grown_then a f a2 f2 a3 f3 g h = record {
    longer = let x = g.longer in let y = h.longer in omega arith;
    front = sym (take-take (length a) (length a2) a3 g.longer) ∙ ap (λ (x : List Pair). take (length a) x) h.front ∙ g.front;
    supported = λ i j m. elim (h.supported i j m) [
      | inl n ↦ elim (g.supported i j n) [ inl o ↦ inl o | inr o ↦ inr (supports_within (member a2) (member a3) (more a2 f2 a3 f3 h) w r i j o) ]
      | inr o ↦ inr o
    ];
    failed_kept = λ i j m. h.failed_kept i j (g.failed_kept i j m);
  }

  pub opened : (a f : List Pair) (v i j : ℕ) → WalkInvariant w r a f v → IsReachable w r i j → member a i j ≡ false → member f i j ≡ false → WalkInvariant w r (a ++ (i, j) ∷ []) f (v + 1)
  opened a f v i j g reachable out never = record {
    assumed_reachable = λ x y m. elim (push_cases a i j x y m) [ inl n ↦ g.assumed_reachable x y n | inr e ↦ at_same i j x y e reachable ];
    failed_reachable = g.failed_reachable;
    assumed_distinct = differ_push a i j g.assumed_distinct out;
    failed_distinct = g.failed_distinct;
    disjoint = λ x y m n. elim (push_cases a i j x y m) [ inl o ↦ g.disjoint x y o n | inr e ↦ true≢false (sym (subst (λ (q : ℕ). member f q j ≡ true) e.0 (subst (λ (q : ℕ). member f x q ≡ true) e.1 n)) ∙ never) ];
    refutes = g.refutes;
    at_least = let l = length_push a (i, j) in let k = g.at_least in omega arith;
    at_most = λ ps h. let l = length_push a (i, j) in let k = g.at_most ps h in omega arith;
  }

  pub opened_yes : (a f a2 f2 : List Pair) (i j : ℕ) → Extends w r (a ++ (i, j) ∷ []) f a2 f2 → Supports w r (member a2) i j → Extends w r a f a2 f2
  opened_yes a f a2 f2 i j g s = record {
    longer = let l = length_push a (i, j) in let k = g.longer in omega arith;
    front = (let l = length_push a (i, j) in let k : length a ≤ length (a ++ (i, j) ∷ []) = omega arith in
        sym (take-take (length a) (length (a ++ (i, j) ∷ [])) a2 k) ∙ ap (λ (x : List Pair). take (length a) x) g.front ∙ take_at a ((i, j) ∷ []) (length a) refl);
    supported = λ x y m. elim (g.supported x y m) [
      | inl n ↦ elim (push_cases a i j x y n) [ inl o ↦ inl o | inr e ↦ inr (subst (λ (q : ℕ). Supports w r (member a2) q y) (sym e.0) (subst (λ (q : ℕ). Supports w r (member a2) i q) (sym e.1) s)) ]
      | inr o ↦ inr o
    ];
    failed_kept = g.failed_kept;
  }

  pub opened_no : (a f a2 f2 : List Pair) (v v2 i j : ℕ) → WalkInvariant w r a f v → WalkInvariant w r a2 f2 v2 → Extends w r (a ++ (i, j) ∷ []) f a2 f2 → IsReachable w r i j → member a i j ≡ false → (Supports w r (without f2) i j → ⊥) → WalkInvariant w r a (f2 ++ (i, j) ∷ []) v2
  opened_no a f a2 f2 v v2 i j g h grown reachable out never = record {
    assumed_reachable = g.assumed_reachable;
    failed_reachable = λ x y m. elim (push_cases f2 i j x y m) [ inl n ↦ h.failed_reachable x y n | inr e ↦ at_same i j x y e reachable ];
    assumed_distinct = g.assumed_distinct;
    failed_distinct = differ_push f2 i j h.failed_distinct (false_unless (member f2 i j) (h.disjoint i j (more (a ++ (i, j) ∷ []) f a2 f2 grown i j (member_last a i j))));
    disjoint = λ x y m n. elim (push_cases f2 i j x y n) [
      | inl o ↦ h.disjoint x y (more (a ++ (i, j) ∷ []) f a2 f2 grown x y (member_front a ((i, j) ∷ []) x y m)) o
      | inr e ↦ true≢false (sym (subst (λ (q : ℕ). member a q j ≡ true) e.0 (subst (λ (q : ℕ). member a x q ≡ true) e.1 m)) ∙ out)
    ];
    refutes = refutes_push w r [] f2 i j h.refutes never;
    at_least = (let l = length_push a (i, j) in let l2 = length_push f2 (i, j) in let k = h.at_least in let o = grown.longer in omega arith);
    at_most = λ ps hold. (let l2 = length_push f2 (i, j) in let k = h.at_most ps hold in
        let o = fewer a2 ps h.assumed_distinct (λ x y m. reachable_in x y ps hold (h.assumed_reachable x y m)) in
        let e : length ps * length (f2 ++ (i, j) ∷ []) ≡ length ps * length f2 + length ps = rw l2 (omega arith) in omega arith);
  }

  pub grown_no : (a f a2 f2 : List Pair) (i j : ℕ) → Extends w r (a ++ (i, j) ∷ []) f a2 f2 → Extends w r a f a (f2 ++ (i, j) ∷ [])
  grown_no a f a2 f2 i j g = record { longer = omega arith; front = take_all (length a) a (omega arith); supported = λ x y m. inl m; failed_kept = λ x y m. member_front f2 ((i, j) ∷ []) x y (g.failed_kept x y m) }

bound : (l a f v : ℕ) → 1 ≤ l → a + f ≤ l → v ≤ l * f + a → v ≤ l * l
bound l a f v one fit most =
    let p = mul-le-mul_left l fit in let q = mul-le-mul_right a one in omega (arith, p, q)

pub bounded : (w r : List NodeView) (a f : List Pair) (v : ℕ) → WalkInvariant w r a f v → (ps : List Pair) → ContainsAsked w r ps → v ≤ length ps * length ps
bounded w r a f v g ps h =
    bound (length ps) (length a) (length f) v (some_member ps 0 0 h.roots)
    (fewer_both a f ps g.assumed_distinct g.failed_distinct g.disjoint (λ x y m. reachable_in w r x y ps h (g.assumed_reachable x y m)) (λ x y m. reachable_in w r x y ps h (g.failed_reachable x y m)))
    (g.at_most ps h)
