-- Remaining pairs stay supported while eliminated pairs are propagated.
use Rattle.std.proofs.Common.{◌≡◌, ℕ, ◌+◌, List, [], ◌∷◌, ◌++◌, Bool, true, false, ◌&&◌, length, get_or, refl, sym, subst, ◌∙◌, arith, true≢false, inl, inr, length-append}
use Rattle.std.specs.Prelude.{◌==◌, ◌⊎◌, if◌then◌else◌, IsTrue}
use Rattle.std.proofs.lemmas.Bool.{or_cases, or_left, or_right}
use Rattle.std.proofs.lemmas.List.Elements.{All-append, All-cons, All-nil, All-contains, Contains-append_left, Contains-append_right, Contains-get_or}
use Rattle.std.proofs.lemmas.Bool.Decides.{nat_tests}
use Rattle.avro_nodes.specs.Nodes.{NodeView}
use Rattle.avro_resolve.specs.declared.table.Table.{Table}
use Rattle.avro_resolve.specs.Resolution.{Supports}
use Rattle.avro_resolve.specs.Inside.Places.{IsSelfContained}
use Rattle.avro_resolve.specs.Witnesses.{Pair, member}
use Rattle.avro_resolve.specs.Inside.Remaining.{remains, count_remaining, remains_or_queued, AreEliminated, NeedsBranch, StillSupported, AllStillSupported, QueuesEliminated, Ignores}
use Rattle.avro_resolve.proofs.Monotone.{supports_within}
use Rattle.avro_resolve.proofs.PairLemmas.{member_back, member_after}
use Rattle.avro_resolve.proofs.PairLists.{member-nil, member_front, member_last, push_cases}

-- ---- the worklist and the table, step by step

pub lists_none : (t : Table) (ps : List Pair) → QueuesEliminated t ps t ps
lists_none t ps = record { fewer = λ i j h. h; remains_or_queued = λ i j h. h; count = refl; out = λ h. h }

pub lists_then : (t u v : Table) (ps qs rs : List Pair) → QueuesEliminated t ps u qs → QueuesEliminated u qs v rs → QueuesEliminated t ps v rs
lists_then t u v ps qs rs g h = record {
  fewer = λ i j l. g.fewer i j (h.fewer i j l);
  remains_or_queued = λ i j l. h.remains_or_queued i j (g.remains_or_queued i j l);
  count = h.count ∙ g.count;
  out = λ o. h.out (g.out o);
}

pub not_back : (x y : Bool) → (x ≡ true → y ≡ true) → y ≡ false → x ≡ false
not_back true y h e = absurd (true≢false (sym (h refl) ∙ e))
not_back false y h e = refl

-- an eliminated pair stays eliminated
pub stays_out : (t v : Table) (ps qs : List Pair) (p q : ℕ) → QueuesEliminated t ps v qs → remains t p q ≡ false → remains v p q ≡ false
stays_out t v ps qs p q h e = not_back (remains v p q) (remains t p q) (h.fewer p q) e

are_out_on : (t v : Table) (ps : List Pair) → ((i j : ℕ) → remains v i j ≡ true → remains t i j ≡ true) → AreEliminated t ps → AreEliminated v ps
are_out_on t v ps fewer out = λ k d l. let p = get_or ps k d in not_back (remains v p.0 p.1) (remains t p.0 p.1) (fewer p.0 p.1) (out k d l)

still : (x y : Bool) → (if x then false else y) ≡ true → y ≡ true
still true y h = absurd (true≢false (sym h))
still false y h = h

other : (x y : Bool) → x ≡ false → y ≡ true → (if x then false else y) ≡ true
other x y e h = rw e h

pub same_pair : (a b i j : ℕ) (x : Bool) → (a == i && b == j) ≡ x → ((a ≡ i) × (b ≡ j)) ⊎ ((a == i && b == j) ≡ false)
same_pair a b i j true e = inl ((let p : a ≡ i = grind (arith, nat_tests) in p), (let q : b ≡ j = grind (arith, nat_tests) in q))
same_pair a b i j false e = inr e

pub fewer_eliminated : (t v : Table) (i j : ℕ) → ((a b : ℕ) → remains v a b ≡ (if a == i && b == j then false else remains t a b)) → (a b : ℕ) → remains v a b ≡ true → remains t a b ≡ true
fewer_eliminated t v i j others a b l = still (a == i && b == j) (remains t a b) (sym (others a b) ∙ l)

none_here : (i j : ℕ) (y : Bool) → (if i == i && j == j then false else y) ≡ false
none_here i j y = grind (arith, nat_tests)

pub gone_eliminated : (t v : Table) (i j : ℕ) → ((a b : ℕ) → remains v a b ≡ (if a == i && b == j then false else remains t a b)) → remains v i j ≡ false
gone_eliminated t v i j others = others i j ∙ none_here i j (remains t i j)

-- eliminating a pair puts it on the worklist
module _ (t v : Table) (ps : List Pair) (i j : ℕ) (others : (a b : ℕ) → remains v a b ≡ (if a == i && b == j then false else remains t a b)) where
  held_left : (a b : ℕ) → remains t a b ≡ true → remains_or_queued v (ps ++ (i, j) ∷ []) a b ≡ true
  held_left a b l = elim (same_pair a b i j (a == i && b == j) refl) [
    | inl e ↦ or_right (remains v a b) (member (ps ++ (i, j) ∷ []) a b) (subst (λ (x : ℕ). member (ps ++ (i, j) ∷ []) x b ≡ true) (sym e.0) (subst (λ (y : ℕ). member (ps ++ (i, j) ∷ []) i y ≡ true) (sym e.1) (member_last ps i j)))
    | inr e ↦ or_left (remains v a b) (member (ps ++ (i, j) ∷ []) a b) (others a b ∙ other (a == i && b == j) (remains t a b) e l)
  ]

  pub lists_eliminated : count_remaining v + 1 ≡ count_remaining t → QueuesEliminated t ps v (ps ++ (i, j) ∷ [])
  lists_eliminated fewer = record {
    fewer = fewer_eliminated t v i j others;
    remains_or_queued = λ a b l. elim (or_cases (remains t a b) (member ps a b) l) [
      | inl g ↦ held_left a b g
      | inr g ↦ or_right (remains v a b) (member (ps ++ (i, j) ∷ []) a b) (member_front ps ((i, j) ∷ []) a b g)
    ];
    count = (let l : length (ps ++ (i, j) ∷ []) ≡ length ps + 1 = length-append ps ((i, j) ∷ []) in omega arith);
    out = λ o. (
        let P = λ (p : Pair). remains v p.0 p.1 ≡ false in
        All-append P ps ((i, j) ∷ []) (are_out_on t v ps (fewer_eliminated t v i j others) o) (All-cons P (i, j) [] (gone_eliminated t v i j others) (All-nil P))
        );
  }

  pub settled_struck : (w r : List NodeView) → StillSupported w r v (ps ++ (i, j) ∷ []) i j
  settled_struck w r l = absurd (true≢false (sym l ∙ gone_eliminated t v i j others))

pub settled_gone : (w r : List NodeView) (t : Table) (ps : List Pair) (i j : ℕ) → remains t i j ≡ false → StillSupported w r t ps i j
settled_gone w r t ps i j e l = absurd (true≢false (sym l ∙ e))

pub settled_supported : (w r : List NodeView) (t : Table) (ps : List Pair) (i j : ℕ) → IsSelfContained w → IsSelfContained r → Supports w r (remains t) i j → StillSupported w r t ps i j
settled_supported w r t ps i j ww wr s l = supports_within (remains t) (remains_or_queued t ps) (λ a b h. or_left (remains t a b) (member ps a b) h) w r i j s

-- a supported pair stays supported
pub settled_on : (w r : List NodeView) (t v : Table) (ps qs : List Pair) (i j : ℕ) → IsSelfContained w → IsSelfContained r → QueuesEliminated t ps v qs → StillSupported w r t ps i j → StillSupported w r v qs i j
settled_on w r t v ps qs i j ww wr h s l = supports_within (remains_or_queued t ps) (remains_or_queued v qs) h.remains_or_queued w r i j (s (h.fewer i j l))

-- `NeedsBranch` stays true
pub goes_on : (t v : Table) (ps qs : List Pair) (i branch j : ℕ) → QueuesEliminated t ps v qs → NeedsBranch t ps i branch j → NeedsBranch v qs i branch j
goes_on t v ps qs i branch j h g l = h.remains_or_queued branch j (g (h.fewer i j l))

-- `NeedsBranch` is true if the pairs without the branch were eliminated
pub goes_gone : (t v : Table) (ps qs : List Pair) (i branch b : ℕ) → QueuesEliminated t ps v qs → (remains t branch b ≡ false → remains v i b ≡ false) → NeedsBranch v qs i branch b
goes_gone t v ps qs i branch b lists gone h = by (remains t branch b) refl
  where
    by : (x : Bool) → remains t branch b ≡ x → IsTrue (remains_or_queued v qs branch b)
    by true e = lists.remains_or_queued branch b (or_left (remains t branch b) (member ps branch b) e)
    by false e = absurd (true≢false (sym h ∙ gone e))

onto : (v : Table) (qs more : List Pair) (a b : ℕ) → remains_or_queued v qs a b ≡ true → remains_or_queued v (qs ++ more) a b ≡ true
onto v qs more a b h = elim (or_cases (remains v a b) (member qs a b) h) [
  | inl g ↦ or_left (remains v a b) (member (qs ++ more) a b) g
  | inr g ↦ or_right (remains v a b) (member (qs ++ more) a b) (member_front qs more a b g)
]

pub front_out : (t : Table) (ps more : List Pair) → AreEliminated t (ps ++ more) → AreEliminated t ps
front_out t ps more o = λ k d l. let P = λ (p : Pair). remains t p.0 p.1 ≡ false in All-contains P (ps ++ more) (get_or ps k d) o (Contains-append_left ps more (get_or ps k d) (Contains-get_or ps k d l))

pub back_out : (t : Table) (ps more : List Pair) → AreEliminated t (ps ++ more) → AreEliminated t more
back_out t ps more o = λ k d l. let P = λ (p : Pair). remains t p.0 p.1 ≡ false in All-contains P (ps ++ more) (get_or more k d) o (Contains-append_right ps more (get_or more k d) (Contains-get_or more k d l))

-- the same with more pairs on both worklists
pub lists_beside : (t v : Table) (ps qs more : List Pair) → QueuesEliminated t ps v qs → QueuesEliminated t (ps ++ more) v (qs ++ more)
lists_beside t v ps qs more h = record {
  fewer = h.fewer;
  remains_or_queued = λ a b l. elim (or_cases (remains t a b) (member (ps ++ more) a b) l) [
    | inl g ↦ onto v qs more a b (h.remains_or_queued a b (or_left (remains t a b) (member ps a b) g))
    | inr g ↦ elim (member_back ps more a b g) [
      | inl m ↦ onto v qs more a b (h.remains_or_queued a b (or_right (remains t a b) (member ps a b) m))
      | inr m ↦ or_right (remains v a b) (member (qs ++ more) a b) (member_after qs more a b m)
    ]
  ];
  count = (let c = h.count in let l : length (ps ++ more) ≡ length ps + length more = length-append ps more in let m : length (qs ++ more) ≡ length qs + length more = length-append qs more in omega arith);
  out = λ o. All-append (λ (p : Pair). remains v p.0 p.1 ≡ false) qs more (h.out (front_out t ps more o)) (are_out_on t v more h.fewer (back_out t ps more o));
}

-- pairs that are supported before a propagation stay supported during it
pub all_settled_on : (w r : List NodeView) (t v : Table) (ps qs more : List Pair) → IsSelfContained w → IsSelfContained r → QueuesEliminated t ps v qs → AllStillSupported w r t (ps ++ more) → AllStillSupported w r v (qs ++ more)
all_settled_on w r t v ps qs more ww wr h s i j li lj = settled_on w r t v (ps ++ more) (qs ++ more) i j ww wr (lists_beside t v ps qs more h) (s i j li lj)

-- a supported pair is supported with more pairs on the worklist
pub settled_onto : (w r : List NodeView) (t : Table) (ps more : List Pair) (i j : ℕ) → IsSelfContained w → IsSelfContained r → StillSupported w r t ps i j → StillSupported w r t (ps ++ more) i j
settled_onto w r t ps more i j ww wr s l = supports_within (remains_or_queued t ps) (remains_or_queued t (ps ++ more)) (λ a b h. onto t ps more a b h) w r i j (s l)

-- a pair that ignores the popped pair needs no check
pub settled_ignoring : (w r : List NodeView) (t : Table) (ps : List Pair) (i j p q : ℕ) → Ignores w r i j p q → StillSupported w r t (ps ++ (p, q) ∷ []) i j → StillSupported w r t ps i j
settled_ignoring w r t ps i j p q ignores s l = ignores (remains_or_queued t (ps ++ (p, q) ∷ [])) (remains_or_queued t ps) (λ a b h. elim (or_cases (remains t a b) (member (ps ++ (p, q) ∷ []) a b) h) [
  | inl g ↦ inl (or_left (remains t a b) (member ps a b) g)
  | inr g ↦ elim (push_cases ps p q a b g) [ inl m ↦ inl (or_right (remains t a b) (member ps a b) m) | inr e ↦ inr e ]
]) (s l)

-- ---- at the end

pub none_held : (w r : List NodeView) (t : Table) (i j : ℕ) → IsSelfContained w → IsSelfContained r → StillSupported w r t [] i j → remains t i j ≡ true → Supports w r (remains t) i j
none_held w r t i j ww wr s l = supports_within (remains_or_queued t []) (remains t) (λ a b h. elim (or_cases (remains t a b) (member [] a b) h) [ inl g ↦ g | inr g ↦ absurd (true≢false (sym g ∙ member-nil a b)) ]) w r i j (s l)
