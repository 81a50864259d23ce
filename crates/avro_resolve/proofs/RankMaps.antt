-- Two sorted lists of names are merged into a map of ranks, which decides whether names are equal.
use Rattle.std.proofs.Common.{◌≡◌, ℕ, zero, suc, ◌+◌, ◌<◌, ◌≤◌, List, [], ◌∷◌, ◌++◌, length, take, get_or, Some, true, refl, sym, ap, ◌∙◌, subst, inl, inr, true≢false, arith}
use Rattle.std.specs.Prelude.{All, Any, Contains, Option, None, MatchOption, String, slice_get, string_bytes, nat_eq, ◌↔◌}
use Rattle.std.specs.Option.{IsSomeAnd, option_eq}
use Rattle.std.specs.declared.alloc.Global.{Global}
use Rattle.avro_nodes.specs.Nodes.{texts_view}
use Rattle.avro_resolve.proofs.ViewLemmas.{view_got}
use Rattle.std.specs.declared.cmp.Ordering.TheVariants.{Less}
use Rattle.std.proofs.lemmas.Bool.{cases_lt, eq-eqb, eqb-true}
use Rattle.std.proofs.lemmas.Cmp.{nat_list_cmp_total}
use Rattle.std.proofs.lemmas.List.{get_or_default, get_or-map, length-map, take_more}
use Rattle.std.proofs.lemmas.List.Elements.{All-contains, Contains-get_or}
use Rattle.std.proofs.lemmas.Option.{same_Some, slice_get-get_or, slice_get_within, get_or_from_slice_get}
use Rattle.std.proofs.lemmas.Slice.Zip.{all_zipped_more, AllZip-left}
use Rattle.avro_schema.specs.Index.{AreStrictlySorted, IsRank, AreSortedRanks}
use Rattle.avro_schema.proofs.Rising.{order, level, less_not_equal}
use Rattle.avro_resolve.specs.Inside.RankMaps.{MapsName, AreMapped, AreMappedRanks, RanksDecideNames, mapped_rank}

-- ---- the merge

-- the name of a rank
pub name_at : (names : List (String Global)) (k : ℕ) (x : String Global) (text : List ℕ) → k < length names → x ≡ get_or names k x → text ≡ string_bytes x → slice_get (texts_view names) k ≡ Some text
name_at names k x text l is e = view_got string_bytes names k x (slice_get-get_or names k x l ∙ ap (λ (y : String Global). Some y) (sym is)) ∙ ap (λ (y : List ℕ). Some y) (sym e)

-- each reader's name before the rank is less than each writer's name from the index on
abbrev pub Passed : List (List ℕ) → List (List ℕ) → ℕ → ℕ → Type 0
Passed w r from i = (k m : ℕ) → k < from → i ≤ m → m < length w → order (get_or r k []) (get_or w m []) ≡ Less

module _ (w r : List (List ℕ)) (i from at : ℕ) (name : List ℕ) (within : i < length w) (is : slice_get w i ≡ Some name) (before : Passed w r from i)
    (below : (k : ℕ) → from ≤ k → k < at → order (get_or r k []) name ≡ Less) where
  named : get_or w i [] ≡ name
  named = get_or_from_slice_get w i name [] is

  lower : (k : ℕ) → k < at → order (get_or r k []) name ≡ Less
  lower k l = elim (cases_lt k from) [
    | inl g ↦ subst (λ (x : List ℕ). order (get_or r k []) x ≡ Less) named (before k i g (omega arith) within)
    | inr g ↦ below k g l
  ]

  pub passed : AreStrictlySorted w → Passed w r at (i + 1)
  passed rise k m l later lm =
      nat_list_cmp_total.trans (get_or r k []) name (get_or w m []) (lower k l) (subst (λ (x : List ℕ). order x (get_or w m []) ≡ Less) named (rise i m [] (omega arith) lm))

  -- a name that isn't at this rank isn't in the list
  nowhere : AreStrictlySorted r → (at < length r → order (get_or r at []) name ≡ Less → ⊥) → (slice_get r at ≡ Some name → ⊥) → Contains r name → ⊥
  nowhere rise least other (k, l, e) =
      let here : get_or r k [] ≡ name = get_or_default r k [] name l ∙ e in
      elim (cases_lt k at) [
        | inl g ↦ less_not_equal (order (get_or r k []) name) (lower k g) (level (get_or r k []) name here)
        | inr g ↦ elim (cases_lt at k) [
          | inl f ↦ least (omega arith) (subst (λ (x : List ℕ). order (get_or r at []) x ≡ Less) here (rise at k [] f l))
          | inr f ↦ (let e : k ≡ at = omega arith in other (subst (λ (n : ℕ). slice_get r n ≡ Some name) e (slice_get-get_or r k [] l ∙ ap (λ (x : List ℕ). Some x) here)))
        ]
      ]

  meets : AreStrictlySorted r → (at < length r → order (get_or r at []) name ≡ Less → ⊥) → (o : Option ℕ) → MatchOption o (slice_get r at ≡ Some name → ⊥) (λ rank. slice_get r rank ≡ Some name) → MapsName r name o
  meets rise least None other = nowhere rise least other
  meets rise least (Some rank) here = here

  pub met_more : AreStrictlySorted r → (at < length r → order (get_or r at []) name ≡ Less → ⊥) → (o : Option ℕ) → MatchOption o (slice_get r at ≡ Some name → ⊥) (λ rank. slice_get r rank ≡ Some name)
      → (rank_map : List (Option ℕ)) → AreMapped (take i w) r rank_map → AreMapped (take (i + 1) w) r (rank_map ++ o ∷ [])
  met_more rise least o told rank_map h =
      subst (λ (xs : List (List ℕ)). AreMapped xs r (rank_map ++ o ∷ [])) (sym (take_more w i [] within ∙ ap (λ (x : List ℕ). take i w ++ x ∷ []) named)) (all_zipped_more (MapsName r) (take i w) rank_map name o h (meets rise least o told))

-- ---- comparing names by rank

-- comparing a mapped rank with a rank decides whether they are equal
pub met_same : (rank_map : Option ℕ) (rank : ℕ) → option_eq nat_eq rank_map (Some rank) ≡ true → rank_map ≡ Some rank
met_same None rank e = absurd (true≢false (sym e))
met_same (Some other) rank e = ap (λ (k : ℕ). Some k) (eqb-true other rank e)

pub same_met : (rank_map : Option ℕ) (rank : ℕ) → rank_map ≡ Some rank → option_eq nat_eq rank_map (Some rank) ≡ true
same_met rank_map rank e = subst (λ (o : Option ℕ). option_eq nat_eq o (Some rank) ≡ true) (sym e) (eq-eqb rank rank refl)

-- a name has one rank
pub one_rank : (r : List (List ℕ)) (b c : ℕ) (x : List ℕ) → AreStrictlySorted r → slice_get r b ≡ Some x → slice_get r c ≡ Some x → c ≡ b
one_rank r b c x rise eb ec =
    let lb = slice_get_within r b x eb in let lc = slice_get_within r c x ec in
    let gb = get_or_from_slice_get r b x [] eb in let gc = get_or_from_slice_get r c x [] ec in
    elim (cases_lt b c) [
      | inl g ↦ absurd (less_not_equal (order (get_or r b []) (get_or r c [])) (rise b c [] g lc) (level (get_or r b []) (get_or r c []) (gb ∙ sym gc)))
      | inr g ↦ elim (cases_lt c b) [
        | inl f ↦ absurd (less_not_equal (order (get_or r c []) (get_or r b [])) (rise c b [] f lb) (level (get_or r c []) (get_or r b []) (gc ∙ sym gb)))
        | inr f ↦ omega arith
      ]
    ]

-- a mapped rank is one of the reader's ranks
pub met_below : (w r : List (List ℕ)) (rank_map : List (Option ℕ)) → AreMapped w r rank_map → (a b : ℕ) → mapped_rank rank_map a ≡ Some b → b < length r
met_below [] r [] h a b e = absurd cc
met_below [] r (o ∷ os) h a b e = absurd h
met_below (x ∷ xs) r [] h a b e = absurd h
met_below (x ∷ xs) r (o ∷ os) h zero b e = slice_get_within r b x (subst (MapsName r x) e h.0)
met_below (x ∷ xs) r (o ∷ os) h (suc a) b e = met_below xs r os h.1 a b e

some_at : (o : Option (Option ℕ)) (P : Option ℕ → Type 0) (m : Option ℕ) → ((v : Option ℕ) → o ≡ Some v → m ≡ v) → IsSomeAnd o P → P m
some_at None P m e h = absurd h
some_at (Some v) P m e h = subst P (sym (e v refl)) h

module _ (w r : List (List ℕ)) (rank_map : List (Option ℕ)) (are : AreMapped w r rank_map) where
  pub meets_at : (a : ℕ) (x : List ℕ) → slice_get w a ≡ Some x → MapsName r x (mapped_rank rank_map a)
  meets_at a x ea =
      let at : IsSomeAnd (slice_get rank_map a) (MapsName r x) = subst (λ (o : Option (List ℕ)). MatchOption o (Unit {0}) (λ z. IsSomeAnd (slice_get rank_map a) (MapsName r z))) ea (AllZip-left (MapsName r) w rank_map are a) in
      some_at (slice_get rank_map a) (MapsName r x) (mapped_rank rank_map a) (λ v e. get_or_from_slice_get rank_map a v None e) at

  there : (a b : ℕ) (x : List ℕ) → slice_get w a ≡ Some x → mapped_rank rank_map a ≡ Some b → slice_get r b ≡ Some x
  there a b x ea e = subst (MapsName r x) e (meets_at a x ea)

  met_here : AreStrictlySorted r → (b : ℕ) (x : List ℕ) (o : Option ℕ) → MapsName r x o → slice_get r b ≡ Some x → o ≡ Some b
  met_here rise b x None h e = absurd (h (b, slice_get_within r b x e, get_or_from_slice_get r b x x e))
  met_here rise b x (Some c) h e = ap (λ (k : ℕ). Some k) (one_rank r b c x rise e h)

  pub ranks_decide_names : AreStrictlySorted r → RanksDecideNames w r rank_map
  ranks_decide_names rise a b x y ea eb = (
    (λ e. same_Some x y (sym (there a b x ea e) ∙ eb)),
    (λ e. met_here rise b x (mapped_rank rank_map a) (meets_at a x ea) (subst (λ (z : List ℕ). slice_get r b ≡ Some z) (sym e) eb)),
  )

  -- the rank map is increasing
  in_order : AreStrictlySorted w → AreStrictlySorted r → (a c b d : ℕ) (x y : List ℕ) → slice_get w a ≡ Some x → slice_get w c ≡ Some y → a < c → mapped_rank rank_map a ≡ Some b → mapped_rank rank_map c ≡ Some d → b < d
  in_order rise_w rise_r a c b d x y ea ec l eb ed =
      let xb = there a b x ea eb in let yd = there c d y ec ed in
      let lc = slice_get_within w c y ec in let lb = slice_get_within r b x xb in
      let low : order x y ≡ Less =
      subst (λ (z : List ℕ). order z y ≡ Less) (get_or_from_slice_get w a x [] ea) (subst (λ (z : List ℕ). order (get_or w a []) z ≡ Less) (get_or_from_slice_get w c y [] ec) (rise_w a c [] l lc)) in
      elim (cases_lt b d) [
        | inl g ↦ g
        | inr g ↦ elim (cases_lt d b) [
          | inl f ↦ (
              let high : order y x ≡ Less =
              subst (λ (z : List ℕ). order z x ≡ Less) (get_or_from_slice_get r d y [] yd) (subst (λ (z : List ℕ). order (get_or r d []) z ≡ Less) (get_or_from_slice_get r b x [] xb) (rise_r d b [] f lb)) in
              absurd (less_not_equal (order x x) (nat_list_cmp_total.trans x y x low high) (level x x refl)))
          | inr f ↦ (
              let same : b ≡ d = omega arith in
              let one : x ≡ y = same_Some x y (sym xb ∙ ap (slice_get r) same ∙ yd) in
              absurd (less_not_equal (order x y) low (level x y one)))
        ]
      ]

  -- ---- mapped ranks

  module _ (symbols : List (List ℕ)) (ranks : List ℕ) (ranked : AreSortedRanks w symbols ranks) where
    -- if a rank isn't mapped, the reader lacks its symbol
    pub not_met : Any (λ rank. mapped_rank rank_map rank ≡ None) ranks → All (Contains r) symbols → ⊥
    not_met (k, rank, l, e, none) all =
        let own = ranked.only k rank l in
        let at : slice_get w rank ≡ Some own.0 = ap (slice_get w) (sym e) ∙ own.2 in
        let missing : Contains r own.0 → ⊥ = subst (MapsName r own.0) none (meets_at rank own.0 at) in
        missing (All-contains (Contains r) symbols own.0 all own.1)

    module _ (found : List ℕ) (is : AreMappedRanks rank_map ranks found) where
      long : length found ≡ length ranks
      long = sym (length-map found (λ rank. Some rank)) ∙ ap length is ∙ length-map ranks (λ rank. mapped_rank rank_map rank)

      found_at : (k : ℕ) → k < length ranks → mapped_rank rank_map (get_or ranks k 0) ≡ Some (get_or found k 0)
      found_at k l =
          let within : k < length found = omega (arith, long) in
          sym (get_or-map (λ rank. mapped_rank rank_map rank) ranks k 0 None l) ∙ ap (λ os. get_or os k None) (sym is) ∙ get_or-map (λ rank. Some rank) found k 0 None within

      -- the symbol of the rank at an index; it has the same text as the reader's name at the mapped rank
      own : (k : ℕ) → k < length ranks → (text : List ℕ) × Contains symbols text × (slice_get w (get_or ranks k 0) ≡ Some text) × (slice_get r (get_or found k 0) ≡ Some text)
      own k l = let o = ranked.only k 0 l in (o.0, o.1, o.2, there (get_or ranks k 0) (get_or found k 0) o.0 o.2 (found_at k l))

      pub met_rising : AreStrictlySorted w → AreStrictlySorted r → AreSortedRanks r symbols found
      met_rising rise_w rise_r = record {
        rise = λ k l.
            let here : k < length ranks = omega (arith, long) in
            let next : k + 1 < length ranks = omega (arith, long) in
            let x = own k here in let y = own (k + 1) next in
            in_order rise_w rise_r (get_or ranks k 0) (get_or ranks (k + 1) 0) (get_or found k 0) (get_or found (k + 1) 0) x.0 y.0 x.2 y.2 (ranked.rise k next) (found_at k here) (found_at (k + 1) next);
        each = λ k d l. (
            let o = ranked.each k d l in
            let i = o.1.0 in
            let here : i < length ranks = o.1.1 in
            let within : i < length found = omega (arith, long, here) in
            let rank : get_or ranks i 0 ≡ o.0 = get_or_default ranks i 0 o.0 here ∙ o.1.2 in
            (get_or found i 0, Contains-get_or found i 0 within, there o.0 (get_or found i 0) (get_or symbols k d) o.2 (ap (mapped_rank rank_map) (sym rank) ∙ found_at i here)));
        only = λ k d l. (
            let here : k < length ranks = omega (arith, long) in
            let o = own k here in
            (o.0, o.1, ap (slice_get r) (get_or_default found k d 0 l) ∙ o.3));
      }

-- ---- the ranks of two lists of texts

module _ (r symbols known : List (List ℕ)) (others : List ℕ) (b : AreSortedRanks r known others) where
  module _ (numbers : List ℕ) (rise : AreStrictlySorted r) (a : AreSortedRanks r symbols numbers) where
    known_if : All (Contains others) numbers → All (Contains known) symbols
    known_if h k d l =
        let own = a.each k d l in
        let back = All-contains (λ rank. (text : List ℕ) × Contains known text × IsRank r text rank) others own.0 b.only (All-contains (Contains others) numbers own.0 h own.1) in
        subst (λ (x : List ℕ). Contains known x) (same_Some back.0 (get_or symbols k d) (sym back.2 ∙ own.2)) back.1

    ranks_if : All (Contains known) symbols → All (Contains others) numbers
    ranks_if h k d l =
        let own = a.only k d l in
        let back = All-contains (λ text. (rank : ℕ) × Contains others rank × IsRank r text rank) known own.0 b.each (All-contains (Contains known) symbols own.0 h own.1) in
        subst (λ (x : ℕ). Contains others x) (one_rank r (get_or numbers k d) back.0 own.0 rise own.2 back.2) back.1

    pub ranks_decide : All (Contains others) numbers ↔ All (Contains known) symbols
    ranks_decide = (known_if, ranks_if)

  -- if the reader lacks one of the symbols, they aren't all known
  pub none_known : (All (Contains r) symbols → ⊥) → All (Contains known) symbols → ⊥
  none_known missing h = missing (λ k d l.
      let text = get_or symbols k d in
      let own = All-contains (λ t. (rank : ℕ) × Contains others rank × IsRank r t rank) known text b.each (h k d l) in
      (own.0, slice_get_within r own.0 text own.2, get_or_from_slice_get r own.0 text text own.2))
