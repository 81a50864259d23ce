-- The source of a reader's field, found by name rank.
use Rattle.std.proofs.Common.{◌≡◌, ℕ, zero, suc, ◌+◌, ◌<◌, List, [], ◌∷◌, ◌++◌, length, map, take, get_or, Bool, true, false, Some, refl, sym, ap, ◌∙◌, subst, inl, inr, arith}
use Rattle.std.specs.Prelude.{All, IfSome, MatchOption, Option, None, find, option_and_then, option_map, slice_get}
use Rattle.std.specs.Option.{IsSomeAnd, option_or}
use Rattle.std.specs.Str.{bytes_eq}
use Rattle.std.proofs.lemmas.List.{map-append, take_more}
use Rattle.std.proofs.lemmas.List.Elements.{All-cons, All-nil}
use Rattle.std.proofs.lemmas.Option.{get_or_from_slice_get, same_Some, slice_get-get_or, slice_get-map, slice_get_within}
use Rattle.std.proofs.lemmas.Slice.Eq.{bytes_eq-Decides}
use Rattle.std.proofs.lemmas.Slice.Zip.{AllZip-left, AllZip-right}
use Rattle.avro_nodes.specs.declared.node.Field.{Field}
use Rattle.avro_nodes.specs.Nodes.{FieldView, NodeView, field_view}
use Rattle.avro_schema.specs.declared.index.FieldRanks.{FieldRanks}
use Rattle.avro_schema.specs.Index.{AreFieldsRanked, AreRanks, IsFieldRanked}
use Rattle.avro_resolve.specs.Resolution.{first_named}
use Rattle.avro_resolve.specs.Asking.{source_place}
use Rattle.avro_resolve.specs.declared.schemas.Fields.{Fields}
use Rattle.avro_resolve.specs.declared.schemas.SchemaPair.{SchemaPair}
use Rattle.avro_resolve.specs.Inside.Agreeing.{fields_of}
use Rattle.avro_resolve.specs.Inside.FieldSlots.{HasRank, IsFirst, NoField, IsSource, names_in}
use Rattle.avro_resolve.specs.Inside.RankMaps.{RanksDecideNames}
use Rattle.avro_resolve.specs.Inside.Schemas.{columns, names_of}
use Rattle.avro_resolve.specs.Inside.Sources.{field_at as wanted_at}
use Rattle.avro_resolve.proofs.ViewLemmas.{view_got}

-- ---- the first element that passes a test

not_true : (b : Bool) → (b ≡ true → ⊥) → b ≡ false
not_true true h = absurd (h refl)
not_true false h = refl

module _ {X : Type 0} (p : X → Bool) where
  found_at : (xs : List X) (k : ℕ) (x : X) → slice_get xs k ≡ Some x → p x ≡ true → ((j : ℕ) (y : X) → j < k → slice_get xs j ≡ Some y → p y ≡ false) → find p xs ≡ Some x
  found_at [] k x e h before = absurd cc
  found_at (y ∷ ys) zero x e h before = (let same : y ≡ x = same_Some y x e in rw (ap p same ∙ h) e)
  found_at (y ∷ ys) (suc k) x e h before = (let not : p y ≡ false = before 0 y (omega arith) refl in rw not (found_at ys k x e h (λ j z l. before (suc j) z (omega arith))))

  found_nowhere : (xs : List X) → ((j : ℕ) (y : X) → slice_get xs j ≡ Some y → p y ≡ false) → find p xs ≡ None
  found_nowhere [] h = refl
  found_nowhere (y ∷ ys) h = (let not : p y ≡ false = h 0 y refl in rw not (found_nowhere ys (λ j z. h (suc j) z)))

-- ---- fields by name rank

and_some : {A : Type 0} (R : A → Type 0) (o : Option A) → IsSomeAnd o R → (x : A) × (o ≡ Some x) × R x
and_some R None h = absurd h
and_some R (Some x) h = (x, refl, h)

of_name : (o : Option FieldRanks) (a : ℕ) → option_map (λ f. f.name) o ≡ Some a → (x : FieldRanks) × (o ≡ Some x) × (x.name ≡ a)
of_name None a e = absurd cc
of_name (Some x) a e = (x, refl, same_Some x.name a e)

module _ (w r : List (List ℕ)) (rank_map : List (Option ℕ)) (ranks_decide_names : RanksDecideNames w r rank_map) (fields : List FieldView) (ranks : List FieldRanks) (ranked : AreFieldsRanked w fields ranks) where
  -- the field whose name has a rank
  field_of : (k a : ℕ) → slice_get (names_in ranks) k ≡ Some a → (g : FieldView) × (slice_get fields k ≡ Some g) × (slice_get w a ≡ Some g.name)
  field_of k a e =
      let x = of_name (slice_get ranks k) a (sym (slice_get-map (λ f. f.name) ranks k) ∙ e) in
      let at : IsSomeAnd (slice_get fields k) (λ g. IsFieldRanked w g x.0) =
      subst (λ (o : Option FieldRanks). MatchOption o (Unit {0}) (λ y. IsSomeAnd (slice_get fields k) (λ g. IsFieldRanked w g y))) x.1 (AllZip-right (IsFieldRanked w) fields ranks ranked k) in
      let g = and_some (λ g. IsFieldRanked w g x.0) (slice_get fields k) at in
      (g.0, g.1, ap (slice_get w) (sym x.2) ∙ g.2.name)

  -- the rank of a field's name
  rank_of : (k : ℕ) (g : FieldView) → slice_get fields k ≡ Some g → (a : ℕ) × (slice_get (names_in ranks) k ≡ Some a) × (slice_get w a ≡ Some g.name)
  rank_of k g e =
      let at : IsSomeAnd (slice_get ranks k) (IsFieldRanked w g) =
      subst (λ (o : Option FieldView). MatchOption o (Unit {0}) (λ x. IsSomeAnd (slice_get ranks k) (IsFieldRanked w x))) e (AllZip-left (IsFieldRanked w) fields ranks ranked k) in
      let x = and_some (IsFieldRanked w g) (slice_get ranks k) at in
      (x.0.name, slice_get-map (λ f. f.name) ranks k ∙ ap (option_map (λ f. f.name)) x.1, x.2.name)

  module _ (name : List ℕ) (rank : ℕ) (er : slice_get r rank ≡ Some name) where
    -- a field with the name has the name's rank
    has_rank : (j : ℕ) (y : FieldView) → slice_get fields j ≡ Some y → bytes_eq y.name name ≡ true → HasRank rank_map (names_in ranks) j rank
    has_rank j y e h = let a = rank_of j y e in (a.0, a.1, (ranks_decide_names a.0 rank y.name name a.2 er).1 ((bytes_eq-Decides y.name name).0 h))

    first_found : (k : ℕ) → IsFirst rank_map (names_in ranks) 0 k rank → (g : FieldView) × (slice_get fields k ≡ Some g) × (find (λ f. bytes_eq f.name name) fields ≡ Some g)
    first_found k first =
        let own = first.0 in
        let g = field_of k own.0 own.1 in
        let same : bytes_eq g.0.name name ≡ true = (bytes_eq-Decides g.0.name name).1 ((ranks_decide_names own.0 rank g.0.name name g.2 er).0 own.2) in
        (g.0, g.1, found_at (λ f. bytes_eq f.name name) fields k g.0 g.1 same (λ j y l e. not_true (bytes_eq y.name name) (λ h. first.1 j (omega arith) l (has_rank j y e h))))

    none_found : NoField rank_map (names_in ranks) rank → find (λ f. bytes_eq f.name name) fields ≡ None
    none_found none = found_nowhere (λ f. bytes_eq f.name name) fields (λ j y e. not_true (bytes_eq y.name name) (λ h. none j (has_rank j y e h)))

  -- the field at the index, if any
  abbrev pub field_at : Option ℕ → Option FieldView
  field_at o = option_and_then (λ k. slice_get fields k) o

  by_first : (texts : List (List ℕ)) (name : List ℕ) (rank : ℕ) → slice_get r rank ≡ Some name → (o : Option ℕ) → IfSome o (λ k. IsFirst rank_map (names_in ranks) 0 k rank) → (o ≡ None → ⊥) → field_at o ≡ option_or (find (λ f. bytes_eq f.name name) fields) (first_named texts fields)
  by_first texts name rank er None first some = absurd (some refl)
  by_first texts name rank er (Some k) first some = let g = first_found name rank er k first in rw (g.2) g.1

  pub told : (texts : List (List ℕ)) (names : List ℕ) → AreRanks r texts names → (o : Option ℕ) → IsSource rank_map (names_in ranks) names o → field_at o ≡ first_named texts fields
  unfolding first_named
  told [] [] e o h = rw h refl
  told [] (x ∷ xs) e o h = absurd cc
  told (t ∷ ts) [] e o h = absurd cc
  told (t ∷ ts) (x ∷ xs) e o h =
      let er : slice_get r x ≡ Some t = cc in
      let rest : AreRanks r ts xs = cc in
      elim h [
        | inl first ↦ by_first ts t x er o first.0 first.1
        | inr later ↦ rw (none_found t x er later.0) (told ts xs rest o later.1)
      ]

  pub source_told : (f : FieldView) (names : FieldRanks) → IsFieldRanked r f names → (o : Option ℕ) → IsSource rank_map (names_in ranks) (names.name ∷ names.aliases.items) o → option_map (λ g. g.place) (field_at o) ≡ source_place fields f
  source_told f names is o h = ap (option_map (λ g. g.place)) (told (f.name ∷ f.aliases) (names.name ∷ names.aliases.items) (ap2cons is) o h)
    where
      ap2cons : IsFieldRanked r f names → AreRanks r (f.name ∷ f.aliases) (names.name ∷ names.aliases.items)
      ap2cons k = let a = k.name in let b = k.aliases in cc

-- ---- fields and ranks as the code has them

pub names_at : (fields : List FieldRanks) (k : ℕ) (f : FieldRanks) → k < length fields → f ≡ get_or fields k f → slice_get (names_in fields) k ≡ Some f.name
names_at fields k f l e = slice_get-map (λ x. x.name) fields k ∙ ap (option_map (λ x. x.name)) (slice_get-get_or fields k f l ∙ ap (λ x. Some x) (sym e))

pub source_within : (rank_map : List (Option ℕ)) (names ranks : List ℕ) (k : ℕ) → IsSource rank_map names ranks (Some k) → k < length names
source_within rank_map names [] k h = absurd cc
source_within rank_map names (rank ∷ ranks) k h = elim h [
  | inl first ↦ slice_get_within names k first.0.0.0 first.0.0.1
  | inr later ↦ source_within rank_map names ranks k later.1
]

pub nth : {X : Type 0} (xs : List X) (i : ℕ) → i < length xs → (x : X) × (slice_get xs i ≡ Some x)
nth [] i l = absurd (omega arith)
nth (x ∷ xs) zero l = (x, refl)
nth (x ∷ xs) (suc i) l = nth xs i (omega arith)

-- one more element of a list that is built element by element
pub mapped_more : {X B : Type 0} (h : X → B) (xs : List X) (i : ℕ) (x : X) (ys : List B) (y : B) → slice_get xs i ≡ Some x → ys ≡ map h (take i xs) → y ≡ h x → ys ++ y ∷ [] ≡ map h (take (i + 1) xs)
mapped_more h xs i x ys y e so_far now =
    let l : i < length xs = slice_get_within xs i x e in
    let more : take (i + 1) xs ≡ take i xs ++ x ∷ [] = take_more xs i x l ∙ ap (λ z. take i xs ++ z ∷ []) (get_or_from_slice_get xs i x x e) in
    ap (λ zs. zs ++ y ∷ []) so_far ∙ ap (λ z. map h (take i xs) ++ z ∷ []) now ∙ sym (map-append h (take i xs) (x ∷ [])) ∙ sym (ap (map h) more)

module _ (names : List (List ℕ)) where
  pub ranked_field : (fields : List FieldView) (ranks : List FieldRanks) (k : ℕ) (g : FieldView) (x : FieldRanks) → AreFieldsRanked names fields ranks → slice_get fields k ≡ Some g → slice_get ranks k ≡ Some x → IsFieldRanked names g x
  ranked_field fields ranks k g x ranked eg ex =
      let at : IsSomeAnd (slice_get ranks k) (IsFieldRanked names g) =
      subst (λ (o : Option FieldView). MatchOption o (Unit {0}) (λ y. IsSomeAnd (slice_get ranks k) (IsFieldRanked names y))) eg (AllZip-left (IsFieldRanked names) fields ranks ranked k) in
      let own = and_some (IsFieldRanked names g) (slice_get ranks k) at in
      subst (IsFieldRanked names g) (same_Some own.0 x (sym own.1 ∙ ex)) own.2

  -- each rank is below the number of names
  pub ranks_below : (texts : List (List ℕ)) (ranks : List ℕ) → AreRanks names texts ranks → All (λ rank. rank < length names) ranks
  ranks_below [] [] e = All-nil (λ rank. rank < length names)
  ranks_below [] (x ∷ xs) e = absurd cc
  ranks_below (t ∷ ts) [] e = absurd cc
  ranks_below (t ∷ ts) (x ∷ xs) e =
      let here : slice_get names x ≡ Some t = cc in
      let rest : AreRanks names ts xs = cc in
      All-cons (λ rank. rank < length names) x xs (slice_get_within names x t here) (ranks_below ts xs rest)

-- a field of the reader's record at a place, with the ranks of its names
pub field_named : (schemas : SchemaPair) (j n : ℕ) (wanted : Fields) (b : NodeView) → slice_get (columns schemas) j ≡ Some b → map field_view wanted.fields.now ≡ fields_of b → AreFieldsRanked (names_of schemas.reader) (map field_view wanted.fields.now) wanted.ranks.now
    → (f : Field) (x : FieldRanks) → slice_get wanted.fields.now n ≡ Some f → slice_get wanted.ranks.now n ≡ Some x
    → (wanted_at (columns schemas) (record { place = j; index = n }) ≡ Some (field_view f)) × IsFieldRanked (names_of schemas.reader) (field_view f) x
field_named schemas j n wanted b eb are ranked f x ef ex =
    let there : slice_get (map field_view wanted.fields.now) n ≡ Some (field_view f) = view_got field_view wanted.fields.now n f ef in (
      ap (option_and_then (λ (c : NodeView). slice_get (fields_of c) n)) eb ∙ ap (λ (fs : List FieldView). slice_get fs n) (sym are) ∙ there,
      ranked_field (names_of schemas.reader) (map field_view wanted.fields.now) wanted.ranks.now n (field_view f) x ranked there ex,
    )
