-- Links are kept as more are added, and have the names by which places are referred to.
use Rattle.std.proofs.Common.{◌≡◌, ℕ, suc, ◌+◌, ◌<◌, List, [], ◌∷◌, ◌++◌, take, Option, Some, None, length, get_or, refl, sym, ap, subst, ◌∙◌, arith, inl, inr}
use Rattle.std.specs.Prelude.{All, MatchOption, option_and_then, slice_get, Vec}
use Rattle.std.specs.declared.alloc.Global.{Global}
use Rattle.std.specs.List.{AllZip}
use Rattle.std.specs.Option.{IsSomeAnd}
use Rattle.std.proofs.lemmas.List.Elements.{All-cons, All-nil}
use Rattle.std.proofs.lemmas.List.{take_more}
use Rattle.std.proofs.lemmas.Option.{get_or_from_slice_get, slice_get-get_or, slice_get_within}
use Rattle.std.proofs.lemmas.Slice.Zip.{AllZip-left, all_zipped_more}
use Rattle.avro_nodes.specs.Nodes.{FieldView, NodeView, primitive, array, mapping, union, enumeration, fixed, rec}
use Rattle.avro_schema.specs.declared.index.FieldRanks.{FieldRanks}
use Rattle.avro_schema.specs.Index.{AreFieldsRanked, AreRanks, IsFieldRanked, IsRank}
use Rattle.avro_resolve.specs.declared.readable.Aliased.{Aliased}
use Rattle.avro_resolve.specs.declared.links.Link.{Link}
use Rattle.avro_resolve.specs.declared.links.Links.{Links}
use Rattle.avro_resolve.specs.declared.links.LinkKind.{LinkKind}
use Rattle.avro_resolve.specs.declared.links.LinkKind.TheVariants.{ByElement, ByName, ByAlias}
use Rattle.avro_resolve.specs.Inside.Agreeing.{fields_of}
use Rattle.avro_resolve.specs.Inside.Referrers.{HasLabel, IsAlias, LinkedBy, IsFieldLinked, AreFieldsLinked, IsPlaceLinked, IsUnionListed, OnlyAddsLinks, IsLinkOfField, IsLinkOfFields, IsLinkOfNode, alias_labels}
use Rattle.avro_resolve.specs.Inside.Lists.{IsListedAt}
use Rattle.avro_resolve.specs.Inside.RankMaps.{RanksDecideNames}
use Rattle.avro_resolve.proofs.ListLemmas.{adds_none, adds_such, adds_then}

-- ---- more links are added

pub only_adds_none : (Such : Link → ℕ → Type 0) (links : Links) → OnlyAddsLinks Such links links
only_adds_none Such links = record { adds = adds_none Such links.lists.items; kept = λ number field e. e; unions = refl }

pub only_adds_such : (This Such : Link → ℕ → Type 0) → ((x : Link) (p : ℕ) → This x p → Such x p) → (xs ys : Links) → OnlyAddsLinks This xs ys → OnlyAddsLinks Such xs ys
only_adds_such This Such this xs ys h = record { adds = adds_such Such This this xs.lists.items ys.lists.items h.adds; kept = h.kept; unions = h.unions }

pub only_adds_then : (This That Such : Link → ℕ → Type 0) → ((x : Link) (p : ℕ) → This x p → Such x p) → ((x : Link) (p : ℕ) → That x p → Such x p) → (xs ys zs : Links) → OnlyAddsLinks This xs ys → OnlyAddsLinks That ys zs → OnlyAddsLinks Such xs zs
only_adds_then This That Such this that xs ys zs g h = record {
  adds = adds_then Such This That this that xs.lists.items ys.lists.items zs.lists.items g.adds h.adds;
  kept = λ number field e. h.kept number field (g.kept number field e);
  unions = h.unions ∙ g.unions;
}

module _ (old new : Links) (stand : (x : Link) (p : ℕ) → IsListedAt old.lists.items x p → IsListedAt new.lists.items x p)
    (kept : (number : ℕ) (field : Aliased) → slice_get old.aliased.items number ≡ Some field → slice_get new.aliased.items number ≡ Some field) where
  pub linked_on : (Such : Link → Type 0) (i p : ℕ) → LinkedBy Such old.lists.items i p → LinkedBy Such new.lists.items i p
  linked_on Such i p (x, s, a, h) = (x, s, a, stand x p h)

  pub alias_on : (i index label p : ℕ) → LinkedBy (IsAlias old.aliased.items i index label) old.lists.items i p → LinkedBy (IsAlias new.aliased.items i index label) new.lists.items i p
  alias_on i index label p (x, (number, has, at), a, h) = (x, (number, has, kept number (record { place = i; index = index }) at), a, stand x p h)

  pub field_on : (rank_map : Option (List (Option ℕ))) (i index p : ℕ) (ranks : FieldRanks) → IsFieldLinked rank_map old i index p ranks → IsFieldLinked rank_map new i index p ranks
  field_on rank_map i index p ranks h = record {
    own = λ label e. linked_on (HasLabel label ByName) i p (h.own label e);
    aliases = λ k d l. alias_on i index (get_or (alias_labels rank_map ranks.aliases.items) k d) p (h.aliases k d l);
  }

  pub place_on : (names : List (List ℕ)) (rank_map : Option (List (Option ℕ))) (i : ℕ) (a : NodeView) → IsPlaceLinked names rank_map old i a → IsPlaceLinked names rank_map new i a
  place_on names rank_map i a (ranks, h) = (
    ranks,
    record {
      contained = λ p e. linked_on (HasLabel 0 ByElement) i p (h.contained p e);
      ranked = h.ranked;
      fields = λ index f y e g. field_on rank_map i index f.place y (h.fields index f y e g);
    },
  )

-- no list changes
pub record SameLists (old new : List (Vec Link Global)) : Type 0 where
  pub there : (x : Link) (place : ℕ) → IsListedAt old x place → IsListedAt new x place
  pub back : (x : Link) (place : ℕ) → IsListedAt new x place → IsListedAt old x place

-- a field gives the same links after more fields got numbers
module _ (old new : List Aliased) (kept : (number : ℕ) (field : Aliased) → slice_get old number ≡ Some field → slice_get new number ≡ Some field) (rank_map : Option (List (Option ℕ))) (x : Link) where
  pub given_on : (index : ℕ) (y : FieldRanks) (kind : LinkKind) → IsLinkOfField rank_map old index y x kind → IsLinkOfField rank_map new index y x kind
  given_on index y ByElement h = h
  given_on index y ByName h = h
  given_on index y (ByAlias number) h = kept number (record { place = x.referrer; index = index }) h

  pub of_field_on : (fields : List FieldView) (ranks : List FieldRanks) (p : ℕ) → IsLinkOfFields rank_map old fields ranks x p → IsLinkOfFields rank_map new fields ranks x p
  of_field_on fields ranks p (index, f, y, ef, ey, e, h) = (index, f, y, ef, ey, e, given_on index y x.kind h)

  pub of_node_on : (names : List (List ℕ)) (a : NodeView) (p : ℕ) → IsLinkOfNode names rank_map old a x p → IsLinkOfNode names rank_map new a x p
  of_node_on names a p (inl h) = inl h
  of_node_on names a p (inr (ranks, ranked, h)) = inr (ranks, ranked, of_field_on (fields_of a) ranks p h)

pub union_listed_on : (xs ys : List (Vec ℕ Global)) (i : ℕ) → ((x p : ℕ) → IsListedAt xs x p → IsListedAt ys x p) → (a : NodeView) → IsUnionListed xs i a → IsUnionListed ys i a
union_listed_on xs ys i stand (union ps) h = λ k d l. stand i (get_or ps k d) (h k d l)
union_listed_on xs ys i stand (primitive k x) h = h
union_listed_on xs ys i stand (array p x) h = h
union_listed_on xs ys i stand (mapping p x) h = h
union_listed_on xs ys i stand (enumeration n s f x) h = h
union_listed_on xs ys i stand (fixed n s x) h = h
union_listed_on xs ys i stand (rec n fs x) h = h

-- ---- links and names

and_some : {X : Type 0} (P : X → Type 0) (o : Option X) → IsSomeAnd o P → (x : X) × (o ≡ Some x) × P x
and_some P None h = absurd h
and_some P (Some x) h = (x, refl, h)

pub then_some : {X Y : Type 0} (g : X → Option Y) (o : Option X) (y : Y) → option_and_then g o ≡ Some y → (x : X) × (o ≡ Some x) × (g x ≡ Some y)
then_some g None y e = absurd cc
then_some g (Some x) y e = (x, refl, e)

-- the element of the second list at the index of an element of the first
pub zip_got : {X Y : Type 0} (P : X → Y → Type 0) (xs : List X) (ys : List Y) → AllZip P xs ys → (k : ℕ) (x : X) → slice_get xs k ≡ Some x → (y : Y) × (slice_get ys k ≡ Some y) × P x y
zip_got {X} P xs ys zip k x e = and_some (P x) (slice_get ys k) (subst (λ (o : Option X). MatchOption o (Unit {0}) (λ z. IsSomeAnd (slice_get ys k) (P z))) e (AllZip-left P xs ys zip k))

-- one more element of both lists
pub zip_more : {X Y : Type 0} (P : X → Y → Type 0) (xs : List X) (i : ℕ) (x : X) (ys : List Y) (y : Y) → slice_get xs i ≡ Some x → AllZip P (take i xs) ys → P x y → AllZip P (take (i + 1) xs) (ys ++ y ∷ [])
zip_more {X} P xs i x ys y e so_far now =
    let l : i < length xs = slice_get_within xs i x e in
    let more : take (i + 1) xs ≡ take i xs ++ x ∷ [] = take_more xs i x l ∙ ap (λ z. take i xs ++ z ∷ []) (get_or_from_slice_get xs i x x e) in
    subst (λ (zs : List X). AllZip P zs (ys ++ y ∷ [])) (sym more) (all_zipped_more P (take i xs) ys x y so_far now)

-- the writer's place refers to the type of a field by the rank that the reader has for the field's name
abbrev pub IsMetBy : List (List ℕ) → Links → ℕ → FieldView → Type 0
IsMetBy r links i g = (rank : ℕ) → IsRank r g.name rank → LinkedBy (HasLabel rank ByName) links.lists.items i g.place

pub met_by : (w r : List (List ℕ)) (rank_map : List (Option ℕ)) → RanksDecideNames w r rank_map → (links : Links) (i : ℕ) (fields : List FieldView) (ranks : List FieldRanks) → AreFieldsRanked w fields ranks → AreFieldsLinked (Some rank_map) links i fields ranks
    → All (IsMetBy r links i) fields
met_by w r rank_map ranks_decide_names links i fields ranks ranked linked k d l rank er =
    let g = get_or fields k d in
    let eg : slice_get fields k ≡ Some g = slice_get-get_or fields k d l in
    let x = zip_got (IsFieldRanked w) fields ranks ranked k g eg in
    (linked k g x.0 eg x.1).own rank ((ranks_decide_names x.0.name rank g.name g.name x.2.name er).1 refl)

-- the link is of the field's own name, or of one of the aliases of the record's field of this index
abbrev pub IsOf : List Aliased → ℕ → ℕ → LinkKind → Type 0
IsOf aliased referrer index ByElement = ⊥
IsOf aliased referrer index ByName = Unit {0}
IsOf aliased referrer index (ByAlias number) = slice_get aliased number ≡ Some (record { place = referrer; index = index })

abbrev pub Seeks : List Aliased → ℕ → ℕ → ℕ → Link → Type 0
Seeks aliased referrer index label x = (x.label ≡ label) × IsOf aliased referrer index x.kind

-- the reader's place refers to the type of its field by the rank of the name
abbrev pub IsSoughtBy : List (List ℕ) → Links → ℕ → ℕ → ℕ → List ℕ → Type 0
IsSoughtBy r links j index place name = (rank : ℕ) × IsRank r name rank × LinkedBy (Seeks links.aliased.items j index rank) links.lists.items j place

module _ (r : List (List ℕ)) (links : Links) (j index place : ℕ) where
  own_sought : (name : List ℕ) (rank : ℕ) → IsRank r name rank → LinkedBy (HasLabel rank ByName) links.lists.items j place → IsSoughtBy r links j index place name
  own_sought name rank er (x, (l, n), a, h) = (rank, er, (x, (l, subst (IsOf links.aliased.items j index) (sym n) tt), a, h))

  alias_sought : (name : List ℕ) (rank : ℕ) → IsRank r name rank → LinkedBy (IsAlias links.aliased.items j index rank) links.lists.items j place → IsSoughtBy r links j index place name
  alias_sought name rank er (x, (number, (l, n), at), a, h) = (rank, er, (x, (l, subst (IsOf links.aliased.items j index) (sym n) at), a, h))

  aliases_sought : (texts : List (List ℕ)) (ranks : List ℕ) → AreRanks r texts ranks → All (λ label. LinkedBy (IsAlias links.aliased.items j index label) links.lists.items j place) ranks → All (IsSoughtBy r links j index place) texts
  aliases_sought [] ranks e h = All-nil (IsSoughtBy r links j index place)
  aliases_sought (t ∷ ts) [] e h = absurd cc
  aliases_sought (t ∷ ts) (x ∷ xs) e h =
      let here : slice_get r x ≡ Some t = cc in
      let rest : AreRanks r ts xs = cc in
      All-cons (IsSoughtBy r links j index place) t ts (alias_sought t x here (h 0 x (omega arith))) (aliases_sought ts xs rest (λ k d l. h (suc k) d (omega arith)))

pub sought_by : (r : List (List ℕ)) (links : Links) (j : ℕ) (fields : List FieldView) (ranks : List FieldRanks) → AreFieldsRanked r fields ranks → AreFieldsLinked None links j fields ranks
    → (index : ℕ) (f : FieldView) → slice_get fields index ≡ Some f → All (IsSoughtBy r links j index f.place) (f.name ∷ f.aliases)
sought_by r links j fields ranks ranked linked index f ef =
    let x = zip_got (IsFieldRanked r) fields ranks ranked index f ef in
    let is = linked index f x.0 ef x.1 in
    All-cons (IsSoughtBy r links j index f.place) f.name f.aliases (own_sought r links j index f.place f.name x.0.name x.2.name (is.own x.0.name refl)) (aliases_sought r links j index f.place f.aliases x.0.aliases.items x.2.aliases is.aliases)
