-- Pairs that depend on another pair: no set without that pair supports them.
use Rattle.std.proofs.Common.{◌≡◌, ℕ, zero, suc, ◌+◌, ◌<◌, List, [], ◌∷◌, Option, length, Some, None, Bool, true, false, cond, sym, ap, subst, ◌∙◌, arith, refl, true≢false, inl, inr}
use Rattle.std.specs.Prelude.{◌↔◌, Any, IsTrue, MatchOption, find, option_and_then, option_map, slice_get, Vec}
use Rattle.std.specs.declared.alloc.Global.{Global}
use Rattle.std.specs.Option.{option_or}
use Rattle.std.specs.Str.{bytes_eq}
use Rattle.std.proofs.lemmas.List.Elements.{All-contains}
use Rattle.std.proofs.lemmas.Option.{get_or_from_slice_get, same_Some, slice_get_within}
use Rattle.std.proofs.lemmas.Slice.Eq.{bytes_eq-Decides}
use Rattle.avro_nodes.specs.Nodes.{FieldView, NodeView, primitive, array, mapping, union, enumeration, fixed, rec}
use Rattle.avro_schema.specs.declared.index.FieldRanks.{FieldRanks}
use Rattle.avro_schema.specs.Index.{IsFieldRanked}
use Rattle.avro_resolve.specs.declared.readable.Aliased.{Aliased}
use Rattle.avro_resolve.specs.declared.links.Links.{Links}
use Rattle.avro_resolve.specs.declared.links.Link.{Link}
use Rattle.avro_resolve.specs.declared.links.LinkKind.{LinkKind}
use Rattle.avro_resolve.specs.declared.links.LinkKind.TheVariants.{ByElement, ByName, ByAlias}
use Rattle.avro_resolve.specs.declared.schemas.SchemaPair.{SchemaPair}
use Rattle.avro_resolve.specs.Asking.{source_place}
use Rattle.avro_resolve.specs.Resolution.{Pairs, Readable, first_named, source, Fits, Supports}
use Rattle.avro_resolve.specs.Inside.Agreeing.{fields_of}
use Rattle.avro_resolve.specs.Inside.Referrers.{element_place, AreReferrers, IsLinkOfField, CanMatchKinds, HasBranch, IsLinkOfNode, LinkKindsMatch}
use Rattle.avro_resolve.specs.Inside.Remaining.{DependsOn}
use Rattle.avro_resolve.specs.Inside.Lists.{IsListedAt}
use Rattle.avro_resolve.specs.Inside.Schemas.{columns, names_of, rows, IsValidSchemaPair}
use Rattle.avro_resolve.specs.Inside.Sources.{source_entry, entry_at, field_at}
use Rattle.avro_resolve.proofs.LinkLemmas.{zip_got}
use Rattle.avro_resolve.proofs.RankMaps.{ranks_decide_names}
use Rattle.avro_resolve.proofs.SupportLemmas.{no_source, read_from}
use Rattle.avro_resolve.proofs.Monotone.{supports_at}
use Rattle.avro_resolve.proofs.Sourcing.{nth}
use Rattle.avro_resolve.proofs.Propagation.{entry_told}

-- the nodes of a supported pair
nodes_of_pair : (w r : List NodeView) (R : Pairs) (i j : ℕ) → Supports w r R i j → (a : NodeView) × (b : NodeView) × (slice_get w i ≡ Some a) × (slice_get r j ≡ Some b) × Fits R i j a b
unfolding Supports
nodes_of_pair w r R i j s = by (slice_get w i) refl (slice_get r j) refl s
  where
    by : (o : Option NodeView) → slice_get w i ≡ o → (p : Option NodeView) → slice_get r j ≡ p → MatchOption o ⊥ (λ a. MatchOption p ⊥ (λ b. Fits R i j a b))
        → (a : NodeView) × (b : NodeView) × (slice_get w i ≡ Some a) × (slice_get r j ≡ Some b) × Fits R i j a b
    by None eo p ep h = absurd h
    by (Some a) eo None ep h = absurd h
    by (Some a) eo (Some b) ep h = (a, b, eo, ep, h)

-- ---- a writer's union depends on each of its branches

branch_needed : (R : Pairs) (i j p : ℕ) (a b : NodeView) → HasBranch a p → R p j ≡ false → Fits R i j a b → ⊥
branch_needed R i j p (union bs) b h e s = true≢false (sym (All-contains (λ x. IsTrue (R x j)) bs p s h) ∙ e)
branch_needed R i j p (primitive k x) b h e s = h
branch_needed R i j p (array k x) b h e s = h
branch_needed R i j p (mapping k x) b h e s = h
branch_needed R i j p (enumeration n k f x) b h e s = h
branch_needed R i j p (fixed n k x) b h e s = h
branch_needed R i j p (rec n fs x) b h e s = h

pub rests_by_branch : (w r : List NodeView) (i p q : ℕ) → ((a : NodeView) → slice_get w i ≡ Some a → HasBranch a p) → DependsOn w r i q p q
rests_by_branch w r i p q meant R e s = let h = nodes_of_pair w r R i q s in branch_needed R i q p h.0 h.1 (meant h.0 h.2) e h.4

fits_any : (R : Pairs) (i j : ℕ) (a : NodeView) (places : List ℕ) → ((bs : List ℕ) → a ≡ union bs → ⊥) → Fits R i j a (union places) ↔ Any (λ p. IsTrue (R i p)) places
fits_any R i j (union bs) places n = absurd (n bs refl)
fits_any R i j (primitive k x) places n = ((λ h. h), (λ h. h))
fits_any R i j (array k x) places n = ((λ h. h), (λ h. h))
fits_any R i j (mapping k x) places n = ((λ h. h), (λ h. h))
fits_any R i j (enumeration n' k f x) places n = ((λ h. h), (λ h. h))
fits_any R i j (fixed n' k x) places n = ((λ h. h), (λ h. h))
fits_any R i j (rec n' fs x) places n = ((λ h. h), (λ h. h))

-- a reader's union supports a writer's node other than a union exactly if one of its branches does
pub supports_any : (w r : List NodeView) (R : Pairs) (i j : ℕ) (places : List ℕ) → i < length w → ((bs : List ℕ) → slice_get w i ≡ Some (union bs) → ⊥) → slice_get r j ≡ Some (union places)
    → Supports w r R i j ↔ Any (λ p. IsTrue (R i p)) places
supports_any w r R i j places l apart eb =
    let a = nth w i l in
    let at = supports_at w r R i j a.0 (union places) a.1 eb in
    let any = fits_any R i j a.0 places (λ bs e. apart bs (a.1 ∙ ap Some e)) in
    ((λ h. any.0 (at.0 h)), (λ h. at.1 (any.1 h)))

-- a node with a branch is a union
pub union_of : (a : NodeView) (place : ℕ) → HasBranch a place → (places : List ℕ) × (a ≡ union places)
union_of (union places) place h = (places, refl)
union_of (primitive k x) place h = absurd h
union_of (array k x) place h = absurd h
union_of (mapping k x) place h = absurd h
union_of (enumeration n k f x) place h = absurd h
union_of (fixed n k x) place h = absurd h
union_of (rec n fs x) place h = absurd h

-- ---- arrays, maps and records

contents_needed : (R : Pairs) (i j p q : ℕ) (a b : NodeView) → element_place a ≡ Some p → element_place b ≡ Some q → R p q ≡ false → Fits R i j a b → ⊥
contents_needed R i j p q (array x g) (array y h) ea eb e s = true≢false (sym s ∙ (ap (λ (z : ℕ). R z y) (same_Some x p ea) ∙ ap (λ (z : ℕ). R p z) (same_Some y q eb) ∙ e))
contents_needed R i j p q (mapping x g) (mapping y h) ea eb e s = true≢false (sym s ∙ (ap (λ (z : ℕ). R z y) (same_Some x p ea) ∙ ap (λ (z : ℕ). R p z) (same_Some y q eb) ∙ e))
contents_needed R i j p q (array x g) (mapping y h) ea eb e s = s
contents_needed R i j p q (mapping x g) (array y h) ea eb e s = s
contents_needed R i j p q _ _ ea eb e s = absurd cc

field_needed : (R : Pairs) (i j p q l : ℕ) (a b : NodeView) (f : FieldView) → slice_get (fields_of b) l ≡ Some f → source_place (fields_of a) f ≡ Some p → f.place ≡ q → R p q ≡ false → Fits R i j a b → ⊥
field_needed R i j p q l (rec n fs x) (rec m gs y) f ef es at e s =
    let within = slice_get_within gs l f ef in
    let read : Readable R fs f = subst (Readable R fs) (get_or_from_slice_get gs l f f ef) (s.1 l f within) in
    true≢false (sym ((read_from R fs f p es).1 read) ∙ ap (R p) at ∙ e)
field_needed R i j p q l (union bs) (rec m gs y) f ef es at e s = no_source f p es
field_needed R i j p q l (primitive k x) (rec m gs y) f ef es at e s = s
field_needed R i j p q l (array k x) (rec m gs y) f ef es at e s = s
field_needed R i j p q l (mapping k x) (rec m gs y) f ef es at e s = s
field_needed R i j p q l (enumeration n k g x) (rec m gs y) f ef es at e s = s
field_needed R i j p q l (fixed n k x) (rec m gs y) f ef es at e s = s
field_needed R i j p q l _ _ f ef es at e s = absurd cc

-- ---- a writer's field with the name of a reader's field is its source

find_step : (test : FieldView → Bool) (f g : FieldView) (o : Option FieldView) (b : Bool) → test f ≡ b → f ≡ g → test g ≡ true → cond b (Some f) o ≡ None → ⊥
find_step test f g o true t e h n = absurd cc
find_step test f g o false t e h n = true≢false (sym h ∙ ap test (sym e) ∙ t)

find_past : (f : FieldView) (o : Option FieldView) (b : Bool) → cond b (Some f) o ≡ None → o ≡ None
find_past f o true n = absurd cc
find_past f o false n = n

find_some : (test : FieldView → Bool) (fs : List FieldView) (k : ℕ) (g : FieldView) → slice_get fs k ≡ Some g → test g ≡ true → find test fs ≡ None → ⊥
find_some test [] k g e t n = absurd cc
find_some test (f ∷ fs) zero g e t n = find_step test f g (find test fs) (test f) refl (same_Some f g e) t n
find_some test (f ∷ fs) (suc k) g e t n = find_some test fs k g e t (find_past f (find test fs) (test f) n)

own_found : (o p q : Option FieldView) (g : FieldView) → option_or o p ≡ Some g → (o ≡ None → ⊥) → option_or o q ≡ Some g
own_found None p q g e n = absurd (n refl)
own_found (Some f) p q g e n = e

own_source : (fs : List FieldView) (k : ℕ) (g f : FieldView) → slice_get fs k ≡ Some g → source fs g ≡ Some g → g.name ≡ f.name → source fs f ≡ Some g
unfolding first_named
own_source fs k g f eg own same =
    let found : source fs f ≡ option_or (find (λ h. bytes_eq h.name g.name) fs) (first_named f.aliases fs) = ap (λ (name : List ℕ). option_or (find (λ h. bytes_eq h.name name) fs) (first_named f.aliases fs)) (sym same) in
    found ∙ own_found (find (λ h. bytes_eq h.name g.name) fs) (first_named g.aliases fs) (first_named f.aliases fs) g own (find_some (λ h. bytes_eq h.name g.name) fs k g eg ((bytes_eq-Decides g.name g.name).1 refl))

entry_some : (o : Option ℕ) (p : ℕ) → source_entry o ≡ p + 1 → o ≡ Some p
entry_some None p e = absurd (omega (arith, e))
entry_some (Some z) p e = let same : z ≡ p = omega (arith, e) in ap Some same

-- ---- what a match of two links means

module _ (names : List (List ℕ)) (rank_map : Option (List (Option ℕ))) (aliased : List Aliased) (a : NodeView) (x : Link) (place : ℕ) where
  of_contents : x.kind ≡ ByElement → IsLinkOfNode names rank_map aliased a x place → element_place a ≡ Some place
  of_contents e (inl h) = h.1
  of_contents e (inr (ranks, ranked, (index, f, y, ef, ey, at, given))) = absurd (subst (IsLinkOfField rank_map aliased index y x) e given)

  -- the field that gives the link
  record Field (kind : LinkKind) : Type 0 where
    index : ℕ
    field : FieldView
    ranks : FieldRanks
    there : slice_get (fields_of a) index ≡ Some field
    ranked : IsFieldRanked names field ranks
    at : field.place ≡ place
    given : IsLinkOfField rank_map aliased index ranks x kind

  of_field : (kind : LinkKind) → (kind ≡ ByElement → ⊥) → x.kind ≡ kind → IsLinkOfNode names rank_map aliased a x place → Field kind
  of_field kind n e (inl h) = absurd (n (sym e ∙ h.0))
  of_field kind n e (inr (ranks, ranked, (index, f, y, ef, ey, at, given))) =
      let here = zip_got (IsFieldRanked names) (fields_of a) ranks ranked index f ef in
      record {
        index = index;
        field = f;
        ranks = y;
        there = ef;
        ranked = subst (IsFieldRanked names f) (same_Some here.0 y (sym here.1 ∙ ey)) here.2;
        at = at;
        given = subst (IsLinkOfField rank_map aliased index y x) e given;
      }

module _ (schemas : SchemaPair) (is : IsValidSchemaPair schemas) (writer_links reader_links : Links) (sources : List (Vec ℕ Global)) (are_referrers : AreReferrers schemas writer_links reader_links sources) (p q : ℕ) (x y : Link) (R : Pairs) (out : R p q ≡ false)
    (a b : NodeView) (ea : slice_get (rows schemas) x.referrer ≡ Some a) (eb : slice_get (columns schemas) y.referrer ≡ Some b) (fits : Fits R x.referrer y.referrer a b) (one : x.label ≡ y.label) where
  abbrev Mine : LinkKind → Type 0
  Mine kind = Field (names_of schemas.writer) (Some schemas.rank_map.ranks.items) writer_links.aliased.items a x p kind

  abbrev Theirs : LinkKind → Type 0
  Theirs kind = Field (names_of schemas.reader) None reader_links.aliased.items b y q kind

  by_names : Mine ByName → Theirs ByName → ⊥
  by_names m t =
      let rank_map = schemas.rank_map.ranks.items in let w = names_of schemas.writer in let r = names_of schemas.reader in
      let label : t.ranks.name ≡ x.label = same_Some t.ranks.name y.label t.given ∙ sym one in
      let same : m.field.name ≡ t.field.name =
      (ranks_decide_names w r rank_map is.rank_map is.reader.index.names.rise m.ranks.name x.label m.field.name t.field.name m.ranked.name (subst (λ (rank : ℕ). slice_get r rank ≡ Some t.field.name) label t.ranked.name)).0 m.given in
      let own = All-contains (λ f. source (fields_of a) f ≡ Some f) (fields_of a) m.field (is.writer.own x.referrer a ea) (m.index, slice_get_within (fields_of a) m.index m.field m.there, get_or_from_slice_get (fields_of a) m.index m.field m.field m.there) in
      let from : source_place (fields_of a) t.field ≡ Some p = ap (option_map (λ (g : FieldView). g.place)) (own_source (fields_of a) m.index m.field t.field m.there own same) ∙ ap Some m.at in
      field_needed R x.referrer y.referrer p q t.index a b t.field t.there from t.at out fits

  by_alias : (number : ℕ) → Theirs (ByAlias number) → entry_at sources x.referrer number ≡ p + 1 → ⊥
  by_alias number t told =
      let field : Aliased = record { place = y.referrer; index = t.index } in
      let at : field_at (columns schemas) field ≡ Some t.field = ap (option_and_then (λ (c : NodeView). slice_get (fields_of c) t.index)) eb ∙ t.there in
      let entry = entry_told (rows schemas) (columns schemas) reader_links.aliased.items sources are_referrers.sources x.referrer number a field ea t.given t.field at in
      let from = entry_some (source_place (fields_of a) t.field) p (sym entry ∙ told) in
      field_needed R x.referrer y.referrer p q t.index a b t.field t.there from t.at out fits

  by_ways : (wx wy : LinkKind) → x.kind ≡ wx → y.kind ≡ wy → CanMatchKinds sources p x.referrer wx wy → IsLinkOfNode (names_of schemas.writer) (Some schemas.rank_map.ranks.items) writer_links.aliased.items a x p
      → IsLinkOfNode (names_of schemas.reader) None reader_links.aliased.items b y q → ⊥
  by_ways ByElement ByElement ex ey asks m t = contents_needed R x.referrer y.referrer p q a b (of_contents (names_of schemas.writer) (Some schemas.rank_map.ranks.items) writer_links.aliased.items a x p ex m)
      (of_contents (names_of schemas.reader) None reader_links.aliased.items b y q ey t) out fits
  by_ways ByName ByName ex ey asks m t = by_names (of_field (names_of schemas.writer) (Some schemas.rank_map.ranks.items) writer_links.aliased.items a x p ByName (λ e. absurd cc) ex m)
      (of_field (names_of schemas.reader) None reader_links.aliased.items b y q ByName (λ e. absurd cc) ey t)
  by_ways ByName (ByAlias number) ex ey asks m t = by_alias number (of_field (names_of schemas.reader) None reader_links.aliased.items b y q (ByAlias number) (λ e. absurd cc) ey t) asks
  by_ways _ _ ex ey asks m t = absurd asks

pub rests_by_links : (schemas : SchemaPair) → IsValidSchemaPair schemas → (writer_links reader_links : Links) (sources : List (Vec ℕ Global)) → AreReferrers schemas writer_links reader_links sources → (p q : ℕ) (x y : Link) → IsListedAt writer_links.lists.items x p → IsListedAt reader_links.lists.items y q
    → x.label ≡ y.label → LinkKindsMatch sources p x y → DependsOn (rows schemas) (columns schemas) x.referrer y.referrer p q
rests_by_links schemas is writer_links reader_links sources are_referrers p q x y hx hy one asks R out s =
    let h = nodes_of_pair (rows schemas) (columns schemas) R x.referrer y.referrer s in
    by_ways schemas is writer_links reader_links sources are_referrers p q x y R out h.0 h.1 h.2 h.3 h.4 one x.kind y.kind refl refl asks (are_referrers.writer.links.meant x p hx h.0 h.2) (are_referrers.reader.links.meant y q hy h.1 h.3)
