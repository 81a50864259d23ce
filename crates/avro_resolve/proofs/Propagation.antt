-- An eliminated pair is propagated to each pair that depends on it.
use Rattle.std.proofs.Common.{◌≡◌, ℕ, zero, suc, ◌+◌, ◌<◌, List, [], ◌∷◌, ◌++◌, Option, Some, None, Bool, true, false, cond, length, get_or, refl, sym, ap, append-nil, append_assoc, subst, ◌∙◌, arith, inl, inr}
use Rattle.std.specs.Prelude.{◌⊎◌, All, Any, Contains, IsSome, IsTrue, MatchOption, find, option_and_then, option_map, slice_get, Vec}
use Rattle.std.specs.List.{AllZip}
use Rattle.std.specs.declared.alloc.Global.{Global}
use Rattle.std.specs.Option.{option_or}
use Rattle.std.specs.Str.{bytes_eq}
use Rattle.std.proofs.lemmas.List.Elements.{Contains-get_or, Contains-append_right, Contains-append_cases, All-contains}
use Rattle.std.proofs.lemmas.Option.{get_or_from_slice_get, same_Some, slice_get-get_or, slice_get_within}
use Rattle.std.proofs.lemmas.Slice.Eq.{bytes_eq-Decides}
use Rattle.serde_json.specs.Data.{Members}
use Rattle.avro_nodes.specs.Nodes.{FieldView, NamedView, NodeView, primitive, array, mapping, union, enumeration, fixed, rec}
use Rattle.avro_resolve.specs.declared.readable.Aliased.{Aliased}
use Rattle.avro_resolve.specs.declared.links.Links.{Links}
use Rattle.avro_resolve.specs.declared.links.Link.{Link}
use Rattle.avro_resolve.specs.declared.links.LinkKind.{LinkKind}
use Rattle.avro_resolve.specs.declared.links.LinkKind.TheVariants.{ByElement, ByName, ByAlias}
use Rattle.avro_resolve.specs.declared.schemas.SchemaPair.{SchemaPair}
use Rattle.avro_resolve.specs.declared.table.Table.{Table}
use Rattle.avro_resolve.specs.Asking.{source_place, AsksFor}
use Rattle.avro_resolve.specs.Resolution.{Pairs, first_named, source, Fits}
use Rattle.avro_resolve.specs.Witnesses.{Pair}
use Rattle.avro_resolve.specs.Inside.Agreeing.{fields_of}
use Rattle.avro_resolve.specs.Inside.Referrers.{LinkedBy, HasLabel, AreReferrers, CanMatchKinds, IsNoUnion, Joins, LinkKindsMatch}
use Rattle.avro_resolve.specs.Inside.Remaining.{remains, AreRun, StillSupported, AllStillSupported, Ignores, WithinBut}
use Rattle.avro_resolve.specs.Inside.Lists.{list_at, IsListedAt}
use Rattle.avro_resolve.proofs.ListLemmas.{get_or_any, list_in, nothing_stands, same_place}
use Rattle.avro_resolve.proofs.Monotone.{named_in, supports_at}
use Rattle.avro_resolve.specs.Inside.Schemas.{columns, names_of, rows, IsValidSchemaPair}
use Rattle.avro_resolve.specs.Inside.Sources.{source_entry, entry_at, field_at, AreSources, IsSourceEntry}
use Rattle.avro_resolve.proofs.LinkLemmas.{met_by, sought_by, zip_got, IsMetBy, IsOf, IsSoughtBy, Seeks}
use Rattle.avro_resolve.proofs.RankMaps.{ranks_decide_names}
use Rattle.avro_resolve.proofs.KeptSupport.{settled_gone, settled_ignoring, settled_onto}

-- ---- a search through a list

the_one : {X : Type 0} (x y : X) → Contains (x ∷ []) y → x ≡ y
the_one x y (zero, l, e) = e
the_one x y (suc k, l, e) = absurd (omega arith)

pub search_list : {X : Type 0} (P : X → Type 0) → ((x : X) → P x ⊎ (P x → ⊥)) → (xs : List X) → ((x : X) × Contains xs x × P x) ⊎ ((x : X) → Contains xs x → P x → ⊥)
search_list P decide [] = inr (λ x h p. nothing_stands x h)
search_list P decide (x ∷ xs) = elim (decide x) [
  | inl p ↦ inl (x, (0, omega arith, refl), p)
  | inr n ↦ elim (search_list P decide xs) [
    | inl h ↦ inl (h.0, Contains-append_right (x ∷ []) xs h.0 h.1, h.2)
    | inr m ↦ inr (λ y h p. elim (Contains-append_cases (x ∷ []) xs y h) [ inl f ↦ n (subst P (sym (the_one x y f)) p) | inr g ↦ m y g p ])
  ]
]

stands : (xs : List ℕ) (i : ℕ) → Contains xs i ⊎ (Contains xs i → ⊥)
stands xs i = elim (search_list (λ x. x ≡ i) (λ x. same_place x i) xs) [
  | inl h ↦ inl (subst (λ (x : ℕ). Contains xs x) h.2 h.1)
  | inr n ↦ inr (λ h. n i h refl)
]

both : {P Q : Type 0} → P ⊎ (P → ⊥) → Q ⊎ (Q → ⊥) → (P × Q) ⊎ (P × Q → ⊥)
both (inl p) (inl q) = inl (p, q)
both (inl p) (inr n) = inr (λ h. n h.1)
both (inr n) y = inr (λ h. n h.0)

-- ---- a pair ignores each pair that it doesn't depend on

module _ (R S : Pairs) (i j p q : ℕ) (within : WithinBut p q R S) where
  match_unasked : (fields : List FieldView) (f : FieldView) (o : Option FieldView) → source fields f ≡ o → (source_place fields f ≡ Some p → f.place ≡ q → ⊥)
      → MatchOption o (IsSome f.value) (λ g. IsTrue (R g.place f.place)) → MatchOption o (IsSome f.value) (λ g. IsTrue (S g.place f.place))
  match_unasked fields f None e n h = h
  match_unasked fields f (Some g) e n h = elim (within g.place f.place h) [
    | inl s ↦ s
    | inr t ↦ absurd (n (ap (option_map (λ (x : FieldView). x.place)) e ∙ ap Some t.0) t.1)
  ]

  any_unasked : (places : List ℕ) → ((p ≡ i) × Contains places q → ⊥) → Any (λ x. IsTrue (R i x)) places → Any (λ x. IsTrue (S i x)) places
  any_unasked places n (k, x, l, e, h) = elim (within i x h) [
    | inl s ↦ (k, x, l, e, s)
    | inr t ↦ absurd (n (sym t.0, subst (λ (y : ℕ). Contains places y) t.1 (k, l, e)))
  ]

  all_unasked : (places : List ℕ) → (Contains places p × (q ≡ j) → ⊥) → All (λ x. IsTrue (R x j)) places → All (λ x. IsTrue (S x j)) places
  all_unasked places n h k d l = elim (within (get_or places k d) j (h k d l)) [
    | inl s ↦ s
    | inr t ↦ absurd (n (subst (λ (y : ℕ). Contains places y) t.0 (Contains-get_or places k d l), sym t.1))
  ]

  fits_unasked : (a b : NodeView) → (AsksFor i j a b p q → ⊥) → Fits R i j a b → Fits S i j a b
  fits_unasked (union bs) b n h = all_unasked bs n h
  fits_unasked (primitive k x) (union bs) n h = any_unasked bs n h
  fits_unasked (array k x) (union bs) n h = any_unasked bs n h
  fits_unasked (mapping k x) (union bs) n h = any_unasked bs n h
  fits_unasked (enumeration k s f x) (union bs) n h = any_unasked bs n h
  fits_unasked (fixed k s x) (union bs) n h = any_unasked bs n h
  fits_unasked (rec k fs x) (union bs) n h = any_unasked bs n h
  fits_unasked (array x e) (array y f) n h = elim (within x y h) [ inl s ↦ s | inr t ↦ absurd (n (sym t.0, sym t.1)) ]
  fits_unasked (mapping x e) (mapping y f) n h = elim (within x y h) [ inl s ↦ s | inr t ↦ absurd (n (sym t.0, sym t.1)) ]
  fits_unasked (rec k fs e) (rec l gs f) n h = (h.0, λ m d s. let g = get_or gs m d in match_unasked fs g (source fs g) refl (λ u v. n (m, g, s, get_or_any gs m g d s, (u, v))) (h.1 m d s))
  fits_unasked (primitive k x) (primitive l y) n h = h
  fits_unasked (enumeration k s f x) (enumeration l t g y) n h = h
  fits_unasked (fixed k s x) (fixed l t y) n h = h
  fits_unasked _ _ n h = absurd h

pub unasked : (w r : List NodeView) (i j p q : ℕ) (a b : NodeView) → slice_get w i ≡ Some a → slice_get r j ≡ Some b → (AsksFor i j a b p q → ⊥) → Ignores w r i j p q
unasked w r i j p q a b e f n R S within s = (supports_at w r S i j a b e f).1 (fits_unasked R S i j p q within a b n ((supports_at w r R i j a b e f).0 s))

-- ---- the names of sources

found_step : (test : FieldView → Bool) (g f : FieldView) (o : Option FieldView) (b : Bool) → test f ≡ b → (o ≡ Some g → test g ≡ true) → cond b (Some f) o ≡ Some g → test g ≡ true
found_step test g f o true t later e = let same : f ≡ g = cc in subst (λ (x : FieldView). test x ≡ true) same t
found_step test g f o false t later e = later e

found_test : (test : FieldView → Bool) (g : FieldView) (fs : List FieldView) → find test fs ≡ Some g → test g ≡ true
found_test test g [] e = absurd cc
found_test test g (f ∷ fs) e = found_step test g f (find test fs) (test f) refl (found_test test g fs) e

name_step : (g : FieldView) (name : List ℕ) (names : List (List ℕ)) (fs : List FieldView) (o p : Option FieldView) → find (λ f. bytes_eq f.name name) fs ≡ o → (p ≡ Some g → Contains names g.name) → option_or o p ≡ Some g → Contains (name ∷ names) g.name
name_step g name names fs None p t later e = Contains-append_right (name ∷ []) names g.name (later e)
name_step g name names fs (Some f) p t later e =
    let same : f ≡ g = cc in
    let one : g.name ≡ name = (bytes_eq-Decides g.name name).0 (found_test (λ x. bytes_eq x.name name) g fs (t ∙ ap Some same)) in
    subst (λ (x : List ℕ). Contains (name ∷ names) x) (sym one) (0, omega arith, refl)

name_found : (g : FieldView) (names : List (List ℕ)) (fs : List FieldView) → first_named names fs ≡ Some g → Contains names g.name
unfolding first_named
name_found g [] fs e = absurd cc
name_found g (name ∷ names) fs e = name_step g name names fs (find (λ f. bytes_eq f.name name) fs) (first_named names fs) refl (name_found g names fs) e

-- ---- each dependent of a pair is listed

-- the source entry of a writer's place and an aliased field
pub entry_told : (w r : List NodeView) (aliased : List Aliased) (sources : List (Vec ℕ Global)) → AreSources w r aliased sources → (i number : ℕ) (a : NodeView) (field : Aliased) → slice_get w i ≡ Some a → slice_get aliased number ≡ Some field
    → IsSourceEntry r (fields_of a) field (entry_at sources i number)
entry_told w r aliased sources are i number a field ea ef =
    let row = zip_got (λ (a : NodeView) (row : Vec ℕ Global). AllZip (IsSourceEntry r (fields_of a)) aliased row.items) w sources are i a ea in
    let entry = zip_got (IsSourceEntry r (fields_of a)) aliased row.0.items row.2 number field ef in
    let within : i < length sources = slice_get_within sources i row.0 row.1 in
    let list : list_at sources i ≡ row.0.items = list_in sources i row.0 within ∙ ap (λ (v : Vec ℕ Global). v.items) (get_or_from_slice_get sources i row.0 row.0 row.1) in
    let told : entry_at sources i number ≡ entry.0 = ap (λ (xs : List ℕ). get_or xs number 0) list ∙ get_or_from_slice_get row.0.items number entry.0 0 entry.1 in
    subst (IsSourceEntry r (fields_of a) field) (sym told) entry.2

module _ (sources : List (Vec ℕ Global)) (p : ℕ) where
  may_ask : (x y : Link) → LinkKindsMatch sources p x y ⊎ (LinkKindsMatch sources p x y → ⊥)
  may_ask x y = by x.kind y.kind
    where
      by : (v w : LinkKind) → CanMatchKinds sources p x.referrer v w ⊎ (CanMatchKinds sources p x.referrer v w → ⊥)
      by ByElement ByElement = inl tt
      by ByName ByName = inl tt
      by ByName (ByAlias number) = same_place (entry_at sources x.referrer number) (p + 1)
      by _ _ = inr (λ h. h)

  -- links of the two places have the same label and can be matched
  abbrev Beside : ℕ → Link → Link → Type 0
  Beside j x y = (y.referrer ≡ j) × ((x.label ≡ y.label) × LinkKindsMatch sources p x y)

  abbrev Above : List Link → ℕ → ℕ → Link → Type 0
  Above ys i j x = (x.referrer ≡ i) × ((y : Link) × Contains ys y × Beside j x y)

  abbrev Meet : List Link → List Link → ℕ → ℕ → Type 0
  Meet xs ys i j = (x : Link) × Contains xs x × Above ys i j x

  is_beside : (ys : List Link) (j : ℕ) (x : Link) → ((y : Link) × Contains ys y × Beside j x y) ⊎ ((y : Link) × Contains ys y × Beside j x y → ⊥)
  is_beside ys j x = elim (search_list (Beside j x) (λ y. both (same_place y.referrer j) (both (same_place x.label y.label) (may_ask x y))) ys) [ inl h ↦ inl h | inr n ↦ inr (λ h. n h.0 h.1 h.2) ]

  meet : (xs ys : List Link) (i j : ℕ) → Meet xs ys i j ⊎ (Meet xs ys i j → ⊥)
  meet xs ys i j = elim (search_list (Above ys i j) (λ x. both (same_place x.referrer i) (is_beside ys j x)) xs) [ inl h ↦ inl h | inr n ↦ inr (λ h. n h.0 h.1 h.2) ]

-- the pairs that may depend on this one are supported without it
pub record IsSeen (schemas : SchemaPair) (writer_links reader_links : Links) (sources : List (Vec ℕ Global)) (p q : ℕ) (v : Table) (qs : List Pair) : Type 0 where
  pub down : All (λ x. StillSupported (rows schemas) (columns schemas) v qs x q) (list_at writer_links.unions.items p)
  pub along : IsNoUnion (rows schemas) p → All (StillSupported (rows schemas) (columns schemas) v qs p) (list_at reader_links.unions.items q)
  pub joined : Joins sources p (StillSupported (rows schemas) (columns schemas) v qs) (list_at writer_links.lists.items p) (list_at reader_links.lists.items q)

union_or : (a : NodeView) → ((branches : List ℕ) × (a ≡ union branches)) ⊎ ((branches : List ℕ) → a ≡ union branches → ⊥)
union_or (union bs) = inl (bs, refl)
union_or (primitive k x) = inr (λ bs e. absurd cc)
union_or (array p x) = inr (λ bs e. absurd cc)
union_or (mapping p x) = inr (λ bs e. absurd cc)
union_or (enumeration n s f x) = inr (λ bs e. absurd cc)
union_or (fixed n s x) = inr (λ bs e. absurd cc)
union_or (rec n fs x) = inr (λ bs e. absurd cc)

module _ (schemas : SchemaPair) (is : IsValidSchemaPair schemas) (writer_links reader_links : Links) (sources : List (Vec ℕ Global)) (are_referrers : AreReferrers schemas writer_links reader_links sources) (i j p q : ℕ) where
  abbrev Listed : Type 0
  Listed = ((j ≡ q) × IsListedAt writer_links.unions.items i p) ⊎ (((i ≡ p) × IsListedAt reader_links.unions.items j q) ⊎ Meet sources p (list_at writer_links.lists.items p) (list_at reader_links.lists.items q) i j)

  joined : (x y : ℕ) (P Q : Link → Type 0) → ((l m : Link) → l.referrer ≡ i → P l → Q m → (l.label ≡ m.label) × LinkKindsMatch sources p l m) → LinkedBy P writer_links.lists.items i x → LinkedBy Q reader_links.lists.items j y → x ≡ p → y ≡ q → Listed
  joined x y P Q same (l, le, la, ls) (m, me, ma, ms) ep eq = inr (inr (l, subst (λ (z : ℕ). IsListedAt writer_links.lists.items l z) ep ls, (la, (m, subst (λ (z : ℕ). IsListedAt reader_links.lists.items m z) eq ms, (ma, same l m la le me)))))

  together : (l m : Link) (v w : LinkKind) → l.kind ≡ v → m.kind ≡ w → CanMatchKinds sources p l.referrer v w → LinkKindsMatch sources p l m
  together l m v w e f h = subst (λ (z : LinkKind). CanMatchKinds sources p l.referrer z m.kind) (sym e) (subst (λ (z : LinkKind). CanMatchKinds sources p l.referrer v z) (sym f) h)

  contained : (x y : ℕ) → LinkedBy (HasLabel 0 ByElement) writer_links.lists.items i x → LinkedBy (HasLabel 0 ByElement) reader_links.lists.items j y → (p ≡ x) × (q ≡ y) → Listed
  contained x y g h e = joined x y (HasLabel 0 ByElement) (HasLabel 0 ByElement) (λ l m la a b. (a.0 ∙ sym b.0, together l m ByElement ByElement a.1 b.1 tt)) g h (sym e.0) (sym e.1)

  of_branch : (bs : List ℕ) → slice_get (columns schemas) j ≡ Some (union bs) → (p ≡ i) × Contains bs q → Listed
  of_branch bs e h = inr (inl (sym h.0, All-contains (IsListedAt reader_links.unions.items j) bs q (are_referrers.reader.unions.named j (union bs) e) h.1))

  module _ (a b : NodeView) (ea : slice_get (rows schemas) i ≡ Some a) (eb : slice_get (columns schemas) j ≡ Some b) where
    -- a link of one of the aliases by which the field is read
    of_alias : (index : ℕ) (f : FieldView) → slice_get (fields_of b) index ≡ Some f → source_place (fields_of a) f ≡ Some p → (l : Link) → l.referrer ≡ i → (kind : LinkKind) → IsOf reader_links.aliased.items j index kind
        → CanMatchKinds sources p l.referrer ByName kind
    of_alias index f ef s l la ByElement of = of
    of_alias index f ef s l la ByName of = tt
    of_alias index f ef s l la (ByAlias number) of =
        let field : Aliased = record { place = j; index = index } in
        let at : field_at (columns schemas) field ≡ Some f = ap (option_and_then (λ (c : NodeView). slice_get (fields_of c) index)) eb ∙ ef in
        let told : entry_at sources i number ≡ source_entry (source_place (fields_of a) f) = entry_told (rows schemas) (columns schemas) reader_links.aliased.items sources are_referrers.sources i number a field ea of f at in
        ap (λ (x : ℕ). entry_at sources x number) la ∙ told ∙ ap source_entry s

    of_field : (index : ℕ) (f : FieldView) → slice_get (fields_of b) index ≡ Some f → (o : Option FieldView) → source (fields_of a) f ≡ o → option_map (λ (g : FieldView). g.place) o ≡ Some p → f.place ≡ q
        → All (IsMetBy (names_of schemas.reader) writer_links i) (fields_of a) → All (IsSoughtBy (names_of schemas.reader) reader_links j index f.place) (f.name ∷ f.aliases) → Listed
    of_field index f ef None e s at mine theirs = absurd cc
    of_field index f ef (Some g) e s at mine theirs =
        let names = f.name ∷ f.aliases in
        let own : IsMetBy (names_of schemas.reader) writer_links i g = named_in (IsMetBy (names_of schemas.reader) writer_links i) g names (fields_of a) mine e in
        let sought = All-contains (IsSoughtBy (names_of schemas.reader) reader_links j index f.place) names g.name theirs (name_found g names (fields_of a) e) in
        let from : source_place (fields_of a) f ≡ Some p = ap (option_map (λ (x : FieldView). x.place)) e ∙ s in
        joined g.place f.place (HasLabel sought.0 ByName) (Seeks reader_links.aliased.items j index sought.0) (λ l m la x y. (x.0 ∙ sym y.0, together l m ByName m.kind x.1 refl (of_alias index f ef from l la m.kind y.1)))
        (own sought.0 sought.1) sought.2 (same_Some g.place p s) at

  of_fields : (k l : NamedView) (fs gs : List FieldView) (x y : Members) → slice_get (rows schemas) i ≡ Some (rec k fs x) → slice_get (columns schemas) j ≡ Some (rec l gs y) → Any (λ f. (source_place fs f ≡ Some p) × (f.place ≡ q)) gs → Listed
  of_fields k l fs gs x y ea eb (index, f, within, ef, (s, at)) =
      let w = names_of schemas.writer in let r = names_of schemas.reader in let rank_map = schemas.rank_map.ranks.items in
      let mine = are_referrers.writer.links.named i (rec k fs x) ea in let theirs = are_referrers.reader.links.named j (rec l gs y) eb in
      let got : slice_get gs index ≡ Some f = slice_get-get_or gs index f within ∙ ap (λ (z : FieldView). Some z) ef in
      of_field (rec k fs x) (rec l gs y) ea eb index f got (source fs f) refl s at
      (met_by w r rank_map (ranks_decide_names w r rank_map is.rank_map is.reader.index.names.rise) writer_links i fs mine.0 mine.1.ranked mine.1.fields)
      (sought_by r reader_links j gs theirs.0 theirs.1.ranked theirs.1.fields index f got)

  listed : (a b : NodeView) → slice_get (rows schemas) i ≡ Some a → slice_get (columns schemas) j ≡ Some b → AsksFor i j a b p q → Listed
  listed (union bs) b ea eb h = inl (sym h.1, All-contains (IsListedAt writer_links.unions.items i) bs p (are_referrers.writer.unions.named i (union bs) ea) h.0)
  listed (primitive k x) (union bs) ea eb h = of_branch bs eb h
  listed (array k x) (union bs) ea eb h = of_branch bs eb h
  listed (mapping k x) (union bs) ea eb h = of_branch bs eb h
  listed (enumeration k s f x) (union bs) ea eb h = of_branch bs eb h
  listed (fixed k s x) (union bs) ea eb h = of_branch bs eb h
  listed (rec k fs x) (union bs) ea eb h = of_branch bs eb h
  listed (array x e) (array y f) ea eb h = contained x y ((are_referrers.writer.links.named i (array x e) ea).1.contained x refl) ((are_referrers.reader.links.named j (array y f) eb).1.contained y refl) h
  listed (mapping x e) (mapping y f) ea eb h = contained x y ((are_referrers.writer.links.named i (mapping x e) ea).1.contained x refl) ((are_referrers.reader.links.named j (mapping y f) eb).1.contained y refl) h
  listed (rec k fs e) (rec l gs f) ea eb h = of_fields k l fs gs e f ea eb h
  listed _ _ ea eb h = absurd h

  either : {P Q : Type 0} → P ⊎ (P → ⊥) → Q ⊎ (Q → ⊥) → (P ⊎ Q) ⊎ (P ⊎ Q → ⊥)
  either (inl x) y = inl (inl x)
  either (inr m) (inl y) = inl (inr y)
  either (inr m) (inr n) = inr (λ h. elim h [ inl x ↦ m x | inr y ↦ n y ])

  is_listed : Listed ⊎ (Listed → ⊥)
  is_listed = either (both (same_place j q) (stands (list_at writer_links.unions.items p) i)) (either (both (same_place i p) (stands (list_at reader_links.unions.items q) j)) (meet sources p (list_at writer_links.lists.items p) (list_at reader_links.lists.items q) i j))

  -- the pairs of listed dependents are supported
  abbrev Seen : Table → List Pair → Type 0
  Seen v qs = IsSeen schemas writer_links reader_links sources p q v qs

  looked : (v : Table) (qs : List Pair) (a b : NodeView) → slice_get (rows schemas) i ≡ Some a → slice_get (columns schemas) j ≡ Some b → remains v p q ≡ false → StillSupported (rows schemas) (columns schemas) v (qs ++ (p, q) ∷ []) i j → Seen v qs → Listed
      → StillSupported (rows schemas) (columns schemas) v qs i j
  looked v qs a b ea eb out before seen (inl (e, s)) = subst (λ (y : ℕ). StillSupported (rows schemas) (columns schemas) v qs i y) (sym e) (All-contains (λ x. StillSupported (rows schemas) (columns schemas) v qs x q) (list_at writer_links.unions.items p) i seen.down s)
  looked v qs a b ea eb out before seen (inr (inl (e, s))) =
      let w = rows schemas in let r = columns schemas in
      elim (union_or a) [
        | inl u ↦ elim (same_place j q) [
          | inl f ↦ settled_gone w r v qs i j (ap (λ (x : ℕ). remains v x j) e ∙ ap (remains v p) f ∙ out)
          | inr n ↦ settled_ignoring w r v qs i j p q (unasked w r i j p q (union u.0) b (ea ∙ ap (λ (x : NodeView). Some x) u.1) eb (λ h. n (sym h.1))) before
        ]
        | inr n ↦ subst (λ (x : ℕ). StillSupported w r v qs x j) (sym e)
            (All-contains (StillSupported w r v qs p) (list_at reader_links.unions.items q) j (seen.along (λ bs f. n bs (same_Some a (union bs) (sym ea ∙ ap (slice_get w) e ∙ f)))) s)
      ]
  looked v qs a b ea eb out before seen (inr (inr (x, hx, (ex, (y, hy, (ey, both)))))) = subst (λ (a : ℕ). StillSupported (rows schemas) (columns schemas) v qs a j) ex (subst (λ (b : ℕ). StillSupported (rows schemas) (columns schemas) v qs x.referrer b) ey (seen.joined x y hx hy both.0 both.1))

  told_one : (v : Table) (qs : List Pair) → i < length (rows schemas) → j < length (columns schemas) → remains v p q ≡ false → StillSupported (rows schemas) (columns schemas) v (qs ++ (p, q) ∷ []) i j → Seen v qs → StillSupported (rows schemas) (columns schemas) v qs i j
  told_one v qs li lj out before seen =
      let w = rows schemas in let r = columns schemas in
      let d : NodeView = union [] in let a = get_or w i d in let b = get_or r j d in
      let ea : slice_get w i ≡ Some a = slice_get-get_or w i d li in let eb : slice_get r j ≡ Some b = slice_get-get_or r j d lj in
      elim is_listed [
        | inl h ↦ looked v qs a b ea eb out before seen h
        | inr n ↦ settled_ignoring w r v qs i j p q (unasked w r i j p q a b ea eb (λ h. n (listed a b ea eb h))) before
      ]

-- once all dependents of a run's pairs were examined, all pairs are supported without the run
module _ (schemas : SchemaPair) (is : IsValidSchemaPair schemas) (writer_links reader_links : Links) (sources : List (Vec ℕ Global)) (are_referrers : AreReferrers schemas writer_links reader_links sources) (v : Table) where
  seen_onto : (p q : ℕ) (qs more : List Pair) → IsSeen schemas writer_links reader_links sources p q v qs → IsSeen schemas writer_links reader_links sources p q v (qs ++ more)
  seen_onto p q qs more h =
      let w = rows schemas in let r = columns schemas in
      let on = λ (i j : ℕ). settled_onto w r v qs more i j is.writer.whole is.reader.whole in
      record {
        down = λ k d l. on (get_or (list_at writer_links.unions.items p) k d) q (h.down k d l);
        along = λ n k d l. on p (get_or (list_at reader_links.unions.items q) k d) (h.along n k d l);
        joined = λ x y hx hy e m. on x.referrer y.referrer (h.joined x y hx hy e m);
      }

  pub told : (p : ℕ) (qs run : List Pair) → AreRun v p run → AllStillSupported (rows schemas) (columns schemas) v (qs ++ run) → All (λ (x : Pair). IsSeen schemas writer_links reader_links sources p x.1 v qs) run → AllStillSupported (rows schemas) (columns schemas) v qs
  told p qs [] are before seen = subst (AllStillSupported (rows schemas) (columns schemas) v) (append-nil qs) before
  told p qs (x ∷ run) are before seen = λ i j li lj.
      let w = rows schemas in let r = columns schemas in let first = are 0 x (omega arith) in
      let rest : AllStillSupported w r v (qs ++ x ∷ []) = told p (qs ++ x ∷ []) run (λ k d l. are (suc k) d (omega arith)) (subst (AllStillSupported w r v) (sym (append_assoc qs (x ∷ []) run)) before)
      (λ k d l. seen_onto p (get_or run k d).1 qs (x ∷ []) (seen (suc k) d (omega arith))) in
      told_one schemas is writer_links reader_links sources are_referrers i j p x.1 v qs li lj (subst (λ (z : ℕ). remains v z x.1 ≡ false) first.0 first.1) (subst (λ (z : ℕ). StillSupported w r v (qs ++ (z, x.1) ∷ []) i j) first.0 (rest i j li lj)) (seen 0 x (omega arith))
