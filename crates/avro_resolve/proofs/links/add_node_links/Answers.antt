use Rattle.std.proofs.Common.{rules, ◌≡◌, ◌<◌, ◌≤◌, ℕ, List, [], Bor, Option, Some, None, get_or, length, map, refl, sym, ap, subst, ◌∙◌, inl, inr, arith, ◌++◌, ◌∷◌, zero, suc, true, false, ◌+◌}
use Rattle.std.specs.Prelude.{◌⊎◌, is_some, slice_get, All, Contains, MatchOption}
use Rattle.std.proofs.lemmas.Bool.{cases_lt}
use Rattle.std.proofs.lemmas.Grind.{common_steps}
use Rattle.std.proofs.lemmas.List.{length-map}
use Rattle.std.proofs.lemmas.Option.{none-some, same_Some, slice_get-get_or, slice_get_within}
use Rattle.std.proofs.lemmas.List.Elements.{All-contains, Contains-get_or, Contains-push_cases}
use Rattle.std.proofs.lemmas.List.Sorted.{Contains-permutation}
use Rattle.std.specs.List.{each_same}
use Rattle.std.specs.List.Sorted.{IsPermutation}
use Rattle.avro_nodes.specs.Nodes.{FieldView, NodeView, primitive, array, mapping, union, enumeration, fixed, rec, field_view, node_view}
use Rattle.avro_nodes.specs.declared.node.Node.{Node}
use Rattle.avro_nodes.specs.declared.node.Node.TheVariants.{Primitive, Array, Map, Union, Enum, Fixed, Rec}
use Rattle.avro_schema.specs.Index.{AreFieldsRanked}
use Rattle.avro_schema.specs.declared.index.FieldRanks.{FieldRanks}
use Rattle.avro_resolve.specs.declared.links.Links.{Links}
use Rattle.avro_resolve.specs.declared.links.LinkKind.TheVariants.{ByElement, ByAlias, ByName}
use Rattle.avro_resolve.specs.declared.readable.Aliased.{Aliased}
use Rattle.avro_resolve.specs.declared.links.Link.{Link}
use Rattle.avro_resolve.specs.declared.links.LinkKind.{LinkKind}
use Rattle.avro_resolve.specs.Inside.Agreeing.{fields_of}
use Rattle.avro_resolve.specs.Inside.Referrers.{element_place, AreFieldsLinked, HasLabel, IsFieldLinked, IsLinkOfFields, IsPlaceLinked, LinkedBy, alias_labels, own_label, IsLinkOfField, IsAlias, OnlyAddsLinks, ranks_of}
use Rattle.avro_resolve.specs.declared.schemas.RankMap.{RankMap}
use Rattle.avro_resolve.specs.Inside.RankMaps.{mapped_rank}
use Rattle.avro_resolve.specs.Inside.Schemas.{names_of}
use Rattle.avro_resolve.proofs.LinkLemmas.{field_on, of_field_on, only_adds_none, only_adds_such, only_adds_then, linked_on}
use Rattle.avro_resolve.proofs.ViewLemmas.{view_got, got_last}
use Rattle.avro_resolve.proofs.ListLemmas.{adds_such, nothing_stands}
use Rattle.avro_resolve.proofs.links.add_node_links.Goals.{then-is_some-via-then-is_some, then-is_some-via-else-is_some+then-is_empty}
use Rattle.avro_resolve.proofs.links.add_node_links.Goals as goal

-- a node that is neither an array nor a map has no elements
nothing_contained : (n : Node) → ((x : ℕ) (y : _) → n ≡ Array x y → ⊥) → ((x : ℕ) (y : _) → n ≡ Map x y → ⊥) → element_place (node_view n) ≡ None
nothing_contained (Primitive k x) f g = refl
nothing_contained (Array p x) f g = absurd (f p x refl)
nothing_contained (Map p x) f g = absurd (g p x refl)
nothing_contained (Union ps) f g = refl
nothing_contained (Enum k s f x) g h = refl
nothing_contained (Fixed k s x) f g = refl
nothing_contained (Rec k fs x) f g = refl

pub loop-index-init : goal.loop-index-init
loop-index-init c = record { only_adds = only_adds_none _ c.args.links.now; there = λ k f x l. absurd (omega arith) }

-- a label in the list of an optional label is that label
some_label : (o : Option ℕ) (ls : List ℕ) → MatchOption o (ls ≡ []) (λ x. ls ≡ x ∷ []) → (l : ℕ) → Contains ls l → o ≡ Some l
some_label None ls e l h = absurd (nothing_stands l (subst (λ (xs : List ℕ). Contains xs l) e h))
some_label (Some x) ls e l h = elim (Contains-push_cases [] x l (subst (λ (xs : List ℕ). Contains xs l) e h)) [ inl m ↦ absurd (nothing_stands l m) | inr g ↦ ap (λ (n : ℕ). Some n) g ]

all_some : (P : ℕ → Type 0) (o : Option ℕ) (ls : List ℕ) → MatchOption o (ls ≡ []) (λ x. ls ≡ x ∷ []) → All P ls → (l : ℕ) → o ≡ Some l → P l
all_some P None ls e h l f = absurd cc
all_some P (Some x) ls e h l f = (let g : x ≡ l = cc in subst P g (subst (λ (xs : List ℕ). All P xs) e h 0 x (omega arith)))

got_still : (xs : List Aliased) (x y : Aliased) (k : ℕ) → slice_get xs k ≡ Some x → slice_get (xs ++ y ∷ []) k ≡ Some x
got_still [] x y k e = absurd cc
got_still (z ∷ zs) x y zero e = e
got_still (z ∷ zs) x y (suc k) e = got_still zs x y k e

got_pushed : (xs ys : List Aliased) (y : Aliased) (number : ℕ) → ys ≡ xs ++ y ∷ [] → number ≡ length xs → slice_get ys number ≡ Some y
got_pushed xs ys y number e long = ap (λ (zs : List Aliased). slice_get zs number) e ∙ ap (λ (n : ℕ). slice_get (xs ++ y ∷ []) n) long ∙ got_last xs y

-- the links of one more field are added
module _ (rank_map : Option (List (Option ℕ))) (views : List FieldView) (ranks : List FieldRanks) (i at : ℕ) (f : FieldView) (y : FieldRanks) (f_at : slice_get views at ≡ Some f) (y_at : slice_get ranks at ≡ Some y)
    (old xs ys : Links) (more : OnlyAddsLinks (λ x p. (x.referrer ≡ i) × (p ≡ f.place) × IsLinkOfField rank_map ys.aliased.items at y x x.kind) xs ys) where
  next_only_adds : OnlyAddsLinks (λ x p. (x.referrer ≡ i) × IsLinkOfFields rank_map xs.aliased.items views ranks x p) old xs → OnlyAddsLinks (λ x p. (x.referrer ≡ i) × IsLinkOfFields rank_map ys.aliased.items views ranks x p) old ys
  next_only_adds before = only_adds_then _ _ _ (λ x p h. (h.0, of_field_on xs.aliased.items ys.aliased.items more.kept rank_map x views ranks p h.1)) (λ x p h. (h.0, (at, f, y, f_at, y_at, sym h.1, h.2))) old xs ys before more

  next_there : ((k : ℕ) (g : FieldView) (x : FieldRanks) → k < at → slice_get views k ≡ Some g → slice_get ranks k ≡ Some x → IsFieldLinked rank_map xs i k g.place x) → IsFieldLinked rank_map ys i at f.place y
      → (k : ℕ) (g : FieldView) (x : FieldRanks) → k < at + 1 → slice_get views k ≡ Some g → slice_get ranks k ≡ Some x → IsFieldLinked rank_map ys i k g.place x
  next_there before here k g x below eg ex = elim (cases_lt k at) [
    | inl l ↦ field_on xs ys more.adds.kept more.kept rank_map i k g.place x (before k g x l eg ex)
    | inr l ↦ (let e : at ≡ k = omega arith in
        let same : f ≡ g = same_Some f g (sym f_at ∙ ap (slice_get views) e ∙ eg) in
        let alike : y ≡ x = same_Some y x (sym y_at ∙ ap (slice_get ranks) e ∙ ex) in
        subst (λ (m : ℕ). IsFieldLinked rank_map ys i m g.place x) e (subst (λ (z : FieldRanks). IsFieldLinked rank_map ys i at g.place z) alike (subst (λ (v : FieldView). IsFieldLinked rank_map ys i at v.place y) same here)))
  ]

-- the label of the field's own name
own_is : (rank_map : Option (Bor RankMap)) (rank : ℕ) (own : Option ℕ) (P : Bor RankMap → Type 0) → ((m : Bor RankMap) → P m → own ≡ mapped_rank m.now.ranks.items rank) → MatchOption rank_map (own ≡ Some rank) P → own ≡ own_label (ranks_of rank_map) rank
own_is None rank own P ranked h = h
own_is (Some m) rank own P ranked h = ranked m h

-- no labels of aliases, if the schema is the writer's or the field has no aliases
no_labels : (rank_map : Option (Bor RankMap)) (aliases : List ℕ) → (is_some rank_map ≡ true) ⊎ (aliases ≡ []) → alias_labels (ranks_of rank_map) aliases ≡ []
no_labels None aliases (inl h) = absurd cc
no_labels None aliases (inr e) = e
no_labels (Some m) aliases h = refl

all_labels : (rank_map : Option (Bor RankMap)) (aliases : List ℕ) → is_some rank_map ≡ false → aliases ≡ alias_labels (ranks_of rank_map) aliases
all_labels None aliases h = refl
all_labels (Some m) aliases h = absurd cc

pub loop-index-preserved-then-is_some : goal.loop-index-preserved-then-is_some
loop-index-preserved-then-is_some c =
    let inv = c.loop-index.invariant in let at = c.loop-index.index in let i = c.args.referrer in
    let fields = c.fields-fields.result.fields.now in let ranks = c.fields-fields.result.ranks.now in let views = map field_view fields in
    let rank_map = ranks_of c.args.rank_map in
    let field = get_or fields at c.index-fields-index.result in let names = get_or ranks at c.index-fields-index-in-loop-index.result in let p = field.place in
    let within : at < length fields = c.loop-index-test.true in let l : at < length ranks = omega (arith, within, c.fields-fields.ensures.long) in
    let field_here : slice_get views at ≡ Some (field_view field) = view_got field_view fields at field (slice_get-get_or fields at c.index-fields-index.result within) in
    let names_here : slice_get ranks at ≡ Some names = slice_get-get_or ranks at c.index-fields-index-in-loop-index.result l in
    let mine : c.map_or-own.result ≡ own_label rank_map names.name = own_is c.args.rank_map names.name c.map_or-own.result _ (λ m h. search rules) c.map_or-own.ensures in let own = c.in_ok-add_links-2.ensures in
    let old = c.args.links.now in let xs = c.loop-index.links in let ys = c.add_links-in-loop-index.new.links in
    let given = λ (x : Link) (kind : LinkKind). IsLinkOfField rank_map ys.aliased.items at names x kind in
    let more : OnlyAddsLinks (λ x q. (x.referrer ≡ i) × (q ≡ p) × given x x.kind) xs ys =
    only_adds_such _ _ (λ x q h. (h.2, h.3, subst (given x) (sym h.1) (sym mine ∙ some_label c.map_or-own.result c.as_slice.result.now c.as_slice.ensures x.label h.0))) xs ys own.only_adds in
    let none : alias_labels rank_map names.aliases.items ≡ [] = no_labels c.args.rank_map names.aliases.items (elim c.then-is_some.branch [
      | then-is_some-via-then-is_some w ↦ inl (sym c.is_some.ensures ∙ w.if-is_some.true)
      | then-is_some-via-else-is_some+then-is_empty w ↦ inr (let empty : names.aliases.items ≡ [] = grind (arith, common_steps) in empty)
    ]) in
    let here : IsFieldLinked rank_map ys i at p names = record {
      own = λ label e. all_some (λ n. LinkedBy (HasLabel n ByName) ys.lists.items i p) c.map_or-own.result c.as_slice.result.now c.as_slice.ensures own.there label (mine ∙ e);
      aliases = subst (λ (ls : List ℕ). All (λ label. LinkedBy (IsAlias ys.aliased.items i at label) ys.lists.items i p) ls) (sym none) (λ k d m. absurd (omega arith));
    } in
    record {
      only_adds = next_only_adds rank_map views ranks i at (field_view field) names field_here names_here old xs ys more inv.only_adds;
      there = next_there rank_map views ranks i at (field_view field) names field_here names_here old xs ys more inv.there here;
    }

pub loop-index-preserved : goal.loop-index-preserved
loop-index-preserved c =
    let inv = c.loop-index.invariant in let at = c.loop-index.index in let i = c.args.referrer in
    let fields = c.fields-fields.result.fields.now in let ranks = c.fields-fields.result.ranks.now in let views = map field_view fields in
    let rank_map = ranks_of c.args.rank_map in
    let field = get_or fields at c.index-fields-index.result in let names = get_or ranks at c.index-fields-index-in-loop-index.result in let p = field.place in
    let within : at < length fields = c.loop-index-test.true in let l : at < length ranks = omega (arith, within, c.fields-fields.ensures.long) in
    let field_here : slice_get views at ≡ Some (field_view field) = view_got field_view fields at field (slice_get-get_or fields at c.index-fields-index.result within) in
    let names_here : slice_get ranks at ≡ Some names = slice_get-get_or ranks at c.index-fields-index-in-loop-index.result l in
    let mine : c.map_or-own.result ≡ own_label rank_map names.name = own_is c.args.rank_map names.name c.map_or-own.result _ (λ m h. search rules) c.map_or-own.ensures in let own = c.in_ok-add_links-2.ensures in
    let old = c.args.links.now in let xs = c.loop-index.links in let ms = c.add_links-in-loop-index.new.links in let ys = c.add_links-in-loop-index-2.new.links in
    let last = c.in_ok-add_links-3.ensures in let number = c.len.result in let items = c.in_ok-push.ensures.items in
    let this : Aliased = record { place = i; index = at } in
    let is = last.only_adds.kept number this (got_pushed ms.aliased.items c.push.new.self.items this number items (omega (arith, c.len.ensures, ms.aliased.ok.0))) in
    let kept : (k : ℕ) (x : Aliased) → slice_get ms.aliased.items k ≡ Some x → slice_get ys.aliased.items k ≡ Some x =
    λ k x e. last.only_adds.kept k x (subst (λ (fs : List Aliased). slice_get fs k ≡ Some x) (sym items) (got_still ms.aliased.items x this k e)) in
    let given = λ (x : Link) (kind : LinkKind). IsLinkOfField rank_map ys.aliased.items at names x kind in
    let copied : c.in_ok-labels.labels.items ≡ names.aliases.items = each_same names.aliases.items c.in_ok-labels.labels.items c.in_ok-labels.ensures.cases.0 in
    let Linked = λ (label : ℕ). LinkedBy (HasLabel label (ByAlias number)) ys.lists.items i p in
    let sorted = c.sort_unstable.new.self.items in
    let each : All Linked sorted = subst (All Linked) c.deref.ensures.value last.there in
    let all : All Linked names.aliases.items = λ k d m. All-contains Linked sorted (get_or names.aliases.items k d) each
    (Contains-permutation names.aliases.items sorted (get_or names.aliases.items k d) (subst (λ (ls : List ℕ). IsPermutation ls sorted) copied c.sort_unstable.ensures.permutation) (Contains-get_or names.aliases.items k d m)) in
    let rest : OnlyAddsLinks (λ x q. (x.referrer ≡ i) × (q ≡ p) × given x x.kind) ms ys = record {
      adds = adds_such _ _ (λ x q h. (h.2, h.3, subst (given x) (sym h.1) (subst (λ (j : ℕ). slice_get ys.aliased.items number ≡ Some (record { place = j; index = at })) (sym h.2) is))) ms.lists.items ys.lists.items last.only_adds.adds;
      kept = kept;
      unions = last.only_adds.unions;
    } in
    let more : OnlyAddsLinks (λ x q. (x.referrer ≡ i) × (q ≡ p) × given x x.kind) xs ys =
    only_adds_then _ _ _ (λ x q h. (h.2, h.3, subst (given x) (sym h.1) (sym mine ∙ some_label c.map_or-own.result c.as_slice.result.now c.as_slice.ensures x.label h.0))) (λ x q h. h) xs ms ys own.only_adds rest in
    let here : IsFieldLinked rank_map ys i at p names = record {
      own = λ label e. linked_on ms ys last.only_adds.adds.kept kept (HasLabel label ByName) i p
          (all_some (λ n. LinkedBy (HasLabel n ByName) ms.lists.items i p) c.map_or-own.result c.as_slice.result.now c.as_slice.ensures own.there label (mine ∙ e));
      aliases = subst (λ (ls : List ℕ). All (λ label. LinkedBy (IsAlias ys.aliased.items i at label) ys.lists.items i p) ls)
          (all_labels c.args.rank_map names.aliases.items (sym c.is_some.ensures ∙ c.if-is_some.false))
          (λ k d m. (let h = all k d m in (h.0, (number, h.1, is), h.2, h.3)));
    } in
    record {
      only_adds = next_only_adds rank_map views ranks i at (field_view field) names field_here names_here old xs ys more inv.only_adds;
      there = next_there rank_map views ranks i at (field_view field) names field_here names_here old xs ys more inv.there here;
    }

-- an array or a map refers only to its elements
module _ (names : List (List ℕ)) (rank_map : Option (List (Option ℕ))) (links : Links) (i p : ℕ) where
  ends : (a : NodeView) → element_place a ≡ Some p → fields_of a ≡ [] → LinkedBy (HasLabel 0 ByElement) links.lists.items i p → IsPlaceLinked names rank_map links i a
  ends a e none h = (
    [],
    record {
      contained = λ q f. subst (LinkedBy (HasLabel 0 ByElement) links.lists.items i) (same_Some p q (sym e ∙ f)) h;
      ranked = subst (λ (fs : List FieldView). AreFieldsRanked names fs []) (sym none) tt;
      fields = λ index f y ef. absurd cc;
    },
  )

  contained_linked : (a : NodeView) → element_place a ≡ Some p → LinkedBy (HasLabel 0 ByElement) links.lists.items i p → IsPlaceLinked names rank_map links i a
  contained_linked (array q x) e h = ends (array q x) e refl h
  contained_linked (mapping q x) e h = ends (mapping q x) e refl h
  contained_linked (primitive k x) e h = absurd cc
  contained_linked (union ps) e h = absurd cc
  contained_linked (enumeration k s f x) e h = absurd cc
  contained_linked (fixed k s x) e h = absurd cc
  contained_linked (rec k fs x) e h = absurd cc

pub returns-in-Array-clause-only_adds : goal.returns-in-Array-clause-only_adds
returns-in-Array-clause-only_adds c =
    let holds : element_place (node_view c.node.result.now) ≡ Some c.in-Array.place = elim c.in-Array.is [ inl e ↦ ap (λ (n : Node). element_place (node_view n)) e.1 | inr e ↦ ap (λ (n : Node). element_place (node_view n)) e.1 ] in
    only_adds_such _ _ (λ x p h. (h.2, λ a ea. inl (h.1, ap element_place (same_Some a (node_view c.node.result.now) (sym ea ∙ c.node.ensures.node)) ∙ holds ∙ ap (λ (q : ℕ). Some q) (sym h.3))))
    c.args.links.now c.add_links.new.links c.in_ok-add_links.ensures.only_adds

pub returns-in-Array-clause-there : goal.returns-in-Array-clause-there
returns-in-Array-clause-there c = λ a ea.
    let holds : element_place (node_view c.node.result.now) ≡ Some c.in-Array.place = elim c.in-Array.is [ inl e ↦ ap (λ (n : Node). element_place (node_view n)) e.1 | inr e ↦ ap (λ (n : Node). element_place (node_view n)) e.1 ] in
    contained_linked (names_of c.args.indexed.now) (ranks_of c.args.rank_map) c.add_links.new.links c.args.referrer c.in-Array.place a
    (ap element_place (same_Some a (node_view c.node.result.now) (sym ea ∙ c.node.ensures.node)) ∙ holds) (c.in_ok-add_links.ensures.there 0 0 (omega arith))

pub returns-clause-only_adds : goal.returns-clause-only_adds
returns-clause-only_adds c =
    let all = c.fields-fields.result in let rank_map = ranks_of c.args.rank_map in let links = c.loop-index.links in
    only_adds_such _ _ (λ x p h. (
      h.0,
      λ a ea. (
          let are = c.fields-fields.ensures.are a ea in
          inr (all.ranks.now, subst (λ (fs : List FieldView). AreFieldsRanked (names_of c.args.indexed.now) fs all.ranks.now) are c.fields-fields.ensures.ranked, subst (λ (fs : List FieldView). IsLinkOfFields rank_map links.aliased.items fs all.ranks.now x p) are h.1)
          ),
    )) c.args.links.now links c.loop-index.invariant.only_adds

pub returns-clause-there : goal.returns-clause-there
returns-clause-there c = λ a ea.
    let all = c.fields-fields.result in let rank_map = ranks_of c.args.rank_map in let links = c.loop-index.links in let i = c.args.referrer in
    let are = c.fields-fields.ensures.are a ea in let view = length-map all.fields.now field_view in
    let past : length all.fields.now ≤ c.loop-index.index = c.loop-index-test.false in
    let linked : AreFieldsLinked rank_map links i (map field_view all.fields.now) all.ranks.now = λ index f x ef ex.
    (let l = slice_get_within (map field_view all.fields.now) index f ef in c.loop-index.invariant.there index f x (omega arith) ef ex) in (
      all.ranks.now,
      record {
        contained = λ p e. (let none = nothing_contained c.node.result.now c.in_default.not-Array c.in_default.not-Map in let same = ap element_place (same_Some a (node_view c.node.result.now) (sym ea ∙ c.node.ensures.node)) in absurd (none-some p (sym none ∙ sym same ∙ e)));
        ranked = subst (λ (fs : List FieldView). AreFieldsRanked (names_of c.args.indexed.now) fs all.ranks.now) are c.fields-fields.ensures.ranked;
        fields = subst (λ (fs : List FieldView). AreFieldsLinked rank_map links i fs all.ranks.now) are linked;
      },
    )
