-- Reading parts in order, as the loops do.
use Rattle.std.proofs.Common.{◌≡◌, ℕ, zero, suc, ◌+◌, ◌-◌, ◌<◌, List, [], ◌∷◌, ◌++◌, length, take, drop, set, Option, Some, None, option_map, refl, sym, ap, ap₂, ◌∙◌, append_assoc, append-nil, length-append, length-drop, arith}
use Rattle.std.proofs.lemmas.List.{length-map, map_push, take_all, drop_at}
use Rattle.serde_json.specs.Data.{Data, Items, no_items, item}
use Rattle.avro_nodes.specs.declared.node.Node.{Node}
use Rattle.avro_nodes.specs.Nodes.{NodeView, node_view, nodes_view}
use Rattle.avro_schema.specs.Names.{Known}
use Rattle.avro_schema.specs.Attributes.{◌>>=◌}
use Rattle.avro_schema.specs.Inside.ValueReaders.{Part, PartReader, parts_of}
use Rattle.avro_schema.specs.Inside.ReaderResults.{Fails, AddsPart}
use Rattle.avro_schema.specs.declared.error.SchemaError.{SchemaError}
use Rattle.avro_schema.proofs.ReaderErrors.{fails_from}

-- the parts read so far, followed by the rest
abbrev pub onto : {A : Type 0} → List A → List NodeView → Option (Part (List A)) → Option (Part (List A))
onto done added o = option_map (λ p. record { it = done ++ p.it; nodes = added ++ p.nodes; known = p.known }) o

onto_none : {A : Type 0} (o : Option (Part (List A))) → o ≡ onto [] [] o
onto_none None = refl
onto_none (Some p) = refl

onto_onto : {A : Type 0} (done more : List A) (added others : List NodeView) (o : Option (Part (List A))) → onto done added (onto more others o) ≡ onto (done ++ more) (added ++ others) o
onto_onto done more added others None = refl
onto_onto {A = A} done more added others (Some p) = ap₂ (λ (it : List A) (nodes : List NodeView). Some (record { it = it; nodes = nodes; known = p.known })) (sym (append_assoc done more p.it)) (sym (append_assoc added others p.nodes))

one_onto : {A : Type 0} (x : A) (new : List NodeView) (o : Option (Part (List A))) → (o >>= λ more. Some (record { it = x ∷ more.it; nodes = new ++ more.nodes; known = more.known })) ≡ onto (x ∷ []) new o
one_onto x new None = refl
one_onto x new (Some p) = refl

onto_nothing : {A : Type 0} (done : List A) (added : List NodeView) (known : Known) → onto done added (Some (record { it = []; nodes = []; known = known })) ≡ Some (record { it = done; nodes = added; known = known })
onto_nothing {A = A} done added known = ap₂ (λ (it : List A) (nodes : List NodeView). Some (record { it = it; nodes = nodes; known = known })) (append-nil done) (append-nil added)

module _ {A : Type 0} (one : PartReader A) where
  -- the state of a loop that has read `done` and continues with the rest
  pub record Going (all : Items) (known0 : Known) (first : ℕ) (before : List NodeView) (done : List A) (nodes : List NodeView) (known : Known) (at : ℕ) (rest : Items) : Type 0 where
    pub added : List NodeView
    pub nodes_are : nodes ≡ before ++ added
    pub at_is : at ≡ first + length added
    pub is : parts_of one all known0 first ≡ onto done added (parts_of one rest known at)

  pub at_start : (all : Items) (known0 : Known) (first : ℕ) (before : List NodeView) → Going all known0 first before [] before known0 first all
  at_start all known0 first before = record { added = []; nodes_are = sym (append-nil before); at_is = omega arith; is = onto_none (parts_of one all known0 first) }

  step_is : (d : Data) (rest : Items) (known : Known) (at : ℕ) (x : A) (new : List NodeView) (known2 : Known) → one d known at ≡ Some (record { it = x; nodes = new; known = known2 })
      → parts_of one (item d rest) known at ≡ onto (x ∷ []) new (parts_of one rest known2 (at + length new))
  unfolding parts_of
  step_is d rest known at x new known2 e = rw e (one_onto x new (parts_of one rest known2 (at + length new)))

  step_fails : (d : Data) (rest : Items) (known : Known) (at : ℕ) → one d known at ≡ None → parts_of one (item d rest) known at ≡ None
  unfolding parts_of
  step_fails d rest known at e = rw e refl

  over_is : (known : Known) (at : ℕ) → parts_of one no_items known at ≡ Some (record { it = []; nodes = []; known = known })
  unfolding parts_of
  over_is known at = refl

  pub goes_on : (all : Items) (known0 : Known) (first : ℕ) (before : List NodeView) (done : List A) (nodes nodes2 : List NodeView) (known known2 : Known) (at at2 : ℕ) (d : Data) (rest : Items) (x : A)
      → Going all known0 first before done nodes known at (item d rest) → AddsPart (one d known at) x nodes nodes2 known2 → at2 ≡ length nodes2 → at ≡ length nodes
      → Going all known0 first before (done ++ x ∷ []) nodes2 known2 at2 rest
  goes_on all known0 first before done nodes nodes2 known known2 at at2 d rest x so_far new at2_is at_is =
      let longer : length nodes2 ≡ length nodes + length new.added = ap length new.after_is ∙ length-append nodes new.added in
      let moved : at2 ≡ at + length new.added = omega arith in
      let turn = ap (onto done so_far.added) (step_is d rest known at x new.added known2 new.is) ∙ onto_onto done (x ∷ []) so_far.added new.added (parts_of one rest known2 (at + length new.added)) in
      record {
        added = so_far.added ++ new.added;
        nodes_are = new.after_is ∙ ap (λ (s : List NodeView). s ++ new.added) so_far.nodes_are ∙ append_assoc before so_far.added new.added;
        at_is = omega (arith, so_far.at_is, length-append so_far.added new.added);
        is = so_far.is ∙ turn ∙ ap (λ (n : ℕ). onto (done ++ x ∷ []) (so_far.added ++ new.added) (parts_of one rest known2 n)) (sym moved);
      }

  pub fails_at : (all : Items) (known0 : Known) (first : ℕ) (before : List NodeView) (done : List A) (nodes : List NodeView) (known : Known) (at : ℕ) (d : Data) (rest : Items) (e : SchemaError)
      → Going all known0 first before done nodes known at (item d rest) → Fails e (one d known at) → Fails e (parts_of one all known0 first)
  fails_at all known0 first before done nodes known at d rest e so_far f =
      fails_from e (one d known at) (parts_of one all known0 first) (λ none. so_far.is ∙ ap (onto done so_far.added) (step_fails d rest known at none)) f

  pub is_over : (all : Items) (known0 : Known) (first : ℕ) (before : List NodeView) (done : List A) (nodes : List NodeView) (known : Known) (at : ℕ)
      → Going all known0 first before done nodes known at no_items → AddsPart (parts_of one all known0 first) done before nodes known
  is_over all known0 first before done nodes known at so_far =
      record { added = so_far.added; is = so_far.is ∙ ap (onto done so_far.added) (over_is known at) ∙ onto_nothing done so_far.added known; after_is = so_far.nodes_are }

-- ---- nodes

pub one_more : {A : Type 0} (xs ys : List A) (x : A) → ys ≡ xs ++ x ∷ [] → length ys ≡ length xs + 1
one_more xs ys x e = ap length e ∙ length-append xs (x ∷ [])

pub nodes_push : (nodes after : List Node) (x : Node) → after ≡ nodes ++ x ∷ [] → nodes_view after ≡ nodes_view nodes ++ node_view x ∷ []
nodes_push nodes after x e = ap nodes_view e ∙ map_push node_view nodes x

pub length-nodes : (nodes : List Node) → length (nodes_view nodes) ≡ length nodes
length-nodes nodes = length-map nodes node_view

nodes-drop : (n : ℕ) (nodes : List Node) → nodes_view (drop n nodes) ≡ drop n (nodes_view nodes)
nodes-drop zero nodes = refl
nodes-drop (suc n) [] = refl
nodes-drop (suc n) (x ∷ nodes) = nodes-drop n nodes

-- the nodes from the place at which the new ones begin
pub new_nodes : (old all : List Node) (added : List NodeView) (from : ℕ) → nodes_view all ≡ nodes_view old ++ added → from ≡ length old → nodes_view (take (length all - from) (drop from all)) ≡ added
new_nodes old all added from e is =
    ap nodes_view (take_all (length all - from) (drop from all) (omega (arith, length-drop from all))) ∙ nodes-drop from all ∙ ap (drop from) e ∙ drop_at (nodes_view old) added from (length-nodes old ∙ sym is)

-- ---- a node that precedes those of its parts and is filled in after them

set_middle : (before : List NodeView) (placeholder s : NodeView) (added : List NodeView) → set ((before ++ placeholder ∷ []) ++ added) (length before) s ≡ before ++ s ∷ added
set_middle [] placeholder s added = refl
set_middle (x ∷ before) placeholder s added = ap (λ (xs : List NodeView). x ∷ xs) (set_middle before placeholder s added)

pub settled : (before mid after added : List NodeView) (place : ℕ) (placeholder s : NodeView) → mid ≡ before ++ placeholder ∷ [] → after ≡ mid ++ added → place ≡ length before → set after place s ≡ before ++ s ∷ added
settled before mid after added place placeholder s mid_is after_is place_is = rw (after_is, mid_is, place_is) (set_middle before placeholder s added)

-- the place of a pushed node doesn't change when others follow
pub still_there : (mid after : List Node) (added : List NodeView) (place n : ℕ) → nodes_view after ≡ nodes_view mid ++ added → length mid ≡ n + 1 → place ≡ n → place < length after
still_there mid after added place n e longer here = omega (arith, length-nodes mid, length-nodes after, ap length e, length-append (nodes_view mid) added)
