-- Branches and fields that are written in turn.
use Rattle.std.proofs.Common.{◌≡◌, ℕ, ◌+◌, ◌<◌, ◌≤◌, List, [], ◌∷◌, length, drop, get_or, map, refl, sym, ap, ◌∙◌, subst, drop-cons, add-one, arith}
use Rattle.std.specs.Prelude.{codes}
use Rattle.std.proofs.lemmas.List.{drop_all}
use Rattle.json.specs.Token.{Token}
use Rattle.serde_json.specs.Data.{Data, string, object, Items, no_items}
use Rattle.serde_json.specs.View.{members_view}
use Rattle.serde_json.specs.Written.{WritesValue, WritesItems}
use Rattle.serde_json.proofs.Views.{Entry}
use Rattle.avro_nodes.specs.declared.node.PrimitiveKind.{PrimitiveKind}
use Rattle.avro_nodes.specs.declared.node.Field.{Field}
use Rattle.avro_nodes.specs.Nodes.{field_view}
use Rattle.avro_nodes.specs.Identity.{with_text, kind_text, primitive_value, field_value, Counted, ValueAt, then_items, branch_items, field_items}
use Rattle.avro_nodes.specs.Inside.Objects.{WritesCounted}
use Rattle.avro_nodes.proofs.Written.{items_on}

pub drop_item : {A : Type 0} (xs : List A) (i : ℕ) (x : A) → i < length xs → drop i xs ≡ get_or xs i x ∷ drop (i + 1) xs
drop_item xs i x h = rw (add-one, drop-cons xs i x)

pub primitive_alone : (kind : PrimitiveKind) (es : List Entry) → length es ≡ 0 → string (kind_text kind) ≡ primitive_value kind (members_view es)
primitive_alone kind [] e = refl
primitive_alone kind (x ∷ es) e = absurd (omega arith)

pub primitive_with : (kind : PrimitiveKind) (es : List Entry) → (length es ≡ 0 → ⊥) → object (with_text (codes "type") (kind_text kind) (members_view es)) ≡ primitive_value kind (members_view es)
primitive_with kind [] other = absurd (other refl)
primitive_with kind (x ∷ es) other = refl

-- items with one more value at the front, and the count after it
items_turn : (d : Data) (more : ℕ → Counted Items) (all : Counted Items) (next next2 : ℕ) (old mid new : List Token) → all ≡ then_items d (more next) → next2 ≡ next → WritesValue d old mid → WritesItems (more next2).0 mid new → WritesItems all.0 old new
items_turn d more all next next2 old mid new is same value rest =
    subst (λ (s : Counted Items). WritesItems s.0 old new) (sym is) (items_on d (more next).0 old mid new value (subst (λ (n : ℕ). WritesItems (more n).0 mid new) same rest))

count_turn : (d : Data) (more : ℕ → Counted Items) (all : Counted Items) (next next2 : ℕ) → all ≡ then_items d (more next) → next2 ≡ next → (more next2).1 ≡ all.1
count_turn d more all next next2 is same = ap (λ (n : ℕ). (more n).1) same ∙ ap (λ (s : Counted Items). s.1) (sym is)

module _ (one : ValueAt) where
  module _ (ps : List ℕ) (i written written2 : ℕ) (h : i < length ps) where
    branch_turn : branch_items one (drop i ps) written ≡ then_items (one (get_or ps i 0) written).0 (branch_items one (drop (i + 1) ps) (one (get_or ps i 0) written).1)
    unfolding branch_items
    branch_turn = ap (λ (qs : List ℕ). branch_items one qs written) (drop_item ps i 0 h)

    pub branch_on : (old mid new : List Token) → WritesCounted (one (get_or ps i 0) written) old mid written2 → WritesItems (branch_items one (drop (i + 1) ps) written2).0 mid new → WritesItems (branch_items one (drop i ps) written).0 old new
    branch_on old mid new spelt rest = items_turn _ (branch_items one (drop (i + 1) ps)) (branch_items one (drop i ps) written) _ written2 old mid new branch_turn spelt.1 spelt.0 rest

    pub branch_count : written2 ≡ (one (get_or ps i 0) written).1 → (branch_items one (drop (i + 1) ps) written2).1 ≡ (branch_items one (drop i ps) written).1
    branch_count same = count_turn _ (branch_items one (drop (i + 1) ps)) (branch_items one (drop i ps) written) _ written2 branch_turn same

  pub branches_over : (ps : List ℕ) (i written : ℕ) → length ps ≤ i → branch_items one (drop i ps) written ≡ (no_items, written)
  unfolding branch_items
  branches_over ps i written h = ap (λ (qs : List ℕ). branch_items one qs written) (drop_all i ps h)

  module _ (fs : List Field) (i written written2 : ℕ) (f : Field) (h : i < length fs) (is : f ≡ get_or fs i f) where
    field_turn : field_items one (map field_view (drop i fs)) written ≡ then_items (field_value (field_view f) (one f.place written).0) (field_items one (map field_view (drop (i + 1) fs)) (one f.place written).1)
    unfolding field_items
    field_turn =
        ap (λ (gs : List Field). field_items one (map field_view gs) written) (drop_item fs i f h)
        ∙ ap (λ (g : Field). field_items one (field_view g ∷ map field_view (drop (i + 1) fs)) written) (sym is)

    pub field_on : (old mid new : List Token) → WritesValue (field_value (field_view f) (one f.place written).0) old mid → written2 ≡ (one f.place written).1 → WritesItems (field_items one (map field_view (drop (i + 1) fs)) written2).0 mid new
        → WritesItems (field_items one (map field_view (drop i fs)) written).0 old new
    field_on old mid new value same rest = items_turn _ (field_items one (map field_view (drop (i + 1) fs))) (field_items one (map field_view (drop i fs)) written) _ written2 old mid new field_turn same value rest

    pub field_count : written2 ≡ (one f.place written).1 → (field_items one (map field_view (drop (i + 1) fs)) written2).1 ≡ (field_items one (map field_view (drop i fs)) written).1
    field_count same = count_turn _ (field_items one (map field_view (drop (i + 1) fs))) (field_items one (map field_view (drop i fs)) written) _ written2 field_turn same

  pub fields_over : (fs : List Field) (i written : ℕ) → length fs ≤ i → field_items one (map field_view (drop i fs)) written ≡ (no_items, written)
  unfolding field_items
  fields_over fs i written h = ap (λ (gs : List Field). field_items one (map field_view gs) written) (drop_all i fs h)
