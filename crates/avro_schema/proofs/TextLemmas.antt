-- The computed reading of a text agrees with the rules.
use Rattle.std.proofs.Common.{Bool, ◌≡◌, ◌≢◌, ℕ, ◌≤◌, List, [], length, true, false, cond, Option, Some, None, refl, sym, ap, subst, ◌∙◌, true≢false, length-append, arith, ◌<◌, ◌+◌}
use Rattle.std.specs.Prelude.{nat_le, IsTrue, ◌&&◌}
use Rattle.std.proofs.lemmas.Bool.{and_parts, le-leb, leb-true}
use Rattle.std.proofs.lemmas.Option.{same_Some}
use Rattle.serde_json.specs.Data.{Data, Items}
use Rattle.serde_json.specs.Read.{read}
use Rattle.avro_nodes.specs.Limits.{max_nesting, max_places, max_text}
use Rattle.avro_nodes.specs.Nodes.{FieldView, NodeView}
use Rattle.avro_nodes.specs.Names.{has_dot}
use Rattle.avro_nodes.specs.Identity.{identity, nodes_pass}
use Rattle.avro_nodes.specs.Plain.{plain}
use Rattle.avro_nodes.specs.Whole.{has_whole_numbers}
use Rattle.avro_nodes.proofs.Tidy.{tidy_nodes_whole}
use Rattle.avro_nodes.proofs.TidyRead.{tidy_read}
use Rattle.avro_schema.specs.Names.{Known, none_known, or_else, resolved}
use Rattle.avro_schema.specs.Attributes.{◌>>=◌}
use Rattle.avro_schema.specs.Inside.Types.{type_at}
use Rattle.avro_schema.specs.Inside.Fitting.{node_defaults_fit}
use Rattle.avro_schema.specs.Kinds.{BranchKind}
use Rattle.avro_schema.specs.Denotes.{Denotes, a_primitive, a_reference, primitive_type, reference_type, array_type, map_type, fixed_type, enum_type, record_type, union_type, Branches, no_branch, branch, Fields, no_field, field}
use Rattle.avro_schema.specs.Texts.{TextDenotes, IsSchema}
use Rattle.avro_schema.specs.DenotedNodes.{denoted_nodes}
use Rattle.avro_schema.specs.Inside.DeclaredNodes.{value_in, root_in, declared_nodes, nodes_that_fit}
use Rattle.avro_schema.specs.Inside.Weight.{weight}
use Rattle.avro_schema.specs.Inside.Mentions.{mentions}
use Rattle.avro_schema.specs.Inside.ReaderResults.{Fails, AddsPart}
use Rattle.avro_schema.specs.declared.error.SchemaError.{SchemaError}
use Rattle.avro_schema.specs.declared.error.SchemaError.TheVariants.{OutOfMemory}
use Rattle.avro_schema.proofs.Inversion.{bind_some, bind2, guard_some}
use Rattle.avro_schema.proofs.Computes.{computes}
use Rattle.avro_schema.proofs.Sound.{says}
use Rattle.avro_schema.proofs.Passing.{denoted_nest, denoted_tidy}
use Rattle.avro_schema.proofs.FittingLemmas.{defaults_say, defaults_compute}
use Rattle.avro_schema.proofs.RoundTrip.{names_bounded, mentions_bounded}
use Rattle.avro_schema.proofs.WeightLemmas.{weighs}

-- an error other than `OutOfMemory` implies that the definition gives `None`
pub refused : {A : Type 0} (e : SchemaError) (o : Option A) → e ≢ OutOfMemory → Fails e o → o ≡ None
refused OutOfMemory o other f = absurd (other refl)
refused _ o other f = f

pub typed_is : (text : List ℕ) (d : Data) (p : ℕ) (after : List NodeView) (known2 : Known) → length text ≤ max_text → value_in text ≡ Some d → nat_le (weight max_nesting [] d) max_text ≡ true
    → AddsPart (type_at max_nesting [] d none_known 0) p [] after known2 → declared_nodes text ≡ Some after
unfolding declared_nodes root_in
typed_is text d p after known2 short e light root = rw (le-leb (length text) max_text short, e, light, root.is, ← root.after_is) refl

-- if its value is no type, the text has no nodes
pub not_typed : (text : List ℕ) (d : Data) → length text ≤ max_text → value_in text ≡ Some d → nat_le (weight max_nesting [] d) max_text ≡ true → type_at max_nesting [] d none_known 0 ≡ None → declared_nodes text ≡ None
unfolding declared_nodes root_in
not_typed text d short e light none = rw (le-leb (length text) max_text short, e, light, none) refl

value_says : (text : List ℕ) (d : Data) → value_in text ≡ Some d → (respelt : List ℕ) × (plain text ≡ Some respelt) × (read respelt ≡ Some d)
unfolding value_in
value_says text d e = bind_some (plain text) (λ respelt. read respelt) d e

value_computes : (text respelt : List ℕ) (d : Data) → plain text ≡ Some respelt → read respelt ≡ Some d → value_in text ≡ Some d
unfolding value_in
value_computes text respelt d e f = rw (e, f) refl

-- ---- the root is at place 0

nothing_at : (dot : Bool) (o : Option ℕ) → o ≡ None → cond dot o (or_else o o) ≡ None
nothing_at true o e = e
nothing_at false o e = rw e refl

nothing_resolved : (space name : List ℕ) → resolved none_known space name ≡ None
unfolding resolved
nothing_resolved space name = nothing_at (has_dot name) None refl

root_place : {n : ℕ} {space : List ℕ} {d : Data} {first place : ℕ} {known known2 : Known} {nodes : List NodeView} → Denotes n space d known first place nodes known2 → known ≡ none_known → place ≡ first
root_place (a_primitive e h) k = refl
root_place (a_reference {space = space} {name = name} e f) k = let none = sym f ∙ ap (λ (x : Known). resolved x space name) k ∙ nothing_resolved space name in absurd cc
root_place (primitive_type s o h) k = refl
root_place (reference_type {space = space} {name = name} e w o f) k = let none = sym f ∙ ap (λ (x : Known). resolved x space name) k ∙ nothing_resolved space name in absurd cc
root_place (array_type s i o h inner) k = refl
root_place (map_type s i o h inner) k = refl
root_place (fixed_type s n z o h) k = refl
root_place (enum_type s n e o h) k = refl
root_place (record_type s n i o h fs d) k = refl
root_place (union_type h bs d) k = refl

-- ---- the number of nodes is within its limit

mutual
  pub places_below : {n : ℕ} {space : List ℕ} {d : Data} {first place : ℕ} {known known2 : Known} {nodes : List NodeView} → Denotes n space d known first place nodes known2 → first ≤ max_places → first + length nodes ≤ max_places
  places_below (a_primitive e h) k = omega arith
  places_below (a_reference e f) k = omega arith
  places_below (primitive_type s o h) k = omega arith
  places_below (reference_type e w o f) k = omega arith
  places_below (array_type s i o h inner) k = let more = places_below inner (omega arith) in omega arith
  places_below (map_type s i o h inner) k = let more = places_below inner (omega arith) in omega arith
  places_below (fixed_type s n z o h) k = omega arith
  places_below (enum_type s n e o h) k = omega arith
  places_below (record_type s n i o h fs d) k = let more = fields_below fs (omega arith) in omega arith
  places_below (union_type h bs d) k = let more = branches_below bs (omega arith) in omega arith

  branches_below : {n : ℕ} {space : List ℕ} {ds : Items} {first : ℕ} {known known2 : Known} {branches : List (ℕ × BranchKind)} {nodes : List NodeView} → Branches n space ds known first branches nodes known2 → first ≤ max_places → first + length nodes ≤ max_places
  branches_below no_branch k = omega arith
  branches_below (branch {nodes = nodes} {more = more} d e rest) k = let here = places_below d k in let others = branches_below rest here in omega (arith, length-append nodes more)

  fields_below : {n : ℕ} {space : List ℕ} {ds : Items} {first : ℕ} {known known2 : Known} {fields : List FieldView} {nodes : List NodeView} → Fields n space ds known first fields nodes known2 → first ≤ max_places → first + length nodes ≤ max_places
  fields_below no_field k = omega arith
  fields_below (field {nodes = nodes} {more = more} i t d rest) k = let here = places_below d k in let others = fields_below rest here in omega (arith, length-append nodes more)

-- a schema has at most 4,096 nodes
pub few_places : (nodes : List NodeView) → IsSchema nodes → length nodes ≤ max_places
few_places nodes s = let h = places_below s.1.type_is (omega arith) in omega arith

-- ---- types

-- the nodes that the types of a text give, before the checks of defaults and identity text
pub record Types (text : List ℕ) (nodes : List NodeView) : Type 0 where
  pub respelt : List ℕ
  pub value : Data
  pub known : Known
  pub short : length text ≤ max_text
  pub plain_is : plain text ≡ Some respelt
  pub value_is : read respelt ≡ Some value
  pub type_is : Denotes max_nesting [] value none_known 0 0 nodes known

pub typed_says : (text : List ℕ) (nodes : List NodeView) → declared_nodes text ≡ Some nodes → Types text nodes
unfolding declared_nodes root_in
typed_says text nodes e =
    let g = guard_some (nat_le (length text) max_text) (value_in text >>= λ value. root_in value >>= λ p. Some p.nodes) nodes e in
    let q = bind2 (value_in text) (λ value. root_in value) (λ _ p. Some p.nodes) nodes g.1 in
    let v = value_says text q.0 q.2 in
    let same : q.1.nodes ≡ nodes = same_Some _ _ q.4 in
    let light = guard_some (nat_le (weight max_nesting [] q.0) max_text) (type_at max_nesting [] q.0 none_known 0) q.1 q.3 in
    let root = says max_nesting [] q.0 none_known 0 q.1 light.1 in
    record {
      respelt = v.0;
      value = q.0;
      known = q.1.known;
      short = leb-true (length text) max_text g.0;
      plain_is = v.1;
      value_is = v.2;
      type_is = subst (λ (x : List NodeView). Denotes max_nesting [] q.0 none_known 0 0 x q.1.known) same (subst (λ (place : ℕ). Denotes max_nesting [] q.0 none_known 0 place q.1.nodes q.1.known) (root_place root refl) root);
    }

typed_computes : (text respelt : List ℕ) (value : Data) (known : Known) (nodes : List NodeView) → length text ≤ max_text → plain text ≡ Some respelt → read respelt ≡ Some value
    → Denotes max_nesting [] value none_known 0 0 nodes known → length (identity nodes) ≤ max_text → declared_nodes text ≡ Some nodes
unfolding declared_nodes root_in
typed_computes text respelt value known nodes short p v t bounded =
    let light : weight max_nesting [] value ≤ max_text = omega (arith, weighs t, names_bounded value 0 nodes known t, bounded) in
    rw (le-leb (length text) max_text short, value_computes text respelt value p v, le-leb (weight max_nesting [] value) max_text light, computes t) refl

-- the condition on the identity text
pub typed_whole : (text : List ℕ) (nodes : List NodeView) → declared_nodes text ≡ Some nodes → IsTrue (nodes_pass has_whole_numbers nodes)
typed_whole text nodes e =
    let t = typed_says text nodes e in
    tidy_nodes_whole nodes (denoted_tidy t.type_is (tidy_read text t.respelt t.value t.plain_is t.value_is))

-- ---- texts

-- the computed nodes are denoted
pub denoted_says : (text : List ℕ) (nodes : List NodeView) → declared_nodes text ≡ Some nodes → node_defaults_fit nodes nodes ≡ true → length (identity nodes) ≤ max_text → TextDenotes text nodes
denoted_says text nodes e fit short =
    let t = typed_says text nodes e in
    record {
      respelt = t.respelt;
      value = t.value;
      known = t.known;
      short = t.short;
      plain_is = t.plain_is;
      value_is = t.value_is;
      type_is = t.type_is;
      defaults = defaults_say nodes nodes fit;
      bounded = short;
    }

-- the denoted nodes are computed
pub denotes_typed : (text : List ℕ) (nodes : List NodeView) → TextDenotes text nodes → declared_nodes text ≡ Some nodes
denotes_typed text nodes t = typed_computes text t.respelt t.value t.known nodes t.short t.plain_is t.value_is t.type_is t.bounded

pub denotes_fitting : (text : List ℕ) (nodes : List NodeView) → TextDenotes text nodes → node_defaults_fit nodes nodes ≡ true
denotes_fitting text nodes t = defaults_compute nodes nodes t.defaults (denoted_nest t.type_is)

pub denotes_computes : (text : List ℕ) (nodes : List NodeView) → TextDenotes text nodes → denoted_nodes text ≡ Some nodes
unfolding denoted_nodes nodes_that_fit
denotes_computes text nodes t = rw (denotes_typed text nodes t, denotes_fitting text nodes t, le-leb (length (identity nodes)) max_text t.bounded) refl

-- the nodes computed after all checks are denoted
pub computed_denotes : (text : List ℕ) (nodes : List NodeView) → denoted_nodes text ≡ Some nodes → TextDenotes text nodes
unfolding denoted_nodes nodes_that_fit
computed_denotes text nodes e =
    let b = bind_some (declared_nodes text) nodes_that_fit nodes e in
    let g = guard_some (node_defaults_fit b.0 b.0 && nat_le (length (identity b.0)) max_text) (Some b.0) nodes b.2 in
    let passed = and_parts (node_defaults_fit b.0 b.0) (nat_le (length (identity b.0)) max_text) g.0 in
    subst (λ (x : List NodeView). TextDenotes text x) (same_Some _ _ g.1) (denoted_says text b.0 b.1 passed.0 (leb-true (length (identity b.0)) max_text passed.1))

-- a text denotes at most one schema
pub one_schema : (text : List ℕ) (xs ys : List NodeView) → TextDenotes text xs → TextDenotes text ys → xs ≡ ys
one_schema text xs ys t u = same_Some _ _ (sym (denotes_typed text xs t) ∙ denotes_typed text ys u)

-- if no types are computed, nothing is denoted
pub none_typed : (text : List ℕ) → declared_nodes text ≡ None → (nodes : List NodeView) → ¬ TextDenotes text nodes
none_typed text none nodes t = let e = denotes_typed text nodes t in absurd cc

-- if a default doesn't fit, nothing is denoted
pub none_fitting : (text : List ℕ) (nodes : List NodeView) → declared_nodes text ≡ Some nodes → node_defaults_fit nodes nodes ≡ false → (others : List NodeView) → ¬ TextDenotes text others
none_fitting text nodes e misfit others t =
    let same : nodes ≡ others = same_Some _ _ (sym e ∙ denotes_typed text others t) in
    true≢false (sym (denotes_fitting text others t) ∙ ap (λ (x : List NodeView). node_defaults_fit x x) (sym same) ∙ misfit)

-- if the names of the types inside other types are too long, nothing is denoted
pub none_mentioned : (text : List ℕ) (nodes : List NodeView) → declared_nodes text ≡ Some nodes → nat_le (mentions nodes nodes) max_text ≡ false → (others : List NodeView) → ¬ TextDenotes text others
none_mentioned text nodes e long others t =
    let same : nodes ≡ others = same_Some _ _ (sym e ∙ denotes_typed text others t) in
    let fit : mentions others others ≤ max_text = omega (arith, mentions_bounded t.value 0 others t.known t.type_is, t.bounded) in
    true≢false (sym (le-leb (mentions others others) max_text fit) ∙ ap (λ (x : List NodeView). nat_le (mentions x x) max_text) (sym same) ∙ long)

-- if the identity text is too long, nothing is denoted
pub none_bounded : (text : List ℕ) (nodes : List NodeView) → declared_nodes text ≡ Some nodes → max_text < length (identity nodes) → (others : List NodeView) → ¬ TextDenotes text others
none_bounded text nodes e long others t =
    let same : nodes ≡ others = same_Some _ _ (sym e ∙ denotes_typed text others t) in
    let same_length : length (identity nodes) ≡ length (identity others) = ap (λ (x : List NodeView). length (identity x)) same in
    let short = t.bounded in
    absurd (omega arith)
