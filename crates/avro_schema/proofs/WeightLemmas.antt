-- A value's weight is the size of the names in the nodes that it denotes.
use Rattle.std.proofs.Common.{◌≡◌, ℕ, List, ◌∷◌, length, Bool, true, false, cond, Option, Some, None, codes, refl, sym, ap, ◌∙◌, arith}
use Rattle.std.specs.Prelude.{option_and_then, unwrap_or}
use Rattle.std.proofs.lemmas.Option.{same_Some}
use Rattle.serde_json.specs.Data.{Data, Items, no_items, item, Members}
use Rattle.serde_json.specs.Find.{get_member, as_str, as_array}
use Rattle.avro_nodes.specs.Names.{has_dot, namespace_of}
use Rattle.avro_nodes.specs.Nodes.{NamedView, FieldView, NodeView}
use Rattle.avro_schema.specs.Names.{Known, is_name_sequence, is_namespace, qualified, name_in, full_name, alias_in}
use Rattle.avro_schema.specs.Attributes.{text_in, array_in, text_of_any, text_if_any, texts_in, texts_if_any}
use Rattle.avro_schema.specs.Kinds.{BranchKind}
use Rattle.avro_schema.specs.Denotes.{IsNamed, Denotes, a_primitive, a_reference, primitive_type, reference_type, array_type, map_type, fixed_type, enum_type, record_type, union_type, Branches, no_branch, branch, Fields, no_field, field}
use Rattle.avro_schema.specs.Inside.Weight.{texts_size, named_size, names_size, map_or_zero, items_size, full_name_in, alias_size, namespace_in, definition_names_size, enum_or_fixed_size, field_size, record_size, object_size, weight}
use Rattle.avro_schema.proofs.Inversion.{bind_some, bind3, guard_some, map_some}
use Rattle.avro_schema.proofs.FullNames.{joined_space}
use Rattle.avro_schema.proofs.Sizes.{names_append}

-- ---- the names of a definition

attribute_same : (o : Option Data) (attribute : Option (List ℕ)) → text_of_any o ≡ Some attribute → option_and_then as_str o ≡ attribute
attribute_same None attribute e = same_Some _ _ e
attribute_same (Some d) attribute e = let p = map_some (λ (s : List ℕ). Some s) (as_str d) attribute e in p.1 ∙ p.2

attribute_read : (ms : Members) (attribute : Option (List ℕ)) → text_if_any (codes "namespace") ms ≡ Some attribute → text_in (codes "namespace") ms ≡ attribute
unfolding text_if_any text_in
attribute_read ms attribute e = attribute_same (get_member (codes "namespace") ms) attribute e

full_there : (space name : List ℕ) → has_dot name ≡ true → full_name_in space name ≡ name
unfolding full_name_in
full_there space name dot = rw dot refl

-- the namespace of the full name, and the full name in this namespace
abbrev Placed : List ℕ → List ℕ → Members → List ℕ → Type 0
Placed space text ms full = (namespace_in space text ms ≡ namespace_of full) × (full_name_in (namespace_of full) text ≡ full)

placed_in : (given text full : List ℕ) → has_dot text ≡ false → qualified given text ≡ full → (given ≡ namespace_of full) × (full_name_in (namespace_of full) text ≡ full)
unfolding full_name_in
placed_in given text full plain is =
    let same : given ≡ namespace_of full = sym (joined_space given text plain) ∙ ap namespace_of is in
    (same, rw plain (ap (λ (s : List ℕ). qualified s text) (sym same) ∙ is))

placed_plain : (attribute : Option (List ℕ)) (space text full : List ℕ) → has_dot text ≡ false → name_in attribute space text ≡ Some full → (unwrap_or attribute space ≡ namespace_of full) × (full_name_in (namespace_of full) text ≡ full)
placed_plain (Some a) space text full plain e = placed_in a text full plain (same_Some _ _ (guard_some (is_namespace a) (Some (qualified a text)) full e).1)
placed_plain None space text full plain e = placed_in space text full plain (same_Some _ _ e)

placed_at : (dot : Bool) (attribute : Option (List ℕ)) (space text : List ℕ) (ms : Members) (full : List ℕ) → has_dot text ≡ dot → text_in (codes "namespace") ms ≡ attribute
    → cond dot (Some text) (name_in attribute space text) ≡ Some full → Placed space text ms full
unfolding namespace_in
placed_at true attribute space text ms full is given e = let same : text ≡ full = same_Some _ _ e in rw is (ap namespace_of same, full_there (namespace_of full) text is ∙ same)
placed_at false attribute space text ms full is given e = rw (is, given) (placed_plain attribute space text full is e)

placed : (space : List ℕ) (ms : Members) (known : Known) (named : NamedView) (n : IsNamed space ms known named) → Placed space n.text ms named.name
unfolding full_name
placed space ms known named n =
    let g = guard_some (is_name_sequence n.text) (cond (has_dot n.text) (Some n.text) (name_in n.attribute space n.text)) named.name n.full in
    placed_at (has_dot n.text) n.attribute space n.text ms named.name refl (attribute_read ms n.attribute n.attribute_is) g.1

-- ---- aliases

alias_at : (dot : Bool) (space alias name : List ℕ) → has_dot alias ≡ dot → cond dot (Some alias) (Some (qualified space alias)) ≡ Some name → full_name_in space alias ≡ name
unfolding full_name_in
alias_at true space alias name is e = rw is (same_Some _ _ e)
alias_at false space alias name is e = rw is (same_Some _ _ e)

alias_full : (space alias name : List ℕ) → alias_in space alias ≡ Some name → full_name_in space alias ≡ name
unfolding alias_in
alias_full space alias name e =
    let g = guard_some (is_name_sequence alias) (cond (has_dot alias) (Some alias) (Some (qualified space alias))) name e in
    alias_at (has_dot alias) space alias name refl g.1

texts_same : (space : List ℕ) (ds : Items) (ts : List (List ℕ)) → texts_in (alias_in space) ds ≡ Some ts → items_size (alias_size space) ds ≡ texts_size ts
unfolding texts_in
texts_same space no_items ts e = ap texts_size (same_Some _ _ e)
texts_same space (item d ds) ts e =
    let p = bind3 (as_str d) (λ text. alias_in space text) (λ _ _. texts_in (alias_in space) ds) (λ _ name more. Some (name ∷ more)) ts e in
    let here : alias_size space d ≡ length p.1 = ap (map_or_zero (λ alias. length (full_name_in space alias))) p.3 ∙ ap length (alias_full space p.0 p.1 p.4) in
    omega (arith, here, texts_same space ds p.2 p.5, ap texts_size (same_Some _ _ p.6))

aliases_same : (space : List ℕ) (o : Option Data) (ts : List (List ℕ)) → texts_if_any (alias_in space) o ≡ Some ts → map_or_zero (items_size (alias_size space)) (option_and_then as_array o) ≡ texts_size ts
aliases_same space None ts e = ap texts_size (same_Some _ _ e)
aliases_same space (Some d) ts e = let p = bind_some (as_array d) (λ ds. texts_in (alias_in space) ds) ts e in ap (map_or_zero (items_size (alias_size space))) p.1 ∙ texts_same space p.0 ts p.2

names_same : (space : List ℕ) (ms : Members) (known : Known) (named : NamedView) (n : IsNamed space ms known named) → definition_names_size (namespace_in space n.text ms) n.text ms ≡ named_size named
unfolding definition_names_size array_in
names_same space ms known named n =
    let p = placed space ms known named n in
    rw p.0 (omega (arith, ap length p.1, aliases_same (namespace_of named.name) (get_member (codes "aliases") ms) named.aliases n.aliases))

-- ---- types

mutual
  unfolding weight object_size enum_or_fixed_size record_size

  pub weighs : {n : ℕ} {space : List ℕ} {d : Data} {known known2 : Known} {first place : ℕ} {nodes : List NodeView} → Denotes n space d known first place nodes known2 → weight n space d ≡ names_size nodes
  weighs (a_primitive e h) = refl
  weighs (a_reference e f) = refl
  weighs (primitive_type s o h) = rw (s.1, s.2) refl
  weighs (reference_type e w o f) = rw (e, w) refl
  weighs (array_type s i o h inner) = rw (s.1, s.2, i) (omega (arith, weighs inner))
  weighs (map_type s i o h inner) = rw (s.1, s.2, i) (omega (arith, weighs inner))
  weighs (fixed_type {space = space} {ms = ms} {known = known} {named = named} s n z o h) = rw (s.1, s.2, n.text_is) (omega (arith, names_same space ms known named n))
  weighs (enum_type {space = space} {ms = ms} {known = known} {named = named} s n e o h) = rw (s.1, s.2, n.text_is) (omega (arith, names_same space ms known named n))
  weighs (record_type {n = m} {space = space} {ms = ms} {items = items} {known = known} {named = named} s n i o h fs d) =
      let within = ap (λ (x : List ℕ). items_size (field_size (weight m x)) items) (placed space ms known named n).0 in
      rw (s.1, s.2, n.text_is, i) (omega (arith, names_same space ms known named n, within, fields_weigh fs))
  weighs (union_type h bs d) = omega (arith, branches_weigh bs)

  branches_weigh : {n : ℕ} {space : List ℕ} {ds : Items} {known known2 : Known} {first : ℕ} {branches : List (ℕ × BranchKind)} {nodes : List NodeView} → Branches n space ds known first branches nodes known2
      → items_size (weight n space) ds ≡ names_size nodes
  branches_weigh no_branch = refl
  branches_weigh (branch {nodes = nodes} {more = more} d k rest) = omega (arith, weighs d, branches_weigh rest, names_append nodes more)

  fields_weigh : {n : ℕ} {space : List ℕ} {ds : Items} {known known2 : Known} {first : ℕ} {fields : List FieldView} {nodes : List NodeView} → Fields n space ds known first fields nodes known2
      → items_size (field_size (weight n space)) ds ≡ names_size nodes
  fields_weigh no_field = refl
  fields_weigh (field {nodes = nodes} {more = more} i t d rest) = rw t (omega (arith, weighs d, fields_weigh rest, names_append nodes more))
