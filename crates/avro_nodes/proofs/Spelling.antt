-- The value that is written for a place, by the kind of its node.
use Rattle.std.proofs.Common.{◌≡◌, ℕ, suc, ◌-◌, ◌<◌, List, Option, refl, sym, ap, subst, ◌∙◌, eq-eqb, arith}
use Rattle.std.proofs.lemmas.Bool.{eq-eqb, ne_eqb}
use Rattle.std.specs.Prelude.{slice_get}
use Rattle.std.specs.Option.{option_map}
use Rattle.std.proofs.lemmas.Option.{slice_get-map}
use Rattle.json.specs.Token.{Token}
use Rattle.serde_json.specs.Data.{Data, null, string}
use Rattle.avro_nodes.specs.Nodes.{NodeView, node_view, nodes_view}
use Rattle.avro_nodes.specs.declared.node.Node.{Node}
use Rattle.avro_nodes.specs.Identity.{Counted, identity_at, node_value, name_of}
use Rattle.avro_nodes.specs.Inside.Objects.{WritesCounted}

pub shape_found : (nodes : List Node) (place : ℕ) (o : Option Node) → slice_get nodes place ≡ o → slice_get (nodes_view nodes) place ≡ option_map node_view o
shape_found nodes place o e = slice_get-map node_view nodes place ∙ ap (option_map node_view) e

module _ (n : ℕ) (nodes : List NodeView) (space : List ℕ) (place written : ℕ) where
  pub spelt_too_deep : n ≡ 0 → identity_at n nodes space place written ≡ (null, written)
  unfolding identity_at
  spelt_too_deep e = rw e refl

  pub at_suc : (m : ℕ) → place ≡ written → identity_at (suc m) nodes space place written ≡ node_value (identity_at m nodes) space written (slice_get nodes place)
  unfolding identity_at
  at_suc m e = rw (eq-eqb place written e) refl

  pub again_suc : (m : ℕ) → (place ≡ written → ⊥) → identity_at (suc m) nodes space place written ≡ (string (name_of (slice_get nodes place)), written)
  unfolding identity_at
  again_suc m other = rw (ne_eqb place written other) refl

  pub spelt_first : (o : Option NodeView) → 0 < n → place ≡ written → slice_get nodes place ≡ o → identity_at n nodes space place written ≡ node_value (identity_at (n - 1) nodes) space written o
  spelt_first o some e found =
      let m : n ≡ suc (n - 1) = omega arith in
      ap (λ k. identity_at k nodes space place written) m ∙ at_suc (n - 1) e ∙ ap (node_value (identity_at (n - 1) nodes) space written) found

  pub spelt_again : 0 < n → (place ≡ written → ⊥) → identity_at n nodes space place written ≡ (string (name_of (slice_get nodes place)), written)
  spelt_again some other =
      let m : n ≡ suc (n - 1) = omega arith in
      ap (λ k. identity_at k nodes space place written) m ∙ again_suc (n - 1) other

pub spelt_as : (s r : Counted Data) (old new : List Token) (written : ℕ) → s ≡ r → WritesCounted r old new written → WritesCounted s old new written
spelt_as s r old new written e w = subst (λ (q : Counted Data). WritesCounted q old new written) (sym e) w
