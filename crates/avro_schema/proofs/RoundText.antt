-- The identity text of a schema denotes it.
use Rattle.std.proofs.Common.{◌≡◌, ℕ, List, sym, ap, subst, ◌∙◌}
use Rattle.avro_nodes.specs.Identity.{identity, identity_value}
use Rattle.avro_nodes.specs.Nodes.{NodeView}
use Rattle.avro_nodes.proofs.Reread.{read-identity}
use Rattle.avro_nodes.proofs.Tidy.{tidy_nodes_whole}
use Rattle.avro_nodes.proofs.TidyRead.{tidy_read}
use Rattle.avro_nodes.proofs.Unchanged.{plain-identity}
use Rattle.avro_schema.specs.Texts.{TextDenotes, IsSchema, SchemaInvariant}
use Rattle.avro_schema.proofs.Passing.{denoted_nest, denoted_tidy}
use Rattle.avro_schema.proofs.RoundTrip.{identity_denotes}
use Rattle.avro_schema.proofs.TextLemmas.{one_schema}

pub identity_text_denotes : (nodes : List NodeView) → IsSchema nodes → TextDenotes (identity nodes) nodes
identity_text_denotes nodes (text, t) =
    let tidy = denoted_tidy t.type_is (tidy_read text t.respelt t.value t.plain_is t.value_is) in
    record {
      respelt = identity nodes;
      value = identity_value nodes;
      known = t.known;
      short = t.bounded;
      plain_is = plain-identity nodes (tidy_nodes_whole nodes tidy);
      value_is = read-identity nodes tidy (denoted_nest t.type_is);
      type_is = identity_denotes t.value 0 nodes t.known t.type_is;
      defaults = t.defaults;
      bounded = t.bounded;
    }

-- the text of a `Schema` denotes it
pub kept_denotes : (nodes : List NodeView) (text : List ℕ) → SchemaInvariant nodes text → TextDenotes text nodes
kept_denotes nodes text k = rw k.text_is (identity_text_denotes nodes k.schema)

-- schemas with equal identity texts are equal
pub same_kept : (xs ys : List NodeView) (s t : List ℕ) → SchemaInvariant xs s → SchemaInvariant ys t → s ≡ t → xs ≡ ys
same_kept xs ys s t k l e = one_schema t xs ys (subst (λ (x : List ℕ). TextDenotes x xs) e (kept_denotes xs s k)) (kept_denotes ys t l)

pub kept_same : (xs ys : List NodeView) (s t : List ℕ) → SchemaInvariant xs s → SchemaInvariant ys t → xs ≡ ys → s ≡ t
kept_same xs ys s t k l e = k.text_is ∙ ap identity e ∙ sym l.text_is
