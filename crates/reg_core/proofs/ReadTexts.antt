-- The parsed schema of a text, by the nodes that the text denotes.
use Rattle.std.proofs.Common.{◌≡◌, ℕ, List, Option, Some, None, Result, Ok, Err, refl}
use Rattle.std.specs.Prelude.{◌≢◌, IfOk, IfErr}
use Rattle.avro_nodes.specs.Nodes.{NodeView}
use Rattle.avro_schema.specs.declared.error.SchemaError.{SchemaError}
use Rattle.avro_schema.specs.declared.error.SchemaError.TheVariants.{OutOfMemory}
use Rattle.avro_schema.specs.DenotedNodes.{denoted_nodes}
use Rattle.avro_schema.specs.Texts.{TextDenotes}
use Rattle.avro_schema.specs.Inside.ReaderResults.{Fails, Gives}
use Rattle.avro_schema.proofs.TextLemmas.{denotes_computes, computed_denotes}

fails : {A : Type 0} (e : SchemaError) (o : Option A) → (e ≢ OutOfMemory → o ≡ None) → Fails e o
fails OutOfMemory o h = tt
fails e o h = h (λ (same : e ≡ OutOfMemory). cc)

nothing : (text : List ℕ) (o : Option (List NodeView)) → denoted_nodes text ≡ o → ((nodes : List NodeView) → ¬ TextDenotes text nodes) → denoted_nodes text ≡ None
nothing text None e never = e
nothing text (Some nodes) e never = absurd (never nodes (computed_denotes text nodes e))

pub gives : {X : Type 0} (shown : X → List NodeView) (text : List ℕ) (r : Result X SchemaError) → IfOk r (λ x. TextDenotes text (shown x)) → IfErr r (λ e. e ≢ OutOfMemory → (nodes : List NodeView) → ¬ TextDenotes text nodes) → Gives shown r (denoted_nodes text)
gives shown text (Ok x) ok err = denotes_computes text (shown x) ok
gives shown text (Err e) ok err = fails e (denoted_nodes text) (λ other. nothing text (denoted_nodes text) refl (err other))
