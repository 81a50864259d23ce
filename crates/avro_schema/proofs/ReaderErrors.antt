-- The error results of a reader.
use Rattle.std.proofs.Common.{◌≡◌, List, Option, None, Result}
use Rattle.std.specs.Result.{IsErrAnd}
use Rattle.std.proofs.lemmas.Result.{err_from_is_err_and}
use Rattle.avro_nodes.specs.Nodes.{NodeView}
use Rattle.avro_schema.specs.Names.{Known}
use Rattle.avro_schema.specs.Inside.ValueReaders.{Part}
use Rattle.avro_schema.specs.Inside.ReaderResults.{Fails, Gives, ReadsPart}
use Rattle.avro_schema.specs.declared.error.SchemaError.{SchemaError}
use Rattle.avro_schema.specs.declared.error.SchemaError.TheVariants.{OutOfMemory}

-- if one definition gives `None`, so does a definition that depends on it
pub fails_from : {A B : Type 0} (e : SchemaError) (o : Option A) (u : Option B) → (o ≡ None → u ≡ None) → Fails e o → Fails e u
fails_from OutOfMemory o u h f = tt
fails_from _ o u h f = h f

-- the early return of a `?`
pub gives_exit : {X A : Type 0} (shown : X → A) (r : Result X SchemaError) (e : SchemaError) (o : Option A) → IsErrAnd r (λ y. y ≡ e) → Fails e o → Gives shown r o
gives_exit shown r e o is f = let p = err_from_is_err_and r is in rw (p.1, p.2) f

pub reads_exit : {X A : Type 0} (shown : X → A) (r : Result X SchemaError) (e : SchemaError) (o : Option (Part A)) (before after : List NodeView) (known : Known) → IsErrAnd r (λ y. y ≡ e) → Fails e o → ReadsPart shown r o before after known
reads_exit shown r e o before after known is f = let p = err_from_is_err_and r is in rw (p.1, p.2) f

pub same_reads : {X A : Type 0} (shown : X → A) (r : Result X SchemaError) (o u : Option (Part A)) (before after : List NodeView) (known : Known) → u ≡ o → ReadsPart shown r o before after known → ReadsPart shown r u before after known
same_reads shown r o u before after known e h = rw e h
