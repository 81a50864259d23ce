-- The results of the reader's functions, compared with the definitions that they compute.
use Rattle.std.specs.Prelude.{◌≡◌, List, ◌++◌, Option, Some, None, Result, Ok, Err}
use Rattle.avro_nodes.specs.Nodes.{NodeView}
use Rattle.avro_schema.specs.Names.{Known}
use Rattle.avro_schema.specs.Inside.ValueReaders.{Part}
use Rattle.avro_schema.specs.declared.error.SchemaError.{SchemaError}
use Rattle.avro_schema.specs.declared.error.SchemaError.TheVariants.{OutOfMemory}

-- any error but `OutOfMemory` implies that the definition gives `None`
abbrev pub Fails : {A : Type 0} → SchemaError → Option A → Type 0
Fails OutOfMemory o = Unit {0}
Fails _ o = o ≡ None

-- `Ok x` implies that the definition gives `shown x`; an error is as in `Fails`
abbrev pub Gives : {X A : Type 0} → (X → A) → Result X SchemaError → Option A → Type 0
Gives shown (Ok x) o = o ≡ Some (shown x)
Gives shown (Err e) o = Fails e o

-- the definition gives the part with this content and these known names, and `after` is `before` followed by the part's nodes
pub record AddsPart {A : Type 0} (o : Option (Part A)) (it : A) (before after : List NodeView) (known : Known) : Type 0 where
  pub added : List NodeView
  pub is : o ≡ Some (record { it = it; nodes = added; known = known })
  pub after_is : after ≡ before ++ added

-- `Ok x` implies `AddsPart` with `shown x`; an error is as in `Fails`, and implies nothing about `after` and `known`
abbrev pub ReadsPart : {X A : Type 0} → (X → A) → Result X SchemaError → Option (Part A) → List NodeView → List NodeView → Known → Type 0
ReadsPart shown (Ok x) o before after known = AddsPart o (shown x) before after known
ReadsPart shown (Err e) o before after known = Fails e o
