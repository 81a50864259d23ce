-- What it means that a reader's schema can read what a writer's schema wrote (Avro 1.11 specification, Schema Resolution).
use Rattle.std.specs.Prelude.{◌≡◌, ℕ, ◌⊎◌, Bool, Option, None, IsSome, MatchOption, List, [], ◌∷◌, All, Any, Contains, find, slice_get, IsTrue}
use Rattle.std.specs.Option.{option_or}
use Rattle.std.specs.Str.{bytes_eq}
use Rattle.avro_nodes.specs.declared.node.PrimitiveKind.{PrimitiveKind}
use Rattle.avro_nodes.specs.declared.node.PrimitiveKind.TheVariants.{Null, Boolean, Int, Long, Float, Double, Bytes, Text}
use Rattle.avro_nodes.specs.Names.{last_part}
use Rattle.avro_nodes.specs.Nodes.{NamedView, FieldView, NodeView, primitive, array, mapping, union, enumeration, fixed, rec}

-- a set of pairs of places, the writer's first
abbrev pub Pairs : Type 0
Pairs = ℕ → ℕ → Bool

-- The names match without their namespaces (Schema Resolution), or the writer's full name is one of the reader's aliases (Aliases). That aliases
-- count in addition to the reader's own name, and don't replace it, is this project's choice.
abbrev pub NameMatch : NamedView → NamedView → Type 0
NameMatch w r = (last_part w.name ≡ last_part r.name) ⊎ Contains r.aliases w.name

-- a primitive type is read as itself, or is promoted (Schema Resolution)
abbrev pub Promotes : PrimitiveKind → PrimitiveKind → Type 0
Promotes Null Null = Unit {0}
Promotes Boolean Boolean = Unit {0}
Promotes Int Int = Unit {0}
Promotes Int Long = Unit {0}
Promotes Int Float = Unit {0}
Promotes Int Double = Unit {0}
Promotes Long Long = Unit {0}
Promotes Long Float = Unit {0}
Promotes Long Double = Unit {0}
Promotes Float Float = Unit {0}
Promotes Float Double = Unit {0}
Promotes Double Double = Unit {0}
Promotes Bytes Bytes = Unit {0}
Promotes Bytes Text = Unit {0}
Promotes Text Text = Unit {0}
Promotes Text Bytes = Unit {0}
Promotes _ _ = ⊥

-- the field with the first of these names that any field has, or `None`
unfoldable pub first_named : List (List ℕ) → List FieldView → Option FieldView
first_named [] fields = None
first_named (name ∷ names) fields = option_or (find (λ f. bytes_eq f.name name) fields) (first_named names fields)

-- The writer's field from which a reader's field is read: the field of the same name, else of the first alias that names one (Schema Resolution;
-- Aliases; the order is this project's choice)
abbrev pub source : List FieldView → FieldView → Option FieldView
source fields f = first_named (f.name ∷ f.aliases) fields

-- a reader's field is readable if its pair with its source is in the set, or if it has no source but a default (Schema Resolution)
abbrev pub Readable : Pairs → List FieldView → FieldView → Type 0
Readable R fields f = MatchOption (source fields f) (IsSome f.value) (λ g. IsTrue (R g.place f.place))

-- The set supports the pair (i, j) of these two nodes, by the first case that fits (Schema Resolution). A writer's union is read branch by branch.
-- Any branch of a reader's union suffices, and each symbol of a writer's enum must be readable: both are this project's choices.
abbrev pub Fits : Pairs → ℕ → ℕ → NodeView → NodeView → Type 0
Fits R i j (union branches) b = All (λ place. IsTrue (R place j)) branches
Fits R i j a (union branches) = Any (λ place. IsTrue (R i place)) branches
Fits R i j (primitive k _) (primitive l _) = Promotes k l
Fits R i j (array p _) (array q _) = IsTrue (R p q)
Fits R i j (mapping p _) (mapping q _) = IsTrue (R p q)
Fits R i j (enumeration n symbols _ _) (enumeration m known fallback _) = NameMatch n m × (IsSome fallback ⊎ All (Contains known) symbols)
Fits R i j (fixed n size _) (fixed m wanted _) = NameMatch n m × (size ≡ wanted)
Fits R i j (rec n fields _) (rec m wanted _) = NameMatch n m × All (Readable R fields) wanted
Fits R i j _ _ = ⊥

-- the set supports the pair of these places
unfoldable pub Supports : List NodeView → List NodeView → Pairs → ℕ → ℕ → Type 0
Supports w r R i j = MatchOption (slice_get w i) ⊥ (λ a. MatchOption (slice_get r j) ⊥ (λ b. Fits R i j a b))

-- the set supports each of its pairs
abbrev pub Closed : List NodeView → List NodeView → Pairs → Type 0
Closed w r R = (i j : ℕ) → IsTrue (R i j) → Supports w r R i j

-- the writer's schema resolves with the reader's: some closed set contains the pair of the roots (Schema Resolution)
unfoldable pub Resolves : List NodeView → List NodeView → Type 0
Resolves w r = (R : Pairs) × IsTrue (R 0 0) × Closed w r R
