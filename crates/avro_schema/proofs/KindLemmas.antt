-- Two branches have the same kind exactly if their kinds have the same number.
use Rattle.std.proofs.Common.{◌≡◌, ℕ, ◌<◌, List, [], ◌∷◌, get_or, map, Option, Some, None, refl, sym, ap, ◌∙◌, arith}
use Rattle.std.specs.Prelude.{option_map}
use Rattle.avro_nodes.specs.declared.node.PrimitiveKind.{PrimitiveKind}
use Rattle.avro_nodes.specs.declared.node.PrimitiveKind.TheVariants.{Null, Boolean, Int, Long, Float, Double, Bytes, Text}
use Rattle.avro_nodes.specs.Nodes.{NodeView}
use Rattle.avro_schema.specs.Kinds.{BranchKind, primitive_kind, array_kind, map_kind, named_kind, branch_kind}
use Rattle.avro_schema.specs.Inside.KindNumbers.{primitive_number, kind_number, branch_kind_number}
use Rattle.avro_schema.specs.Denotes.{Lacks, AllDiffer}

-- ---- the number determines the kind

abbrev kinds : List PrimitiveKind
kinds = Null ∷ Boolean ∷ Int ∷ Long ∷ Float ∷ Double ∷ Bytes ∷ Text ∷ []

found : (kind : PrimitiveKind) → get_or kinds (primitive_number kind) Null ≡ kind
found Null = refl
found Boolean = refl
found Int = refl
found Long = refl
found Float = refl
found Double = refl
found Bytes = refl
found Text = refl

below : (kind : PrimitiveKind) → primitive_number kind < 8
below Null = omega arith
below Boolean = omega arith
below Int = omega arith
below Long = omega arith
below Float = omega arith
below Double = omega arith
below Bytes = omega arith
below Text = omega arith

one_kind : (a b : BranchKind) → kind_number a ≡ kind_number b → a ≡ b
one_kind (primitive_kind a) (primitive_kind b) e = ap primitive_kind (sym (found a) ∙ ap (λ (n : ℕ). get_or kinds n Null) e ∙ found b)
one_kind (primitive_kind a) array_kind e = absurd (omega (arith, e, below a))
one_kind (primitive_kind a) map_kind e = absurd (omega (arith, e, below a))
one_kind (primitive_kind a) (named_kind q) e = absurd (omega (arith, e, below a))
one_kind array_kind (primitive_kind b) e = absurd (omega (arith, e, below b))
one_kind array_kind array_kind e = refl
one_kind array_kind map_kind e = absurd (omega (arith, e))
one_kind array_kind (named_kind q) e = absurd (omega (arith, e))
one_kind map_kind (primitive_kind b) e = absurd (omega (arith, e, below b))
one_kind map_kind array_kind e = absurd (omega (arith, e))
one_kind map_kind map_kind e = refl
one_kind map_kind (named_kind q) e = absurd (omega (arith, e))
one_kind (named_kind p) (primitive_kind b) e = absurd (omega (arith, e, below b))
one_kind (named_kind p) array_kind e = absurd (omega (arith, e))
one_kind (named_kind p) map_kind e = absurd (omega (arith, e))
one_kind (named_kind p) (named_kind q) e = ap named_kind (omega (arith, e))

-- ---- branches with numbers instead of kinds

abbrev pub numbered : List (ℕ × BranchKind) → List (ℕ × ℕ)
numbered bs = map (λ b. (b.0, kind_number b.1)) bs

pub same_places : (bs : List (ℕ × BranchKind)) → map (λ b. b.0) (numbered bs) ≡ map (λ b. b.0) bs
same_places [] = refl
same_places (b ∷ bs) = ap (λ (ps : List ℕ). b.0 ∷ ps) (same_places bs)

kind_lacks : (bs : List (ℕ × BranchKind)) (kind : BranchKind) → Lacks (map (λ b. b.1) (numbered bs)) (kind_number kind) → Lacks (map (λ b. b.1) bs) kind
kind_lacks [] kind h = tt
kind_lacks (b ∷ bs) kind h = (λ e. h.0 (ap kind_number e), kind_lacks bs kind h.1)

-- distinct numbers imply distinct kinds
pub kinds_distinct : (bs : List (ℕ × BranchKind)) → AllDiffer (map (λ b. b.1) (numbered bs)) → AllDiffer (map (λ b. b.1) bs)
kinds_distinct [] h = tt
kinds_distinct (b ∷ bs) h = (kind_lacks bs b.1 h.0, kinds_distinct bs h.1)

number_lacks : (bs : List (ℕ × BranchKind)) (kind : BranchKind) → Lacks (map (λ b. b.1) bs) kind → Lacks (map (λ b. b.1) (numbered bs)) (kind_number kind)
number_lacks [] kind h = tt
number_lacks (b ∷ bs) kind h = (λ e. h.0 (one_kind kind b.1 e), number_lacks bs kind h.1)

-- distinct kinds imply distinct numbers
pub numbers_apart : (bs : List (ℕ × BranchKind)) → AllDiffer (map (λ b. b.1) bs) → AllDiffer (map (λ b. b.1) (numbered bs))
numbers_apart [] h = tt
numbers_apart (b ∷ bs) h = (number_lacks bs b.1 h.0, numbers_apart bs h.1)

-- ---- a branch

numbered_kind : (o : Option BranchKind) (n : ℕ) → option_map kind_number o ≡ Some n → (kind : BranchKind) × (o ≡ Some kind) × (kind_number kind ≡ n)
numbered_kind None n e = absurd cc
numbered_kind (Some kind) n e = (kind, refl, cc)

-- a branch with this number has the kind with this number
pub kind_of_number : (place n : ℕ) (nodes : List NodeView) → branch_kind_number place nodes ≡ Some n → (kind : BranchKind) × (branch_kind place nodes ≡ Some kind) × (kind_number kind ≡ n)
unfolding branch_kind_number
kind_of_number place n nodes e = numbered_kind (branch_kind place nodes) n e

-- a branch with this kind has the number of this kind
pub number_of_kind : (place : ℕ) (kind : BranchKind) (nodes : List NodeView) → branch_kind place nodes ≡ Some kind → branch_kind_number place nodes ≡ Some (kind_number kind)
unfolding branch_kind_number
number_of_kind place kind nodes e = ap (option_map kind_number) e
