-- Whether two nodes agree by themselves, without other pairs.
use Rattle.std.specs.Prelude.{◌≡◌, ◌⊎◌, ◌↔◌, ℕ, ◌+◌, ◌<◌, ◌≤◌, get_or, List, [], Bool, Option, Some, None, IsSome, IsTrue, MatchOption, All, Contains, Vec}
use Rattle.std.specs.declared.alloc.Global.{Global}
use Rattle.avro_nodes.specs.Nodes.{FieldView, NamedView, NodeView, primitive, array, mapping, union, enumeration, fixed, rec}
use Rattle.avro_schema.specs.declared.index.NamedRanks.{NamedRanks}
use Rattle.avro_schema.specs.declared.index.Ranks.{Ranks}
use Rattle.avro_schema.specs.declared.index.Ranks.TheVariants.{Unnamed, Fixed, Enum, Rec}
use Rattle.avro_schema.specs.Index.{AreSortedRanks}
use Rattle.avro_resolve.specs.Resolution.{NameMatch, Promotes}

-- The nodes agree in their kinds, and in names and sizes if their kind has these (Avro 1.11 specification, Schema Resolution). Two
-- primitive types agree if the first is read as the second (Promotes). A union agrees with every node.
abbrev pub IsAlike : NodeView → NodeView → Type 0
IsAlike (union _) b = Unit {0}
IsAlike a (union _) = Unit {0}
IsAlike (primitive k _) (primitive l _) = Promotes k l
IsAlike (array _ _) (array _ _) = Unit {0}
IsAlike (mapping _ _) (mapping _ _) = Unit {0}
IsAlike (enumeration n _ _ _) (enumeration m _ _ _) = NameMatch n m
IsAlike (fixed n size _) (fixed m wanted _) = NameMatch n m × (size ≡ wanted)
IsAlike (rec n _ _) (rec m _ _) = NameMatch n m
IsAlike _ _ = ⊥

-- an enum has a default or each of these symbols; another node accepts all
abbrev pub AcceptsSymbols : List (List ℕ) → NodeView → Type 0
AcceptsSymbols symbols (primitive kind _) = Unit {0}
AcceptsSymbols symbols (array place _) = Unit {0}
AcceptsSymbols symbols (mapping place _) = Unit {0}
AcceptsSymbols symbols (union places) = Unit {0}
AcceptsSymbols symbols (enumeration named known fallback _) = IsSome fallback ⊎ All (Contains known) symbols
AcceptsSymbols symbols (fixed named size _) = Unit {0}
AcceptsSymbols symbols (rec named fields _) = Unit {0}

-- if both nodes are enums, the second has a default or each symbol of the first
abbrev pub SymbolsFit : NodeView → NodeView → Type 0
SymbolsFit (primitive kind _) b = Unit {0}
SymbolsFit (array place _) b = Unit {0}
SymbolsFit (mapping place _) b = Unit {0}
SymbolsFit (union places) b = Unit {0}
SymbolsFit (enumeration named symbols fallback _) b = AcceptsSymbols symbols b
SymbolsFit (fixed named size _) b = Unit {0}
SymbolsFit (rec named fields _) b = Unit {0}

-- the nodes agree in their kinds, names, sizes and symbols
abbrev pub Agree : NodeView → NodeView → Type 0
Agree a b = IsAlike a b × SymbolsFit a b

-- the names of a named type, or `None` for another node
abbrev pub named_of : NodeView → Option NamedView
named_of (primitive kind _) = None
named_of (array place _) = None
named_of (mapping place _) = None
named_of (union places) = None
named_of (enumeration named symbols fallback _) = Some named
named_of (fixed named size _) = Some named
named_of (rec named fields _) = Some named

-- the ranks of the names of a named type, or `None` for another node
abbrev pub named_ranks : Ranks → Option NamedRanks
named_ranks Unnamed = None
named_ranks (Fixed named) = Some named
named_ranks (Enum named symbols) = Some named
named_ranks (Rec named fields) = Some named

-- if both nodes are named types, the test decides whether their names match
abbrev pub DecidesNameMatch : Bool → NodeView → NodeView → Type 0
DecidesNameMatch matched a b = MatchOption (named_of a) (Unit {0}) (λ n. MatchOption (named_of b) (Unit {0}) (λ m. IsTrue matched ↔ NameMatch n m))

-- the symbols of an enum, or none for another node
abbrev pub symbols_of : NodeView → List (List ℕ)
symbols_of (primitive kind _) = []
symbols_of (array place _) = []
symbols_of (mapping place _) = []
symbols_of (union places) = []
symbols_of (enumeration named symbols fallback _) = symbols
symbols_of (fixed named size _) = []
symbols_of (rec named fields _) = []

-- the ranks of the symbols of an enum, or none for another node
abbrev pub symbol_ranks : Ranks → List ℕ
symbol_ranks Unnamed = []
symbol_ranks (Fixed named) = []
symbol_ranks (Enum named symbols) = symbols.items
symbol_ranks (Rec named fields) = []

-- the ranks of the symbols among a reader's names, or `None` if one of the symbols isn't among these
abbrev pub AreSymbolsMapped : List (List ℕ) → List (List ℕ) → Option (Vec ℕ Global) → Type 0
AreSymbolsMapped names symbols found = MatchOption found (All (Contains names) symbols → ⊥) (λ v. AreSortedRanks names symbols v.items)

-- exactly the symbols whose index is at least low and below high have a number in the slots of their ranks: their index plus 1
pub record AreNumbered (slots symbols : List ℕ) (low high : ℕ) : Type 0 where
  pub only : (rank k : ℕ) → get_or slots rank 0 ≡ k + 1 → (low ≤ k) × (k < high) × (get_or symbols k 0 ≡ rank)
  pub each : (k : ℕ) → low ≤ k → k < high → get_or slots (get_or symbols k 0) 0 ≡ k + 1

-- no slot has a number
abbrev pub AreCleared : List ℕ → Type 0
AreCleared slots = (rank k : ℕ) → get_or slots rank 0 ≡ k + 1 → ⊥

-- the fields of a record, or none for another node
abbrev pub fields_of : NodeView → List FieldView
fields_of (rec named fields extra) = fields
fields_of (primitive kind extra) = []
fields_of (array place extra) = []
fields_of (mapping place extra) = []
fields_of (union places) = []
fields_of (enumeration named symbols fallback extra) = []
fields_of (fixed named size extra) = []
