-- Schemas in files.
use Rattle.std.specs.Prelude.{◌≡◌, ℕ, Bool, true, false, List, [], ◌∷◌, ◌++◌, codes, Option, None, Some, IsSome, IsTrue, ◌↔◌, ⊤}
use Rattle.std.specs.Str.{IsUtf8}
use Rattle.std.specs.Io.KnownBytes.{Appends}
use Rattle.avro_nodes.specs.Nodes.{NodeView}
use Rattle.avro_nodes.specs.Identity.{identity}
use Rattle.avro_schema.specs.Texts.{TextDenotes}
use Rattle.reg_jobs.specs.declared.files.FileFault.{FileFault}
use Rattle.reg_jobs.specs.declared.files.FileFault.TheVariants.{CannotRead, NotSchema, OutOfMemory}
use Rattle.reg_jobs.specs.declared.files.TextOutcome.{TextOutcome}
use Rattle.reg_jobs.specs.declared.files.TextOutcome.TheVariants.{Whole, Nothing, NotWritten}
use Rattle.reg_jobs.specs.declared.files.CheckOutcome.{CheckOutcome}
use Rattle.reg_jobs.specs.declared.files.CheckOutcome.TheVariants.{Verdict, Reader, Writer, OutOfMemory as CheckOutOfMemory, NotWritten as VerdictNotWritten}
use Rattle.avro_resolve.specs.Resolution.{Resolves}
use Rattle.reg_output.specs.Prefixes.{AppendsPrefix}

-- the file could be read, and its bytes are a text that denotes this schema
abbrev pub FileHolds : Option (List ℕ) → List NodeView → Type 0
FileHolds None nodes = ⊥
FileHolds (Some bytes) nodes = IsUtf8 bytes × TextDenotes bytes nodes

-- why no schema was obtained from a file; `OutOfMemory` says nothing of the file
abbrev pub FailsAs : Option (List ℕ) → FileFault → Type 0
FailsAs file CannotRead = file ≡ None
FailsAs file NotSchema = IsSome file × ((nodes : List NodeView) → ¬ (FileHolds file nodes))
FailsAs file OutOfMemory = ⊤

-- a schema's identity text and a line end
abbrev pub identity_line : List NodeView → List ℕ
identity_line nodes = identity nodes ++ 10 ∷ []

-- What `text` printed for a file. The arguments are the file's bytes (`None` if it can't be read), and the writer's bytes before and after. If those
-- before are unknown (`None`), nothing is said of the output. `Whole`: the identity text of the schema, and a line end. `Nothing`: no byte, for this
-- fault (`FailsAs`). `NotWritten`: a beginning of that line, which may be empty or whole.
abbrev pub PrintsTextAs : Option (List ℕ) → Option (List ℕ) → Option (List ℕ) → TextOutcome → Type 0
PrintsTextAs file old new Whole = (nodes : List NodeView) × FileHolds file nodes × Appends old new (identity_line nodes)
PrintsTextAs file old new (Nothing fault) = FailsAs file fault × Appends old new []
PrintsTextAs file old new NotWritten = (nodes : List NodeView) × FileHolds file nodes × AppendsPrefix old new (identity_line nodes)

-- the line that `check` prints for a verdict
abbrev pub verdict_line : Bool → List ℕ
verdict_line true = codes "compatible\n"
verdict_line false = codes "incompatible\n"

-- what was printed for a verdict
abbrev pub PrintsVerdict : Bool → Option (List ℕ) → Option (List ℕ) → CheckOutcome → Type 0
PrintsVerdict good old new (Verdict told) = (told ≡ good) × Appends old new (verdict_line good)
PrintsVerdict good old new (Reader fault) = ⊥
PrintsVerdict good old new (Writer fault) = ⊥
PrintsVerdict good old new CheckOutOfMemory = ⊥
PrintsVerdict good old new VerdictNotWritten = AppendsPrefix old new (verdict_line good)

-- the schemas in the reader's and the writer's file, and whether the reader's can read what the writer's writes
pub record Judges (reader_file writer_file : Option (List ℕ)) (good : Bool) : Type 0 where
  pub reader : List NodeView
  pub writer : List NodeView
  pub reader_holds : FileHolds reader_file reader
  pub writer_holds : FileHolds writer_file writer
  pub verdict : IsTrue good ↔ Resolves writer reader

-- the outcome of a check of two files, and what was printed
abbrev pub ChecksAs : Option (List ℕ) → Option (List ℕ) → Option (List ℕ) → Option (List ℕ) → CheckOutcome → Type 0
ChecksAs reader_file writer_file old new (Verdict good) = Judges reader_file writer_file good × Appends old new (verdict_line good)
ChecksAs reader_file writer_file old new (Reader fault) = FailsAs reader_file fault × Appends old new []
ChecksAs reader_file writer_file old new (Writer fault) = (nodes : List NodeView) × FileHolds reader_file nodes × FailsAs writer_file fault × Appends old new []
ChecksAs reader_file writer_file old new CheckOutOfMemory = Appends old new []
ChecksAs reader_file writer_file old new VerdictNotWritten = (good : Bool) × Judges reader_file writer_file good × AppendsPrefix old new (verdict_line good)
