use Rattle.std.proofs.Common.{◌≡◌, List, ℕ, ap, sym, subst}
use Rattle.std.specs.Prelude.{Option, Some, option_map, IsSome, is_some}
use denote.Ref.{Bor}
use Rattle.avro_schema.specs.Texts.{TextDenotes}
use Rattle.reg_jobs.specs.Files.{FileHolds}
use Rattle.reg_jobs.proofs.files.read_schema_file.Goals as goal

-- the file could be read
is_read : (file : Option (Bor (List ℕ))) (bytes : Bor (List ℕ)) → file ≡ Some bytes → IsSome (option_map (λ (b : Bor (List ℕ)). b.now) file)
is_read file bytes e = ap (λ (o : Option (Bor (List ℕ))). is_some (option_map (λ (b : Bor (List ℕ)). b.now) o)) e

pub returns-in_default-error : goal.returns-in_default-error
returns-in_default-error c = (
  is_read c.args.file _ c.in-Some.is,
  λ nodes h.
      let P : Option (Bor (List ℕ)) → Type 0 = λ file. FileHolds (option_map (λ (bytes : Bor (List ℕ)). bytes.now) file) nodes in
      let Q : List ℕ → Type 0 = λ text. TextDenotes text nodes in
      c.in-Err.ensures.err c.in_default-error.not-OutOfMemory nodes (subst Q (sym c.in-Ok.ensures.cases.0) (subst P c.in-Some.is h).1),
)
