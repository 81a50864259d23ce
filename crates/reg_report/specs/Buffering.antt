-- A writer with an output buffer.
use Rattle.std.specs.Prelude.{◌≡◌, ◌⊎◌, ℕ, List, [], ◌++◌, Option, Result, Ok, Err}
use Rattle.std.specs.Io.KnownBytes.{Appends}
use Rattle.reg_output.specs.Prefixes.{AppendsPrefix}
use Rattle.reg_report.specs.declared.error.ReportError.{ReportError}
use Rattle.reg_report.specs.declared.error.ReportError.TheVariants.{Store, OutOfMemory, Write}
use Rattle.reg_report.specs.declared.buffer.OutputBuffer.{OutputBuffer}

-- the bytes that a writer has, if they are known, and those that are buffered for it
pub record Output : Type 0 where
  pub written : Option (List ℕ)
  pub waiting : List ℕ

abbrev pub output_of : {W : Type 0} → (W → Option (List ℕ)) → W → OutputBuffer → Output
output_of contents writer buffer = record { written = contents writer; waiting = buffer.bytes.items }

-- bytes were put behind the buffered ones: a beginning of all these was written, and the rest is buffered
abbrev pub Puts : Output → Output → List ℕ → Type 0
Puts old new bytes = (sent : List ℕ) × Appends old.written new.written sent × (old.waiting ++ bytes ≡ sent ++ new.waiting)

-- a write failed: a beginning of the buffered bytes and these was written, and nothing is buffered any more
abbrev pub Cuts : Output → Output → List ℕ → Type 0
Cuts old new bytes = AppendsPrefix old.written new.written (old.waiting ++ bytes) × (new.waiting ≡ [])

-- the bytes were put; or an allocation failed, and nothing changed; or a write failed
abbrev pub Buffers : Result (Unit {0}) ReportError → Output → Output → List ℕ → Type 0
Buffers (Ok done) old new bytes = Puts old new bytes
Buffers (Err OutOfMemory) old new bytes = new ≡ old
Buffers (Err Write) old new bytes = Cuts old new bytes
Buffers (Err (Store error)) old new bytes = ⊥

-- the buffered bytes were written, and the result is `so_far`, the result up to here; or a write failed, and a beginning of them was written
abbrev pub FlushesBuffer : Result (Unit {0}) ReportError → Output → Option (List ℕ) → Result (Unit {0}) ReportError → Type 0
FlushesBuffer so_far old new result = ((result ≡ so_far) × Appends old.written new old.waiting) ⊎ ((result ≡ Err Write) × AppendsPrefix old.written new old.waiting)
