-- A writer with an output buffer.
use Rattle.std.proofs.Common.{◌≡◌, ℕ, List, [], ◌++◌, sym, ap, subst, ◌∙◌, append_assoc, append-nil}
use Rattle.std.specs.Prelude.{Option, Result, Ok, Err, IfErr, IsErrAnd}
use Rattle.std.specs.Io.KnownBytes.{Appends}
use Rattle.std.proofs.KnownBytes.{Appends-nil, Appends-trans}
use Rattle.reg_output.specs.Prefixes.{AppendsPrefix}
use Rattle.reg_output.proofs.PrefixLemmas.{AppendsPrefix-after, AppendsPrefix-longer, AppendsPrefix-still}
use Rattle.reg_store.specs.declared.error.StoreError.{StoreError}
use Rattle.reg_report.specs.declared.error.ReportError.{ReportError}
use Rattle.reg_report.specs.declared.error.ReportError.TheVariants.{Store, OutOfMemory, Write}
use Rattle.reg_report.specs.Buffering.{Output, Puts, Cuts, Buffers}
use Rattle.reg_report.specs.StoreResults.{store_result}

-- nothing was put
pub Puts-none : (o : Output) → Puts o o []
Puts-none o = ([], Appends-nil o.written, append-nil o.waiting)

-- bytes were put, and then more
pub Puts-append : (old mid new : Output) (xs ys : List ℕ) → Puts old mid xs → Puts mid new ys → Puts old new (xs ++ ys)
Puts-append old mid new xs ys p q = (
  p.0 ++ q.0,
  Appends-trans old.written mid.written new.written p.0 q.0 p.1 q.1,
  sym (append_assoc old.waiting xs ys) ∙ (ap (λ t. t ++ ys) p.2 ∙ (append_assoc p.0 mid.waiting ys ∙ (ap (λ t. p.0 ++ t) q.2 ∙ sym (append_assoc p.0 q.0 new.waiting)))),
)

-- bytes were put, and then a write failed
pub Cuts-after : (old mid new : Output) (xs ys : List ℕ) → Puts old mid xs → Cuts mid new ys → Cuts old new (xs ++ ys)
Cuts-after old mid new xs ys p q = (
  subst (AppendsPrefix old.written new.written) (sym (append_assoc p.0 mid.waiting ys) ∙ (ap (λ t. t ++ ys) (sym p.2) ∙ append_assoc old.waiting xs ys))
      (AppendsPrefix-after old.written mid.written new.written p.0 (mid.waiting ++ ys) p.1 q.0),
  q.1,
)

-- a beginning is a beginning of more bytes
pub Cuts-longer : (old new : Output) (xs ys : List ℕ) → Cuts old new xs → Cuts old new (xs ++ ys)
Cuts-longer old new xs ys q =
    (subst (AppendsPrefix old.written new.written) (append_assoc old.waiting xs ys) (AppendsPrefix-longer old.written new.written (old.waiting ++ xs) ys q.0), q.1)

-- after the buffer is written, the writer has the bytes
pub put_flushed : (w w' : Option (List ℕ)) (mid : Output) (bytes : List ℕ) → Puts (record { written = w; waiting = [] }) mid bytes → Appends mid.written w' mid.waiting → Appends w w' bytes
put_flushed w w' mid bytes p q = subst (Appends w w') (sym p.2) (Appends-trans w mid.written w' p.0 mid.waiting p.1 q)

-- after a beginning of the buffer is written, the writer has a beginning of the bytes
pub put_cut : (w w' : Option (List ℕ)) (mid : Output) (bytes : List ℕ) → Puts (record { written = w; waiting = [] }) mid bytes → AppendsPrefix mid.written w' mid.waiting → AppendsPrefix w w' bytes
put_cut w w' mid bytes p q = subst (AppendsPrefix w w') (sym p.2) (AppendsPrefix-after w mid.written w' p.0 mid.waiting p.1 q)

-- after a failed write, nothing more is written
pub stays_cut : (w w' : Option (List ℕ)) (mid : Output) (bytes : List ℕ) → Cuts (record { written = w; waiting = [] }) mid bytes → AppendsPrefix mid.written w' mid.waiting → AppendsPrefix w w' bytes
stays_cut w w' mid bytes p q = AppendsPrefix-still w mid.written w' bytes p.0 (subst (AppendsPrefix mid.written w') p.1 q)

-- an error is passed on
pub fails_with : (r : Result (Unit {0}) ReportError) (e f : ReportError) → IsErrAnd r (λ failure. failure ≡ e) → e ≡ f → r ≡ Err f
fails_with (Ok x) e f is same = absurd is
fails_with (Err failure) e f is same = ap (λ (given : ReportError). Err given) (is ∙ same)

-- an error of the buffer isn't an error of the store
pub Buffers-no_fault : (old new : Output) (bytes : List ℕ) (e : ReportError) (P : StoreError → Type 0) → Buffers (Err e) old new bytes → IfErr (store_result {T = Unit {0}} (Err e)) P
Buffers-no_fault old new bytes (Store error) P put = absurd put
Buffers-no_fault old new bytes OutOfMemory P put = tt
Buffers-no_fault old new bytes Write P put = tt
