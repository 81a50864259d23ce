-- The last test decides, since all earlier ones passed.
use Rattle.std.specs.Prelude.{◌↔◌, Bool, IfOk, IsTrue, Result, Ok, Err}

pub tells : {E A B : Type 0} (r : Result Bool E) → IfOk r (λ yes. IsTrue yes ↔ A) → (A → B) → (B → A) → IfOk r (λ yes. IsTrue yes ↔ B)
tells (Ok it) h to back = (λ a. to (h.0 a), λ b. h.1 (back b))
tells (Err e) h to back = h
