-- The connections that a network accepted and closed, if it knows them.
use Rattle.std.specs.Prelude.{◌≡◌, ⊤, List, [], ◌++◌, Option, Some, None}

-- the known list grows by `more`. If it isn't known before, this says nothing
abbrev pub Adds : {T : Type 0} → Option (List T) → Option (List T) → List T → Type 0
Adds None new more = ⊤
Adds (Some old) None more = ⊥
Adds (Some old) (Some new) more = new ≡ old ++ more

-- no connection was accepted or closed
abbrev pub ChangesNothing : {T N : Type 0} → (N → Option (List T)) → (N → Option (List T)) → N → N → Type 0
ChangesNothing accepted closed old new = Adds (accepted old) (accepted new) [] × Adds (closed old) (closed new) []
