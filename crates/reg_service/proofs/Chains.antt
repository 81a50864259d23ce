-- Chains of deliveries that were processed one after another.
use Rattle.std.proofs.Common.{refl, List, [], ◌∷◌, ◌++◌, subst}
use Rattle.sqlite_trees.specs.declared.store.Store.{Ghosts}
use Rattle.reg_service.specs.declared.service.Service.{Service}
use Rattle.reg_service.specs.Deliveries.{Exchange}
use Rattle.reg_service.specs.Processing.{Processes, ProcessesEach}

module _ {S : Type 0} {g : Ghosts S} where
  -- one list after another
  pub processes_append : (old mid new : Service S g) (xs ys : List Exchange) → ProcessesEach old mid xs → ProcessesEach mid new ys → ProcessesEach old new (xs ++ ys)
  processes_append old mid new [] ys same later = subst (λ (s : Service S g). ProcessesEach s new ys) same later
  processes_append old mid new (x ∷ xs) ys (next, first, rest) later = (next, first, processes_append next mid new xs ys rest later)

  -- one delivery
  pub processes_one : (old new : Service S g) (x : Exchange) → Processes old new x → ProcessesEach old new (x ∷ [])
  processes_one old new x one = (new, one, refl)

  -- one more delivery
  pub processes_next : (old mid new : Service S g) (xs : List Exchange) (x : Exchange) → ProcessesEach old mid xs → Processes mid new x → ProcessesEach old new (xs ++ x ∷ [])
  processes_next old mid new xs x before one = processes_append old mid new xs (x ∷ []) before (processes_one mid new x one)
