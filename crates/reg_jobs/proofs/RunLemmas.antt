-- One action of the server after another.
use Rattle.std.proofs.Common.{◌≡◌, ◌∙◌, ◌+◌, ◌≤◌, ◌<◌, ℕ, true, false, Bool, List, [], ◌++◌, refl, sym, ap, subst, append-nil, arith}
use Rattle.std.specs.Prelude.{Option}
use Rattle.sqlite_trees.specs.declared.store.Store.{Ghosts}
use Rattle.reg_service.specs.declared.service.Service.{Service}
use Rattle.reg_service.specs.Deliveries.{Exchange}
use Rattle.reg_service.specs.Processing.{ProcessesEach}
use Rattle.reg_service.proofs.Chains.{processes_append}
use Rattle.reg_jobs.specs.declared.errors.ErrorWriter.{ErrorWriter}
use Rattle.reg_jobs.specs.declared.listening.table.Table.{Table}
use Rattle.reg_jobs.specs.Connections.{Advances, IsNothing, ReportsAccept}
use Rattle.reg_jobs.proofs.AdvanceLemmas.{Advances-both, Advances-then}
use Rattle.reg_jobs.proofs.ReportLemmas.{ReportsAccept-both, ReportsAccept-same}

module _ {I O N E S : Type 0} {g : Ghosts S} (remaining : I → Option (List ℕ)) (contents : O → Option (List ℕ)) (accepted closed : N → Option (List (I × O))) (lines : E → Option (List ℕ)) (most : ℕ) where
  -- the server up to here
  pub record Runs (s s' : Service S g) (a b : Table I O) (n m : N) (x y : ErrorWriter E) : Type 0 where
    pub advances : Advances remaining contents accepted closed (ProcessesEach s s') a n b m
    pub count : b.accepted ≤ most
    pub failed : b.has_failed ≡ true → b.accepted < most
    pub reports : ReportsAccept lines a b x y

  -- an action that accepts a connection, or fails to
  pub Runs-accept : (s s' : Service S g) (a b c : Table I O) (n m k : N) (x y z : ErrorWriter E) → Runs s s' a b n m x y → b.accepted < most
      → Advances remaining contents accepted closed IsNothing b m c k → c.accepted ≤ b.accepted + 1 → (c.has_failed ≡ true → c.accepted ≡ b.accepted) → ReportsAccept lines b c y z
      → Runs s s' a c n k x z
  Runs-accept s s' a b c n m k x y z r room advances count failed reports = record {
    advances = Advances-then remaining contents accepted closed (ProcessesEach s s') a b c n m k r.advances advances;
    count = omega (arith, count, room);
    failed = λ f. omega (arith, failed f, room);
    reports = ReportsAccept-both lines a b c x y z r.reports reports;
  }

  -- an action that processes exchanges
  pub Runs-turn : (s s' s'' : Service S g) (a b c : Table I O) (n m k : N) (x y : ErrorWriter E) → Runs s s' a b n m x y
      → Advances remaining contents accepted closed (ProcessesEach s' s'') b m c k → c.accepted ≡ b.accepted → c.has_failed ≡ b.has_failed
      → Runs s s'' a c n k x y
  Runs-turn s s' s'' a b c n m k x y r advances count failed = record {
    advances = Advances-both remaining contents accepted closed (ProcessesEach s s') (ProcessesEach s' s'') (ProcessesEach s s'') (λ xs ys p q. processes_append s s' s'' xs ys p q) a b c n m k r.advances advances;
    count = omega (arith, r.count, count);
    failed = λ f. let h = r.failed (sym failed ∙ f) in omega (arith, h, count);
    reports = ReportsAccept-same lines a b c x y count failed r.reports;
  }

  -- an action that processes nothing
  pub Runs-quiet : (s s' : Service S g) (a b c : Table I O) (n m k : N) (x y : ErrorWriter E) → Runs s s' a b n m x y
      → Advances remaining contents accepted closed IsNothing b m c k → c.accepted ≡ b.accepted → c.has_failed ≡ b.has_failed
      → Runs s s' a c n k x y
  Runs-quiet s s' a b c n m k x y r advances count failed = record {
    advances = Advances-then remaining contents accepted closed (ProcessesEach s s') a b c n m k r.advances advances;
    count = omega (arith, r.count, count);
    failed = λ f. let h = r.failed (sym failed ∙ f) in omega (arith, h, count);
    reports = ReportsAccept-same lines a b c x y count failed r.reports;
  }

  -- the same with other names
  pub Runs-same : (s s' t : Service S g) (a b c : Table I O) (n m k : N) (x y z : ErrorWriter E) → t ≡ s' → c ≡ b → k ≡ m → z ≡ y → Runs s s' a b n m x y → Runs s t a c n k x z
  Runs-same s s' t a b c n m k x y z i j l o r =
      let At : Service S g × (Table I O × (N × ErrorWriter E)) → Type 0 = λ p. Runs s p.0 a p.1.0 n p.1.1.0 x p.1.1.1 in
      subst At (λ q. (sym i q, (sym j q, (sym l q, sym o q)))) r
