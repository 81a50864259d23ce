-- The lines that no connection can be accepted.
use Rattle.std.proofs.Common.{◌≡◌, ◌∙◌, ◌+◌, ◌≤◌, ◌<◌, ℕ, zero, suc, Bool, true, false, List, [], ◌++◌, refl, sym, ap, subst, append_assoc, append-nil, arith}
use Rattle.std.specs.Prelude.{Option, if◌then◌else◌}
use Rattle.reg_jobs.specs.declared.errors.ErrorWriter.{ErrorWriter}
use Rattle.reg_jobs.specs.declared.listening.table.Table.{Table}
use Rattle.reg_jobs.specs.declared.outcome.Fault.TheVariants.{CannotAccept}
use Rattle.reg_jobs.specs.Errors.{Puts}
use Rattle.reg_jobs.specs.Listening.{ReportsAcceptFailures, accept_failure_lines}
use Rattle.reg_jobs.specs.Connections.{ReportsAccept, spare}
use Rattle.reg_jobs.specs.Outcomes.{line_of}
use Rattle.reg_jobs.proofs.LineLemmas.{Puts-append, Puts-none}

-- two numbers of lines
accept_failure_lines-add : (a b : ℕ) → accept_failure_lines a ++ accept_failure_lines b ≡ accept_failure_lines (a + b)
accept_failure_lines-add a zero =
    let e : a + 0 ≡ a = omega arith in
    append-nil (accept_failure_lines a) ∙ ap accept_failure_lines (sym e)
accept_failure_lines-add a (suc b) =
    let e : suc (a + b) ≡ a + suc b = omega arith in
    sym (append_assoc (accept_failure_lines a) (accept_failure_lines b) (line_of CannotAccept []))
    ∙ (ap (λ lines. lines ++ line_of CannotAccept []) (accept_failure_lines-add a b) ∙ ap accept_failure_lines e)

-- nothing was written
pub ReportsAcceptFailures-none : {E : Type 0} (contents : E → Option (List ℕ)) (most : ℕ) (errors : ErrorWriter E) → ReportsAcceptFailures contents most errors errors
ReportsAcceptFailures-none contents most errors = record { times = 0; within = omega arith; puts = Puts-none contents errors }

module _ {I O E : Type 0} (contents : E → Option (List ℕ)) where
  -- nothing was written, and the table may still write as many lines
  pub ReportsAccept-none : (old new : Table I O) (errors : ErrorWriter E) → spare new + old.accepted ≤ spare old + new.accepted → ReportsAccept contents old new errors errors
  ReportsAccept-none old new errors le = record { times = 0; within = omega (arith, le); puts = Puts-none contents errors }

  pub ReportsAccept-once : (old new : Table I O) (errors errors' : ErrorWriter E) → 1 + spare new + old.accepted ≤ spare old + new.accepted
      → Puts contents errors errors' (line_of CannotAccept []) → ReportsAccept contents old new errors errors'
  ReportsAccept-once old new errors errors' le puts = record { times = 1; within = omega (arith, le); puts = puts }

  -- one step after another
  pub ReportsAccept-both : (a b c : Table I O) (x y z : ErrorWriter E) → ReportsAccept contents a b x y → ReportsAccept contents b c y z → ReportsAccept contents a c x z
  ReportsAccept-both a b c x y z s t = record {
    times = s.times + t.times;
    within = omega (arith, s.within, t.within);
    puts = subst (Puts contents x z) (accept_failure_lines-add s.times t.times) (Puts-append contents x y z (accept_failure_lines s.times) (accept_failure_lines t.times) s.puts t.puts);
  }

  -- another table that accepted as many, and may write as many lines
  pub ReportsAccept-same : (a b c : Table I O) (x y : ErrorWriter E) → c.accepted ≡ b.accepted → c.has_failed ≡ b.has_failed → ReportsAccept contents a b x y → ReportsAccept contents a c x y
  ReportsAccept-same a b c x y count failed s =
      let equal : spare c ≡ spare b = ap (λ (f : Bool). if f then 0 else 1) failed in
      record { times = s.times; within = omega (arith, s.within, count, equal); puts = s.puts }

  -- at the end
  pub ReportsAccept-all : (old new : Table I O) (most : ℕ) (x y : ErrorWriter E) → old.accepted ≡ 0 → old.has_failed ≡ false → new.accepted ≤ most → (new.has_failed ≡ true → new.accepted < most)
      → ReportsAccept contents old new x y → ReportsAcceptFailures contents most x y
  ReportsAccept-all old new most x y none fresh le below s = by new.has_failed refl
    where
      one : spare old ≡ 1
      one = ap (λ (f : Bool). if f then 0 else 1) fresh

      by : (f : Bool) → new.has_failed ≡ f → ReportsAcceptFailures contents most x y
      by true is =
          let rest : spare new ≡ 0 = ap (λ (f : Bool). if f then 0 else 1) is in
          record { times = s.times; within = omega (arith, s.within, one, rest, none, below is); puts = s.puts }
      by false is =
          let rest : spare new ≡ 1 = ap (λ (f : Bool). if f then 0 else 1) is in
          record { times = s.times; within = omega (arith, s.within, one, rest, none, le); puts = s.puts }
