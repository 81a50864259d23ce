use Rattle.std.proofs.Common.{◌≡◌, ◌≤◌, ℕ, List, ◌+◌, ◌-◌, ◌++◌, ap, sym, ◌∙◌, subst, take, drop, length, arith, length-drop}
use Rattle.std.specs.Io.KnownBytes.{Appends}
use Rattle.std.proofs.KnownBytes.{Appends-trans, Appends-kept}
use Rattle.std.proofs.lemmas.List.{take_rest, take-append-drop, take-take, drop-take}
use Rattle.reg_output.proofs.PrefixLemmas.{AppendsPrefix-take}
use Rattle.reg_output.proofs.write_whole.Goals as goal
use Rattle.reg_output.proofs.write_whole.Goals.{in-Ok, in-Err}

-- a beginning, and a beginning of what follows it
take-joined : (at n : ℕ) (xs : List ℕ) → take at xs ++ take n (take (length xs - at) (drop at xs)) ≡ take (at + n) xs
take-joined at n xs =
    let le : at ≤ at + n = omega arith in
    ap (λ t. take at xs ++ take n t) (take_rest xs at)
    ∙ ((λ i. sym (take-take at (at + n) xs le) i ++ sym (drop-take at n xs) i) ∙ take-append-drop at (take (at + n) xs))

pub loop-preserved : goal.loop-preserved
loop-preserved g c =
    let xs = c.args.bytes.now in
    let P : List ℕ → Type 0 = λ w. Appends (g.W.Write.contents c.args.writer.now) (g.W.Write.contents c.write.new.self) w in
    elim c.match-write.branch [
      | in-Ok w ↦
          let a = Appends-trans _ _ _ _ _ c.loop.invariant.written w.in-Ok.ensures.bytes in
          record {
            within = omega (arith, w.at-is, c.loop.invariant.within, w.in-Ok.ensures.bound, ap length (take_rest xs c.loop.at), length-drop c.loop.at xs);
            written = subst P (take-joined c.loop.at w.in-Ok.n xs ∙ ap (λ n. take n xs) (sym w.at-is)) a;
          }
      | in-Err w ↦ record {
        within = subst (λ n. n ≤ length xs) (sym w.at-is) c.loop.invariant.within;
        written = subst (λ n. P (take n xs)) (sym w.at-is) (Appends-kept _ _ _ _ c.loop.invariant.written w.in-Err.ensures.bytes);
      }
    ]

pub returns-in-Ok-eq0-clause-front : goal.returns-in-Ok-eq0-clause-front
returns-in-Ok-eq0-clause-front g c =
    let xs = c.args.bytes.now in
    let old = g.W.Write.contents c.args.writer.now in
    let mid = g.W.Write.contents c.loop.writer in
    let new = g.W.Write.contents c.write.new.self in
    let n = c.in-Ok-eq0.field-0 in
    let wrote = rw c.in-Ok-eq0.is at c.write.ensures.bytes in
    AppendsPrefix-take old new (c.loop.at + n) xs (subst (Appends old new) (take-joined c.loop.at n xs) (Appends-trans old mid new (take c.loop.at xs) (take n (take (length xs - c.loop.at) (drop c.loop.at xs))) c.loop.invariant.written wrote))

pub returns-in-Err-2-clause-front : goal.returns-in-Err-2-clause-front
returns-in-Err-2-clause-front g c = AppendsPrefix-take _ _ c.loop.at c.args.bytes.now (Appends-kept _ _ _ _ c.loop.invariant.written c.in-Err-2.ensures.bytes)

pub returns-clause-front : goal.returns-clause-front
returns-clause-front g c = AppendsPrefix-take _ _ c.loop.at c.args.bytes.now c.loop.invariant.written
