use Rattle.std.proofs.Common.{◌≡◌, ℕ, length, subst, arith}
use Rattle.avro_resolve.specs.Inside.Agreeing.{AreNumbered}
use Rattle.avro_resolve.proofs.Numbering.{none_numbered, number_more}
use Rattle.avro_resolve.proofs.agreeing.number_symbols.Goals as goal

pub loop-k-init : goal.loop-k-init
loop-k-init c = none_numbered c.args.slots.now c.args.symbols.now c.requires.cleared

pub loop-k-preserved : goal.loop-k-preserved
loop-k-preserved c =
    let kept = c.loop-k.auto.slots in let room = c.requires.within c.loop-k.k 0 c.loop-k-test.true in
    number_more c.loop-k.slots c.args.symbols.now c.loop-k.k c.requires.rise c.loop-k-test.true (omega arith) c.loop-k.invariant

pub returns : goal.returns
returns c = let end : c.loop-k.k ≡ length c.args.symbols.now = omega (arith, c.loop-k.auto.k-end, c.loop-k-test.false) in subst (λ (n : ℕ). AreNumbered c.loop-k.slots c.args.symbols.now 0 n) end c.loop-k.invariant
