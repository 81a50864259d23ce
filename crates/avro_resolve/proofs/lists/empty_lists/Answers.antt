use Rattle.std.proofs.Common.{◌≡◌, ◌+◌, ◌++◌, ◌∷◌, List, [], length, sym, subst, ap, ◌∙◌, arith, length-append}
use Rattle.std.specs.Prelude.{Contains, Vec}
use Rattle.std.specs.declared.alloc.Global.{Global}
use Rattle.avro_resolve.specs.Inside.Lists.{list_at}
use Rattle.avro_resolve.proofs.ListLemmas.{list_past, empty_push, nothing_stands}
use Rattle.avro_resolve.proofs.lists.empty_lists.Goals as goal

pub loop-i-init : goal.loop-i-init
loop-i-init g c = record {
  long = ap length c.new-lists.ensures.items;
  empty = λ p. subst (λ (xs : List (Vec g.row.T.Denot Global)). list_at xs p ≡ []) (sym c.new-lists.ensures.items) (list_past [] p (omega arith));
}

pub loop-i-preserved : goal.loop-i-preserved
loop-i-preserved g c =
    let xs = c.loop-i.lists.items in let v = c.new.result in let e = c.in_ok-push.ensures.items in
    let l : length (xs ++ v ∷ []) ≡ length xs + 1 = length-append xs (v ∷ []) in
    record {
      long = ap length e ∙ l ∙ ap (λ n. n + 1) c.loop-i.invariant.long;
      empty = λ p. subst (λ (ys : List (Vec g.row.T.Denot Global)). list_at ys p ≡ []) (sym e) (empty_push xs v c.new.ensures.items c.loop-i.invariant.empty p);
    }

pub returns-clause-long : goal.returns-clause-long
returns-clause-long g c = omega (arith, c.loop-i.invariant.long, c.loop-i-test.false)

pub returns-clause-empty : goal.returns-clause-empty
returns-clause-empty g c = λ x p h. nothing_stands x (subst (λ (ys : List g.row.T.Denot). Contains ys x) (c.loop-i.invariant.empty p) h)
