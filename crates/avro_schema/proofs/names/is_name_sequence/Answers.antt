use Rattle.std.proofs.Common.{◌≡◌, true, false, not, sym, ◌∙◌, arith}
use Rattle.std.proofs.lemmas.Grind.{common_steps}
use Rattle.avro_schema.proofs.Dotted.{is_rest, dotted_is}
use Rattle.avro_schema.proofs.names.is_name_sequence.Goals as goal

pub returns-then-not-is_name_start : goal.returns-then-not-is_name_start
unfolding is_rest
returns-then-not-is_name_start c = let is : false ≡ is_rest true c.args.text.now = grind (arith, common_steps) in is ∙ sym (dotted_is c.args.text.now)

pub returns-then-not-is_name_part : goal.returns-then-not-is_name_part
unfolding is_rest
returns-then-not-is_name_part c = let is : false ≡ is_rest true c.args.text.now = grind (arith, common_steps) in is ∙ sym (dotted_is c.args.text.now)

pub loop-c-preserved : goal.loop-c-preserved
unfolding is_rest
loop-c-preserved c = grind (arith, common_steps)

pub returns : goal.returns
unfolding is_rest
returns c = let is : not c.loop-c.fresh ≡ is_rest true c.args.text.now = grind (arith, common_steps) in is ∙ sym (dotted_is c.args.text.now)
