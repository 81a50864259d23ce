use Rattle.std.proofs.Common.{◌∙◌, None, option_map, refl}
use Rattle.avro_nodes.specs.Plain.{is_whole}
use Rattle.avro_nodes.proofs.Runs.{whole_refused, whole_respelt, spelt_number}
use Rattle.avro_nodes.proofs.plain.respell_run.Goals as goal

pub returns-in_err-whole_part_if_integer : goal.returns-in_err-whole_part_if_integer
returns-in_err-whole_part_if_integer c =
    let s = c.args.run.now in
    rw c.from_residual.ensures (spelt_number s c.begins_number.result None c.begins_number.ensures c.if-begins_number.true (whole_refused s (is_whole s) refl c.in_err-whole_part_if_integer.ensures))

pub returns-in_ok-whole_part_if_integer : goal.returns-in_ok-whole_part_if_integer
returns-in_ok-whole_part_if_integer c =
    let s = c.args.run.now in
    spelt_number s c.begins_number.result (option_map (λ t. t.now) c.respell_whole.result) c.begins_number.ensures c.if-begins_number.true
    (c.respell_whole.ensures ∙ whole_respelt s c.in_ok-whole_part_if_integer.field-0.now (is_whole s) refl c.in_ok-whole_part_if_integer.ensures)
