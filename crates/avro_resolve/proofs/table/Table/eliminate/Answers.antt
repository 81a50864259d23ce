use Rattle.std.proofs.Common.{◌≡◌, ◌+◌, ◌*◌, ◌<◌, ◌∙◌, get_or, length, false, true, arith, sym}
use Rattle.std.proofs.lemmas.Nat.{mul-add-lt}
use Rattle.avro_resolve.proofs.Flags.{flag_at, flag_set, clear_count}
use Rattle.avro_resolve.proofs.table.Table.eliminate.Goals as goal

pub returns-clause-others : goal.returns-clause-others
returns-clause-others c =
    let t = c.args.self.now in
    let m = mul-add-lt c.args.i t.readers c.args.j t.writers c.requires.i_in c.requires.j_in in
    let l : c.args.i * t.readers + c.args.j < length t.flags.items = omega (arith, t.sized, t.flags.ok.0) in
    flag_set t.flags.items t.readers c.args.i c.args.j c.requires.j_in l

pub returns-clause-fewer : goal.returns-clause-fewer
returns-clause-fewer c =
    let t = c.args.self.now in
    let m = mul-add-lt c.args.i t.readers c.args.j t.writers c.requires.i_in c.requires.j_in in
    let l : c.args.i * t.readers + c.args.j < length t.flags.items = omega (arith, t.sized, t.flags.ok.0) in
    let e : get_or t.flags.items (c.args.i * t.readers + c.args.j) false ≡ true = sym (flag_at t.flags.items t.readers c.args.i c.args.j c.requires.j_in) ∙ c.requires.there in
    let h = clear_count t.flags.items (c.args.i * t.readers + c.args.j) l e in
    omega arith
