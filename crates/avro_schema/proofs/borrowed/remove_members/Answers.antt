use Rattle.std.proofs.Common.{◌≡◌, false, not, bytes_eq, sym, rules}
use Rattle.std.proofs.lemmas.Fn.{filter_same}
use Rattle.std.specs.List.{list_any}
use Rattle.avro_schema.proofs.BorrowedMembers.{Entry, all_kept}
use Rattle.avro_schema.proofs.borrowed.remove_members.Goals as goal

pub returns-then-not-has_member : goal.returns-then-not-has_member
returns-then-not-has_member c =
    let none : list_any (λ (y : Entry). bytes_eq y.0.now c.args.key.now) c.args.members.now.items ≡ false = search rules in
    sym (all_kept (λ (y : Entry). bytes_eq y.0.now c.args.key.now) c.args.members.now.items none)

pub returns : goal.returns
returns c = filter_same _ (λ (y : Entry). not (bytes_eq y.0.now c.args.key.now)) _ (λ x b f' k. search rules) _ _ c.retain.ensures.filtered
