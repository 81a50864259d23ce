use Rattle.std.proofs.Common.{◌≡◌, [], drop, decimal, refl, arith, rules}
use Rattle.std.proofs.lemmas.Result.{on_ok_weaker}
use Rattle.serde_json.specs.Data.{number, unsigned}
use Rattle.serde_json.specs.View.{members_view}
use Rattle.avro_nodes.specs.Nodes.{named_view}
use Rattle.avro_nodes.specs.Identity.{fixed_value}
use Rattle.avro_nodes.proofs.Written.{number_written}
use Rattle.avro_nodes.proofs.Digits.{unsigned_text}
use Rattle.avro_nodes.proofs.Forms.{made, fixed_attributes, fixed_put}
use Rattle.avro_nodes.proofs.identity.types.write_fixed.Goals as goal

pub returns : goal.returns
returns c =
    let end = c.write_rest.new.out in
    let named = named_view c.args.named.now in
    let space = c.args.enclosing.now in
    let aliases = rw c.deref.ensures.value at c.in_ok-write_aliases.ensures in
    let name = rw c.as_str-name.ensures.value at c.in_ok-write_text.ensures in
    let namespace = rw c.as_str-name.ensures.value at c.in_ok-write_namespace.ensures in
    let ps = fixed_attributes space named c.args.size in
    let wide : c.from.result ≡ c.args.size = search rules in
    let spells = unsigned_text (unsigned c.args.size) c.args.size refl (omega arith) in
    let size = number_written (unsigned c.args.size) c.write_name.new.out c.unsigned.new.self (decimal c.args.size, rw wide at c.in_ok-unsigned.ensures, spells.0, spells.1) in
    on_ok_weaker c.write_rest.result (λ rest.
    made (ps) c.args.extra.now.entries c.unwritten_members-others.result (fixed_value space named c.args.size (members_view c.args.extra.now.entries)) c.args.out.now c.begin_object.new.self end (fixed_put space named c.args.size (members_view c.args.extra.now.entries)) refl c.in_ok-begin_object.ensures c.unwritten_members-others.ensures.all c.unwritten_members-others.ensures.ordered
    (aliases (drop 1 ps) end (name (drop 2 ps) end (namespace (drop 3 ps) end (c.in_ok-write_name.ensures (number (unsigned c.args.size)) c.unsigned.new.self size (drop 4 ps) end (c.in_ok-write_text-2.ensures [] end rest))))))
    c.write_rest.ensures
