use Rattle.std.proofs.Common.{[], drop, option_map, string_bytes, refl}
use Rattle.std.proofs.lemmas.Result.{on_ok_weaker}
use Rattle.serde_json.specs.Data.{array}
use Rattle.serde_json.specs.View.{members_view}
use Rattle.avro_nodes.specs.Nodes.{named_view, texts_view}
use Rattle.avro_nodes.specs.Identity.{texts, enum_value}
use Rattle.avro_nodes.proofs.Forms.{made, enum_attributes, enum_put}
use Rattle.avro_nodes.proofs.identity.types.write_enum.Goals as goal

pub returns : goal.returns
returns c =
    let end = c.write_rest.new.out in
    let named = named_view c.args.named.now in
    let symbols = texts_view c.args.symbols.now in
    let fallback = option_map string_bytes c.args.fallback.now in
    let space = c.args.enclosing.now in
    let ps = enum_attributes space named symbols fallback in
    let aliases = rw c.deref.ensures.value at c.in_ok-write_aliases.ensures in
    let name = rw c.as_str-name.ensures.value at c.in_ok-write_text.ensures in
    let namespace = rw c.as_str-name.ensures.value at c.in_ok-write_namespace.ensures in
    on_ok_weaker c.write_rest.result (λ rest.
    made (ps) c.args.extra.now.entries c.unwritten_members-others.result (enum_value space named symbols fallback (members_view c.args.extra.now.entries)) c.args.out.now c.begin_object.new.self end (enum_put space named symbols fallback (members_view c.args.extra.now.entries)) refl c.in_ok-begin_object.ensures c.unwritten_members-others.ensures.all c.unwritten_members-others.ensures.ordered
    (aliases (drop 1 ps) end (c.in_ok-write_fallback.ensures (drop 2 ps) end (name (drop 3 ps) end (namespace (drop 4 ps) end (c.in_ok-write_name.ensures (array (texts symbols)) c.write_texts.new.out c.in_ok-write_texts.ensures (drop 5 ps) end (c.in_ok-write_text-2.ensures [] end rest)))))))
    c.write_rest.ensures
