use Rattle.std.proofs.Common.{◌∷◌, [], Some, refl, sym, ◌∙◌, subst, true≢false}
use Rattle.std.specs.Prelude.{codes}
use Rattle.std.proofs.lemmas.Result.{on_ok_weaker}
use Rattle.serde_json.specs.Data.{Data, string}
use Rattle.serde_json.specs.Written.{WritesValue}
use Rattle.serde_json.specs.View.{members_view}
use Rattle.avro_nodes.specs.Identity.{kind_text, primitive_value}
use Rattle.avro_nodes.proofs.Written.{string_written}
use Rattle.avro_nodes.proofs.Forms.{made}
use Rattle.avro_nodes.proofs.Lists.{primitive_alone, primitive_with}
use Rattle.avro_nodes.proofs.identity.types.write_primitive.Goals as goal

pub returns-then-is_empty : goal.returns-then-is_empty
returns-then-is_empty c =
    let bare = primitive_alone c.args.kind c.args.extra.now.entries (c.if-is_empty.ensures.0 refl) in
    on_ok_weaker c.string.result (λ e. subst (λ (d : Data). WritesValue d c.args.out.now c.string.new.self) bare (string_written (kind_text c.args.kind) c.args.out.now c.string.new.self (rw c.kind_text.ensures at e))) c.string.ensures

pub returns : goal.returns
returns c =
    let end = c.write_rest.new.out in
    let some = primitive_with c.args.kind c.args.extra.now.entries (λ e. true≢false (sym (c.is_empty.ensures.1 e) ∙ c.if-is_empty.false)) in
    let kind = rw c.kind_text-2.ensures at c.in_ok-write_text.ensures in
    on_ok_weaker c.write_rest.result (λ rest.
    made ((codes "type", Some (string (kind_text c.args.kind))) ∷ []) c.args.extra.now.entries c.unwritten_members-others.result (primitive_value c.args.kind (members_view c.args.extra.now.entries)) c.args.out.now c.begin_object.new.self end (some) refl c.in_ok-begin_object.ensures c.unwritten_members-others.ensures.all c.unwritten_members-others.ensures.ordered
    (kind [] end rest))
    c.write_rest.ensures
