use Rattle.std.proofs.Common.{rules, ◌≡◌, ◌∙◌, Some, ap, string_bytes}
use Rattle.avro_nodes.specs.Nodes.{nodes_view}
use Rattle.avro_nodes.specs.Identity.{identity}
use Rattle.avro_schema.specs.DenotedNodes.{denoted_nodes}
use Rattle.avro_schema.proofs.TextLemmas.{computed_denotes}
use Rattle.reg_core.proofs.RegistryLemmas.{identity_denoted}
use Rattle.reg_service.proofs.schemas.SchemaCaches.keep.Goals as goal

pub put-requires : goal.put-requires
put-requires c =
    let sent = c.in-Some-Some-Some in
    let denoted : denoted_nodes sent.text.now ≡ Some (nodes_view sent.schema) = search rules in
    let is_identity : string_bytes sent.schema_identity ≡ identity (nodes_view sent.schema) = search rules in
    ap denoted_nodes (c.as_str-text.ensures.value ∙ is_identity) ∙ identity_denoted _ (sent.text.now, computed_denotes sent.text.now _ denoted)
