use Rattle.std.proofs.Common.{map, take}
use Rattle.httparse.specs.Spans.{header_bytes}
use Rattle.reg_messages.specs.Fields.{FindsField, values_named}
use Rattle.reg_messages.proofs.fields.FieldLookup.by_name.Given as goal

abbrev pub invariant-loop-field : goal.invariant-loop-field
invariant-loop-field l = FindsField (values_named l.name (map (header_bytes l.head) (take l.field-index l.fields))) l.found
