use Rattle.std.proofs.Common.{◌≡◌, ℕ, ◌<◌, List, [], ◌∷◌, length, map, refl, sym, ◌∙◌, arith, codes}
use Rattle.std.specs.Prelude.{Err}
use Rattle.httparse.specs.Spans.{header_bytes}
use Rattle.reg_core.specs.declared.code.Code.TheVariants.{MalformedRequest, TransferCodingNotSupported}
use Rattle.reg_messages.specs.Fields.{values_named, HeaderField}
use Rattle.reg_messages.specs.Framing.{body_length_from_fields, length_of, length_unless_transfer_coded}
use Rattle.reg_messages.proofs.framing.body_length_from_fields.Goals as goal

framed : (fields : List HeaderField) (codings lengths : List (List ℕ)) → values_named (codes "Transfer-Encoding") fields ≡ codings
    → values_named (codes "Content-Length") fields ≡ lengths → length_unless_transfer_coded codings lengths ≡ body_length_from_fields fields
unfolding body_length_from_fields
framed fields codings lengths e f = λ i. length_unless_transfer_coded (sym e i) (sym f i)

coded : (fields : List HeaderField) (codings : List (List ℕ)) → values_named (codes "Transfer-Encoding") fields ≡ codings → 0 < length codings
    → Err TransferCodingNotSupported ≡ body_length_from_fields fields
coded fields [] e h = absurd (omega arith)
coded fields (coding ∷ more) e h = framed fields (coding ∷ more) _ e refl

several : (lengths : List (List ℕ)) → 1 < length lengths → Err MalformedRequest ≡ length_of lengths
several [] h = absurd (omega arith)
several (a ∷ []) h = absurd (omega arith)
several (a ∷ b ∷ more) h = refl

pub returns-in-Once-clause-value : goal.returns-in-Once-clause-value
returns-in-Once-clause-value c = coded (map (header_bytes c.args.head.now) c.args.fields.now) (c.in-Once.field-0.now ∷ []) c.in-Once.ensures (omega arith)

pub returns-in-Repeated-clause-value : goal.returns-in-Repeated-clause-value
returns-in-Repeated-clause-value c =
    let several : 1 < length (values_named (codes "Transfer-Encoding") (map (header_bytes c.args.head.now) c.args.fields.now)) = c.in-Repeated.ensures in
    coded (map (header_bytes c.args.head.now) c.args.fields.now) _ refl (omega arith)

pub returns-in-Missing-by_name-clause-value : goal.returns-in-Missing-by_name-clause-value
returns-in-Missing-by_name-clause-value c = framed (map (header_bytes c.args.head.now) c.args.fields.now) [] [] c.in-Missing.ensures c.in-Missing-by_name.ensures

pub returns-in-Once-by_name-clause-value : goal.returns-in-Once-by_name-clause-value
returns-in-Once-by_name-clause-value c =
    c.parse_length.ensures.value ∙ framed (map (header_bytes c.args.head.now) c.args.fields.now) [] (c.in-Once-by_name.text.now ∷ []) c.in-Missing.ensures c.in-Once-by_name.ensures

pub returns-in-Repeated-by_name-clause-value : goal.returns-in-Repeated-by_name-clause-value
returns-in-Repeated-by_name-clause-value c =
    let lengths = values_named (codes "Content-Length") (map (header_bytes c.args.head.now) c.args.fields.now) in
    several lengths c.in-Repeated-by_name.ensures ∙ framed (map (header_bytes c.args.head.now) c.args.fields.now) [] lengths c.in-Missing.ensures refl
