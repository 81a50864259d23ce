use Rattle.std.proofs.Common.{◌≡◌, ◌≤◌, length, take, drop, inl, inr, refl, sym, ap, Err, ◌∙◌, arith}
use Rattle.std.proofs.lemmas.List.{take-append-drop, length-take-le}
use Rattle.reg_messages.proofs.Fronts.{exceeds_room, HasHead-found, framed, IsWholeMessage-found, HasNoHead-front, NeverHasRequest-front, IsPartialUntil-body}
use Rattle.reg_messages.proofs.message.parse_front.Goals as goal

pub returns-in-Err-body_length_from_fields : goal.returns-in-Err-body_length_from_fields
returns-in-Err-body_length_from_fields c =
    let x = rw c.in-Ok-Complete.field-0-is at c.in-Ok-Complete.ensures.complete in
    let le : c.min.result ≤ length c.args.bytes.now = omega arith in
    let small : c.min.result ≤ 16384 = omega arith in
    inr (record {
      head = x.0;
      rest = drop c.in-Ok-Complete.head.len c.args.bytes.now;
      has_head = HasHead-found c.args.bytes.now c.min.result _ _ x.0 le small x.1;
      framed = framed _ _ _ x.0 _ x.1 c.in-Err-body_length_from_fields.ensures.value;
    })

pub returns-then-bytes-head : goal.returns-then-bytes-head
returns-then-bytes-head c =
    let x = rw c.in-Ok-Complete.field-0-is at c.in-Ok-Complete.ensures.complete in
    let w = rw c.in-Ok-Complete.field-0-is at c.in-Ok-Complete.ensures.within in
    let bytes = c.args.bytes.now in
    let le : c.min.result ≤ length bytes = omega arith in
    let small : c.min.result ≤ 16384 = omega arith in
    let fits = w.section.len_fits in
    IsPartialUntil-body bytes x.0 c.in-Ok-Complete.head.len c.in-Ok.body c.in-Ok.ensures.within
    (HasHead-found bytes c.min.result _ _ x.0 le small x.1)
    (framed _ _ _ x.0 _ x.1 c.in-Ok.ensures.value)
    (omega (arith, fits, length-take-le c.min.result bytes le))
    x.1.len
    (omega (arith, c.if-bytes-head.true))

pub returns-else-bytes-head : goal.returns-else-bytes-head
returns-else-bytes-head c =
    let x = rw c.in-Ok-Complete.field-0-is at c.in-Ok-Complete.ensures.complete in
    let w = rw c.in-Ok-Complete.field-0-is at c.in-Ok-Complete.ensures.within in
    let le : c.min.result ≤ length c.args.bytes.now = omega arith in
    let small : c.min.result ≤ 16384 = omega arith in
    IsWholeMessage-found c.args.bytes.now c.min.result c.in-Ok.body _ _ x.0 le small x.1 w (framed _ _ _ x.0 _ x.1 c.in-Ok.ensures.value) c.if-bytes-head.false

pub returns-else-bytes-lt-MAX_HEAD : goal.returns-else-bytes-lt-MAX_HEAD
returns-else-bytes-lt-MAX_HEAD c =
    let x = rw c.in-Ok-Partial.field-0-is at c.in-Ok-Partial.ensures.partial in
    let le : c.min.result ≤ length c.args.bytes.now = omega arith in
    let n : length (take c.min.result c.args.bytes.now) ≡ 16384 = length-take-le c.min.result c.args.bytes.now le ∙ omega arith in
    inl (refl, inr (c.if-bytes-lt-MAX_HEAD.false, HasNoHead-front c.args.bytes.now _ _ (sym (take-append-drop c.min.result c.args.bytes.now)) n x))

pub returns-in_default : goal.returns-in_default
returns-in_default c =
    inl (refl, inl (NeverHasRequest-front c.args.bytes.now _ _ (sym (take-append-drop c.min.result c.args.bytes.now)) (c.in-Err.ensures.invalid c.in_default.not-TooManyHeaders)))

pub returns-in-TooManyHeaders : goal.returns-in-TooManyHeaders
returns-in-TooManyHeaders c =
    let over = exceeds_room _ _ (c.in-Err.ensures.too_many (ap Err c.in-TooManyHeaders.is)) in
    let le : c.min.result ≤ length c.args.bytes.now = omega arith in
    omega (arith, over, length-take-le c.min.result c.args.bytes.now le)
