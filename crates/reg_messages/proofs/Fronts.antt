-- The front of the bytes, which the parser searches for a head.
use Rattle.std.proofs.Common.{◌≡◌, ℕ, suc, ◌+◌, ◌-◌, ◌<◌, ◌≤◌, List, [], ◌∷◌, ◌++◌, length, take, drop, map, refl, sym, ap, ◌∙◌, subst, arith, append_assoc, append-nil, length-append, length-drop, lit≤, flat_map, Result, Ok, All, inl, inr}
use Rattle.std.proofs.lemmas.List.{take-append-drop, take-take, drop-take, drop-append-le, drop-drop, length-take-le}
use Rattle.httparse.specs.declared.spans.Span.{Span}
use Rattle.httparse.specs.declared.spans.HeaderSpan.{HeaderSpan}
use Rattle.httparse.specs.declared.spans.RequestSpans.{RequestSpans}
use Rattle.httparse.specs.Grammar.{lf, Field, print_end, print_field, RequestHead, print_request, ReadsRequest, HasNoRequest, NeverHasRequest}
use Rattle.httparse.specs.Ascii.{colon}
use Rattle.httparse.specs.Spans.{RequestExceeds, IsRequestAt, IsRequestWithin, IsWithin, IsHeaderWithin, span_bytes, header_bytes}
use Rattle.httparse.proofs.GrammarLemmas.{print_request-append}
use Rattle.reg_core.specs.declared.code.Code.{Code}
use Rattle.reg_messages.specs.Framing.{body_length_from_fields}
use Rattle.reg_messages.specs.Messages.{Message, StartsWithMessage, HasHead, HasNoHead, IsPartOfHead, Follows, Part, fields_of}
use Rattle.reg_messages.specs.ParseOutcomes.{IsWholeMessage, IsPartialUntil}

-- if one list is split twice, the shorter front is a prefix of the longer one
front_of : (a b c d : List ℕ) → a ++ b ≡ c ++ d → length a ≤ length c → (e : List ℕ) × (c ≡ a ++ e)
front_of [] b c d h n = (c, refl)
front_of (x ∷ a) b [] d h n = absurd (omega arith)
front_of (x ∷ a) b (y ∷ c) d h n =
    let t : a ++ b ≡ c ++ d = cc in
    let s : x ≡ y = cc in
    let m : length a ≤ length c = omega arith in
    let r = front_of a b c d t m in (r.0, λ i. sym s i ∷ r.1 i)

-- if the front has no head, the whole has no head of the front's size
pub HasNoHead-front : (bytes front back : List ℕ) → bytes ≡ front ++ back → length front ≡ 16384 → HasNoRequest front → HasNoHead bytes
HasNoHead-front bytes front back e n none head rest x =
    let fits : length (print_request head) ≤ length front = omega (arith, x.size) in
    let f = front_of (print_request head) rest front back (sym x.reads.1 ∙ e) fits in
    none head f.0 (x.reads.0, f.1)

-- if no bytes can complete a head in the front, none can in the whole
pub NeverHasRequest-front : (bytes front back : List ℕ) → bytes ≡ front ++ back → NeverHasRequest front → NeverHasRequest bytes
NeverHasRequest-front bytes front back e never more head rest x =
    never (back ++ more) head rest (x.0, sym (append_assoc front back more) ∙ (ap (λ w. w ++ more) (sym e) ∙ x.1))

-- a head at the start of the front is a head of the whole
HasHead-front : (bytes front back rest : List ℕ) (head : RequestHead) → bytes ≡ front ++ back → length front ≤ 16384
    → ReadsRequest front head rest → HasHead bytes head (rest ++ back)
HasHead-front bytes front back rest head e n x = record {
  reads = (x.0, e ∙ (ap (λ w. w ++ back) x.1 ∙ append_assoc (print_request head) rest back));
  size = omega (arith, ap length x.1, length-append (print_request head) rest);
}

-- a head has at least one byte
pub head_some : (buf rest : List ℕ) (head : RequestHead) → ReadsRequest buf head rest → 0 < length (print_request head)
head_some buf rest head x =
    let e = ap length (sym (append-nil (print_request head)) ∙ print_request-append head []) in
    let t = simp length-append at e in
    omega (arith, t, x.0.method.0)

-- a field has at least one byte
field_some : (field : Field) → 0 < length (print_field field)
field_some field =
    let whole : length (print_field field) ≡ length (field.name ++ (colon ∷ field.raw)) + length (print_end field.end) =
    length-append (field.name ++ (colon ∷ field.raw)) (print_end field.end) in
    omega (arith, whole, length-append field.name (colon ∷ field.raw))

fields_some : (fields : List Field) → length fields ≤ length (flat_map print_field fields)
fields_some [] = lit≤ tt
fields_some (field ∷ fields) = omega (arith, length-append (print_field field) (flat_map print_field fields), field_some field, fields_some fields)

-- if a head has too many fields, there are more bytes than room for fields
pub exceeds_room : (room : ℕ) (bytes : List ℕ) → RequestExceeds room bytes → room < length bytes
exceeds_room room bytes (front, rest, is, head, reads, over) =
    let e = ap length (sym (append-nil (print_request head)) ∙ print_request-append head []) in
    let size = simp length-append at e in
    let whole = ap length reads.1 in
    omega (arith, size, whole, over, reads.0.method.0, fields_some head.fields, ap length is, length-append front rest, length-append front (print_end lf), length-append (print_request head) [])

-- a span of a front covers the same bytes of the whole
pub span_bytes-take : (n : ℕ) (xs : List ℕ) (s : Span) → IsWithin n s → span_bytes (take n xs) s ≡ span_bytes xs s
span_bytes-take n xs s w =
    let e : n ≡ s.start + (n - s.start) = omega (arith, w.0, w.1) in
    let le : s.end - s.start ≤ n - s.start = omega (arith, w.0, w.1) in
    ap (λ m. take (s.end - s.start) (drop s.start (take m xs))) e
    ∙ (ap (take (s.end - s.start)) (drop-take s.start (n - s.start) xs) ∙ take-take (s.end - s.start) (n - s.start) (drop s.start xs) le)

-- so do the spans of header fields
pub header_bytes-take : (n : ℕ) (xs : List ℕ) (hs : List HeaderSpan) → All (IsHeaderWithin n) hs
    → map (header_bytes (take n xs)) hs ≡ map (header_bytes xs) hs
header_bytes-take n xs [] w = refl
header_bytes-take n xs (h ∷ hs) w =
    let here : IsHeaderWithin n h = w 0 h (omega arith) in
    let later : All (IsHeaderWithin n) hs = λ k d lt. w (suc k) d (omega arith) in
    let rest = header_bytes-take n xs hs later in
    let name = span_bytes-take n xs h.name here.0 in
    let value = span_bytes-take n xs h.value here.1 in
    λ i. (name i, value i) ∷ rest i

-- the parser's head is a head of the whole
pub HasHead-found : (bytes : List ℕ) (n : ℕ) (headers : List HeaderSpan) (r : RequestSpans) (head : RequestHead)
    → n ≤ length bytes → n ≤ 16384 → IsRequestAt (take n bytes) headers r head → HasHead bytes head (drop r.len bytes)
HasHead-found bytes n headers r head le small x =
    let front = take n bytes in
    let size : length front ≡ n = length-take-le n bytes le in
    let fits : r.len ≤ length front = omega (arith, x.len, ap length x.reads.1, length-append (print_request head) (drop r.len front)) in
    let short : length front ≤ 16384 = omega arith in
    let e : drop r.len front ++ drop n bytes ≡ drop r.len bytes =
    sym (drop-append-le r.len front (drop n bytes) fits) ∙ ap (drop r.len) (take-append-drop n bytes) in
    subst (HasHead bytes head) e (HasHead-front bytes front (drop n bytes) (drop r.len front) head (sym (take-append-drop n bytes)) short x.reads)

-- the body's length by the spans is that by the fields of the head
pub framed : (front : List ℕ) (headers : List HeaderSpan) (r : RequestSpans) (head : RequestHead) (result : Result ℕ Code)
    → IsRequestAt front headers r head → result ≡ body_length_from_fields (map (header_bytes front) (take r.headers headers)) → body_length_from_fields (fields_of head) ≡ result
framed front headers r head result x e = sym (e ∙ ap body_length_from_fields x.fields)

-- the parser's head and a body make a whole message
pub IsWholeMessage-found : (bytes : List ℕ) (n k : ℕ) (headers : List HeaderSpan) (r : RequestSpans) (head : RequestHead)
    → n ≤ length bytes → n ≤ 16384 → IsRequestAt (take n bytes) headers r head → IsRequestWithin (take n bytes) headers r
    → body_length_from_fields (fields_of head) ≡ Ok k → k ≤ length bytes - r.len
    → (message : Message) × IsWholeMessage bytes headers (record { head = r; body = k }) message
IsWholeMessage-found bytes n k headers r head le small x within f fits =
    let size : length (take n bytes) ≡ n = length-take-le n bytes le in
    let here : r.len ≤ length (take n bytes) = within.section.len_fits in
    let inside : r.len ≤ n = omega arith in
    let all : r.len ≤ length bytes = omega arith in
    let room : k ≤ length (drop r.len bytes) = omega (arith, length-drop r.len bytes) in
    let body = take k (drop r.len bytes) in
    let long : length body ≡ k = length-take-le k (drop r.len bytes) room in
    let e : drop r.len bytes ≡ body ++ drop (r.len + k) bytes =
    sym (take-append-drop k (drop r.len bytes)) ∙ ap (λ w. body ++ w) (drop-drop k r.len bytes) in
    let front : take r.len bytes ≡ take r.len (take n bytes) = sym (take-take r.len n bytes inside) in (
      record { head = head; body = body },
      record {
        reads = record {
          head = subst (HasHead bytes head) e (HasHead-found bytes n headers r head le small x);
          body = f ∙ ap Ok (sym long);
        };
        size = omega arith;
        some = omega (arith, x.len, head_some (take n bytes) _ head x.reads);
        within = record {
          method = within.method;
          path = within.path;
          version = within.version;
          section = record {
            len_fits = omega (arith, length-take-le r.len bytes all);
            count_fits = within.section.count_fits;
            headers_fit = within.section.headers_fit;
          };
        };
        method = ap (λ w. span_bytes w r.method) front ∙ (span_bytes-take r.len (take n bytes) r.method within.method ∙ x.method);
        target = ap (λ w. span_bytes w r.path) front ∙ (span_bytes-take r.len (take n bytes) r.path within.path ∙ x.path);
        minor = x.version;
        fields = ap (λ w. map (header_bytes w) (take r.headers headers)) front
            ∙ (header_bytes-take r.len (take n bytes) (take r.headers headers) within.section.headers_fit ∙ x.fields);
        body = refl;
      },
    )

-- more bytes after a head
HasHead-more : (bytes rest more : List ℕ) (head : RequestHead) → HasHead bytes head rest → HasHead (bytes ++ more) head (rest ++ more)
HasHead-more bytes rest more head x = record {
  reads = (x.reads.0, ap (λ w. w ++ more) x.reads.1 ∙ append_assoc (print_request head) rest more);
  size = x.size;
}

pub StartsWithMessage-more : (bytes rest more : List ℕ) (message : Message) → StartsWithMessage bytes message rest → StartsWithMessage (bytes ++ more) message (rest ++ more)
StartsWithMessage-more bytes rest more message x = record {
  head = subst (HasHead (bytes ++ more) message.head) (append_assoc message.body rest more) (HasHead-more bytes (message.body ++ rest) more message.head x.head);
  body = x.body;
}

-- a part of a head may be complete after the next byte
pub IsPartialUntil-head : (bytes : List ℕ) → IsPartOfHead bytes → IsPartialUntil bytes (length bytes + 1)
IsPartialUntil-head bytes h = record {
  short = omega arith;
  fits = omega (arith, h.size);
  part = λ more few.
      let none : more ≡ [] = no_bytes more (omega (arith, few, length-append bytes more)) in
      subst (λ (w : List ℕ). Follows w Part) (sym (ap (λ w. bytes ++ w) none ∙ append-nil bytes)) (inl h);
}
  where
    no_bytes : (more : List ℕ) → length more < 1 → more ≡ []
    no_bytes [] few = refl
    no_bytes (x ∷ more) few = absurd (omega arith)

-- a whole head is incomplete until its body is there
pub IsPartialUntil-body : (bytes : List ℕ) (head : RequestHead) (len size : ℕ) → size ≤ 1048576 → HasHead bytes head (drop len bytes) → body_length_from_fields (fields_of head) ≡ Ok size
    → len ≤ length bytes → len ≡ length (print_request head) → length bytes < len + size → IsPartialUntil bytes (len + size)
IsPartialUntil-body bytes head len size most x f inside is short = record {
  short = short;
  fits = omega (arith, is, x.size, most);
  part = λ more few.
      inr (record {
        head = head;
        rest = drop len bytes ++ more;
        size = size;
        has_head = HasHead-more bytes (drop len bytes) more head x;
        framed = f;
        short = omega (arith, few, inside, length-append bytes more, length-append (drop len bytes) more, length-drop len bytes);
      });
}
