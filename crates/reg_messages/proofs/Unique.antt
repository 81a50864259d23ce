-- A stream of bytes has only one parse, unless it ends inside a target.
use Rattle.std.proofs.Common.{◌≡◌, ℕ, zero, suc, Bool, List, [], ◌∷◌, ◌++◌, length, codes, lit<, lit≤, inl, inr, refl, sym, ap, ◌∙◌, subst, arith, append-nil, length-append, Ok, Err, Result}
use Rattle.std.specs.Prelude.{IsTrue}
use Rattle.httparse.specs.Grammar.{lf, AllPass, is_token_byte, is_uri_byte, RequestHead, IsRequestHead, print_request, NeverHasRequest}
use Rattle.httparse.proofs.GrammarLemmas.{request_unique, ReadsRequest-append}
use Rattle.reg_core.specs.declared.code.Code.{Code}
use Rattle.reg_messages.specs.Framing.{body_length_from_fields}
use Rattle.reg_messages.specs.Messages.{Message, HasHead, NeverHasHead, StartsWithMessage, StartsWithMessages, Follows, Agree, Messages, fields_of, Tail, End, Part, Faulty}
use Rattle.reg_messages.proofs.Fronts.{head_some}

-- equal lists, split at the same position, have equal parts
same_split : (a b c d : List ℕ) → a ++ b ≡ c ++ d → length a ≡ length c → (a ≡ c) × (b ≡ d)
same_split [] b [] d e n = (refl, e)
same_split [] b (y ∷ c) d e n = absurd (omega arith)
same_split (x ∷ a) b [] d e n = absurd (omega arith)
same_split (x ∷ a) b (y ∷ c) d e n =
    let t : a ++ b ≡ c ++ d = cc in
    let s : x ≡ y = cc in
    let m : length a ≡ length c = omega arith in
    let r = same_split a b c d t m in ((λ i. s i ∷ r.0 i), r.1)

-- two heads at the start of the same bytes are equal, and so are the rests
HasHead-unique : (bytes : List ℕ) (h k : RequestHead) (r q : List ℕ) → HasHead bytes h r → HasHead bytes k q → (h ≡ k) × (r ≡ q)
HasHead-unique bytes h k r q x y = request_unique bytes h k r q x.reads y.reads

same_ok : (m n : ℕ) (a b : Result ℕ Code) → a ≡ b → a ≡ Ok m → b ≡ Ok n → m ≡ n
same_ok m n a b e f g = cc

ok_or_err : (n : ℕ) (code : Code) (a b : Result ℕ Code) → a ≡ b → a ≡ Ok n → b ≡ Err code → ⊥
ok_or_err n code a b e f g = cc

-- the body's length by the fields of a head, or the code of their fault
abbrev body_length_of_head : RequestHead → Result ℕ Code
body_length_of_head h = body_length_from_fields (fields_of h)

StartsWithMessage-unique : (bytes : List ℕ) (m k : Message) (r q : List ℕ) → StartsWithMessage bytes m r → StartsWithMessage bytes k q → (m ≡ k) × (r ≡ q)
StartsWithMessage-unique bytes m k r q x y =
    let s = HasHead-unique bytes m.head k.head (m.body ++ r) (k.body ++ q) x.head y.head in
    let n = same_ok _ _ _ _ (ap body_length_of_head s.0) x.body y.body in
    let t = same_split m.body r k.body q s.1 n in
    ((λ i. record { head = s.0 i; body = t.0 i }), t.1)

-- if no bytes can complete a head, the bytes have none
no_head_ever : (bytes rest : List ℕ) (head : RequestHead) → NeverHasHead bytes → HasHead bytes head rest → ⊥
no_head_ever bytes rest head (inl never) x = never [] head (rest ++ []) (ReadsRequest-append bytes head rest [] x.reads)
no_head_ever bytes rest head (inr none) x = none.1 head rest x

-- an empty list has no head
no_bytes : (bytes rest : List ℕ) (head : RequestHead) → bytes ≡ [] → HasHead bytes head rest → ⊥
no_bytes bytes rest head none x =
    let some = head_some bytes rest head x.reads in
    let e = ap length (sym none ∙ x.reads.1) in
    omega (arith, some, e, length-append (print_request head) rest)

-- the remainder doesn't begin with a message
no_message : (bytes rest : List ℕ) (m : Message) (tail : Tail) → Follows bytes tail → StartsWithMessage bytes m rest → ⊥
no_message bytes rest m End f x = no_bytes bytes (m.body ++ rest) m.head f x.head
no_message bytes rest m Part (inl f) x = f.none_yet m.head (m.body ++ rest) x.head.reads
no_message bytes rest m Part (inr f) x =
    let s = HasHead-unique bytes f.head m.head f.rest (m.body ++ rest) f.has_head x.head in
    let n = same_ok _ _ _ _ (ap body_length_of_head s.0) f.framed x.body in
    omega (arith, f.short, n, ap length s.1, length-append m.body rest)
no_message bytes rest m (Faulty code) (inl f) x = no_head_ever bytes (m.body ++ rest) m.head f.1 x.head
no_message bytes rest m (Faulty code) (inr f) x =
    let s = HasHead-unique bytes f.head m.head f.rest (m.body ++ rest) f.has_head x.head in
    ok_or_err _ code _ _ (sym (ap body_length_of_head s.0)) x.body f.framed

-- ---- the remainder

one_byte : (test : ℕ → Bool) (byte : ℕ) → IsTrue (test byte) → AllPass test (byte ∷ [])
one_byte test byte passes zero d low = passes
one_byte test byte passes (suc k) d low = absurd (omega (arith, low))

abbrev a_head : RequestHead
a_head = record { blank = []; method = codes "G"; target = codes "/"; minor = 1; line_end = lf; fields = []; last = lf }

a_head_is_one : IsRequestHead a_head
unfolding is_token_byte lib.Utf8.encode
a_head_is_one = record {
  method = (lit< tt, one_byte is_token_byte 71 refl);
  target = (lit< tt, one_byte is_uri_byte 47 refl);
  target_text = (codes "/", (refl, refl));
  minor = lit≤ tt;
  fields = λ k d low. absurd (omega (arith, low));
}

-- an empty list may become a head
may_begin : NeverHasRequest [] → ⊥
may_begin never = never (print_request a_head) a_head [] (a_head_is_one, sym (append-nil (print_request a_head)))

-- an empty remainder is neither a part nor a fault
no_part : (bytes : List ℕ) → Follows bytes End → Follows bytes Part → ⊥
no_part bytes none (inl f) = omega (arith, f.some, ap length none)
no_part bytes none (inr f) = no_bytes bytes f.rest f.head none f.has_head

no_fault : (bytes : List ℕ) (code : Code) → Follows bytes End → Follows bytes (Faulty code) → ⊥
no_fault bytes code none (inl (is, inl never)) = may_begin (subst NeverHasRequest none never)
no_fault bytes code none (inl (is, inr long)) = omega (arith, long.0, ap length none)
no_fault bytes code none (inr f) = no_bytes bytes f.rest f.head none f.has_head

-- a remainder is both a part and a fault only if it ends inside a target
part_or_fault : (bytes : List ℕ) (code : Code) → Follows bytes Part → Follows bytes (Faulty code) → Agree bytes Part (Faulty code)
part_or_fault bytes code (inl f) (inl (is, inl never)) = elim f.may_become [
  | inl head ↦ absurd (never head.0 head.1 [] head.2)
  | inr inside ↦ inr (inl (inside, refl, ap Faulty is))
]
part_or_fault bytes code (inl f) (inl (is, inr long)) = absurd (omega (arith, f.size, long.0))
part_or_fault bytes code (inl f) (inr g) = absurd (f.none_yet g.head g.rest g.has_head.reads)
part_or_fault bytes code (inr f) (inl g) = absurd (no_head_ever bytes f.rest f.head g.1 f.has_head)
part_or_fault bytes code (inr f) (inr g) =
    let s = HasHead-unique bytes f.head g.head f.rest g.rest f.has_head g.has_head in
    absurd (ok_or_err _ code _ _ (ap body_length_of_head s.0) f.framed g.framed)

same_code : (c d : Code) (a b : Result ℕ Code) → a ≡ b → a ≡ Err c → b ≡ Err d → c ≡ d
same_code c d a b e f g = cc

-- a fault has one code
one_code : (bytes : List ℕ) (c d : Code) → Follows bytes (Faulty c) → Follows bytes (Faulty d) → c ≡ d
one_code bytes c d (inl f) (inl g) = f.0 ∙ sym g.0
one_code bytes c d (inl f) (inr g) = absurd (no_head_ever bytes g.rest g.head f.1 g.has_head)
one_code bytes c d (inr f) (inl g) = absurd (no_head_ever bytes f.rest f.head g.1 f.has_head)
one_code bytes c d (inr f) (inr g) =
    let s = HasHead-unique bytes f.head g.head f.rest g.rest f.has_head g.has_head in
    same_code c d _ _ (ap body_length_of_head s.0) f.framed g.framed

turned : (bytes : List ℕ) (t u : Tail) → Agree bytes t u → Agree bytes u t
turned bytes t u (inl same) = inl (sym same)
turned bytes t u (inr (inl inside)) = inr (inr inside)
turned bytes t u (inr (inr inside)) = inr (inl inside)

agree : (bytes : List ℕ) (t u : Tail) → Follows bytes t → Follows bytes u → Agree bytes t u
agree bytes End End f g = inl refl
agree bytes End Part f g = absurd (no_part bytes f g)
agree bytes End (Faulty d) f g = absurd (no_fault bytes d f g)
agree bytes Part End f g = absurd (no_part bytes g f)
agree bytes Part Part f g = inl refl
agree bytes Part (Faulty d) f g = part_or_fault bytes d f g
agree bytes (Faulty c) End f g = absurd (no_fault bytes c g f)
agree bytes (Faulty c) Part f g = turned bytes Part (Faulty c) (part_or_fault bytes c g f)
agree bytes (Faulty c) (Faulty d) f g = inl (ap Faulty (one_code bytes c d f g))

-- ---- the whole stream

StartsWithMessages-unique : (bytes : List ℕ) (ms ks : List Message) (r q : List ℕ) (t u : Tail) → StartsWithMessages bytes ms r → Follows r t → StartsWithMessages bytes ks q → Follows q u → (ms ≡ ks) × (r ≡ q)
StartsWithMessages-unique bytes [] [] r q t u a f b h = (refl, sym a ∙ b)
StartsWithMessages-unique bytes [] (k ∷ ks) r q t u a f b h = absurd (no_message bytes b.0 k t (subst (λ (w : List ℕ). Follows w t) (sym a) f) b.1)
StartsWithMessages-unique bytes (m ∷ ms) [] r q t u a f b h = absurd (no_message bytes a.0 m u (subst (λ (w : List ℕ). Follows w u) (sym b) h) a.1)
StartsWithMessages-unique bytes (m ∷ ms) (k ∷ ks) r q t u a f b h =
    let s = StartsWithMessage-unique bytes m k a.0 b.0 a.1 b.1 in
    let z = StartsWithMessages-unique a.0 ms ks r q t u a.2 f (subst (λ (w : List ℕ). StartsWithMessages w ks q) (sym s.1) b.2) h in
    ((λ i. s.0 i ∷ z.0 i), z.1)

-- the messages are determined; the remainder too, unless it ends inside a target
pub Messages-unique : (bytes : List ℕ) (ms ks : List Message) (t u : Tail) (one : Messages bytes ms t) → Messages bytes ks u
    → (ms ≡ ks) × Agree one.rest t u
Messages-unique bytes ms ks t u one other =
    let same = StartsWithMessages-unique bytes ms ks one.rest other.rest t u one.leads one.follows other.leads other.follows in
    (same.0, agree one.rest t u one.follows (subst (λ (rest : List ℕ). Follows rest u) (sym same.1) other.follows))
