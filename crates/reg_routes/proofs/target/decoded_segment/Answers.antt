use Rattle.std.proofs.Common.{◌≡◌, ℕ, Bool, true, false, true≢false, List, ◌++◌, refl, sym, ap, ◌∙◌}
use Rattle.std.specs.Prelude.{Some, None, cond, string_bytes, Vec}
use Rattle.std.specs.Global.{Global}
use Rattle.std.specs.Str.{IsUtf8, is_utf8}
use Rattle.std.proofs.lemmas.Str.{IsUtf8-from_is_utf8, is_utf8-from_IsUtf8, IsUtf8-string_bytes}
use Rattle.percent_encoding.specs.Percent.{percent_decode}
use Rattle.reg_routes.specs.Targets.{decoded_segment}
use Rattle.reg_routes.proofs.target.decoded_segment.Goals as goal

read : (segment text : List ℕ) → IsUtf8 text → text ≡ percent_decode segment → Some text ≡ decoded_segment segment
read segment text u e = ap Some e ∙ sym (ap (λ b. cond b (Some (percent_decode segment)) None) (ap is_utf8 (sym e) ∙ is_utf8-from_IsUtf8 text u))

unread : (segment bytes : List ℕ) → (IsUtf8 bytes → ⊥) → bytes ≡ percent_decode segment → None ≡ decoded_segment segment
unread segment bytes bad e = by (is_utf8 (percent_decode segment)) refl
  where
    by : (b : Bool) → is_utf8 (percent_decode segment) ≡ b → None ≡ cond b (Some (percent_decode segment)) None
    by true t = absurd (bad (IsUtf8-from_is_utf8 bytes (ap is_utf8 e ∙ t)))
    by false t = refl

pub returns-in-Ok : goal.returns-in-Ok
returns-in-Ok c =
    let text = c.in-Ok.text in
    let decoded : string_bytes text ≡ percent_decode c.args.segment.now =
    ap (λ (v : Vec ℕ Global). v.items) c.in-Ok.ensures.ok ∙ (c.in_ok-append_to.ensures.ok ∙ ((λ i. c.new-bytes.ensures.items i ++ c.percent_decode.ensures.bytes i))) in
    ap Some c.from.ensures ∙ read c.args.segment.now (string_bytes text) (IsUtf8-string_bytes text) decoded

pub returns : goal.returns
returns c =
    let decoded : c.append_to.new.out.items ≡ percent_decode c.args.segment.now =
    c.in_ok-append_to.ensures.ok ∙ ((λ i. c.new-bytes.ensures.items i ++ c.percent_decode.ensures.bytes i)) in
    unread c.args.segment.now c.append_to.new.out.items (λ u. true≢false (sym (c.in-Err.ensures.succeeds u))) decoded
