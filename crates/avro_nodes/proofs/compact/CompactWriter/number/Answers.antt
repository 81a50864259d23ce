use Rattle.std.proofs.Common.{◌≡◌, List, [], ◌∷◌, ◌++◌, Float, Some, decimal, to_z-of_z, rules, SFits, w64, sym, ap, ◌∙◌, arith}
use mir.Val.{to_z, of_z}
use Rattle.std.specs.Fmt.{signed_decimal}
use Rattle.json.specs.Token.{Token, number}
use Rattle.std.proofs.lemmas.Result.{on_ok_weaker}
use Rattle.serde_json.proofs.Numbers.{number_of-plus}
use Rattle.avro_nodes.proofs.Digits.{unsigned_text, signed_text, float_text, unSome}
use Rattle.avro_nodes.proofs.compact.CompactWriter.number.Goals as goal

pub returns-in-Some : goal.returns-in-Some
returns-in-Some c =
    let spells = unsigned_text _ c.in-Some.whole (sym c.as_u64.ensures ∙ c.in-Some.is) (omega arith) in
    on_ok_weaker c.u64.result (λ e. (_, e ∙ ap (λ (ts : List Token). ts ++ number (decimal c.in-Some.whole) ∷ []) c.self.view_is, spells.0, spells.1)) c.u64.ensures.ok

pub returns-in-Some-as_i64 : goal.returns-in-Some-as_i64
returns-in-Some-as_i64 c =
    let fits : SFits w64 c.in-Some-as_i64.below = search rules in
    let text : signed_decimal (to_z w64 (of_z w64 c.in-Some-as_i64.below)) ≡ signed_decimal c.in-Some-as_i64.below = ap signed_decimal (to_z-of_z fits) in
    let spells = signed_text c.args.n.now.n c.in-Some-as_i64.below (λ n e. c.in_default.not-Some n (c.as_u64.ensures ∙ e)) (sym c.as_i64.ensures ∙ c.in-Some-as_i64.is) c.args.n.now.valid fits in
    on_ok_weaker c.i64.result (λ e. (_, rw text at e ∙ ap (λ (ts : List Token). ts ++ number (signed_decimal c.in-Some-as_i64.below) ∷ []) c.self.view_is, spells.0, spells.1)) c.i64.ensures.ok

pub returns : goal.returns
returns c =
    on_ok_weaker c.float_with_plus.result (λ w.
    let spells = float_text c.args.n.now.n c.unwrap.result w.0 (λ n e. c.in_default.not-Some n (c.as_u64.ensures ∙ e)) (λ z e. c.in_default-as_i64.not-Some z (c.as_i64.ensures ∙ e)) (unSome (sym c.as_f64.ensures ∙ c.unwrap.ensures)) c.args.n.now.valid
    (λ y e finite. number_of-plus 16 4 w.0 y w.2 (w.3 ∙ ap (λ (z : Float). Some z) (sym e)) finite) in
    (w.0, w.1 ∙ ap (λ (ts : List Token). ts ++ number w.0 ∷ []) c.self.view_is, spells.0, spells.1)) c.float_with_plus.ensures.layout
