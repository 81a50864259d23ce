use Rattle.std.proofs.Common.{◌≡◌, ◌≢◌, ◌∙◌, ℕ, List, ◌∷◌, Some, None, sym, ap, arith}
use Rattle.std.proofs.lemmas.Str.Pattern.{strip_prefix_char}
use Rattle.avro_nodes.proofs.Numbers.{respelt_unsigned, respelt_zero, respelt_negative, respelt_past, respelt_none}
use Rattle.avro_nodes.proofs.plain.respell_whole.Goals as goal

pub returns-in_err-_number : goal.returns-in_err-_number
returns-in_err-_number c =
    let w = c.args.whole.now in
    let bare : (rest : List ℕ) → w ≢ 45 ∷ rest = strip_prefix_char 45 w None c.in_default.ensures.cases (omega arith) in
    rw c.from_residual.ensures (sym (respelt_unsigned w None bare (sym c.in_err-_number.was ∙ c.magnitude.ensures)))

pub returns-in_default : goal.returns-in_default
returns-in_default c =
    let w = c.args.whole.now in
    let bare : (rest : List ℕ) → w ≢ 45 ∷ rest = strip_prefix_char 45 w None c.in_default.ensures.cases (omega arith) in
    sym (respelt_unsigned w (Some c.in_ok-_number._number) bare (sym c.in_ok-_number.was ∙ c.magnitude.ensures))

pub returns-in_err-number : goal.returns-in_err-number
returns-in_err-number c =
    let w = c.args.whole.now in
    let signed : w ≡ 45 ∷ c.in-Some.digits.now = strip_prefix_char 45 w (Some c.in-Some.digits) c.in-Some.ensures.cases (omega arith) in
    rw (c.from_residual-in_err-number.ensures, signed) (sym (respelt_none c.in-Some.digits.now c.magnitude-2.result c.magnitude-2.ensures c.in_err-number.was))

pub returns-then-number-eq0 : goal.returns-then-number-eq0
returns-then-number-eq0 c =
    let w = c.args.whole.now in
    let signed : w ≡ 45 ∷ c.in-Some.digits.now = strip_prefix_char 45 w (Some c.in-Some.digits) c.in-Some.ensures.cases (omega arith) in
    rw signed (sym (respelt_zero c.in-Some.digits.now c.magnitude-2.result c.magnitude-2.ensures (c.in_ok-number.was ∙ ap (λ (n : ℕ). Some n) c.if-number-eq0.true)))

pub returns-then-number : goal.returns-then-number
returns-then-number c =
    let w = c.args.whole.now in
    let signed : w ≡ 45 ∷ c.in-Some.digits.now = strip_prefix_char 45 w (Some c.in-Some.digits) c.in-Some.ensures.cases (omega arith) in
    rw signed (sym (respelt_negative c.in-Some.digits.now c.magnitude-2.result c.magnitude-2.ensures c.in_ok-number.number c.in_ok-number.was c.if-number-eq0.false (omega arith)))

pub returns-else-number : goal.returns-else-number
returns-else-number c =
    let w = c.args.whole.now in
    let signed : w ≡ 45 ∷ c.in-Some.digits.now = strip_prefix_char 45 w (Some c.in-Some.digits) c.in-Some.ensures.cases (omega arith) in
    rw signed (sym (respelt_past c.in-Some.digits.now c.magnitude-2.result c.magnitude-2.ensures c.in_ok-number.number c.in_ok-number.was (omega arith)))
