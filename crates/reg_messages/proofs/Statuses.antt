-- A reply's status is a status code.
use Rattle.std.proofs.Common.{◌≡◌, ℕ, Bool, true, false, ◌||◌, List, [], ◌∷◌, sym, subst, refl, arith}
use Rattle.std.specs.Prelude.{◌==◌}
use Rattle.std.specs.List.{list_any}
use Rattle.std.proofs.lemmas.Bool.Decides.{Decides-eqb}
use Rattle.http.specs.StatusCode.{IsStatusCode}
use Rattle.reg_core.specs.Replies.{IsReplyStatus, reply_statuses}

AllCodes : List ℕ → Type 0
AllCodes [] = Unit {0}
AllCodes (x ∷ xs) = IsStatusCode x × AllCodes xs

among : (n : ℕ) (xs : List ℕ) → AllCodes xs → list_any (λ x. n == x) xs ≡ true → IsStatusCode n
unfolding AllCodes
among n [] a e = absurd (cc)
among n (x ∷ xs) a e = by (n == x) (Decides-eqb n x) (among n xs a.1) e
  where
    by : (b : Bool) → ((b ≡ true → n ≡ x) × (n ≡ x → b ≡ true)) → (list_any (λ y. n == y) xs ≡ true → IsStatusCode n)
        → b || list_any (λ y. n == y) xs ≡ true → IsStatusCode n
    by true d later h = subst IsStatusCode (sym (d.0 refl)) a.0
    by false d later h = later h

pub IsStatusCode-from_IsReplyStatus : (n : ℕ) → IsReplyStatus n → IsStatusCode n
unfolding AllCodes
IsStatusCode-from_IsReplyStatus n e =
    among n reply_statuses (
      (omega arith, omega arith),
      (
        (omega arith, omega arith),
        (
          (omega arith, omega arith),
          (
            (omega arith, omega arith),
            (
              (omega arith, omega arith),
              ((omega arith, omega arith), ((omega arith, omega arith), ((omega arith, omega arith), ((omega arith, omega arith), tt)))),
            ),
          ),
        ),
      ),
    ) e
