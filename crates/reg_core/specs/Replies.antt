-- Replies, as a client sees them.
use Rattle.std.specs.Prelude.{ℕ, ◌==◌, ◌≢◌, List, [], ◌∷◌, IsTrue}
use Rattle.std.specs.List.{list_any}
use Rattle.reg_core.specs.declared.code.Code.{Code}
use Rattle.reg_core.specs.declared.code.Code.TheVariants.{KeyReused}
use Rattle.reg_core.specs.Codes.{status_of, fault_body}

-- RFC 9110, section 15: a status, and the bytes of the body
pub record ReplyView : Type 0 where
  pub status : ℕ
  pub body : List ℕ

-- this project's choice: the nine HTTP statuses (RFC 9110, section 15) that a reply of the registry may have
abbrev pub reply_statuses : List ℕ
reply_statuses = 200 ∷ 400 ∷ 404 ∷ 405 ∷ 409 ∷ 413 ∷ 422 ∷ 500 ∷ 501 ∷ []

-- this project's choice: the number is one of the nine `reply_statuses`
abbrev pub IsReplyStatus : ℕ → Type 0
IsReplyStatus n = IsTrue (list_any (λ status. n == status) reply_statuses)

-- this project's choice: the statuses of replies to commands that succeed or are rejected; such replies are kept
abbrev pub kept_statuses : List ℕ
kept_statuses = 200 ∷ 404 ∷ 409 ∷ 422 ∷ []

-- this project's choice: the number is one of the four `kept_statuses`
abbrev pub IsKeptStatus : ℕ → Type 0
IsKeptStatus n = IsTrue (list_any (λ status. n == status) kept_statuses)

-- RFC 9110, section 15.3.1: the reply to a command that succeeds
abbrev pub success : List ℕ → ReplyView
success body = record { status = 200; body = body }

-- Schema Registry API reference, errors: the reply for a code
abbrev pub fault : Code → ReplyView
fault code = record { status = status_of code; body = fault_body code }

-- This project's choice: a reply by the rules of commands. It has one of the four kept statuses, so it reports no memory or disk fault. It also isn't
-- the reply for a retry key that was used for another command.
pub record IsCommandReply (reply : ReplyView) : Type 0 where
  pub kept : IsKeptStatus reply.status
  pub no_reused_key : reply ≢ fault KeyReused
