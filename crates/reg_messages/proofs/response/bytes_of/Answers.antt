use Rattle.std.proofs.Common.{◌≡◌, ℕ, List, ◌++◌, length, refl, ap, ◌∙◌}
use Rattle.reg_messages.specs.Responses.{response_bytes, status_line, content_length_line}
use Rattle.reg_messages.proofs.Statuses.{IsStatusCode-from_IsReplyStatus}
use Rattle.reg_messages.proofs.response.bytes_of.Goals as goal

-- one more part
then : (old new part text a : List ℕ) → old ≡ a → new ≡ old ++ part → part ≡ text → new ≡ a ++ text
then old new part text a e p q = p ∙ (λ i. e i ++ q i)

pub status_line-requires : goal.status_line-requires
status_line-requires c = IsStatusCode-from_IsReplyStatus c.status.result c.status.ensures.nine

pub returns : goal.returns
unfolding response_bytes
returns c =
    let line = c.in_ok-text.ensures ∙ ap status_line c.status.ensures.value in
    let type = then _ _ _ _ _ line c.in_ok-push_str.ensures.bytes refl in
    let allow = then _ _ _ _ _ type c.in_ok-push_str-2.ensures.bytes (c.as_str.ensures.value ∙ c.in_ok-allow_line.ensures) in
    let size = c.as_str-2.ensures.value ∙ (c.in_ok-content_length_line.ensures ∙ ap (λ (b : List ℕ). content_length_line (length b)) c.body.ensures) in
    let length = then _ _ _ _ _ allow c.in_ok-push_str-3.ensures.bytes size in
    let close = then _ _ _ _ _ length c.in_ok-push_str-4.ensures.bytes c.connection_line.ensures in
    let end = then _ _ _ _ _ close c.in_ok-push_str-5.ensures.bytes refl in
    then _ _ _ _ _ end c.in_ok-push_str-6.ensures.bytes c.body-2.ensures
