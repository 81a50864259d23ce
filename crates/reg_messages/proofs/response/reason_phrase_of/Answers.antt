use Rattle.std.proofs.Common.{◌≡◌, ℕ, List, [], refl, ap, ◌∙◌}
use Rattle.std.specs.Prelude.{Option, Some, None, unwrap_or, option_map}
use denote.Ref.{Bor}
use Rattle.http.specs.StatusCode.{reason_phrase}
use Rattle.reg_messages.specs.Responses.{reason_phrase_of}
use Rattle.reg_messages.proofs.response.reason_phrase_of.Goals as goal

-- the text of an option, or the default
now_of : (o : Option (Bor (List ℕ))) (d : Bor (List ℕ)) → (unwrap_or o d).now ≡ unwrap_or (option_map (λ (s : Bor (List ℕ)). s.now) o) d.now
now_of None d = refl
now_of (Some s) d = refl

phrase : (status : ℕ) (o : Option (List ℕ)) → o ≡ reason_phrase status → unwrap_or o [] ≡ reason_phrase_of status
unfolding reason_phrase_of
phrase status o e = ap (λ p. unwrap_or p []) e

pub returns-in-Ok : goal.returns-in-Ok
returns-in-Ok c =
    ap (λ (s : Bor (List ℕ)). s.now) c.unwrap_or.ensures
    ∙ (now_of c.canonical_reason.result _
    ∙ (phrase c.in-Ok.status _ c.canonical_reason.ensures.value ∙ ap reason_phrase_of c.in-Ok.ensures.1))

pub returns-in-Err : goal.returns-in-Err
returns-in-Err c = absurd (c.in-Err.ensures c.requires)
