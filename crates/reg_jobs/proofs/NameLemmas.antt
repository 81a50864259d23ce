-- The names of files, as standard error shows them.
use Rattle.std.proofs.Common.{◌≡◌, ℕ, ◌≤◌, Bool, true, false, ◌||◌, List, [], ◌∷◌, refl, sym, ap, ◌∙◌, subst, arith, inl, inr, zero-add}
use Rattle.std.specs.Prelude.{if◌then◌else◌}
use Rattle.std.specs.List.{list_any, range_with_len}
use Rattle.std.specs.Char.{is_ascii_control}
use Rattle.std.proofs.lemmas.Bool.{cases_lt}
use Rattle.std.proofs.lemmas.List.Folds.{list_any_at, list_any-append}
use Rattle.std.proofs.lemmas.List.FromFn.{get_or-range_with_len}
use Rattle.reg_jobs.specs.Names.{HasNoControl, escape_of, shown_name, shown_byte}

-- whether a byte is shown with a control character
shows_control : ℕ → Bool
shows_control byte = list_any is_ascii_control (shown_byte byte)

-- no ASCII byte is
ascii_shown : list_any shows_control (range_with_len 0 128) ≡ false
unfolding shows_control
ascii_shown = refl

-- no byte past ASCII is a control character
past_ascii : (byte : ℕ) → 128 ≤ byte → is_ascii_control byte ≡ false
past_ascii byte le = grind arith

-- every byte
shown_byte-HasNoControl : (byte : ℕ) → HasNoControl (shown_byte byte)
unfolding shows_control
shown_byte-HasNoControl byte =
    elim (cases_lt byte 128) [
      | inl lt ↦
          let at = get_or-range_with_len 0 128 byte 0 lt in
          let P : Bool → Type 0 = λ v. shows_control byte ≡ v → v ≡ false in
          elim (shows_control byte) as P [
            | true ↦ λ e. sym (list_any_at shows_control (range_with_len 0 128) byte 0 lt (ap shows_control (at ∙ zero-add byte) ∙ e)) ∙ ascii_shown
            | false ↦ λ e. refl
          ] refl
      | inr le ↦
          let none = past_ascii byte le in
          let Q : Bool → Type 0 = λ v. list_any is_ascii_control (if v then escape_of byte else byte ∷ []) ≡ false in
          subst Q (sym none) (ap (λ v. v || false) none)
    ]

-- a shown name
pub shown_name-HasNoControl : (name : List ℕ) → HasNoControl (shown_name name)
shown_name-HasNoControl [] = refl
shown_name-HasNoControl (byte ∷ name) =
    list_any-append is_ascii_control (shown_byte byte) (shown_name name) ∙ (λ i. shown_byte-HasNoControl byte i || shown_name-HasNoControl name i)

-- a name without control characters is shown as it is
pub shown_same : (name : List ℕ) → HasNoControl name → shown_name name ≡ name
shown_same [] none = refl
shown_same (byte ∷ name) none =
    let first : is_ascii_control byte ≡ false = grind arith in
    let others : HasNoControl name = grind arith in
    rw first (ap (λ t. byte ∷ t) (shown_same name others))
