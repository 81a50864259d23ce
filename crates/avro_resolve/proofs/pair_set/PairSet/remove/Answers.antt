use Rattle.std.proofs.Common.{◌≡◌, ◌∙◌, ap, w64, false, ℕ, ◌+◌, ◌*◌, ◌/◌, ◌%◌, ◌<◌, ◌≤◌, ◌&&◌, Bool, length, arith}
use Rattle.std.specs.Prelude.{◌==◌, if◌then◌else◌}
use Rattle.std.specs.Int.{bit_at}
use Rattle.std.proofs.lemmas.List.{get_or_default}
use Rattle.std.proofs.lemmas.Nat.Bits.{bit_at_clear_same, bit_at_clear_other}
use Rattle.avro_resolve.specs.Inside.PairSets.{bit}
use Rattle.avro_resolve.proofs.BitLemmas.{bit_set, past_place, place_test}
use Rattle.avro_resolve.proofs.pair_set.PairSet.remove.Goals as goal

pub returns-then-at-len-clause-others : goal.returns-then-at-len-clause-others
returns-then-at-len-clause-others c a b l =
    let k = c.place-at.result in let r = c.args.self.now.readers in let ws = c.args.self.now.words.items in let now = c.index_mut.result.now in
    let low : k % 64 < 64 = omega arith in
    let within : k / 64 < length ws = omega (arith, c.args.self.now.words.ok.0) in
    let set = bit_set ws k _ false within (ap (λ (x : ℕ). x == 1) (bit_at_clear_same w64 now (k % 64) low)) (λ i p ne. bit_at_clear_other w64 now (k % 64) low i p ne ∙ ap (λ (x : ℕ). bit_at x i) (c.index_mut.ensures.value ∙ get_or_default ws (k / 64) now 0 within)) (a * r + b) in
    let test : (a * r + b == k) ≡ (a == c.args.i && b == c.args.j) = ap (λ (x : ℕ). a * r + b == x) c.place-at.ensures ∙ place_test c.args.i c.args.j a b r c.requires l in
    set ∙ ap (λ (x : Bool). if x then false else bit ws (a * r + b)) test

pub returns-else-at-len-clause-others : goal.returns-else-at-len-clause-others
returns-else-at-len-clause-others c a b l =
    let k = c.place-at.result in let r = c.args.self.now.readers in let ws = c.args.self.now.words.items in
    let past : length ws ≤ k / 64 = omega (arith, c.args.self.now.words.ok.0) in
    let test : (a * r + b == k) ≡ (a == c.args.i && b == c.args.j) = ap (λ (x : ℕ). a * r + b == x) c.place-at.ensures ∙ place_test c.args.i c.args.j a b r c.requires l in
    past_place ws k (a * r + b) past ∙ ap (λ (x : Bool). if x then false else bit ws (a * r + b)) test
