use Rattle.std.proofs.Common.{◌≡◌, ◌∙◌, ap, w64, true, refl, ℕ, ◌+◌, ◌*◌, ◌/◌, ◌%◌, ◌<◌, ◌≤◌, ◌&&◌, Bool, length, arith}
use Rattle.std.specs.Prelude.{◌==◌, if◌then◌else◌}
use Rattle.std.specs.Int.{bit_at}
use Rattle.std.proofs.lemmas.List.{get_or_default}
use Rattle.std.proofs.lemmas.Nat.Bits.{bit_at_set_same, bit_at_set_other}
use Rattle.avro_resolve.specs.Inside.PairSets.{bit}
use Rattle.avro_resolve.proofs.BitLemmas.{bit_more, bit_set, place_test}
use Rattle.avro_resolve.proofs.pair_set.PairSet.insert.Goals as goal
use Rattle.avro_resolve.proofs.pair_set.PairSet.insert.Goals.{then-len-at+in_ok-resize, else-len-at}

pub returns-clause-others : goal.returns-clause-others
returns-clause-others c a b l =
    let k = c.place-at.result in let r = c.args.self.now.readers in let old = c.args.self.now.words.items in let ws = c.if-len-at.self.words.items in let now = c.index_mut.result.now in
    let low : k % 64 < 64 = omega arith in
    let kept : (k / 64 < length ws) × ((m : ℕ) → bit ws m ≡ bit old m) × (c.if-len-at.self.readers ≡ r) = elim c.if-len-at.branch [
      | then-len-at+in_ok-resize w ↦ (
          let new = w.resize.new.self.items in let n = k / 64 + 1 in
          let few : length old ≤ n = omega (arith, c.args.self.now.words.ok.0, w.if-len-at.true) in
          let len = rw w.in_ok-resize.was at w.resize.ensures.len in
          let long : length new ≡ n = omega (arith, w.resize.new.self.ok.0, len) in
          let each = w.in_ok-resize.ensures.by_index in
          let bits = bit_more old new n few long (λ m d p q. each.0 m d p (omega (arith, q, c.args.self.now.words.ok.0))) (λ m d p q. each.1 m d refl (omega (arith, p, c.args.self.now.words.ok.0)) q) in
          let room : k / 64 < length new = omega (arith, long) in
          rw w.self-is (room, bits, refl))
      | else-len-at w ↦ (
          let room : k / 64 < length old = omega (arith, c.args.self.now.words.ok.0, w.if-len-at.false) in
          rw w.self-is (room, (λ m. refl), refl))
    ] in
    let set = bit_set ws k _ true kept.0 (ap (λ (x : ℕ). x == 1) (bit_at_set_same w64 now (k % 64) low)) (λ i p ne. bit_at_set_other w64 now (k % 64) low i ne ∙ ap (λ (x : ℕ). bit_at x i) (c.index_mut.ensures.value ∙ get_or_default ws (k / 64) now 0 kept.0)) (a * r + b) in
    let test : (a * r + b == k) ≡ (a == c.args.i && b == c.args.j) = ap (λ (x : ℕ). a * r + b == x) c.place-at.ensures ∙ place_test c.args.i c.args.j a b r c.requires l in
    rw kept.2 (set ∙ ap (λ (x : Bool). if x then true else bit ws (a * r + b)) test ∙ ap (λ (y : Bool). if a == c.args.i && b == c.args.j then true else y) (kept.1 (a * r + b)))
