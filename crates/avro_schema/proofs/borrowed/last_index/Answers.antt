use Rattle.std.proofs.Common.{◌≡◌, ◌+◌, ◌-◌, ◌<◌, length, ℕ, List, [], ◌∷◌, ◌++◌, take, Bool, true, false, cond, Some, refl, sym, ap, ◌∙◌, arith}
use Rattle.std.specs.Prelude.{slice_get}
use Rattle.std.proofs.lemmas.List.{take_more}
use Rattle.std.proofs.lemmas.Option.{slice_get-get_or}
use Rattle.std.proofs.lemmas.Slice.Eq.{bytes_eq-Decides}
use Rattle.std.specs.Str.{bytes_eq}
use Rattle.serde_json.specs.View.{members_view}
use Rattle.avro_schema.specs.Inside.Borrowed.{value_data}
use Rattle.avro_schema.proofs.BorrowedMembers.{Entry, last_in, members_found, last_push}
use Rattle.avro_schema.proofs.ReservedLemmas.{none_reserved, reserved_is}
use Rattle.avro_schema.proofs.borrowed.last_index.Goals as goal

pub returns-then-eq : goal.returns-then-eq
returns-then-eq c =
    let xs = c.args.object.now.reserved.items in
    let others = members_view c.args.object.now.others.members.entries in
    let i = c.loop-left.left - 1 in
    let m = c.index.result.now in
    let key = c.args.key.now in
    let within : i < length xs = omega (arith, c.loop-left.invariant.1) in
    let next : c.loop-left.left ≡ i + 1 = omega arith in
    let front : take c.loop-left.left xs ≡ take i xs ++ m ∷ [] = ap (λ (k : ℕ). take k xs) next ∙ take_more xs i m within ∙ ap (λ (y : Entry). take i xs ++ y ∷ []) (sym c.index.ensures) in
    let step = c.loop-left.invariant.0 ∙ ap (λ (ys : List Entry). last_in key ys) front ∙ last_push key (take i xs) m in
    let same : bytes_eq m.0.now key ≡ true = sym c.eq.ensures ∙ c.if-eq.true in
    let found = step ∙ ap (λ (b : Bool). cond b (Some (value_data m.1)) (last_in key (take i xs))) same in
    let here : slice_get xs i ≡ Some m = slice_get-get_or xs i m within ∙ ap (λ (y : Entry). Some y) (sym c.index.ensures) in
    let reserved = reserved_is key c.requires in
    let none = none_reserved key others reserved c.args.object.now.others.unreserved in
    (within, rw here (ap (λ (s : List ℕ). Some s) ((bytes_eq-Decides m.0.now key).0 same)), members_found key xs others reserved none ∙ found ∙ rw here refl)

pub loop-left-preserved : goal.loop-left-preserved
loop-left-preserved c =
    let xs = c.args.object.now.reserved.items in
    let i = c.loop-left.left - 1 in
    let m = c.index.result.now in
    let key = c.args.key.now in
    let within : i < length xs = omega (arith, c.loop-left.invariant.1) in
    let next : c.loop-left.left ≡ i + 1 = omega arith in
    let front : take c.loop-left.left xs ≡ take i xs ++ m ∷ [] = ap (λ (k : ℕ). take k xs) next ∙ take_more xs i m within ∙ ap (λ (y : Entry). take i xs ++ y ∷ []) (sym c.index.ensures) in
    let step = c.loop-left.invariant.0 ∙ ap (λ (ys : List Entry). last_in key ys) front ∙ last_push key (take i xs) m in
    let other : bytes_eq m.0.now key ≡ false = sym c.eq.ensures ∙ c.if-eq.false in
    (step ∙ ap (λ (b : Bool). cond b (Some (value_data m.1)) (last_in key (take i xs))) other, omega (arith, c.loop-left.invariant.1))

pub returns : goal.returns
returns c =
    let xs = c.args.object.now.reserved.items in
    let others = members_view c.args.object.now.others.members.entries in
    let key = c.args.key.now in
    let over : c.loop-left.left ≡ 0 = omega arith in
    let reserved = reserved_is key c.requires in
    let none = none_reserved key others reserved c.args.object.now.others.unreserved in
    members_found key xs others reserved none ∙ c.loop-left.invariant.0 ∙ ap (λ (n : ℕ). last_in key (take n xs)) over
