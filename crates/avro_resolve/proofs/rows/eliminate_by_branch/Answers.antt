use Rattle.std.proofs.Common.{◌≡◌, ◌+◌, ◌<◌, ◌≤◌, ℕ, false, true, subst, inl, inr, arith}
use Rattle.std.specs.Prelude.{IsTrue}
use Rattle.std.proofs.lemmas.Bool.{cases_lt}
use Rattle.std.proofs.lemmas.List.{length-map}
use Rattle.avro_nodes.specs.Nodes.{node_view}
use Rattle.avro_resolve.specs.declared.table.Table.{Table}
use Rattle.avro_resolve.specs.Inside.Remaining.{remains}
use Rattle.avro_resolve.specs.Inside.Schemas.{columns, rows}
use Rattle.avro_resolve.proofs.Flags.{flag_past}
use Rattle.avro_resolve.proofs.Dependence.{rests_by_branch}
use Rattle.avro_resolve.proofs.KeptSupport.{lists_none, lists_then, not_back, stays_out}
use Rattle.avro_resolve.proofs.rows.eliminate_by_branch.Goals as goal

-- all pairs up to the next place are eliminated with the branch's
gone_before : (t v : Table) (i branch from at : ℕ) → ((b : ℕ) → remains v branch b ≡ true → remains t branch b ≡ true) → ((b : ℕ) → b < from → remains t branch b ≡ false → remains v i b ≡ false)
    → ((b : ℕ) → from ≤ b → b < at → IsTrue (remains v i b) → IsTrue (remains v branch b)) → (b : ℕ) → b < at → remains t branch b ≡ false → remains v i b ≡ false
gone_before t v i branch from at fewer gone rest b l e = elim (cases_lt b from) [
  | inl g ↦ gone b g e
  | inr g ↦ not_back (remains v i b) (remains t branch b) (λ h. fewer b (rest b g l h)) e
]

pub loop-at-init : goal.loop-at-init
loop-at-init c =
    let u = c.args.progress.now.table in let first = c.next_difference-at.ensures in let view = length-map c.args.schemas.now.reader.schema.now node_view in
    record {
      rest = c.requires.rest.1;
      lists = lists_none u c.args.progress.now.eliminated.items;
      gone = gone_before u u c.args.union c.args.branch 0 c.next_difference-at.result (λ b h. h) (λ b l. absurd (omega arith)) first.before;
      apart = λ l. first.at (omega (arith, view, c.requires.rest.1.rest.readers));
    }

pub eliminate_pair-requires-clause-unsupported : goal.eliminate_pair-requires-clause-unsupported
eliminate_pair-requires-clause-unsupported c =
    rests_by_branch (rows c.args.schemas.now) (columns c.args.schemas.now) c.args.union c.args.branch c.loop-at.at c.requires.meant (remains c.loop-at.progress.table) (c.loop-at.invariant.apart c.loop-at-test.true)

pub loop-at-preserved : goal.loop-at-preserved
loop-at-preserved c =
    let i = c.args.union in let p = c.args.branch in let at = c.loop-at.at in let inv = c.loop-at.invariant in let t = c.args.progress.now.table in
    let u = c.loop-at.progress.table in let v = c.eliminate_pair.new.progress.table in let qs = c.loop-at.progress.eliminated.items in let rs = c.eliminate_pair.new.progress.eliminated.items in
    let done = c.in_ok-eliminate_pair.ensures in let next = c.next_difference-at-in-loop-at.ensures in let view = length-map c.args.schemas.now.reader.schema.now node_view in
    let lists = lists_then t u v c.args.progress.now.eliminated.items qs rs inv.lists done.eliminates.1 in
    let gone : (b : ℕ) → b < at + 1 → remains t p b ≡ false → remains v i b ≡ false = λ b l e. elim (cases_lt b at) [
      | inl g ↦ stays_out u v qs rs i b done.eliminates.1 (inv.gone b g e)
      | inr g ↦ (let same : at ≡ b = omega arith in subst (λ (x : ℕ). remains v i x ≡ false) same done.gone)
    ] in
    record {
      rest = done.eliminates.0;
      lists = lists;
      gone = gone_before t v i p (at + 1) c.next_difference-at-in-loop-at.result (λ b h. lists.fewer p b h) gone next.before;
      apart = λ l. next.at (omega (arith, view, done.eliminates.0.rest.readers));
    }

pub returns-clause-gone : goal.returns-clause-gone
returns-clause-gone c = λ j e.
    let v = c.loop-at.progress.table in let readers = c.loop-at.invariant.rest.rest.readers in let view = length-map c.args.schemas.now.reader.schema.now node_view in
    elim (cases_lt j c.loop-at.at) [
      | inl g ↦ c.loop-at.invariant.gone j g e
      | inr g ↦ flag_past v.flags.items v.readers c.args.union j (let done = c.loop-at-test.false in omega (arith, g, done, readers, view, c.places-places.ensures.places))
    ]
