use Rattle.std.proofs.Common.{ap, ◌∙◌, sym, arith, length, ℕ, nat_eq}
use Rattle.std.specs.Prelude.{option_map}
use Rattle.schema_cache.specs.Entries.{entry_text_bytes, EntryView}
use Rattle.schema_cache.proofs.TextBytes.{text_bytes-remove_entry, lookup-by_entry}
use Rattle.schema_cache.proofs.lru_entries.LruEntries.remove.Goals as goal

pub invariant_of-self : goal.invariant_of-self
invariant_of-self c =
    let all = text_bytes-remove_entry (nat_eq c.args.id) c.self.inside.cache.entries in
    let gone = ap entry_text_bytes c.in_err-entry.ensures.value in
    let kept = c.self.invariant in
    let counted = kept.counted in
    let small = kept.small in
    rw c.pop_entry.ensures.entries (record { counted = omega arith; small = small; capacity = kept.capacity })

pub overflow_sub-self : goal.overflow_sub-self
overflow_sub-self c =
    let all = text_bytes-remove_entry (nat_eq c.args.id) c.self.inside.cache.entries in
    let gone = ap entry_text_bytes c.in_ok-entry.ensures.value in
    let text = ap length c.text.ensures.text in
    let counted = c.self.invariant.counted in
    omega arith

pub invariant_of-self-2 : goal.invariant_of-self-2
invariant_of-self-2 c =
    let all = text_bytes-remove_entry (nat_eq c.args.id) c.self.inside.cache.entries in
    let gone = ap entry_text_bytes c.in_ok-entry.ensures.value in
    let text = ap length c.text.ensures.text in
    let kept = c.self.invariant in
    let counted = kept.counted in
    let small = kept.small in
    rw c.pop_entry.ensures.entries (record { counted = omega arith; small = omega arith; capacity = kept.capacity })

pub returns-in_err-entry-clause-entry : goal.returns-in_err-entry-clause-entry
returns-in_err-entry-clause-entry c =
    let found = ap (option_map (λ (e : ℕ × EntryView). e.1)) c.in_err-entry.ensures.value in
    let by_entry = lookup-by_entry (nat_eq c.args.id) c.self.inside.cache.entries in
    c.from_residual.ensures ∙ rw (← c.self.view_is) (found ∙ sym by_entry)

pub returns-clause-entry : goal.returns-clause-entry
returns-clause-entry c =
    let found = ap (option_map (λ (e : ℕ × EntryView). e.1)) c.in_ok-entry.ensures.value in
    let by_entry = lookup-by_entry (nat_eq c.args.id) c.self.inside.cache.entries in
    rw (← c.self.view_is) (found ∙ sym by_entry)
