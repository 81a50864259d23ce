use Rattle.std.proofs.Common.{◌≡◌, List, ◌∷◌, None}
use Rattle.sqlite.specs.State.{HasCleanDisk}
use Rattle.reg_core.specs.Stored.{Stored}
use Rattle.reg_store.specs.NextLines.{store_of, failure_in, HasYielded}
use Rattle.reg_store.specs.Listings.{Fields}
use Rattle.reg_store.specs.Spells.{SpellsWhileOpen}
use Rattle.reg_store.specs.Stores.{state_of}
use Rattle.reg_report.specs.Csv.{csv_text, header}
use Rattle.reg_report.specs.Buffering.{Puts, output_of}
use Rattle.reg_report.proofs.KeepingLemmas.{Keeps}
use Rattle.reg_report.proofs.lines.put_lines.Given as goal

abbrev pub invariant-loop : goal.invariant-loop
invariant-loop g l = record {
  same_reference : l.lines.store.ghost_name ≡ l.initial.lines.store.ghost_name;
  going : failure_in l.lines ≡ None;
  keeps : Keeps (store_of l.initial.lines) (store_of l.lines);
  written : HasCleanDisk (state_of (store_of l.lines)) → (was : Stored) → SpellsWhileOpen (state_of (store_of l.initial.lines)) was
      → (done : List Fields) × HasYielded l.lines l.fn.kind was.registry done
      × Puts (output_of g.W.Write.contents l.fn.writer l.fn.buffer) (output_of g.W.Write.contents l.writer l.buffer) (csv_text (header l.fn.kind ∷ done));
}
