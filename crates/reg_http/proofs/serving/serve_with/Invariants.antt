use Rattle.std.proofs.Common.{ℕ, List}
use Rattle.std.specs.Io.KnownBytes.{Appends, Consumes}
use Rattle.reg_service.specs.Deliveries.{Exchange}
use Rattle.reg_service.specs.Processing.{ProcessesEach}
use Rattle.reg_http.specs.Conversations.{IsSoFar}
use Rattle.reg_http.proofs.serving.serve_with.Given as goal

abbrev pub invariant-loop : goal.invariant-loop
invariant-loop g l = record {
  xs : List Exchange;
  input : List ℕ;
  sent : List ℕ;
  reads : Consumes (g.R.Read.remaining l.initial.reader) (g.R.Read.remaining l.reader) input;
  writes : Appends (g.W.Write.contents l.initial.writer) (g.W.Write.contents l.writer) sent;
  each : ProcessesEach l.initial.service l.service xs;
  so_far : IsSoFar xs input sent l.conversation;
}
