-- A server that accepted no connection.
use Rattle.std.proofs.Common.{◌≡◌, ℕ, List, [], refl, arith}
use Rattle.std.specs.Prelude.{Option}
use Rattle.std.proofs.lemmas.List.Elements.{All-nil}
use Rattle.sqlite_trees.specs.declared.store.Store.{Ghosts}
use Rattle.reg_service.specs.declared.service.Service.{Service}
use Rattle.reg_service.specs.Crashes.{RecoversSpelled}
use Rattle.reg_service.specs.Services.{state_in}
use Rattle.reg_service.proofs.DurableLists.{serves_each}
use Rattle.reg_jobs.specs.Listening.{IsEnd, ServesConnections}
use Rattle.reg_jobs.proofs.AdvanceLemmas.{Adds-none}

pub ServesConnections-none : {I O S : Type 0} {g : Ghosts S} (remaining : I → Option (List ℕ)) (contents : O → Option (List ℕ)) (most : ℕ) (accepted closed : Option (List (I × O))) (s : Service S g)
    → RecoversSpelled (state_in s) → ServesConnections remaining contents most accepted accepted closed closed s s
ServesConnections-none remaining contents most accepted closed s spelled = record {
  all = [];
  serves = serves_each s s [] spelled refl;
  streams = [];
  accepts = Adds-none accepted;
  within = omega arith;
  others = λ n le. refl;
  ends = [];
  closes = Adds-none closed;
  whole = refl;
  once = tt;
  visits = All-nil (IsEnd remaining contents [] []);
}
