-- Several reads in sequence.
use Rattle.std.proofs.Common.{◌≡◌, IsTrue, sym, ◌∙◌}
use Rattle.sqlite.specs.State.{State}
use Rattle.reg_tables.specs.Reads.{OnlyReads}
use Rattle.reg_tables.proofs.Transactions.{keeps_then}

pub reads_then : (a b c : State) → OnlyReads a b → OnlyReads b c → OnlyReads a c
reads_then a b c p q = record { commit_stays = keeps_then a b c p.commit_stays q.commit_stays; settled = q.settled }

module _ (old mid : State) (r : OnlyReads old mid) (settled : IsTrue old.is_open → old.now ≡ old.committed) where
  -- a later read shows the same
  pub same_now : IsTrue mid.is_open → mid.now ≡ old.now
  same_now is_open = r.settled is_open ∙ r.commit_stays.committed is_open ∙ sym (settled (r.commit_stays.was_open is_open))
