use Rattle.std.proofs.Common.{refl}
use Rattle.sqlite.proofs.Callers.{memory_is_clean}
use Rattle.reg_core.specs.Stored.{new_stored}
use Rattle.reg_service.proofs.JoinedExchanges.{serves_none}
use Rattle.reg_http.specs.declared.serving.Ended.TheVariants.{Memory}
use Rattle.reg_http.proofs.EndLemmas.{Session-unread}
use Rattle.reg_jobs.proofs.job.run_in_memory.Goals as goal

pub returns-in_default : goal.returns-in_default
returns-in_default g c =
    record { now = new_stored; ended = Memory; session = Session-unread _ (g.R.Read.remaining c.args.reader.now) (g.W.Write.contents c.args.writer.now) (serves_none new_stored); outcome_is = refl }

pub returns-in_default-create : goal.returns-in_default-create
returns-in_default-create g c =
    record { now = new_stored; ended = Memory; session = Session-unread _ (g.R.Read.remaining c.args.reader.now) (g.W.Write.contents c.args.writer.now) (serves_none new_stored); outcome_is = refl }

pub returns : goal.returns
returns g c =
    let s = c.serve.ensures.session in
    let over = s.processes.serves.durably (memory_is_clean c.serve.new.service.store.db.idle.conn) new_stored (rw c.new-service.ensures (λ _. c.in-Ok-create.ensures.done (memory_is_clean c.in-Ok-create.store.db.idle.conn))) in
    record {
      now = over.stored;
      ended = c.serve.result;
      session = record {
        input = s.input;
        reads = s.reads;
        answered = s.answered;
        rest = s.rest;
        out = s.out;
        processes = record { leads = s.processes.leads; rejected = s.processes.rejected; serves = over.holds.serves; writes = s.processes.writes };
        ends = s.ends;
      };
      outcome_is = refl;
    }
