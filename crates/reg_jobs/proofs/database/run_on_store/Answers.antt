use Rattle.std.proofs.Common.{ap, ◌∙◌, subst}
use Rattle.sqlite.specs.Held.{Held, state}
use Rattle.sqlite.specs.State.{HasCleanDisk}
use Rattle.reg_store.specs.Stores.{connection_of, state_of}
use Rattle.reg_store.specs.declared.store.Store.{Store}
use Rattle.reg_service.proofs.DurableLists.{clean_each}
use Rattle.reg_http.specs.Output.{exchanges}
use Rattle.reg_jobs.proofs.database.run_on_store.Goals as goal

pub returns-clause-clean : goal.returns-clause-clean
returns-clause-clean g c clean =
    let before = c.new-service.result in
    let after = c.serve-ended.new.service in
    let s = c.serve-ended.ensures.session in
    let ends = c.into_connection.ensures.same ∙ ap connection_of c.into_store.ensures in
    let still = subst (λ (held : Held g.row.S.Denot). HasCleanDisk (state g.S.Store held)) ends clean in
    subst (λ (at : Store g.row.S.Denot g.S.Store). HasCleanDisk (state_of at)) c.new-service.ensures (clean_each before after (exchanges s.answered) s.processes.serves.each still)

pub returns-clause-session : goal.returns-clause-session
returns-clause-session g c = record {
  before = c.new-service.result;
  after = c.serve-ended.new.service;
  begins = c.new-service.ensures;
  ends = c.into_connection.ensures.same ∙ ap connection_of c.into_store.ensures;
  served = c.serve-ended.ensures.session;
}
