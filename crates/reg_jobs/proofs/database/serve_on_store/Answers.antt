use Rattle.std.proofs.Common.{ap, ◌∙◌, subst, map}
use Rattle.sqlite.specs.Held.{Held, state}
use Rattle.sqlite.specs.State.{HasCleanDisk}
use Rattle.reg_store.specs.Stores.{connection_of, state_of}
use Rattle.reg_store.specs.declared.store.Store.{Store}
use Rattle.reg_service.proofs.DurableLists.{clean_each}
use Rattle.reg_jobs.specs.Listening.{Numbered}
use Rattle.reg_jobs.proofs.database.serve_on_store.Goals as goal

pub returns-clause-clean : goal.returns-clause-clean
returns-clause-clean g c clean =
    let before = c.new-service.result in
    let after = c.serve_network.new.service in
    let s = c.serve_network.ensures.sessions in
    let ends = c.into_connection.ensures.same ∙ ap connection_of c.into_store.ensures in
    let still = subst (λ (held : Held g.row.S.Denot). HasCleanDisk (state g.S.Store held)) ends clean in
    subst (λ (at : Store g.row.S.Denot g.S.Store). HasCleanDisk (state_of at)) c.new-service.ensures (clean_each before after (map (λ (x : Numbered). x.1) s.all) s.serves.each still)

pub returns-clause-sessions : goal.returns-clause-sessions
returns-clause-sessions g c = record {
  before = c.new-service.result;
  after = c.serve_network.new.service;
  begins = c.new-service.ensures;
  ends = c.into_connection.ensures.same ∙ ap connection_of c.into_store.ensures;
  served = c.serve_network.ensures.sessions;
}
