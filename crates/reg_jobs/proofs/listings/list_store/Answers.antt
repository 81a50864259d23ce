use Rattle.std.proofs.Common.{sym, subst}
use Rattle.sqlite.specs.Held.{state}
use Rattle.sqlite.specs.State.{HasCleanDisk}
use Rattle.reg_store.specs.Failures.{IsFaultOver}
use Rattle.reg_store.specs.Spells.{SpellsWhileOpen}
use Rattle.reg_store.specs.Stores.{state_of}
use Rattle.reg_jobs.specs.Listings.{IfUnread, ListsAs}
use Rattle.reg_jobs.proofs.ListingLemmas.{ListsAs-printed, ListsAs-flushed, IfUnread-flushed}
use Rattle.reg_jobs.proofs.listings.list_store.Goals as goal

pub returns-clause-clean : goal.returns-clause-clean
returns-clause-clean g c clean = c.list_in_pieces-printed.ensures.lists.frame.clean (subst (λ held. HasCleanDisk (state g.S.Store held)) c.into_connection.ensures.same clean)

pub returns-clause-lists : goal.returns-clause-lists
returns-clause-lists g c clean was spells =
    let contents = g.W.Write.contents in
    let still = subst (λ held. HasCleanDisk (state g.S.Store held)) c.into_connection.ensures.same clean in
    let it = c.list_in_pieces-printed.ensures.lists in
    let printed = c.list_in_pieces-printed.result in
    let old = contents c.args.writer.now in
    let mid = contents c.list_in_pieces-printed.new.writer in
    ListsAs-flushed c.args.kind was.registry old mid (contents c.flush-listed.new.writer) c.listed_as.result c.flush-listed.result c.flush-listed.ensures.bytes c.flush-listed.ensures.outcome
    (subst (ListsAs c.args.kind was.registry old mid) (sym c.listed_as.ensures) (ListsAs-printed c.args.kind was.registry old mid printed (it.written still was spells)))

pub returns-clause-fault : goal.returns-clause-fault
returns-clause-fault g c clean unfailed =
    let back = c.into_connection.ensures.same in
    let still = subst (λ held. HasCleanDisk (state g.S.Store held)) back clean in
    subst (λ held. IfUnread c.flush-listed.result (IsFaultOver (state_of c.args.store) (state g.S.Store held))) (sym back)
    (IfUnread-flushed _ c.list_in_pieces-printed.result c.listed_as.result c.flush-listed.result c.listed_as.ensures c.flush-listed.ensures.outcome (c.list_in_pieces-printed.ensures.lists.fault still unfailed))

pub returns-clause-same : goal.returns-clause-same
returns-clause-same g c clean was spells =
    let back = c.into_connection.ensures.same in
    let still = subst (λ held. HasCleanDisk (state g.S.Store held)) back clean in
    subst (λ held. SpellsWhileOpen (state g.S.Store held) was) (sym back) (c.list_in_pieces-printed.ensures.lists.same still was spells)
