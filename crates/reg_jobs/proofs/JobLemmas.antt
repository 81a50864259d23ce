-- Sessions over what was opened, and its listings and audits.
use Rattle.std.proofs.Common.{ℕ, List, refl, sym, ap, subst}
use Rattle.std.specs.Prelude.{IsTrue, Option, Some}
use Rattle.sqlite.specs.Held.{Held, state}
use Rattle.sqlite.specs.State.{State, HasCleanDisk}
use Rattle.sqlite_trees.specs.declared.store.Store.{Ghosts}
use Rattle.reg_core.specs.Stored.{Stored, new_stored}
use Rattle.reg_http.specs.declared.serving.Ended.{Ended}
use Rattle.reg_service.specs.declared.service.Service.{Service}
use Rattle.reg_jobs.specs.declared.opening.Opened.{Opened}
use Rattle.reg_jobs.specs.declared.opening.Opened.TheVariants.{Nothing, Texts, Failed, Fresh, Database}
use Rattle.reg_store.specs.declared.error.StoreError.{StoreError}
use Rattle.reg_store.specs.declared.error.StoreError.TheVariants.{Memory, Disk, NotARegistry, OldLayout, NewerLayout}
use Rattle.reg_store.specs.Failures.{IsFaultBy, IsFaultOver, is_fault}
use Rattle.reg_store.specs.Opening.{OpensOver}
use Rattle.reg_store.specs.Spells.{IsOpenOver, SpellsWhileOpen}
use Rattle.reg_store.specs.Stores.{StillSpells, state_of}
use Rattle.reg_store.specs.declared.store.Store.{Store}
use Rattle.reg_cli.specs.declared.task.ListingKind.{ListingKind}
use Rattle.reg_jobs.specs.declared.listings.ListOutcome.{ListOutcome}
use Rattle.reg_jobs.specs.declared.listings.ListOutcome.TheVariants.{Whole, Unread, NotWritten, OutOfMemory}
use Rattle.reg_jobs.specs.declared.auditing.AuditOutcome.{AuditOutcome}
use Rattle.reg_jobs.specs.Auditing.{AuditsAs}
use Rattle.reg_jobs.specs.Listings.{IfUnread, ListsAs, listing_of}
use Rattle.reg_jobs.specs.Databases.{RunsOnStore}
use Rattle.reg_jobs.specs.Jobs.{AuditsOver, SessionStartsFrom, OpensRegistry, ListsOver, OpenedDatabaseSatisfies, BeginsOver, RunsOver}

-- the stored state over which a service begins
begins_over : {S : Type 0} (g : Ghosts S) (opened : Opened S) (begun : State) → OpensRegistry g opened begun → BeginsOver g opened begun
begins_over g Nothing begun has = absurd has
begins_over g (Texts texts) begun has = absurd has
begins_over g (Failed error) begun has = absurd has
begins_over g (Fresh old) begun has = record { was = new_stored; begins = (has.empty, refl); is_open = has.spells }
begins_over g (Database old) begun has = record { was = has.stored; begins = has.spelled; is_open = has.spells }

-- a service over the registry of what was opened
pub RunsOver-has : {S : Type 0} (g : Ghosts S) (opened : Opened S) (store : Store S g) (back : Held S) (Served : Service S g → Service S g → Type 0)
    → (HasCleanDisk (state g back) → OpensRegistry g opened (state_of store)) → RunsOnStore store back Served → RunsOver g opened (Some back) Served
RunsOver-has {S} g opened store back Served has s = record {
  before = s.before;
  after = s.after;
  given = ap Some s.ends;
  begins = λ clean.
      let still : HasCleanDisk (state g back) = subst (λ (held : Held S). HasCleanDisk (state g held)) (sym s.ends) clean in
      subst (λ (at : Store S g). BeginsOver g opened (state_of at)) (sym s.begins) (begins_over g opened (state_of store) (has still));
  served = s.served;
}

-- an error whose cause is memory or the disk
pub is_fault-by : (old new : State) (error : StoreError) → IsFaultBy old new error → IsTrue (is_fault error)
is_fault-by old new Memory by = refl
is_fault-by old new Disk by = refl
is_fault-by old new NotARegistry by = absurd by
is_fault-by old new (OldLayout number) by = absurd by
is_fault-by old new (NewerLayout number) by = absurd by

-- over tables that spell a registry, only memory and the disk can fail
IfUnread-fault : (listed : ListOutcome) (begun new : State) (was : Stored)
    → IfUnread listed (IsFaultOver begun new) → SpellsWhileOpen begun was → IfUnread listed (λ error. IsTrue (is_fault error))
IfUnread-fault Whole begun new was fault spells = tt
IfUnread-fault (Unread error) begun new was fault spells = is_fault-by begun new error (fault was spells)
IfUnread-fault NotWritten begun new was fault spells = tt
IfUnread-fault OutOfMemory begun new was fault spells = tt

-- a consequence of what is true of the database that was opened
pub OpenedDatabaseSatisfies-map : {S : Type 0} (g : Ghosts S) (opened : Opened S) (P Q : State → Type 0) → ((old : State) → P old → Q old) → OpenedDatabaseSatisfies g opened P → OpenedDatabaseSatisfies g opened Q
OpenedDatabaseSatisfies-map g Nothing P Q follows over = over
OpenedDatabaseSatisfies-map g (Texts texts) P Q follows over = over
OpenedDatabaseSatisfies-map g (Failed error) P Q follows over = over
OpenedDatabaseSatisfies-map g (Fresh old) P Q follows over = over
OpenedDatabaseSatisfies-map g (Database old) P Q follows over = follows (state g old) over

-- a listing of the registry of a database
pub ListsOver-found : (old begun new : State) (kind : ListingKind) (writer writer' : Option (List ℕ)) (listed : ListOutcome)
    → OpensOver old begun → ((was : Stored) → SpellsWhileOpen begun was → ListsAs (listing_of kind) was.registry writer writer' listed)
    → IfUnread listed (IsFaultOver begun new)
    → StillSpells begun new → ListsOver old kind writer writer' listed new
ListsOver-found old begun new kind writer writer' listed has lists fault same = record {
  was = has.stored;
  begins = has.spelled;
  lists = lists has.stored (λ _. has.spells);
  fault = IfUnread-fault listed begun new has.stored fault (λ _. has.spells);
  spells = same has.stored (λ _. has.spells);
}

-- an audit of the stored state of a database
pub AuditsOver-found : (old begun new : State) (writer writer' : Option (List ℕ)) (audited : AuditOutcome)
    → OpensOver old begun → ((was : Stored) → SpellsWhileOpen begun was → AuditsAs was writer writer' audited)
    → StillSpells begun new → AuditsOver old writer writer' audited new
AuditsOver-found old begun new writer writer' audited has audits same = record {
  was = has.stored;
  begins = has.spelled;
  audits = audits has.stored (λ _. has.spells);
  spells = same has.stored (λ _. has.spells);
}
