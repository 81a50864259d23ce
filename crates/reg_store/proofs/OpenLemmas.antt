-- What `open` leaves if the tables are valid.
use Rattle.std.proofs.Common.{◌≡◌, ◌≢◌, inl, inr, ℕ, None, IsTrue, Ok, Err, Result, refl, sym, ap, subst, ◌∙◌, arith}
use Rattle.std.specs.Prelude.{IfOk, IfErr, OnOk}
use Rattle.sqlite.specs.Effect.{Database, IsDatabase}
use Rattle.sqlite.specs.Held.{Held, state}
use Rattle.sqlite.specs.Tree.{Trees}
use Rattle.sqlite.specs.State.{State, HasCleanDisk, Survives, KeepsCommit}
use Rattle.sqlite.proofs.StateLemmas.{survives_then}
use Rattle.sqlite_trees.specs.declared.store.Store.{Ghosts}
use Rattle.reg_core.specs.Stored.{Stored}
use Rattle.reg_tables.specs.Layout.{HasFiveTables, IsLayoutOne, empty_schema, layout_two_unindexed, layout_two_indexed_last, IsOpenable}
use Rattle.reg_tables.proofs.Statements.{one_has_five}
use Rattle.reg_tables.specs.Contents.{Contents, HoldsContents}
use Rattle.reg_tables.specs.Reads.{OnlyReads}
use Rattle.reg_store.specs.declared.error.StoreError.{StoreError}
use Rattle.reg_store.specs.declared.error.StoreError.TheVariants.{NotARegistry}
use Rattle.reg_store.specs.declared.layout.Layout.TheVariants.{One}
use Rattle.reg_store.specs.Failures.{IsFaultBy, HasDiskCause}
use Rattle.reg_store.specs.OpenFailures.{IsFaultOverLayoutOne, IsCheckFailure}
use Rattle.reg_store.specs.Opening.{HasMetaNumberOf, ReportsOther, OpensOver, LacksIndex, IsIndexed, CrashKeepsStored, HasVersionRows, FindsLayoutOne}
use Rattle.reg_store.specs.Spells.{IsSpelledLayoutTwo, Spells, SpellsLayoutOne, SpellsUnopened}
use Rattle.reg_store.specs.Stores.{RecoversLastCommit, KeepsConnection, IsCreateFailure}
use Rattle.reg_store.specs.Inside.TableChecks.{SpellsSome, BaseTablesPass, AllTablesPass}
use Rattle.reg_store.specs.Inside.Applying.{HoldsWithIndex}
use Rattle.reg_store.proofs.Committing.{left_if_spelled, leaves_before}
use Rattle.reg_store.proofs.Rereading.{same_now}
use Rattle.reg_store.proofs.LayoutTwoChecks.{spelled_if_base_passed, spelled_if_all_passed}

pub record SpellsBare (db : Database) (was : Stored) : Type 0 where
  pub contents : Contents
  pub holds : HoldsContents layout_two_unindexed db contents
  pub spelled : IsSpelledLayoutTwo contents was

pub spells_bare : (db : Database) (was : Stored) → db.schema ≡ layout_two_unindexed → SpellsUnopened db was → SpellsBare db was
spells_bare db was is s = record { contents = s.contents; holds = subst (λ x. HoldsContents x db s.contents) (sym s.holds.declared ∙ is) s.holds; spelled = s.spelled }

module _ (old mid : State) (reads : OnlyReads old mid) (settled : IsTrue old.is_open → old.now ≡ old.committed) (known : IsOpenable old.now.schema) (sound : IsDatabase old.now) (passed : AllTablesPass old.now) where
  -- the index exists, and nothing is changed
  pub opens_as_it_is : IsTrue mid.is_open → mid.now.schema ≢ layout_two_unindexed → OpensOver old mid
  opens_as_it_is is_open other =
      let it = spelled_if_all_passed old.now known sound passed in
      let same = same_now old mid reads settled is_open in
      let here : Spells old.now it.stored = elim it.spells.known [
        | inl is ↦ record { schema = it.spells.schema; known = is; contents = it.spells.contents; holds = it.spells.holds; spelled = it.spells.spelled }
        | inr bare ↦ absurd (other (ap (λ (d : Database). d.schema) same ∙ it.spells.holds.declared ∙ bare))
      ] in
      record {
        stored = it.stored;
        spelled = it.spells;
        spells = record { is_open = is_open; settled = sym (reads.settled is_open); spells = subst (λ (d : Database). Spells d it.stored) (sym same) here };
      }

  -- the index is added
  pub opens_with_index : (new : State) → mid.now.schema ≡ layout_two_unindexed → IsTrue mid.is_open → IsTrue new.is_open → new.committed ≡ new.now
      → ((contents : Contents) → HoldsContents layout_two_unindexed mid.now contents → HoldsContents layout_two_indexed_last new.now contents) → OpensOver old new
  opens_with_index new bare mid_open is_open committed made =
      let it = spelled_if_all_passed old.now known sound passed in
      let same = same_now old mid reads settled mid_open in
      let spells = spells_bare old.now it.stored (sym (ap (λ (d : Database). d.schema) same) ∙ bare) it.spells in
      record {
        stored = it.stored;
        spelled = it.spells;
        spells = record {
          is_open = is_open;
          settled = committed;
          spells = record {
            schema = layout_two_indexed_last;
            known = inr refl;
            contents = spells.contents;
            holds = made spells.contents (subst (λ (d : Database). HoldsContents layout_two_unindexed d spells.contents) (sym same) spells.holds);
            spelled = spells.spelled;
          };
        };
      }

  pub bare_tables : mid.now.schema ≡ layout_two_unindexed → IsTrue mid.is_open → LacksIndex old.now
  bare_tables bare mid_open =
      let it = spelled_if_all_passed old.now known sound passed in
      record { stored = it.stored; spelled = it.spells; bare = sym (ap (λ (d : Database). d.schema) (same_now old mid reads settled mid_open)) ∙ bare }

pub bare_contents : (db : Database) → LacksIndex db → (contents : Contents) × HoldsContents layout_two_unindexed db contents
bare_contents db it = let spells = spells_bare db it.stored it.bare it.spelled in (spells.contents, spells.holds)

module _ (old mid new : State) (reads : HasCleanDisk mid → OnlyReads old mid) (settled : IsTrue old.is_open → old.now ≡ old.committed) (bare : HasCleanDisk new → IsTrue mid.is_open → LacksIndex old.now) where
  pub index_survives : Survives old mid (λ _. ⊥) → Survives mid new (λ db. IsTrue mid.is_open × HoldsWithIndex mid.now db) → Survives old new (IsIndexed old.now)
  index_survives p q = survives_then old mid new (λ _. ⊥) (λ db. IsTrue mid.is_open × HoldsWithIndex mid.now db) (IsIndexed old.now) (λ _ db none. absurd none) made p q
    where
      made : HasCleanDisk new → (db : Trees) → IsTrue mid.is_open × HoldsWithIndex mid.now db → IsIndexed old.now db
      made clean db it =
          let early : HasCleanDisk mid = omega (arith, q.clean) in
          let there = bare clean it.0 in
          record { found = there; indexed = λ held holds. it.1 held (subst (λ (d : Database). HoldsContents layout_two_unindexed d held) (sym (same_now old mid (reads early) settled it.0)) holds) }

module _ (old new : State) (settled : IsTrue old.is_open → old.now ≡ old.committed) (only : (db : Trees) → IsTrue old.is_open → old.may_leave db → db ≡ old.committed.trees) (survives : Survives old new (IsIndexed old.now)) where
  pub loses_nothing : HasCleanDisk new → CrashKeepsStored old new
  loses_nothing clean is_open was spelled db it = elim (survives.crash clean db it) [
    | inl left ↦ left_if_spelled db old.now was (only db is_open left ∙ sym (ap (λ (d : Database). d.trees) (settled is_open))) spelled
    | inr made ↦
        let bare = spells_bare old.now was made.found.bare spelled in
        record { schema = layout_two_indexed_last; spells = record { schema = layout_two_indexed_last; known = inl (inr refl); contents = bare.contents; holds = made.indexed bare.contents bare.holds; spelled = bare.spelled } }
  ]

pub finds_one : (old new : State) (r : Result ℕ StoreError) → OnOk r (IsLayoutOne old.now.schema) → OnOk r (IsTrue old.is_open) → (IsTrue old.is_open → IsDatabase old.now) → IfOk r (λ count. HasFiveTables old.now.schema → BaseTablesPass One old.now × HasVersionRows old.now count)
    → IfOk r (FindsLayoutOne old.now)
finds_one old new (Ok count) known is_open sound passes =
    let both = passes (one_has_five old.now.schema known) in
    let it = spelled_if_base_passed old.now known (sound is_open) both.0 in
    record { stored = it.stored; spells = it.spells; counted = both.1 }
finds_one old new (Err e) known is_open sound passes = tt

-- ---- after a failed call

pub only_reads : (old new : State) → KeepsCommit old new → (IsTrue new.is_open → new.now ≡ new.committed) → OnlyReads old new
only_reads old new stays settled = record { commit_stays = stays; settled = settled }

-- a call that did nothing leaves everything
pub leaves_all : (s : State) (e : StoreError) → (IsTrue s.is_open → s.now ≡ s.committed) → RecoversLastCommit s → KeepsConnection s s e
leaves_all s e settled commit = record {
  shield = λ h. h;
  nothing = λ clean. only_reads s s (record { was_open = λ is_open. is_open; committed = λ is_open. refl }) settled;
  before = λ clean is_open. leaves_before s s e (λ db it. it);
  closes = λ clean is_open. inl is_open;
  settled = commit;
}

-- the limit on steps makes no difference
pub leaves_unlimited : {S : Type 0} (g : Ghosts S) (conn begun : Held S) → begun ≡ record conn { step_limit = None } → (new : State) (e : StoreError) → KeepsConnection (state g begun) new e → KeepsConnection (state g conn) new e
leaves_unlimited g conn begun is new e leaves =
    let it = subst (λ h. KeepsConnection (state g h) new e) is leaves in
    record {
      shield = it.shield;
      nothing = λ clean.
          (let reads = it.nothing clean in
          only_reads (state g conn) new (record { was_open = reads.commit_stays.was_open; committed = reads.commit_stays.committed }) reads.settled);
      before = it.before;
      closes = it.closes;
      settled = it.settled;
    }

-- `create` changes no database with tables
pub unmade_beside : {S : Type 0} (g : Ghosts S) (conn begun : Held S) → begun ≡ record conn { step_limit = None } → {RecoversToNew : Trees → Type 0} → (state g begun).now.schema ≢ empty_schema
    → (IsTrue (state g begun).is_open → (state g begun).now ≡ (state g begun).committed) → RecoversLastCommit (state g begun) → IsCreateFailure RecoversToNew (state g conn) (state g begun) NotARegistry
unmade_beside g conn begun is others settled commit = record {
  fault = λ clean none. absurd (others (ap (λ (h : Held _). h.schema) is ∙ none));
  leaves = leaves_unlimited g conn begun is (state g begun) NotARegistry (leaves_all (state g begun) NotARegistry settled commit);
  crash = λ clean db it. inl (subst (λ h. (state g h).may_leave db) is it);
}

-- the limit on steps makes no difference to the errors of `check_first`
pub unread_unlimited : {S X : Type 0} (g : Ghosts S) (conn begun : Held S) → begun ≡ record conn { step_limit = None } → (new : State) (r : Result X StoreError)
    → IfErr r (λ e. (IsTrue (state g begun).is_open → SpellsSome SpellsLayoutOne (state g begun).now) → IsFaultBy (state g begun) new e)
    → IfErr r (HasDiskCause (state g begun) new) → IfErr r (HasMetaNumberOf 1 (state g begun).now) → IfErr r (ReportsOther 1 (state g begun)) → IfErr r (IsCheckFailure (state g conn) new)
unread_unlimited g conn begun is new (Ok x) fault told refused other = tt
unread_unlimited g conn begun is new (Err e) fault told refused other =
    let first : IsFaultOverLayoutOne (state g begun) new e = λ was over. fault (λ is_open. record { stored = was; spells = over is_open }) in
    let it = subst (λ h. IsCheckFailure (state g h) new e) is (record { fault = first; disk_cause = told; meta_number = refused; other = other }) in
    record { fault = it.fault; disk_cause = it.disk_cause; meta_number = it.meta_number; other = it.other }
