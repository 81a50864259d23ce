-- What a committed or failed transaction leaves.
use Rattle.std.proofs.Common.{◌≤◌, arith, ◌≡◌, ◌⊎◌, inl, inr, ℕ, zero, suc, lit≤, List, [], Some, None, option_map, true, Ok, Err, Result, refl, sym, ap, subst, ◌∙◌}
use Rattle.std.specs.Prelude.{IfErr, OnOk, OnErr, IsTrue, is_ok}
use Rattle.std.specs.FinMap.{get-empty}
use Rattle.sqlite.specs.Held.{Held, state}
use Rattle.sqlite_trees.specs.declared.store.Store.{Ghosts}
use Rattle.sqlite.specs.Tree.{Trees}
use Rattle.sqlite.specs.Schema.{Schema}
use Rattle.sqlite.specs.Effect.{Database}
use Rattle.sqlite.specs.Steps.{FailsToCommit}
use Rattle.sqlite.specs.declared.error.Error.{Error}
use Rattle.sqlite_disk.specs.Disk.{MoreFaults}
use Rattle.sqlite_trees.specs.declared.error.StoreError as trees
use Rattle.sqlite_trees.specs.declared.error.StoreError.TheVariants as stored
use Rattle.sqlite.specs.State.{State, KeepsCommit, Survives, HasCleanDisk, store_error}
use Rattle.std.specs.Ordering.{nat_cmp}
use Rattle.std.proofs.lemmas.List.Elements.{All-nil}
use Rattle.avro_nodes.specs.Nodes.{NodeView}
use Rattle.avro_nodes.specs.Identity.{identity}
use Rattle.avro_schema.specs.Texts.{IsSchema}
use Rattle.reg_core.specs.Registry.{new_registry, row_cmp, schema_at}
use Rattle.reg_tables.specs.Layout.{layout_one, layout_two}
use Rattle.reg_tables.specs.Contents.{text_cmp, version_cmp, TextMap, HoldsLayoutOne, Contents, HoldsContents}
use Rattle.reg_tables.specs.Changes.{new_contents_two, no_contents, new_contents_one}
use Rattle.reg_tables.proofs.Transactions.{keeps_if_unchanged, keeps_if_undone}
use Rattle.reg_core.specs.KeptReplies.{nothing_kept}
use Rattle.reg_core.specs.Stored.{Stored, new_stored}
use Rattle.reg_store.specs.declared.error.StoreError.{StoreError}
use Rattle.reg_store.specs.declared.error.StoreError.TheVariants.{Memory, Disk, NotARegistry, OldLayout, NewerLayout}
use Rattle.reg_store.specs.Failures.{failure_of, IsFaultBy}
use Rattle.reg_store.specs.Stores.{KeepsCrashStates, RecoversLastCommit}
use Rattle.reg_store.specs.Spells.{stored_version, IsSpelled, SpellsLayoutOne, SpellsIn, Spells, RecoversToIn, RecoversTo, IsOpenOver, SpellsWhileOpen}
use Rattle.reg_store.specs.declared.layout.Layout.{Layout}
use Rattle.reg_store.specs.declared.layout.Layout.TheVariants.{One, Two}
use Rattle.reg_store.specs.Inside.Applying.{SpellsNew, IsOpenOverNew, RecoversToNew}
use Rattle.reg_store.proofs.Evidence.{no_evidence}

pub keeps_if_failed : (a b : State) (e : Error) → FailsToCommit a b e → KeepsCommit a b
keeps_if_failed a b e (inl h) = keeps_if_undone a b h.3
keeps_if_failed a b e (inr h) = keeps_if_unchanged a b h.2

pub on_err : {X : Type 0} {P : Error → Type 0} {Q : Type 0} (r : Result X Error) → ((e : Error) → P e → Q) → IfErr r P → OnErr r Q
on_err (Ok x) f h = tt
on_err (Err e) f h = f e h

pub keeps_begin : {S : Type 0} (g : Ghosts S) (conn begun : Held S) (end : State) → begun ≡ record conn { in_transaction = true } → KeepsCommit (state g begun) end → KeepsCommit (state g conn) end
keeps_begin g conn begun end is keeps = let it = subst (λ h. KeepsCommit (state g h) end) is keeps in record { was_open = it.was_open; committed = it.committed }

pub on_err_each : {X E P : Type 0} (r : Result X E) → P → OnErr r P
on_err_each (Ok x) h = tt
on_err_each (Err e) h = h

pub left_if_held : (schema : Schema) (db : Trees) (now : Database) (contents : Contents) → db ≡ now.trees → HoldsContents schema now contents → HoldsContents schema (record { schema = schema; trees = db }) contents
left_if_held schema db now contents is h =
    subst (λ d. HoldsContents schema (record { schema = schema; trees = d }) contents) (sym is) (subst (λ x. HoldsContents schema (record { schema = x; trees = now.trees }) contents) h.declared h)

pub left_if_spelled : {IsAllowed : Schema → Type 0} {Spelled : Contents → Stored → Type 0} (db : Trees) (now : Database) (was : Stored) → db ≡ now.trees → SpellsIn IsAllowed Spelled now was → RecoversToIn IsAllowed Spelled db was
left_if_spelled {IsAllowed} {Spelled} db now was is s = record { schema = now.schema; spells = subst (λ d. SpellsIn IsAllowed Spelled (record { schema = now.schema; trees = d }) was) (sym is) s }

none_at : (id : ℕ) → schema_at [] id ≡ None
none_at zero = refl
none_at (suc n) = refl

none_at_any_id : (id : ℕ) (nodes : List NodeView) → schema_at [] id ≡ Some nodes → ⊥
none_at_any_id id nodes there = let none = sym (none_at id) ∙ there in absurd (cc)

-- tables without rows, except in `meta`, spell a new registry
new_is_spelled : (meta : TextMap (List ℕ)) → IsSpelled (record no_contents { meta = meta }) new_registry nothing_kept
new_is_spelled meta = record {
  registry = record {
    schemas = All-nil IsSchema;
    few = lit≤ tt;
    apart = λ i j one other here there same. absurd (none_at_any_id i one here);
    rows = λ key version there. absurd (let none = sym (get-empty row_cmp key) ∙ there in cc);
  };
  texts = λ id. get-empty nat_cmp id ∙ sym (ap (option_map identity) (none_at id));
  utf8 = λ id nodes there. absurd (none_at_any_id id nodes there);
  versions = λ key. get-empty version_cmp key ∙ sym (ap (option_map stored_version) (get-empty row_cmp key));
  registered = λ key version there. absurd (let none = sym (get-empty row_cmp key) ∙ there in cc);
  levels = λ subject. get-empty text_cmp subject;
  subjects = λ subject level some. absurd (cc);
  kept = λ key. get-empty text_cmp key;
  keys = λ key entry some. absurd (cc);
}

pub spells_new : (now : Database) → HoldsContents layout_two now new_contents_two → Spells now new_stored
spells_new now h = record {
  schema = layout_two;
  known = inl refl;
  contents = new_contents_two;
  holds = h;
  spelled = record {
    base = new_is_spelled new_contents_two.meta;
    meta = refl;
    modes = λ subject. get-empty text_cmp subject;
    owners = λ subject mode some. absurd (cc);
    evidence = no_evidence new_contents_two refl refl;
  };
}

pub spells_new_one : (now : Database) → HoldsLayoutOne now new_contents_one → SpellsLayoutOne now new_stored
spells_new_one now h = record {
  schema = layout_one;
  known = inl refl;
  contents = new_contents_one;
  holds = h;
  spelled = record { base = new_is_spelled new_contents_one.meta; meta = refl; modes = record { global = refl; own = λ subject. refl }; evidence = refl };
}

pub is_open_over_new : (layout : Layout) (s : State) → IsTrue s.is_open → s.committed ≡ s.now → SpellsNew layout s.now → IsOpenOverNew layout s
is_open_over_new One s is_open settled spells = record { is_open = is_open; settled = settled; spells = spells }
is_open_over_new Two s is_open settled spells = record { is_open = is_open; settled = settled; spells = spells }

pub leaves_new : (layout : Layout) (db : Trees) (now : Database) → db ≡ now.trees → SpellsNew layout now → RecoversToNew layout db
leaves_new One db now is spells = left_if_spelled db now new_stored is spells
leaves_new Two db now is spells = left_if_spelled db now new_stored is spells

-- what a crash leaves of a connection over a new registry
pub recovers_new : (layout : Layout) (s : State) → RecoversLastCommit s → IsOpenOverNew layout s → (db : Trees) → s.may_leave db → RecoversToNew layout db
recovers_new One s only over db it = left_if_spelled db s.now new_stored (only over.is_open db it ∙ ap (λ (d : Database). d.trees) over.settled) over.spells
recovers_new Two s only over db it = left_if_spelled db s.now new_stored (only over.is_open db it ∙ ap (λ (d : Database). d.trees) over.settled) over.spells

-- a connection that keeps and shows the last commit spells what it spelled
pub still_spells : (old new : State) (was : Stored) → KeepsCommit old new → (IsTrue new.is_open → new.now ≡ new.committed) → SpellsWhileOpen old was → SpellsWhileOpen new was
still_spells old new was keeps settled s is_open =
    let before = s (keeps.was_open is_open) in
    let same : new.now ≡ old.now = settled is_open ∙ keeps.committed is_open ∙ before.settled in
    record { is_open = is_open; settled = sym (settled is_open); spells = subst (λ d. Spells d was) (sym same) before.spells }

pub leaves_if_open : (s : State) (was : Stored) → RecoversLastCommit s → IsOpenOver s was → (db : Trees) → s.may_leave db → RecoversTo db was
leaves_if_open s was only over db it = left_if_spelled db s.now was (only over.is_open db it ∙ ap (λ (d : Database). d.trees) over.settled) over.spells

pub on_err_same : {X Y E F P Q : Type 0} (r : Result X E) (s : Result Y F) → is_ok s ≡ is_ok r → (P → Q) → OnErr r P → OnErr s Q
on_err_same (Ok x) (Ok y) same f h = tt
on_err_same (Ok x) (Err e) same f h = absurd (cc)
on_err_same (Err e) (Ok y) same f h = tt
on_err_same (Err e) (Err d) same f h = f h

pub on_ok_same : {X Y E F P Q : Type 0} (r : Result X E) (s : Result Y F) → is_ok s ≡ is_ok r → (P → Q) → OnOk r P → OnOk s Q
on_ok_same (Ok x) (Ok y) same f h = f h
on_ok_same (Ok x) (Err e) same f h = tt
on_ok_same (Err e) (Ok y) same f h = absurd (cc)
on_ok_same (Err e) (Err d) same f h = tt

-- ---- errors that aren't the disk's

pub leaves_before : (old new : State) (e : StoreError) → ((db : Trees) → new.may_leave db → old.may_leave db) → KeepsCrashStates old new e
leaves_before old new Memory h = inl h
leaves_before old new Disk h = tt
leaves_before old new NotARegistry h = h
leaves_before old new (OldLayout number) h = h
leaves_before old new (NewerLayout number) h = h

pub before_if_undone : (old new : State) (e : StoreError) → Survives old new (λ _. ⊥) → HasCleanDisk new → KeepsCrashStates old new e
before_if_undone old new e s clean = leaves_before old new e (λ db it. elim (s.crash clean db it) [ inl was ↦ was | inr none ↦ absurd none ])

-- After a failed commit, a crash leaves only the last commit if the connection is still open. Otherwise a disk fault closed it.
module _ (first last end : State) (keeps : KeepsCommit first end) (settled : (db : Trees) → IsTrue end.is_open → end.may_leave db → db ≡ end.committed.trees) (stays : IsTrue first.is_open → first.may_leave first.committed.trees)
    (closes : IsTrue end.is_open ⊎ MoreFaults first.faults end.faults) where
  open_before : IsTrue end.is_open → (db : Trees) → end.may_leave db → first.may_leave db
  open_before is_open db it = subst first.may_leave (sym (settled db is_open it ∙ ap (λ (d : Database). d.trees) (keeps.committed is_open))) (stays (keeps.was_open is_open))

  pub before_if_failed : (e : Error) → FailsToCommit last end e → KeepsCrashStates first end (failure_of e)
  before_if_failed e (inl fails) = subst (λ x. KeepsCrashStates first end (failure_of x)) (sym fails.1) (go fails.0)
    where
      go : (cause : trees.StoreError) → KeepsCrashStates first end (failure_of (store_error cause))
      go stored.OutOfMemory = elim closes [ inl is_open ↦ inl (open_before is_open) | inr more ↦ inr more ]
      go stored.Io = tt
      go stored.Corrupt = tt
      go stored.Full = tt
      go stored.Broken = tt
      go stored.Unstorable = tt
  before_if_failed e (inr late) = subst (λ x. KeepsCrashStates first end (failure_of x)) (sym late.0) (open_before late.2.0.is_open)

pub before_then : (a b c : State) (e : StoreError) → Survives a b (λ _. ⊥) → HasCleanDisk b → b.faults ≤ c.faults → KeepsCrashStates b c e → KeepsCrashStates a c e
before_then a b c Memory s clean up (inl same) = inl (λ db it. elim (s.crash clean db (same db it)) [ inl was ↦ was | inr none ↦ absurd none ])
before_then a b c Memory s clean up (inr more) = let counts = s.counts in inr (omega (arith, counts, more))
before_then a b c Disk s clean up h = tt
before_then a b c NotARegistry s clean up h = λ db it. elim (s.crash clean db (h db it)) [ inl was ↦ was | inr none ↦ absurd none ]
before_then a b c (OldLayout number) s clean up h = λ db it. elim (s.crash clean db (h db it)) [ inl was ↦ was | inr none ↦ absurd none ]
before_then a b c (NewerLayout number) s clean up h = λ db it. elim (s.crash clean db (h db it)) [ inl was ↦ was | inr none ↦ absurd none ]

-- a fault that closed the connection came before
pub before_if_faulted : (old mid new : State) (e : StoreError) → MoreFaults old.faults mid.faults → mid.faults ≤ new.faults → IsFaultBy mid new e → KeepsCrashStates old new e
before_if_faulted old mid new Memory more up h = inr (omega (arith, more, up))
before_if_faulted old mid new Disk more up h = tt
before_if_faulted old mid new NotARegistry more up h = absurd h
before_if_faulted old mid new (OldLayout number) more up h = absurd h
before_if_faulted old mid new (NewerLayout number) more up h = absurd h
