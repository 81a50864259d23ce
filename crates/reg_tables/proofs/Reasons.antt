-- The cause of a fault of the store between two states.
use Rattle.std.proofs.Common.{arith, ◌≡◌, ◌⊎◌, ◌≤◌, inl, inr, false, refl}
use Rattle.reg_tables.proofs.Kit.{IsTrue, both_ways, cases_Bool, MoreFaults, StoreError, OutOfMemory, Io, Corrupt, Full, Broken, Unstorable, State, HasCause}
use Rattle.reg_tables.specs.FailedCalls.{HasDiskFault, HasReason}

-- the cause in the store, or a value that is too large
pub reason_or_large : (old new : State) {Large : Type 0} (cause : StoreError) → HasCause old new Large cause → HasReason old new cause ⊎ ((cause ≡ Unstorable) × Large)
reason_or_large old new OutOfMemory h = inl tt
reason_or_large old new Io h = inl (inr h)
reason_or_large old new Corrupt h = inl (inr h)
reason_or_large old new Full h = inl (inr h)
reason_or_large old new Broken h = inl (inl h)
reason_or_large old new Unstorable h = inr (refl, h)

-- if no value is too large
pub reason_of : (old new : State) (cause : StoreError) → HasCause old new ⊥ cause → HasReason old new cause
reason_of old new cause h = elim (reason_or_large old new cause h) [ inl reason ↦ reason | inr large ↦ absurd large.1 ]

-- a closed connection is a sufficient cause
pub reason_if_shut : (old new : State) (cause : StoreError) → old.is_open ≡ false → HasReason old new cause
reason_if_shut old new OutOfMemory shut = tt
reason_if_shut old new Io shut = inl shut
reason_if_shut old new Corrupt shut = inl shut
reason_if_shut old new Full shut = inl shut
reason_if_shut old new Broken shut = inl shut
reason_if_shut old new Unstorable shut = inl shut

-- an implication between disk faults gives one between causes
pub reason_by : (a b c d : State) → (HasDiskFault a b → HasDiskFault c d) → (cause : StoreError) → HasReason a b cause → HasReason c d cause
reason_by a b c d f OutOfMemory h = tt
reason_by a b c d f Io h = f h
reason_by a b c d f Corrupt h = f h
reason_by a b c d f Full h = f h
reason_by a b c d f Broken h = f h
reason_by a b c d f Unstorable h = f h

-- a fault is also one for later states
pub fault_until : (old mid new : State) → mid.faults ≤ new.faults → HasDiskFault old mid → HasDiskFault old new
fault_until old mid new up (inl shut) = inl shut
fault_until old mid new up (inr more) = inr (omega arith)

-- a disk fault of a later call is also one since an earlier state
pub fault_since : (a b c : State) → (IsTrue a.is_open → IsTrue b.is_open ⊎ MoreFaults a.faults b.faults) → a.faults ≤ b.faults → b.faults ≤ c.faults → HasDiskFault b c → HasDiskFault a c
fault_since a b c closes up on (inr more) = inr (omega arith)
fault_since a b c closes up on (inl shut) = elim (cases_Bool a.is_open) [
  | inl was_open ↦ elim (closes was_open) [ inl is_open ↦ absurd (both_ways _ shut is_open) | inr more ↦ inr (omega arith) ]
  | inr was_shut ↦ inl was_shut
]
