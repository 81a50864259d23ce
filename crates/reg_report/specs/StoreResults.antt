-- What the store returned while a listing was written.
use Rattle.std.specs.Prelude.{Result, Ok, Err}
use Rattle.reg_store.specs.declared.error.StoreError.{StoreError}
use Rattle.reg_report.specs.declared.error.ReportError.{ReportError}
use Rattle.reg_report.specs.declared.error.ReportError.TheVariants.{Store, OutOfMemory, Write}

-- this project's choice: the store's error, or `Ok` if it had none: then an allocation for the output or a write may have failed
abbrev pub store_result : {T : Type 0} → Result T ReportError → Result (Unit {0}) StoreError
store_result (Ok x) = Ok tt
store_result (Err (Store e)) = Err e
store_result (Err OutOfMemory) = Ok tt
store_result (Err Write) = Ok tt
