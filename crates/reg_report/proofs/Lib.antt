pub mod CsvLemmas
pub mod BufferLemmas
pub mod KeepingLemmas
pub mod PrintingLemmas
