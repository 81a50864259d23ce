mod Layouts
mod ErrorLemmas
mod Spelled
mod NoEvidence
mod Migrates
