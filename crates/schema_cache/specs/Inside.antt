pub mod ByteCounts
