pub mod Legal
pub mod JournalLemmas
