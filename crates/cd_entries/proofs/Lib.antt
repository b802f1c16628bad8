pub mod EntryLaw
