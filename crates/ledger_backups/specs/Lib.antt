pub mod EntryForms
pub mod Backups
