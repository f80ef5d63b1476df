pub mod CallerLemmas
mod NumbersWritten
mod UnitForms
mod BackupValues
mod WholeLaws
mod HeldLaws
mod BackupWritten
