pub mod AuditMaps
pub mod Auditing
pub mod AuditedLines
pub mod Rows
pub mod Audits
pub mod Steps
