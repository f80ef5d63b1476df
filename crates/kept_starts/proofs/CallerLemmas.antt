-- The lemmas that crates above cite.
pub use Rattle.kept_starts.proofs.LookLaws.{firm_then, look_at, look_count, look_keeps, look_rest, room_before, room_then}
pub use Rattle.kept_starts.proofs.LookLaws.{same_faults, same_told, quiet_then, unlooked_same}
pub use Rattle.kept_starts.proofs.RowLaws.{kept_7, kept_9, kept_10, kept_complete, kept_failure, kept_status}
pub use Rattle.kept_starts.proofs.RowLaws.{kept_with_room, kept_without_room, refuses_more}
pub use Rattle.kept_starts.proofs.KeepLaws.{refused_writes_nothing, starts_keep}
