-- The lemmas that crates above cite.
pub use Rattle.bus_script.proofs.EventsRead.{events_read}
