-- The lemmas that crates above cite.
pub use Rattle.bus_config.proofs.Named.{named_there, own_name_found}
