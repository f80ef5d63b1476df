-- The lemmas that crates above cite.
pub use Rattle.cut_disk.proofs.CallerLemmas.{image_of_firm}
pub use Rattle.bus_laws.proofs.CallerLemmas.{Sound-powered}
pub use Rattle.secoc_node.proofs.CallerLemmas.{kept_once, told_before}
pub use Rattle.bus_lives.proofs.Between.{left_joins, starts_leave_nodes}
pub use Rattle.bus_lives.proofs.Seams.{config_of_node, kept_stands, one_not_two, over_configs}
