-- The lemmas that crates above cite.
pub use Rattle.secoc_gateway.proofs.Forwarding.{SameKeys, accepted_keys, arriving, same_key}
pub use Rattle.secoc_gateway.proofs.TurnLaws.{certain_by_mark}
