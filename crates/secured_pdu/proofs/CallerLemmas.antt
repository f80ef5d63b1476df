-- The lemmas that crates above cite.
pub use Rattle.secured_pdu.proofs.Candidates.{same_from_AheadWithBits}
pub use Rattle.secured_pdu.proofs.Deciding.{verdict_at}
pub use Rattle.secured_pdu.proofs.FrameLaws.{IsFrame-Secured, length-secured_frame, low_of_secured, payload_of_secured}
pub use Rattle.secured_pdu.proofs.FrameLaws.{length-input, parts_same, same_from_Ahead}
pub use Rattle.secured_pdu.proofs.VerdictLaws.{Verdict_of_secured, accepted_parts, failed_parts, same_from_Verdict}
