-- The lemmas that crates above cite.
pub use Rattle.counter_answers.proofs.AnsweringLaws.{first_is, one_counter_told, one_question}
