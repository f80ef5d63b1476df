-- The lemmas that crates above cite.
pub use Rattle.flash_plan.proofs.DeedSteps.{step_off, step_may, broken}
pub use Rattle.flash_plan.proofs.FormatSteps.{format_may}
pub use Rattle.flash_plan.proofs.TurnLaws.{stands_as, if_some, idle_ready, turns_formatted, turns_cut, turns_after, turns_later, has_store, stays_found}
pub use Rattle.flash_plan.proofs.WearSteps.{erase_paid}
