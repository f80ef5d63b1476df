use Rattle.std.proofs.Common.{ℕ, length, ap, ◌∙◌}
use Rattle.std.specs.Prelude.{replicate}
use Rattle.can_logs.specs.Findings.{first_counters}
use Rattle.watch_commands.specs.Times.{no_times}
use Rattle.watch_commands.proofs.state.Watch.new.Goals as goal

pub returns-clause-before : goal.returns-clause-before
returns-clause-before c = record {
  counters_are = c.in_ok-counters.ensures ∙ ap first_counters c.lines.ensures.value;
  accepted_are = c.in_ok-accepted.ensures ∙ ap (λ (n : ℕ). replicate n 0) (ap length c.lines-2.ensures.value);
  failed_are = c.in_ok-failed.ensures ∙ ap (λ (n : ℕ). replicate n 0) (ap length c.lines-3.ensures.value);
  counts_are = c.none.ensures;
  clock_is = c.none-2.ensures;
  times_are = c.in_ok-times.ensures ∙ ap (λ (n : ℕ). replicate n no_times) (ap length c.lines-4.ensures.value);
  no_text = c.in_ok-text.ensures.items;
}
