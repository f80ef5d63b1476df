-- Lines that are counted one after another give their summary.
use Rattle.std.proofs.Common.{◌≡◌, ℕ, ◌+◌, List, [], ◌∷◌, length, sym, ap, ◌∙◌, arith, add-zero, zero-add, add_assoc}
use Rattle.std.specs.Prelude.{Bool, cond, fold, count_by}
use Rattle.machine_runs.specs.Run.{lines_in}
use Rattle.run_driver.specs.Counted.{Counted}
use Rattle.std.proofs.lemmas.List.Sums.{sum_by-cons}
use Rattle.bus_machine.specs.declared.events.Event.{Event}
use Rattle.bus_machine.specs.declared.lines.Line.{Line}
use Rattle.bus_world.specs.Worlds.{BusState, BusTurn}
use Rattle.bus_commands.specs.declared.summary.Summary.{Summary}
use Rattle.bus_commands.specs.Summaries.{summary_of}
use Rattle.bus_machine.specs.Tells.{tells_sent, tells_accepted, tells_failed_verdict, tells_keyed, tells_up, tells_refused}
use Rattle.bus_commands.specs.SummarySteps.{no_lines, summary_with, one_if}
use Rattle.bus_commands.specs.TrialRuns.{SummedTurns}

-- two summaries together
abbrev plus : Summary → Summary → Summary
plus s t = record {
  events = s.events + t.events;
  sent = s.sent + t.sent;
  accepted = s.accepted + t.accepted;
  failures = s.failures + t.failures;
  keyed = s.keyed + t.keyed;
  cuts = s.cuts + t.cuts;
  refused = s.refused + t.refused;
}

same : {s t : Summary} → s.events ≡ t.events → s.sent ≡ t.sent → s.accepted ≡ t.accepted → s.failures ≡ t.failures → s.keyed ≡ t.keyed → s.cuts ≡ t.cuts → s.refused ≡ t.refused → s ≡ t
same a b c d e f g = λ i. record { events = a i; sent = b i; accepted = c i; failures = d i; keyed = e i; cuts = f i; refused = g i }

plus_none : (s : Summary) → plus s no_lines ≡ s
plus_none s = same (add-zero s.events) (add-zero s.sent) (add-zero s.accepted) (add-zero s.failures) (add-zero s.keyed) (add-zero s.cuts) (add-zero s.refused)

none_plus : (s : Summary) → plus no_lines s ≡ s
none_plus s = same (zero-add s.events) (zero-add s.sent) (zero-add s.accepted) (zero-add s.failures) (zero-add s.keyed) (zero-add s.cuts) (zero-add s.refused)

-- one line more, before the others
events_more : (n : ℕ) (lines : List Line) (l : Line) → n + 1 + length lines ≡ n + length (l ∷ lines)
events_more n lines l = omega arith

of_kind_more : (kind : Line → Bool) (n : ℕ) (l : Line) (lines : List Line) → n + one_if (kind l) + count_by kind lines ≡ n + count_by kind (l ∷ lines)
of_kind_more kind n l lines =
    add_assoc n (one_if (kind l)) (count_by kind lines) ∙ ap (λ m. n + m) (sym (sum_by-cons (λ x. cond (kind x) 1 0) l lines))

line_more : (s : Summary) (l : Line) (lines : List Line) → plus (summary_with s l) (summary_of lines) ≡ plus s (summary_of (l ∷ lines))
line_more s l lines =
    same (events_more s.events lines l) (of_kind_more tells_sent s.sent l lines) (of_kind_more tells_accepted s.accepted l lines)
    (of_kind_more tells_failed_verdict s.failures l lines) (of_kind_more tells_keyed s.keyed l lines) (of_kind_more tells_up s.cuts l lines)
    (of_kind_more tells_refused s.refused l lines)

counted : (s : Summary) (lines : List Line) → fold summary_with s lines ≡ plus s (summary_of lines)
counted s [] = sym (plus_none s)
counted s (l ∷ lines) = counted (summary_with s l) lines ∙ line_more s l lines

lines_give_their_summary : (lines : List Line) → fold summary_with no_lines lines ≡ summary_of lines
lines_give_their_summary lines = counted no_lines lines ∙ none_plus (summary_of lines)

-- turns whose lines were counted into the summary of none have their summary
pub summed_turns : (start now : BusState) (first summary : Summary) (events : List Event) → first ≡ no_lines
    → Counted BusTurn summary_with start now first summary events → SummedTurns start now events summary
summed_turns start now first summary events none done = record {
  moments = done.moments;
  run = done.run;
  first = done.first;
  holds = (
    done.holds.0,
    done.holds.1 ∙ ap (λ (s : Summary). fold summary_with s (lines_in done.moments)) none ∙ lines_give_their_summary (lines_in done.moments),
  );
}
