-- How a summary is counted, one line after another.
use Rattle.std.specs.Prelude.{◌≡◌, ℕ, ◌+◌, ◌≤◌, Bool, cond}
use Rattle.bus_machine.specs.declared.lines.Line.{Line}
use Rattle.bus_commands.specs.declared.summary.Summary.{Summary}
use Rattle.bus_machine.specs.Tells.{tells_sent, tells_accepted, tells_failed_verdict, tells_keyed, tells_up}
use Rattle.bus_machine.specs.Tells.{tells_refused}

abbrev pub no_lines : Summary
no_lines = record { events = 0; sent = 0; accepted = 0; failures = 0; keyed = 0; cuts = 0; refused = 0 }

-- one if the line tells this
abbrev pub one_if : Bool → ℕ
one_if tells = cond tells 1 0

abbrev pub summary_with : Summary → Line → Summary
summary_with s l = record {
  events = s.events + 1;
  sent = s.sent + one_if (tells_sent l);
  accepted = s.accepted + one_if (tells_accepted l);
  failures = s.failures + one_if (tells_failed_verdict l);
  keyed = s.keyed + one_if (tells_keyed l);
  cuts = s.cuts + one_if (tells_up l);
  refused = s.refused + one_if (tells_refused l);
}

-- as many events as lines before the next one, which has this number, and not more of any kind
pub record CountsFew (s : Summary) (number : ℕ) : Type 0 where
  pub events : s.events + 1 ≡ number
  pub sent : s.sent ≤ s.events
  pub accepted : s.accepted ≤ s.events
  pub failures : s.failures ≤ s.events
  pub keyed : s.keyed ≤ s.events
  pub cuts : s.cuts ≤ s.events
  pub refused : s.refused ≤ s.events
