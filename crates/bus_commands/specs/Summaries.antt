-- The summary of a run: seven numbers over its lines (own).
use Rattle.std.specs.Prelude.{ℕ, List, ◌++◌, length, count_by, codes}
use Rattle.std.specs.Fmt.{decimal}
use Rattle.text_lines.specs.Texts.{line}
use Rattle.bus_machine.specs.declared.lines.Line.{Line}
use Rattle.bus_machine.specs.Tells.{tells_sent, tells_accepted, tells_failed_verdict, tells_keyed, tells_up, tells_refused}
use Rattle.bus_commands.specs.declared.summary.Summary.{Summary}

abbrev pub summary_of : List Line → Summary
summary_of lines = record {
  events = length lines;
  sent = count_by tells_sent lines;
  accepted = count_by tells_accepted lines;
  failures = count_by tells_failed_verdict lines;
  keyed = count_by tells_keyed lines;
  cuts = count_by tells_up lines;
  refused = count_by tells_refused lines;
}

-- a line of the text: a name, a space and a number
abbrev pub number_line : List ℕ → ℕ → List ℕ
number_line name number = name ++ (codes " " ++ line (decimal number))

abbrev pub summary_text : Summary → List ℕ
summary_text s =
    number_line (codes "events") s.events
    ++ number_line (codes "sent") s.sent
    ++ number_line (codes "accepted") s.accepted
    ++ number_line (codes "failures") s.failures
    ++ number_line (codes "keyed") s.keyed
    ++ number_line (codes "cuts") s.cuts
    ++ number_line (codes "refused") s.refused
