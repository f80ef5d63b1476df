-- What the lines of a log count as, and the line of the counts
use Rattle.std.specs.Prelude.{ℕ, Bool, true, false, if◌then◌else◌, List, [], ◌∷◌, codes, Option, None, Some}
use Rattle.std.specs.Fmt.{decimal}
use Rattle.basics.specs.FaultCount.{counted}
use Rattle.bus_machine.specs.declared.lines.Line.{Line}
use Rattle.bus_machine.specs.declared.lines.Line.TheVariants.{Sent, Accepted}
use Rattle.endpoint_commands.specs.declared.asking.Asked.{Asked}
use Rattle.endpoint_commands.specs.declared.asking.Asked.TheVariants.{Other, Frame}
use Rattle.endpoint_commands.specs.declared.counting.EndpointCounts.{EndpointCounts}
use Rattle.endpoint_commands.specs.declared.counting.LineKind.{LineKind}
use Rattle.endpoint_commands.specs.declared.counting.LineKind.TheVariants as kind
use Rattle.endpoint_commands.specs.Lines.{comment_text, told_or_bad_length}

-- what a mapped frame counts as
abbrev pub kind_told : Line → LineKind
kind_told (Sent id v pdu) = kind.Sent
kind_told (Accepted id v payload source) = kind.Accepted
kind_told _ = kind.Refused

-- what a line counts as: one that is skipped, and a load, count as nothing
abbrev pub kind_asked : Asked → Option Line → Option LineKind
kind_asked (Frame place bytes) told = Some (kind_told (told_or_bad_length told))
kind_asked Other told = Some kind.Other
kind_asked _ told = None

-- a line counts as this kind
abbrev pub counts_sent : Option LineKind → Bool
counts_sent (Some kind.Sent) = true
counts_sent _ = false

abbrev pub counts_accepted : Option LineKind → Bool
counts_accepted (Some kind.Accepted) = true
counts_accepted _ = false

abbrev pub counts_refused : Option LineKind → Bool
counts_refused (Some kind.Refused) = true
counts_refused _ = false

abbrev pub counts_other : Option LineKind → Bool
counts_other (Some kind.Other) = true
counts_other _ = false

-- one more line is counted; a count stands still at its last value
abbrev pub count_up : Bool → ℕ → ℕ
count_up passes count = if passes then counted count else count

abbrev pub counts_with : Option LineKind → EndpointCounts → EndpointCounts
counts_with kind counts = record {
  sent = count_up (counts_sent kind) counts.sent;
  accepted = count_up (counts_accepted kind) counts.accepted;
  refused = count_up (counts_refused kind) counts.refused;
  others = count_up (counts_other kind) counts.others;
}

-- the line at the end of a log
abbrev pub counts_line : EndpointCounts → List ℕ
counts_line counts =
    comment_text (codes "sent" ∷ decimal counts.sent ∷ codes "accepted" ∷ decimal counts.accepted
    ∷ codes "refused" ∷ decimal counts.refused ∷ codes "other" ∷ decimal counts.others ∷ [])
