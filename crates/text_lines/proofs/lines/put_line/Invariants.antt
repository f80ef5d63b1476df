use Rattle.std.proofs.Common.{◌≡◌, ◌-◌, ◌≤◌, ◌++◌, length, map, vec_len}
use Rattle.std.specs.Prelude.{vec_capacity}
use Rattle.text_lines.specs.Lines.{is_line_feed, ends_word}
use Rattle.text_lines.specs.Spans.{piece_at, EndWithin}
use Rattle.text_lines.proofs.Cuts.{words_between}
use Rattle.text_lines.proofs.Stops.{FirstFrom, line_end_of, content_of}
use Rattle.text_lines.proofs.lines.put_line.Given as goal

-- the words so far, and those from here on, are all the words of the line, which ends where it did
abbrev pub invariant-loop-spans : goal.invariant-loop-spans
invariant-loop-spans l = record {
  whole : map (piece_at l.text) l.spans.items ++ words_between l.text l.at (content_of l.text l.start) ≡ words_between l.text l.start (content_of l.text l.start);
  line : FirstFrom is_line_feed l.text l.at (line_end_of l.text l.start);
  word : FirstFrom ends_word l.text l.at l.stop;
  behind : l.start ≤ l.at;
  inside : EndWithin (length l.text) l.spans.items;
  short : length l.text ≤ 4294967295;
  few : vec_len l.spans ≤ l.at;
  room : vec_capacity l.initial.spans ≤ vec_capacity l.spans;
}

abbrev pub decreases-loop-spans : goal.decreases-loop-spans
decreases-loop-spans l = length l.text - l.at
