-- the last line of the bytes so far begins here
use Rattle.std.proofs.Common.{◌≡◌, ◌≤◌, take, drop}
use Rattle.watch_expect.specs.Comparing.{last_line}
use Rattle.watch_expect.proofs.texts.last_line.Given as goal

abbrev pub invariant-loop-place : goal.invariant-loop-place
invariant-loop-place l = record {
  line_is : drop l.start (take l.place l.text) ≡ last_line (take l.place l.text);
  few : l.start ≤ l.place;
}
