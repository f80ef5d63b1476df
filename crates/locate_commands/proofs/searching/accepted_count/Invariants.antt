-- those that were accepted so far, and those that are accepted of the frames that are left, are all
use Rattle.std.proofs.Common.{◌≡◌, ◌≤◌, ◌+◌, drop}
use Rattle.locate_commands.specs.Locating.{accepted_count}
use Rattle.locate_commands.proofs.searching.accepted_count.Given as goal

abbrev pub invariant-loop-frame : goal.invariant-loop-frame
invariant-loop-frame l = record {
  few : l.count ≤ l.frame-index;
  all : accepted_count l.receiver l.fn.v l.rest ≡ l.count + accepted_count l.receiver l.counter (drop l.frame-index l.rest);
}
