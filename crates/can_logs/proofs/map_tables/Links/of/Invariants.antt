-- the lines from a place on are linked
use Rattle.std.proofs.Common.{◌≡◌, ◌≤◌, length}
use Rattle.can_logs.specs.MapTables.{AreFirsts, AreNexts}
use Rattle.can_logs.proofs.map_tables.Links.of.Given as goal

abbrev pub invariant-loop-place : goal.invariant-loop-place
invariant-loop-place l = record {
  within : l.place ≤ length l.lines;
  firsts_many : length l.firsts ≡ 256;
  nexts_many : length l.nexts ≡ 256;
  firsts : AreFirsts l.lines l.place l.firsts;
  nexts : AreNexts l.lines l.place l.nexts;
}

abbrev pub decreases-loop-place : goal.decreases-loop-place
decreases-loop-place l = l.place
