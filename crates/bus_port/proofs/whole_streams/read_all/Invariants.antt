use Rattle.std.proofs.Common.{◌≡◌, ◌+◌, ◌-◌, ◌≤◌, vec_len}
use Rattle.bus_port.specs.Source.{Came}
use Rattle.bus_port.proofs.whole_streams.read_all.Given as goal

abbrev pub invariant-loop-bytes : goal.invariant-loop-bytes
invariant-loop-bytes g l = record {
  within : vec_len l.bytes ≤ l.limit;
  no_fault : (g.S.Source.state l.source).faults ≡ (g.S.Source.state l.initial.source).faults;
  so_far : Came (g.S.Source.state l.initial.source) (g.S.Source.state l.source) l.bytes.items;
}

abbrev pub decreases-loop-bytes : goal.decreases-loop-bytes
decreases-loop-bytes g l = l.limit + 1 - vec_len l.bytes
