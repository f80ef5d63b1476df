use Rattle.std.proofs.Common.{◌≡◌, length, ◌-◌, ◌≤◌, take}
use Rattle.bus_port.specs.Sink.{Appended}
use Rattle.bus_port.proofs.whole_streams.write_all.Given as goal

abbrev pub invariant-loop-done : goal.invariant-loop-done
invariant-loop-done g l = record {
  in_range : l.done ≤ length l.bytes;
  no_fault : (g.K.Sink.state l.sink).faults ≡ (g.K.Sink.state l.initial.sink).faults;
  so_far : Appended (g.K.Sink.state l.initial.sink) (g.K.Sink.state l.sink) (take l.done l.bytes);
}

abbrev pub decreases-loop-done : goal.decreases-loop-done
decreases-loop-done g l = length l.bytes - l.done
