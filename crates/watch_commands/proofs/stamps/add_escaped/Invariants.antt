-- the bytes so far were added, each in room for six
use Rattle.std.proofs.Common.{◌≡◌, ◌≤◌, ◌+◌, ◌*◌, ◌++◌, take, vec_len}
use Rattle.std.specs.Prelude.{vec_capacity}
use Rattle.watch_commands.specs.Stamps.{escaped}
use Rattle.watch_commands.proofs.stamps.add_escaped.Given as goal

abbrev pub invariant-loop-byte : goal.invariant-loop-byte
invariant-loop-byte l = record {
  so_far : l.text.items ≡ l.initial.text.items ++ escaped (take l.byte-index l.bytes);
  few : vec_len l.text ≤ vec_len l.initial.text + 6 * l.byte-index;
  capacity : vec_capacity l.initial.text ≤ vec_capacity l.text;
}
