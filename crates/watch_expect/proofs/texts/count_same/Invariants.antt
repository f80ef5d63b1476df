-- the first bytes so far are the same
use Rattle.std.proofs.Common.{◌≡◌, take}
use Rattle.watch_expect.proofs.texts.count_same.Given as goal

abbrev pub invariant-loop-place : goal.invariant-loop-place
invariant-loop-place l = take l.place l.text ≡ take l.place l.other
