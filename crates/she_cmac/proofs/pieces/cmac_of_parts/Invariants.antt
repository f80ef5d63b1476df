use Rattle.std.proofs.Common.{take, map}
use Rattle.std.specs.List.{concat}
use Rattle.she_cmac.specs.Took.{Took}
use Rattle.she_cmac.proofs.pieces.cmac_of_parts.Given as goal

-- the parts so far are taken
abbrev pub invariant-loop-part : goal.invariant-loop-part
invariant-loop-part l = Took l.schedule (concat (map (λ part. part.now) (take l.part-index l.parts))) l.mac
