use Rattle.std.proofs.Common.{◌≡◌, take, drop, ◌++◌, length, All}
use Rattle.she_aes.specs.Cipher.{IsBlock}
use Rattle.she_aes.specs.Modes.{ecb_inverse}
use Rattle.she_aes.proofs.modes.ecb_decrypt.Given as goal

-- the blocks done, and those that come from the rest, are the whole text; those done and those taken are blocks
abbrev pub invariant-loop-i : goal.invariant-loop-i
invariant-loop-i g l =
    (length l.out ≡ g.row.N) × (ecb_inverse l.schedule l.text ≡ take l.i l.out ++ ecb_inverse l.schedule (drop l.i l.text)) × All IsBlock (take l.i l.out) × All IsBlock (take l.i l.text)
