use Rattle.std.proofs.Common.{◌≡◌, ◌++◌, length, take, drop, ◌-◌, ◌*◌, ◌/◌}
use Rattle.std.specs.List.{concat}
use Rattle.std.specs.Simd.{first_chunks}
use Rattle.she_aes.specs.Modes.{ecb_inverse}
use Rattle.rathonsi_c.specs.Calls.{whole_blocks}
use Rattle.rathonsi_c.proofs.aes.decrypt_blocks.Given as goal

-- the blocks done, and what comes of the rest, are the whole text
abbrev pub invariant-loop-i : goal.invariant-loop-i
invariant-loop-i l =
    (length l.text ≡ length l.fn.text) × (concat (ecb_inverse l.schedule (whole_blocks l.fn.text)) ≡ take (16 * l.i) l.text ++ concat (ecb_inverse l.schedule (first_chunks 16 (length l.fn.text / 16 - l.i) (drop (16 * l.i) l.text))))
