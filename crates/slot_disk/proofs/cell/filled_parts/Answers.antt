-- The parts of a filled cell, if it is one.
use Rattle.std.proofs.Common.{◌≡◌, ◌^◌, ◌<◌, ◌∷◌, [], refl, get_or, ◌∙◌, arith}
use Rattle.basics.proofs.CallerLemmas.{from_be_bytes-32}
use Rattle.key_slots.proofs.CallerLemmas.{flags_number-lt, same_flags}
use Rattle.slot_disk.proofs.Parts.{flags_are, counter_is, key_is}
use Rattle.slot_disk.proofs.cell.filled_parts.Goals as goal

pub returns-then-number-gt31-clause-whole : goal.returns-then-number-gt31-clause-whole
returns-then-number-gt31-clause-whole c key counter flags h =
    absurd (omega (arith, flags_are _ _ _ _ h.cell_is, flags_number-lt flags, c.if-number-gt31.true))

pub returns-in_err-counter-clause-whole : goal.returns-in_err-counter-clause-whole
returns-in_err-counter-clause-whole c key counter flags h =
    let is = c.from_be_bytes.ensures ∙ from_be_bytes-32 (get_or c.args.cell.now 2 0 ∷ get_or c.args.cell.now 3 0 ∷ get_or c.args.cell.now 4 0 ∷ get_or c.args.cell.now 5 0 ∷ []) refl ∙ counter_is _ _ _ _ h.cell_is h.is_slot.1 in
    absurd (c.in_err-counter.ensures (let fits : c.from_be_bytes.result < 2 ^ 28 = omega (arith, is, h.is_slot.1) in fits))

pub returns-clause-whole : goal.returns-clause-whole
returns-clause-whole c key counter flags h =
    let is = c.from_be_bytes.ensures ∙ from_be_bytes-32 (get_or c.args.cell.now 2 0 ∷ get_or c.args.cell.now 3 0 ∷ get_or c.args.cell.now 4 0 ∷ get_or c.args.cell.now 5 0 ∷ []) refl ∙ counter_is _ _ _ _ h.cell_is h.is_slot.1 in
    let same : c.of-2.result ≡ flags = same_flags c.of-2.result flags (c.of-2.ensures.number ∙ flags_are _ _ _ _ h.cell_is) in
    let is_key = c.of.ensures.value ∙ c.copy_from_slice.ensures.after ∙ key_is _ _ _ _ h.cell_is h.is_slot.0.size in
    let count : c.in_ok-counter.counter ≡ counter = c.in_ok-counter.ensures.1 ∙ is in
    rw (is_key, count, same) refl
