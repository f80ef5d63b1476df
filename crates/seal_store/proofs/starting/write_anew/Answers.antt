use Rattle.std.proofs.Common.{arith}
use Rattle.seal_store.proofs.starting.write_anew.Goals as goal

pub write_first-requires-clause-may : goal.write_first-requires-clause-may
write_first-requires-clause-may g c =
    let h = g.P.SealPart.state c.erase_all.new.part in
    let banks = c.requires.banks in
    c.a_unit_is_programmed_once_on_a_part_of_blanks.ensures.first c.args.sizes c.args.cells.now h.flash c.requires.fits c.in_ok-erase_all.ensures.blank (λ bank below. c.in_ok-erase_all.ensures.erased bank (omega (arith, below, banks)))
