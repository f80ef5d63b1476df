use Rattle.std.proofs.Common.{refl, arith}
use Rattle.flash_places.proofs.ListLaws.{program_done, program_cut}
use Rattle.flash_places.proofs.mem_flash.MemFlashFlashDevice.program.Goals as goal

pub returns-then-count-clause-cut : goal.returns-then-count-clause-cut
returns-then-count-clause-cut c =
    program_cut c.args.self.now.places c.args.bank c.args.place _ c.args.self.now.held.items c.args.line.now _
    (omega (arith, c.start_of.ensures.start)) c.requires.place_inside (omega (arith, c.start_of.ensures.fits, c.requires.place_inside, c.args.self.now.sized)) c.requires.blank refl

pub returns-clause-done : goal.returns-clause-done
returns-clause-done c =
    program_done c.args.self.now.places c.args.bank c.args.place _ c.args.self.now.held.items c.args.line.now _
    (omega (arith, c.start_of.ensures.start)) c.requires.place_inside (omega (arith, c.start_of.ensures.fits, c.requires.place_inside, c.args.self.now.sized)) c.requires.blank refl
