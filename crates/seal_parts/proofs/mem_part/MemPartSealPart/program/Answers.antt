use Rattle.std.proofs.Common.{refl, arith}
use Rattle.seal_parts.proofs.ListLaws.{inside_bank, firm_unit, loose_unit, program_done, program_left, program_cut}
use Rattle.seal_parts.proofs.mem_part.MemPartSealPart.program.Goals as goal

pub returns-then-is_cut-clause-cut : goal.returns-then-is_cut-clause-cut
returns-then-is_cut-clause-cut c =
    let i = inside_bank c.args.self.now.places c.args.place c.args.unit c.requires.place_inside in
    program_cut c.args.self.now.places c.args.bank c.args.place _ c.args.unit (omega (arith, c.start_of.ensures.start, c.number_of.ensures.is)) c.requires.place_inside
    c.args.self.now.class c.args.self.now.erased c.args.self.now.held.items c.args.content.now _ (omega (arith, i, c.start_of.ensures.fits, c.number_of.ensures.is, c.args.self.now.sized)) c.requires.may c.requires.fits refl refl

pub returns-then-is_cut-clause-left : goal.returns-then-is_cut-clause-left
returns-then-is_cut-clause-left c =
    let i = inside_bank c.args.self.now.places c.args.place c.args.unit c.requires.place_inside in
    program_left c.args.self.now.places c.args.bank c.args.place _ c.args.unit (omega (arith, c.start_of.ensures.start, c.number_of.ensures.is)) c.requires.place_inside
    c.args.self.now.class c.args.self.now.erased c.args.self.now.held.items c.args.content.now _ (omega (arith, i, c.start_of.ensures.fits, c.number_of.ensures.is, c.args.self.now.sized)) c.requires.may c.requires.fits _
    (loose_unit c.args.content.now c.count-is_cut.result c.if-is_cut.true)

pub returns-clause-done : goal.returns-clause-done
returns-clause-done c =
    let i = inside_bank c.args.self.now.places c.args.place c.args.unit c.requires.place_inside in
    program_done c.args.self.now.places c.args.bank c.args.place _ c.args.unit (omega (arith, c.start_of.ensures.start, c.number_of.ensures.is)) c.requires.place_inside
    c.args.self.now.class c.args.self.now.erased c.args.self.now.held.items c.args.content.now _ (omega (arith, i, c.start_of.ensures.fits, c.number_of.ensures.is, c.args.self.now.sized)) c.requires.may c.requires.fits
    (firm_unit c.args.content.now c.count-is_cut.result c.if-is_cut.false)
