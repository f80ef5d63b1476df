use Rattle.std.proofs.Common.{sym, ◌∙◌, arith}
use Rattle.flash_places.proofs.ListLaws.{at_place, looked_at}
use Rattle.flash_places.proofs.mem_flash.MemFlashFlashDevice.look.Goals as goal

pub returns-clause-looks : goal.returns-clause-looks
returns-clause-looks c =
    looked_at c.args.self.now.places c.args.bank c.args.place _ _ c.see.new.held.items c.see.result
    (omega (arith, c.start_of.ensures.start)) c.requires.place_inside c.see.ensures.rest c.see.ensures.looks c.see.ensures.is_blank

pub returns-clause-told : goal.returns-clause-told
returns-clause-told c tells is = c.see.ensures.told tells
    (sym (at_place c.args.self.now.places c.args.bank c.args.place _ c.args.self.now.held.items (omega (arith, c.start_of.ensures.start)) c.requires.place_inside) ∙ is)
