use Rattle.std.proofs.Common.{arith}
use Rattle.seal_parts.proofs.ListLaws.{bank_erased, bank_cut}
use Rattle.seal_parts.proofs.mem_part.MemPartSealPart.erase.Goals as goal

pub returns-then-count-clause-cut : goal.returns-then-count-clause-cut
returns-then-count-clause-cut c =
    bank_cut c.args.self.now.places c.args.bank c.start_of-start.result c.args.self.now.held.items c.loosen_range.new.held.items c.args.self.now.erased c.start_of-start.ensures.start
    (omega (arith, c.requires.inside, c.args.self.now.few)) c.loosen_range.ensures.rest c.loosen_range.ensures.contents

pub returns-clause-done : goal.returns-clause-done
returns-clause-done c =
    bank_erased c.args.self.now.places c.args.bank c.start_of-start.result c.args.self.now.held.items c.blank_range.new.held.items c.args.self.now.erased c.start_of-start.ensures.start
    (omega (arith, c.requires.inside, c.args.self.now.few)) c.blank_range.ensures.rest c.blank_range.ensures.blank
