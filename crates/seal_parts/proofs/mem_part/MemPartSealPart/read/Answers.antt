use Rattle.std.proofs.Common.{arith}
use Rattle.seal_parts.proofs.ListLaws.{read_at}
use Rattle.seal_parts.proofs.mem_part.MemPartSealPart.read.Goals as goal

pub returns-clause-reads : goal.returns-clause-reads
returns-clause-reads c =
    read_at c.args.self.now.places c.args.bank c.args.place _ c.args.unit (omega (arith, c.start_of.ensures.start, c.number_of.ensures.is)) c.requires.place_inside
    c.args.self.now.class c.args.self.now.erased c.args.self.now.held.items c.see.new.held.items c.see.result c.see.ensures.rest c.see.ensures.may c.see.ensures.now
