use Rattle.std.proofs.Common.{subst}
use Rattle.seal_parts.specs.declared.PartClass.TheVariants.{Blanks}
use Rattle.seal_parts.specs.declared.SealLine.{SealLine}
use Rattle.seal_parts.specs.Designs.{DoesPartWrites}
use Rattle.seal_laws.specs.Writes.{deed_writes}
use Rattle.seal_store.proofs.WriteLaws.{ok_then}
use Rattle.seal_store.proofs.writing.write_put.Goals as goal

pub returns-clause-does : goal.returns-clause-does
returns-clause-does g c =
    let p = c.args.point in
    let f = g.P.SealPart.state c.args.part.now in
    let h = g.P.SealPart.state c.write_deed.new.part in
    ok_then c.write_deed.result (λ d. subst (λ (z : SealLine). DoesPartWrites Blanks (deed_writes Blanks p.bank p.next z) f.flash h.flash) c.line_of-line.ensures d) c.write_deed.ensures.does
