use Rattle.std.proofs.Common.{◌≡◌, Err, refl, ap}
use Rattle.seal_laws.specs.Lives.{cuts_writes}
use Rattle.seal_store.specs.declared.starting.SealStartFault.{SealStartFault}
use Rattle.seal_store.specs.declared.starting.SealStartFault.TheVariants.{Failed}
use Rattle.seal_store.proofs.starting.start.Goals as goal

pub returns-in-Err-clause-cut : goal.returns-in-Err-clause-cut
returns-in-Err-clause-cut g c = λ is. (let e : c.in-Err.fault ≡ Failed = cc in c.in-Err.ensures.cut (ap (λ (z : SealStartFault). Err z) e))

pub returns-in-Err-write_start-clause-cut : goal.returns-in-Err-write_start-clause-cut
returns-in-Err-write_start-clause-cut g c = λ is.
    let h = g.P.SealPart.state c.find.new.part in
    cuts_writes c.in-Ok.found c.find.new.cells h.flash c.in-Ok.ensures.found c.in-Err-write_start.ensures.cuts refl
