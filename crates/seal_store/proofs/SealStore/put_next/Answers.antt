use Rattle.std.proofs.Common.{refl, set}
use Rattle.seal_laws.specs.Writes.{put_on}
use Rattle.seal_laws.specs.Lives.{seal_off, goes_next, cuts_next}
use Rattle.seal_store.proofs.StoreStages.{stands_ready}
use Rattle.seal_store.proofs.SealStore.put_next.Goals as goal

pub returns-in-Ok-clause-done : goal.returns-in-Ok-clause-done
returns-in-Ok-clause-done g c =
    let s = c.args.self.now in
    goes_next s.point c.args.cells.now c.requires.fits c.requires.below (record {
      was = stands_ready s.is_ready s.point s.point c.args.cells.now c.requires.ready refl;
      does = c.in-Ok.ensures.does;
      now = stands_ready s.is_ready c.put_on-self.result (put_on s.point) (set c.args.cells.now c.args.cell c.args.payload.now) c.requires.ready c.put_on-self.ensures;
    })

pub returns-in-Err-clause-cut : goal.returns-in-Err-clause-cut
returns-in-Err-clause-cut g c =
    let s = c.args.self.now in
    cuts_next s.point c.args.cells.now c.requires.fits c.requires.below (record {
      was = stands_ready s.is_ready s.point s.point c.args.cells.now c.requires.ready refl;
      cuts = c.in-Err.ensures.cuts;
      now = refl {a = seal_off};
    })
