use Rattle.std.proofs.Common.{◌+◌, length, refl, sym, subst, ◌∙◌, arith}
use Rattle.seal_logs.specs.declared.PlaceRead.{PlaceRead}
use Rattle.seal_logs.specs.declared.finding.Latest.{Latest}
use Rattle.seal_logs.specs.Found.{LatestSeen}
use Rattle.seal_logs.specs.Reads.{reads_in, ReadsDeed}
use Rattle.seal_logs.proofs.LatestLaws.{in_list, read_of, seen_same, seen_more, seen_begins, seen_ends}
use Rattle.seal_logs.proofs.finding.latest_to.Goals.{in-Some, in-None}
use Rattle.seal_logs.proofs.finding.latest_to.Goals as goal

pub loop-place-init : goal.loop-place-init
loop-place-init c = record { seen = λ h. seen_begins c.args.sizes (reads_in c.args.sizes c.args.reads.now) c.args.bank c.args.sizes.cells c.args.best refl h }

pub loop-place-preserved : goal.loop-place-preserved
loop-place-preserved c = record {
  seen = λ h.
      let before = c.loop-place.invariant.seen h in
      let r = reads_in c.args.sizes c.args.reads.now in
      let below = in_list c.args.sizes.banks c.args.sizes.places c.args.bank c.loop-place.place (length c.args.reads.now) c.requires.inside (omega arith) c.requires.fits in
      elim c.match-deed_in.branch [
        | in-Some w ↦ subst (λ (b : Latest). LatestSeen c.args.sizes r c.args.bank (c.loop-place.place + 1) b) (sym (w.best-is ∙ w.later-best.ensures))
            (seen_more c.args.sizes r c.args.bank c.loop-place.place (c.loop-place.place + 1) (omega arith) c.requires.inside (omega arith) (omega arith) c.loop-place.best w.in-Some.generation w.in-Some.deed
            (subst (λ (p : PlaceRead). ReadsDeed p w.in-Some.generation w.in-Some.deed) (read_of c.args.sizes c.args.reads.now c.args.bank c.loop-place.place _ below)
            (c.deed_in.ensures.some w.in-Some.generation w.in-Some.deed w.in-Some.is)) before)
        | in-None w ↦ subst (λ (b : Latest). LatestSeen c.args.sizes r c.args.bank (c.loop-place.place + 1) b) (sym w.best-is)
            (seen_same c.args.sizes r c.args.bank c.loop-place.place (c.loop-place.place + 1) (omega arith) c.requires.inside (omega arith) (omega arith) c.loop-place.best
            (λ g deed reads. c.deed_in.ensures.none w.in-None.is g deed
            (subst (λ (p : PlaceRead). ReadsDeed p g deed) (sym (read_of c.args.sizes c.args.reads.now c.args.bank c.loop-place.place _ below)) reads)) before)
      ];
}

pub returns : goal.returns
returns c = λ h. seen_ends c.args.sizes (reads_in c.args.sizes c.args.reads.now) c.args.bank c.loop-place.place _ c.loop-place.best (omega arith) refl (c.loop-place.invariant.seen h)
