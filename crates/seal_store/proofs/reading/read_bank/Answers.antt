use Rattle.std.proofs.Common.{◌*◌, ◌+◌, length, refl, ◌∙◌, arith}
use Rattle.seal_store.proofs.WriteLaws.{runs_then}
use Rattle.seal_store.proofs.PlaceReads.{in_list, before_bank, more_read, others_stay}
use Rattle.seal_store.proofs.reading.read_bank.Goals as goal

pub loop-place-init : goal.loop-place-init
loop-place-init g c = record {
  runs = record { class = refl; banks = refl; places = refl; later = omega arith };
  count = refl;
  same = refl;
  read = λ k below. absurd (omega (arith, below));
  others = λ i below. refl;
}

pub loop-place-preserved : goal.loop-place-preserved
loop-place-preserved g c =
    let s = c.args.sizes in
    let f = g.P.SealPart.state c.args.part.now in
    let b = g.P.SealPart.state c.loop-place.part in
    let h = g.P.SealPart.state c.read_place.new.part in
    let v = c.loop-place.invariant in
    let fits = c.requires.fits in
    let alike = c.loop-place.auto.reads in
    let inside = in_list s c.args.bank c.loop-place.place (length c.loop-place.reads) c.requires.inside (omega arith) (omega arith) in
    record {
      runs = runs_then f b h v.runs c.read_place.ensures.runs;
      count = c.in_ok-reads.ensures.count ∙ v.count;
      same = c.read_place.ensures.same ∙ v.same;
      read = more_read s f.flash b.flash v.same c.loop-place.reads c.args.bank c.loop-place.place c.in_ok-reads.field-0 inside v.read c.in_ok-reads.ensures.reads;
      others = others_stay s f.flash b.flash v.same c.loop-place.reads c.args.bank c.loop-place.place c.in_ok-reads.field-0 inside c.args.reads.now v.others;
    }

pub returns-clause-reads : goal.returns-clause-reads
returns-clause-reads g c = λ k below. c.loop-place.invariant.read k (omega (arith, below))

pub returns-clause-others : goal.returns-clause-others
returns-clause-others g c = λ b k inside below. c.loop-place.invariant.others (b * c.args.sizes.places + k) (before_bank c.args.sizes b c.args.bank k inside below)
