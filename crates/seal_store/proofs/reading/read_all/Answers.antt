use Rattle.std.proofs.Common.{refl, ◌∙◌, arith}
use Rattle.seal_store.proofs.WriteLaws.{runs_then}
use Rattle.seal_store.proofs.PlaceReads.{more_banks}
use Rattle.seal_store.proofs.reading.read_all.Goals as goal

pub loop-bank-init : goal.loop-bank-init
loop-bank-init g c = record {
  runs = record { class = refl; banks = refl; places = refl; later = omega arith };
  count = refl;
  same = refl;
  read = λ b k inside below. absurd (omega (arith, inside));
}

pub loop-bank-preserved : goal.loop-bank-preserved
loop-bank-preserved g c =
    let f = g.P.SealPart.state c.args.part.now in
    let b = g.P.SealPart.state c.loop-bank.part in
    let h = g.P.SealPart.state c.read_bank.new.part in
    let v = c.loop-bank.invariant in
    record {
      runs = runs_then f b h v.runs c.read_bank.ensures.runs;
      count = c.in_ok-read_bank.ensures.count ∙ v.count;
      same = c.read_bank.ensures.same ∙ v.same;
      read = more_banks c.args.sizes f.flash b.flash v.same c.loop-bank.reads c.read_bank.new.reads c.loop-bank.bank v.read c.in_ok-read_bank.ensures.others c.in_ok-read_bank.ensures.reads;
    }

pub returns-clause-reads : goal.returns-clause-reads
returns-clause-reads g c = λ b k inside below. c.loop-bank.invariant.read b k (omega (arith, inside)) below
