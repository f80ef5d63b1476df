use Rattle.std.proofs.Common.{◌≡◌, ◌+◌, suc, length, refl, sym, subst, ◌∙◌, arith}
use Rattle.flash_log.specs.Going.{layout_on}
use Rattle.flash_log.specs.Taking.{NoLaterHead, NotesHead}
use Rattle.flash_log.specs.Scanned.{ScannedTo, FreeBest, ToldBest, NoLaterHeads, NotesHeads}
use Rattle.flash_log.specs.declared.scanning.Best.{Best}
use Rattle.flash_log.proofs.GoingLaws.{runs_then}
use Rattle.flash_log.proofs.ScanLaws.{heads_more, scanned_first, scanned_part, scanned_off, scan_is, scan_found, scan_none, scan_tie}
use Rattle.flash_log.proofs.scanning.scan.Goals as goal

pub loop-bank-init : goal.loop-bank-init
loop-bank-init g c = record {
  runs = record { banks = refl; places = refl; later = omega arith; tells = refl };
  count = refl;
  scanned = scanned_first (length c.args.cells.now) (g.D.FlashDevice.state c.args.device.now).flash c.args.cells.now;
  free = tt;
  latest = λ x below. absurd (omega (arith, below));
  told = λ tells. tt;
  noted = λ tells x below. absurd (omega (arith, below));
}

pub returns-in_err-more-clause-off : goal.returns-in_err-more-clause-off
returns-in_err-more-clause-off g c =
    scanned_part (length c.args.cells.now) c.loop-bank.bank (g.D.FlashDevice.state c.args.device.now).flash (g.D.FlashDevice.state c.loop-bank.device).flash (g.D.FlashDevice.state c.read_bank.new.device).flash
    c.loop-bank.best c.loop-bank.cells c.loop-bank.scratch c.loop-bank.invariant.scanned c.read_bank.ensures.others (layout_on (g.D.FlashDevice.state c.args.device.now) (length c.args.cells.now)) c.in_err-more.ensures.part

pub returns-in-One-clause-found : goal.returns-in-One-clause-found
returns-in-One-clause-found g c =
    scan_found (layout_on (g.D.FlashDevice.state c.args.device.now) (length c.args.cells.now)) c.loop-bank.bank (g.D.FlashDevice.state c.args.device.now).flash (g.D.FlashDevice.state c.loop-bank.device).flash c.loop-bank.cells
    (omega arith) c.in-One.log
    (subst (λ (b : Best). ScannedTo (length c.args.cells.now) c.loop-bank.bank (g.D.FlashDevice.state c.args.device.now).flash (g.D.FlashDevice.state c.loop-bank.device).flash b c.loop-bank.cells) c.in-One.is c.loop-bank.invariant.scanned)

pub returns-in-One-clause-scanned : goal.returns-in-One-clause-scanned
returns-in-One-clause-scanned g c =
    scan_is (layout_on (g.D.FlashDevice.state c.args.device.now) (length c.args.cells.now)) c.loop-bank.bank (g.D.FlashDevice.state c.args.device.now).flash (g.D.FlashDevice.state c.loop-bank.device).flash c.loop-bank.cells
    (omega arith) c.in-One.log
    (subst (λ (b : Best). ScannedTo (length c.args.cells.now) c.loop-bank.bank (g.D.FlashDevice.state c.args.device.now).flash (g.D.FlashDevice.state c.loop-bank.device).flash b c.loop-bank.cells) c.in-One.is c.loop-bank.invariant.scanned)

pub returns-in-One-clause-off : goal.returns-in-One-clause-off
returns-in-One-clause-off g c =
    scanned_off (layout_on (g.D.FlashDevice.state c.args.device.now) (length c.args.cells.now)) (length c.args.cells.now) c.loop-bank.bank (g.D.FlashDevice.state c.args.device.now).flash (g.D.FlashDevice.state c.loop-bank.device).flash
    c.loop-bank.best c.loop-bank.cells c.loop-bank.invariant.scanned

pub returns-in-NoLog-clause-none : goal.returns-in-NoLog-clause-none
returns-in-NoLog-clause-none g c _ =
    scan_none (layout_on (g.D.FlashDevice.state c.args.device.now) (length c.args.cells.now)) c.loop-bank.bank (g.D.FlashDevice.state c.args.device.now).flash (g.D.FlashDevice.state c.loop-bank.device).flash c.loop-bank.cells
    (omega arith)
    (subst (λ (b : Best). ScannedTo (length c.args.cells.now) c.loop-bank.bank (g.D.FlashDevice.state c.args.device.now).flash (g.D.FlashDevice.state c.loop-bank.device).flash b c.loop-bank.cells) c.in-NoLog.is c.loop-bank.invariant.scanned)

pub returns-in-NoLog-clause-off : goal.returns-in-NoLog-clause-off
returns-in-NoLog-clause-off g c =
    scanned_off (layout_on (g.D.FlashDevice.state c.args.device.now) (length c.args.cells.now)) (length c.args.cells.now) c.loop-bank.bank (g.D.FlashDevice.state c.args.device.now).flash (g.D.FlashDevice.state c.loop-bank.device).flash
    c.loop-bank.best c.loop-bank.cells c.loop-bank.invariant.scanned

pub returns-in-Tie-clause-none : goal.returns-in-Tie-clause-none
returns-in-Tie-clause-none g c _ =
    scan_tie (layout_on (g.D.FlashDevice.state c.args.device.now) (length c.args.cells.now)) c.loop-bank.bank (g.D.FlashDevice.state c.args.device.now).flash (g.D.FlashDevice.state c.loop-bank.device).flash c.loop-bank.cells
    (omega arith) c.in-Tie.field-0
    (subst (λ (b : Best). ScannedTo (length c.args.cells.now) c.loop-bank.bank (g.D.FlashDevice.state c.args.device.now).flash (g.D.FlashDevice.state c.loop-bank.device).flash b c.loop-bank.cells) c.in-Tie.is c.loop-bank.invariant.scanned)

pub returns-in-Tie-clause-off : goal.returns-in-Tie-clause-off
returns-in-Tie-clause-off g c =
    scanned_off (layout_on (g.D.FlashDevice.state c.args.device.now) (length c.args.cells.now)) (length c.args.cells.now) c.loop-bank.bank (g.D.FlashDevice.state c.args.device.now).flash (g.D.FlashDevice.state c.loop-bank.device).flash
    c.loop-bank.best c.loop-bank.cells c.loop-bank.invariant.scanned

pub note-requires : goal.note-requires
note-requires g c =
    let few = (g.met.D.FlashDevice.is_flash c.args.device.now).few in
    omega (arith, few, c.banks-bank-end.ensures)

pub loop-bank-preserved : goal.loop-bank-preserved
loop-bank-preserved g c =
    let v = c.loop-bank.invariant in
    let same : length c.loop-bank.cells ≡ length c.args.cells.now = c.loop-bank.auto.cells in
    let there = subst (λ n. ScannedTo n c.loop-bank.bank (g.D.FlashDevice.state c.args.device.now).flash (g.D.FlashDevice.state c.loop-bank.device).flash c.loop-bank.best c.loop-bank.cells) (sym same) v.scanned in
    let more = subst (λ n. ScannedTo n (suc c.loop-bank.bank) (g.D.FlashDevice.state c.args.device.now).flash (g.D.FlashDevice.state c.read_bank.new.device).flash c.in_ok-more.more.best c.read_bank.new.cells) same (c.in_ok-more.ensures.scanned (g.D.FlashDevice.state c.args.device.now).flash there) in
    record {
      runs = runs_then _ _ _ v.runs c.read_bank.ensures.runs;
      count = c.in_ok-more.ensures.count ∙ v.count;
      scanned = subst (λ k. ScannedTo (length c.args.cells.now) k (g.D.FlashDevice.state c.args.device.now).flash (g.D.FlashDevice.state c.read_bank.new.device).flash c.in_ok-more.more.best c.read_bank.new.cells) (let e : suc c.loop-bank.bank ≡ c.loop-bank.bank + 1 = omega arith in e) more;
      free = c.in_ok-more.ensures.free (g.D.FlashDevice.state c.args.device.now).flash there v.free;
      latest = heads_more NoLaterHead (g.D.FlashDevice.state c.loop-bank.device).flash (g.D.FlashDevice.state c.read_bank.new.device).flash c.loop-bank.bank c.loop-bank.latest c.note.new.latest c.in_ok-more.more.latest (c.loop-bank.bank + 1) (omega arith)
          c.read_bank.ensures.others v.latest c.in_ok-more.ensures.latest c.note.ensures.here c.note.ensures.others;
      told = λ tells. c.in_ok-more.ensures.told (g.D.FlashDevice.state c.args.device.now).flash (v.runs.tells ∙ tells) there (v.told tells);
      noted = λ tells. heads_more NotesHead (g.D.FlashDevice.state c.loop-bank.device).flash (g.D.FlashDevice.state c.read_bank.new.device).flash c.loop-bank.bank c.loop-bank.latest c.note.new.latest c.in_ok-more.more.latest (c.loop-bank.bank + 1) (omega arith)
          c.read_bank.ensures.others (v.noted tells) (c.in_ok-more.ensures.noted (v.runs.tells ∙ tells)) c.note.ensures.here c.note.ensures.others;
    }

pub returns-in-One-clause-free : goal.returns-in-One-clause-free
returns-in-One-clause-free g c = subst (λ (b : Best). FreeBest (g.D.FlashDevice.state c.loop-bank.device).flash b) c.in-One.is c.loop-bank.invariant.free

pub returns-in-One-clause-latest : goal.returns-in-One-clause-latest
returns-in-One-clause-latest g c = subst (λ k. NoLaterHeads (g.D.FlashDevice.state c.loop-bank.device).flash k c.loop-bank.latest)
    (let e : c.loop-bank.bank ≡ (g.D.FlashDevice.state c.args.device.now).banks = omega arith in e) c.loop-bank.invariant.latest

pub returns-in-NoLog-clause-latest : goal.returns-in-NoLog-clause-latest
returns-in-NoLog-clause-latest g c = subst (λ k. NoLaterHeads (g.D.FlashDevice.state c.loop-bank.device).flash k c.loop-bank.latest)
    (let e : c.loop-bank.bank ≡ (g.D.FlashDevice.state c.args.device.now).banks = omega arith in e) c.loop-bank.invariant.latest

pub returns-in-Tie-clause-latest : goal.returns-in-Tie-clause-latest
returns-in-Tie-clause-latest g c = subst (λ k. NoLaterHeads (g.D.FlashDevice.state c.loop-bank.device).flash k c.loop-bank.latest)
    (let e : c.loop-bank.bank ≡ (g.D.FlashDevice.state c.args.device.now).banks = omega arith in e) c.loop-bank.invariant.latest

pub returns-in-One-clause-told : goal.returns-in-One-clause-told
returns-in-One-clause-told g c tells = subst (λ (b : Best). ToldBest (g.D.FlashDevice.state c.loop-bank.device).flash b) c.in-One.is (c.loop-bank.invariant.told tells)

pub returns-in-One-clause-noted : goal.returns-in-One-clause-noted
returns-in-One-clause-noted g c tells = subst (λ k. NotesHeads (g.D.FlashDevice.state c.loop-bank.device).flash k c.loop-bank.latest)
    (let e : c.loop-bank.bank ≡ (g.D.FlashDevice.state c.args.device.now).banks = omega arith in e) (c.loop-bank.invariant.noted tells)

pub returns-in-NoLog-clause-noted : goal.returns-in-NoLog-clause-noted
returns-in-NoLog-clause-noted g c tells = subst (λ k. NotesHeads (g.D.FlashDevice.state c.loop-bank.device).flash k c.loop-bank.latest)
    (let e : c.loop-bank.bank ≡ (g.D.FlashDevice.state c.args.device.now).banks = omega arith in e) (c.loop-bank.invariant.noted tells)

pub returns-in-Tie-clause-noted : goal.returns-in-Tie-clause-noted
returns-in-Tie-clause-noted g c tells = subst (λ k. NotesHeads (g.D.FlashDevice.state c.loop-bank.device).flash k c.loop-bank.latest)
    (let e : c.loop-bank.bank ≡ (g.D.FlashDevice.state c.args.device.now).banks = omega arith in e) (c.loop-bank.invariant.noted tells)
