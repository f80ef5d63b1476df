use Rattle.std.proofs.Common.{◌≡◌, true, length, sym, subst}
use Rattle.flash_log.specs.declared.reading.LogEnd.{LogEnd}
use Rattle.flash_log.specs.declared.scanning.Best.{Best}
use Rattle.flash_log.specs.Going.{BlankFrom}
use Rattle.flash_log.specs.Scanned.{FreeBest, ToldBest}
use Rattle.flash_log.proofs.GoingLaws.{in_some}
use Rattle.flash_log.proofs.BankLaws.{is_read_as}
use Rattle.flash_log.proofs.ScanLaws.{scanned_same, scanned_stays, scanned_new, free_same, free_judged, told_same, told_judged}
use Rattle.flash_log.proofs.scanning.read_bank.Goals as goal

pub returns-then-not-is_new-clause-scanned : goal.returns-then-not-is_new-clause-scanned
returns-then-not-is_new-clause-scanned g c first s =
    scanned_stays (length c.args.cells.now) c.args.bank first (g.D.FlashDevice.state c.args.device.now).flash (g.D.FlashDevice.state c.read_log.new.device).flash c.args.best c.args.cells.now c.read_log.new.cells s
    c.read_log.ensures.others c.in_ok-read.read.log c.in-Some.log c.judge-better.result.0 c.in-Some.is c.judge-better.ensures.best
    (is_read_as (length c.args.scratch.now) (length c.args.cells.now) c.requires.alike _ _ _ _ c.in_ok-read.ensures.log)
    c.judge-better.result.1 c.judge-better.ensures.newest c.if-not-is_new.true

pub returns-else-not-is_new-clause-scanned : goal.returns-else-not-is_new-clause-scanned
returns-else-not-is_new-clause-scanned g c first s =
    scanned_new (length c.args.cells.now) c.args.bank first (g.D.FlashDevice.state c.args.device.now).flash (g.D.FlashDevice.state c.read_log.new.device).flash c.args.best c.args.cells.now c.read_log.new.cells s
    c.read_log.ensures.others c.in_ok-read.read.log c.in-Some.log c.judge-better.result.0 c.in-Some.is c.judge-better.ensures.best
    (is_read_as (length c.args.scratch.now) (length c.args.cells.now) c.requires.alike _ _ _ _ c.in_ok-read.ensures.log)
    c.judge-better.result.1 c.judge-better.ensures.newest c.if-not-is_new.false c.copy_from_slice.new.self c.copy_from_slice.ensures.after

pub returns-in-None-clause-scanned : goal.returns-in-None-clause-scanned
returns-in-None-clause-scanned g c first s =
    scanned_same (length c.args.cells.now) c.args.bank first (g.D.FlashDevice.state c.args.device.now).flash (g.D.FlashDevice.state c.read_log.new.device).flash c.args.best c.args.cells.now c.read_log.new.cells s
    c.read_log.ensures.others c.in_ok-read.read.log c.in-None.is
    (is_read_as (length c.args.scratch.now) (length c.args.cells.now) c.requires.alike _ _ _ _ c.in_ok-read.ensures.log)

pub returns-then-not-is_new-clause-free : goal.returns-then-not-is_new-clause-free
returns-then-not-is_new-clause-free g c first s free =
    subst (λ (b : Best). FreeBest (g.D.FlashDevice.state c.read_log.new.device).flash b) (sym c.judge-better.ensures.best)
    (free_judged (length c.args.cells.now) c.args.bank s.read (g.D.FlashDevice.state c.args.device.now).flash (g.D.FlashDevice.state c.read_log.new.device).flash c.args.cells.now c.read_log.ensures.others c.in-Some.log
    (in_some (λ (z : LogEnd). z.is_free ≡ true → BlankFrom (g.D.FlashDevice.state c.read_log.new.device).flash c.args.bank z.next) c.in_ok-read.read.log c.in-Some.log c.in_ok-read.ensures.free c.in-Some.is) c.args.best s.is free)

pub returns-else-not-is_new-clause-free : goal.returns-else-not-is_new-clause-free
returns-else-not-is_new-clause-free g c first s free =
    subst (λ (b : Best). FreeBest (g.D.FlashDevice.state c.read_log.new.device).flash b) (sym c.judge-better.ensures.best)
    (free_judged (length c.args.cells.now) c.args.bank s.read (g.D.FlashDevice.state c.args.device.now).flash (g.D.FlashDevice.state c.read_log.new.device).flash c.args.cells.now c.read_log.ensures.others c.in-Some.log
    (in_some (λ (z : LogEnd). z.is_free ≡ true → BlankFrom (g.D.FlashDevice.state c.read_log.new.device).flash c.args.bank z.next) c.in_ok-read.read.log c.in-Some.log c.in_ok-read.ensures.free c.in-Some.is) c.args.best s.is free)

pub returns-in-None-clause-free : goal.returns-in-None-clause-free
returns-in-None-clause-free g c first s free =
    free_same (length c.args.cells.now) c.args.bank s.read (g.D.FlashDevice.state c.args.device.now).flash (g.D.FlashDevice.state c.read_log.new.device).flash c.args.cells.now c.read_log.ensures.others c.args.best s.is free

pub returns-then-not-is_new-clause-told : goal.returns-then-not-is_new-clause-told
returns-then-not-is_new-clause-told g c first tells s told =
    subst (λ (b : Best). ToldBest (g.D.FlashDevice.state c.read_log.new.device).flash b) (sym c.judge-better.ensures.best)
    (told_judged (length c.args.cells.now) c.args.bank s.read (g.D.FlashDevice.state c.args.device.now).flash (g.D.FlashDevice.state c.read_log.new.device).flash c.args.cells.now c.read_log.ensures.others c.in-Some.log
    (in_some (λ (z : LogEnd). (g.D.FlashDevice.state c.args.device.now).tells_blank ≡ true → BlankFrom (g.D.FlashDevice.state c.read_log.new.device).flash c.args.bank z.next → z.is_free ≡ true)
    c.in_ok-read.read.log c.in-Some.log c.in_ok-read.ensures.told c.in-Some.is tells) c.args.best s.is told)

pub returns-else-not-is_new-clause-told : goal.returns-else-not-is_new-clause-told
returns-else-not-is_new-clause-told g c first tells s told =
    subst (λ (b : Best). ToldBest (g.D.FlashDevice.state c.read_log.new.device).flash b) (sym c.judge-better.ensures.best)
    (told_judged (length c.args.cells.now) c.args.bank s.read (g.D.FlashDevice.state c.args.device.now).flash (g.D.FlashDevice.state c.read_log.new.device).flash c.args.cells.now c.read_log.ensures.others c.in-Some.log
    (in_some (λ (z : LogEnd). (g.D.FlashDevice.state c.args.device.now).tells_blank ≡ true → BlankFrom (g.D.FlashDevice.state c.read_log.new.device).flash c.args.bank z.next → z.is_free ≡ true)
    c.in_ok-read.read.log c.in-Some.log c.in_ok-read.ensures.told c.in-Some.is tells) c.args.best s.is told)

pub returns-in-None-clause-told : goal.returns-in-None-clause-told
returns-in-None-clause-told g c first tells s told =
    told_same (length c.args.cells.now) c.args.bank s.read (g.D.FlashDevice.state c.args.device.now).flash (g.D.FlashDevice.state c.read_log.new.device).flash c.args.cells.now c.read_log.ensures.others c.args.best s.is told
