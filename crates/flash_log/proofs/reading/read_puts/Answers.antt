use Rattle.std.proofs.Common.{◌+◌, length, ◌∙◌, arith}
use Rattle.flash_log.proofs.HeadLaws.{told_nothing}
use Rattle.flash_places.specs.declared.Answer.TheVariants.{Whole, Blank, Nothing}
use Rattle.flash_log.proofs.GoingLaws.{runs_then, others_then}
use Rattle.flash_log.proofs.BankLaws.{puts_end, puts_on}
use Rattle.flash_log.proofs.FreeLaws.{as_answer}
use Rattle.flash_log.proofs.reading.read_puts.Goals as goal

pub returns-in-Blank-clause-puts : goal.returns-in-Blank-clause-puts
returns-in-Blank-clause-puts g c =
    let d = c.in_ok-line.ensures.looks in
    puts_end (length c.args.cells.now) c.loop-place.place c.args.bank (g.D.FlashDevice.state c.args.device.now).flash (g.D.FlashDevice.state c.loop-place.device).flash (g.D.FlashDevice.state c.look.new.self).flash c.args.cells.now c.loop-place.cells
    c.loop-place.invariant.to d.same.rest (as_answer _ _ c.in_ok-line.field-0 Blank d.looks c.in-Blank.is)

pub returns-in-Nothing-clause-puts : goal.returns-in-Nothing-clause-puts
returns-in-Nothing-clause-puts g c =
    let d = c.in_ok-line.ensures.looks in
    puts_end (length c.args.cells.now) c.loop-place.place c.args.bank (g.D.FlashDevice.state c.args.device.now).flash (g.D.FlashDevice.state c.loop-place.device).flash (g.D.FlashDevice.state c.look.new.self).flash c.args.cells.now c.loop-place.cells
    c.loop-place.invariant.to d.same.rest (as_answer _ _ c.in_ok-line.field-0 Nothing d.looks c.in-Nothing.is)

pub loop-place-preserved : goal.loop-place-preserved
loop-place-preserved g c =
    let d = c.in_ok-line.ensures.looks in
    record {
      runs = runs_then _ _ _ c.loop-place.invariant.runs c.look.ensures.runs;
      count = c.in_ok-line.ensures.count ∙ c.loop-place.invariant.count;
      before = λ k h. d.same.rest k (λ e. absurd (omega (arith, c.loop-place.invariant.to.count))) ∙ c.loop-place.invariant.before k h;
      others = others_then c.args.bank _ _ _ c.loop-place.invariant.others d.same.others;
      to = puts_on (length c.args.cells.now) c.loop-place.place c.args.bank (g.D.FlashDevice.state c.args.device.now).flash (g.D.FlashDevice.state c.loop-place.device).flash (g.D.FlashDevice.state c.look.new.self).flash c.args.cells.now c.loop-place.cells
          c.loop-place.invariant.to d.same.rest c.in-Whole.line (c.loop-place.place + 1) c.make_line.new.cells
          (as_answer _ _ c.in_ok-line.field-0 (Whole c.in-Whole.line) d.looks c.in-Whole.is)
          (omega arith) c.make_line.ensures;
    }

pub returns-in-Nothing-clause-told : goal.returns-in-Nothing-clause-told
returns-in-Nothing-clause-told g c tells blank =
    absurd (told_nothing c.in_ok-line.field-0 ((g.D.FlashDevice.state c.loop-place.device).flash c.args.bank c.loop-place.place) ((g.D.FlashDevice.state c.look.new.self).flash c.args.bank c.loop-place.place)
    (c.in_ok-line.ensures.told (c.loop-place.invariant.runs.tells ∙ tells)) c.in_ok-line.ensures.looks.looks c.in-Nothing.is blank)
