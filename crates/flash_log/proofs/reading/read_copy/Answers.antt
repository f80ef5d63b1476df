use Rattle.std.proofs.Common.{◌≡◌, ◌+◌, Option, Some, length, ap, subst, ◌∙◌, arith}
use Rattle.flash_places.specs.declared.FlashLine.{FlashLine}
use Rattle.flash_places.specs.declared.FlashLine.TheVariants.{Head, Entry}
use Rattle.flash_places.specs.Places.{FlashPlace, Looks}
use Rattle.flash_log.proofs.GoingLaws.{runs_then, others_then}
use Rattle.flash_log.proofs.BankLaws.{copy_odd, copy_ends, copy_on}
use Rattle.flash_log.proofs.reading.read_copy.Goals as goal

said : (p q : FlashPlace) (answer : Option FlashLine) (line line' : FlashLine) → Looks p answer q → answer ≡ Some line → line ≡ line' → Looks p (Some line') q
said p q answer line line' looks e f = subst (λ (a : Option FlashLine). Looks p a q) (e ∙ ap (λ z. Some z) f) looks

pub returns-then-cell-i-clause-none : goal.returns-then-cell-i-clause-none
returns-then-cell-i-clause-none g c = λ _.
    let d = c.in_ok-cell.ensures.looks in
    copy_odd (length c.args.cells.now) c.loop-i.i ((g.D.FlashDevice.state c.args.device.now).flash c.args.bank) ((g.D.FlashDevice.state c.loop-i.device).flash c.args.bank) ((g.D.FlashDevice.state c.look_line.new.device).flash c.args.bank) c.loop-i.cells (omega arith) (omega arith) c.loop-i.invariant.taken (1 + c.loop-i.i) (omega arith) d.same.rest
    (Entry c.in-Some-Entry.cell c.in-Some-Entry.payload) (said _ _ _ _ _ d.looks c.in-Some-Entry.is c.in-Some-Entry.field-0-is)
    (λ payload e. c.if-cell-i.true (let x : c.in-Some-Entry.cell ≡ c.loop-i.i = cc in x))

pub returns-in-Some-Head-clause-none : goal.returns-in-Some-Head-clause-none
returns-in-Some-Head-clause-none g c = λ _.
    let d = c.in_ok-cell.ensures.looks in
    copy_odd (length c.args.cells.now) c.loop-i.i ((g.D.FlashDevice.state c.args.device.now).flash c.args.bank) ((g.D.FlashDevice.state c.loop-i.device).flash c.args.bank) ((g.D.FlashDevice.state c.look_line.new.device).flash c.args.bank) c.loop-i.cells (omega arith) (omega arith) c.loop-i.invariant.taken (1 + c.loop-i.i) (omega arith) d.same.rest
    (Head c.in-Some-Head.field-0-0) (said _ _ _ _ _ d.looks c.in-Some-Head.is c.in-Some-Head.field-0-is) (λ payload e. cc)

pub returns-in-None-clause-none : goal.returns-in-None-clause-none
returns-in-None-clause-none g c = λ _.
    let d = c.in_ok-cell.ensures.looks in
    copy_ends (length c.args.cells.now) c.loop-i.i ((g.D.FlashDevice.state c.args.device.now).flash c.args.bank) ((g.D.FlashDevice.state c.loop-i.device).flash c.args.bank) ((g.D.FlashDevice.state c.look_line.new.device).flash c.args.bank) c.loop-i.cells (omega arith) (omega arith) c.loop-i.invariant.taken (1 + c.loop-i.i) (omega arith) d.same.rest
    (subst (λ (a : Option FlashLine). Looks ((g.D.FlashDevice.state c.loop-i.device).flash c.args.bank (1 + c.loop-i.i)) a ((g.D.FlashDevice.state c.look_line.new.device).flash c.args.bank (1 + c.loop-i.i))) c.in-None.is d.looks)

pub loop-i-preserved : goal.loop-i-preserved
loop-i-preserved g c =
    let d = c.in_ok-cell.ensures.looks in
    record {
      runs = runs_then _ _ _ c.loop-i.invariant.runs c.look_line.ensures.runs;
      count = c.in_ok-cell.ensures.count ∙ c.loop-i.invariant.count;
      head = d.same.rest 0 (λ e. absurd (omega arith)) ∙ c.loop-i.invariant.head;
      others = others_then c.args.bank _ _ _ c.loop-i.invariant.others d.same.others;
      taken = copy_on (length c.args.cells.now) c.loop-i.i ((g.D.FlashDevice.state c.args.device.now).flash c.args.bank) ((g.D.FlashDevice.state c.loop-i.device).flash c.args.bank) ((g.D.FlashDevice.state c.look_line.new.device).flash c.args.bank) c.loop-i.cells (omega arith) (omega arith) c.loop-i.invariant.taken (1 + c.loop-i.i) (omega arith) d.same.rest
          c.in-Some-Entry.cell c.in-Some-Entry.payload (c.loop-i.i + 1) (said _ _ _ _ _ d.looks c.in-Some-Entry.is c.in-Some-Entry.field-0-is) c.if-cell-i.false (omega arith);
    }
