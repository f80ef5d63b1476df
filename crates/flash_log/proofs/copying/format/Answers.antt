use Rattle.std.proofs.Common.{length, refl, arith}
use Rattle.flash_log.specs.Going.{layout_on}
use Rattle.flash_log.proofs.GoingLaws.{OnOk-map}
use Rattle.flash_log.proofs.CopyingLaws.{is_formatted}
use Rattle.flash_log.proofs.copying.format.Goals as goal

pub returns-clause-formatted : goal.returns-clause-formatted
returns-clause-formatted g c =
    let v = c.loop-bank.invariant in
    let two = (g.met.D.FlashDevice.is_flash c.args.device.now).two in
    OnOk-map c.renew.result (λ copy.
    is_formatted (layout_on (g.D.FlashDevice.state c.args.device.now) (length c.args.cells.now)) (g.D.FlashDevice.state c.loop-bank.device).flash (g.D.FlashDevice.state c.renew.new.device).flash
    c.args.cells.now 1 (g.D.FlashDevice.state c.loop-bank.device).banks two refl refl v.runs.banks copy c.renew.ensures.others
    (λ x positive below. v.blank x positive (omega (arith, below, c.banks-bank-end.ensures, c.loop-bank-test.false)))) c.renew.ensures.copy
