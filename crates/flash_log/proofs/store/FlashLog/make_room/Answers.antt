use Rattle.std.proofs.Common.{◌+◌, length, refl, ◌∙◌, arith}
use Rattle.flash_laws.specs.Lives.{was_ready}
use Rattle.flash_log.specs.Stores.{stage_of}
use Rattle.flash_log.proofs.CopyingLaws.{spare_is}
use Rattle.flash_log.proofs.StoreLaws.{renewed, renewed_cut}
use Rattle.flash_log.proofs.store.FlashLog.make_room.Goals as goal

pub returns-in-Ok-clause-goes : goal.returns-in-Ok-clause-goes
returns-in-Ok-clause-goes g c =
    renewed (g.D.FlashDevice.state c.args.device.now).banks (g.D.FlashDevice.state c.args.device.now).banks (length c.args.cells.now) (length c.args.cells.now) c.args.self.now.bank c.args.self.now.generation c.args.cells.now
    (g.D.FlashDevice.state c.args.device.now).flash (g.D.FlashDevice.state c.renew.new.device).flash refl refl (stage_of c.args.self.now c.args.cells.now) (was_ready c.args.self.now.next refl) c.in-Ok.ensures.done
    c.next_bank-self.result (c.args.self.now.generation + 1) (1 + length c.args.cells.now)
    (spare_is c.next_bank-self.result c.banks.result _ c.args.self.now.bank c.next_bank-self.ensures.is (c.banks.ensures ∙ c.renew.ensures.runs.banks)) (omega arith) (omega arith)

pub returns-in-Err-clause-cut : goal.returns-in-Err-clause-cut
returns-in-Err-clause-cut g c _ =
    renewed_cut (g.D.FlashDevice.state c.args.device.now).banks (g.D.FlashDevice.state c.args.device.now).banks (length c.args.cells.now) (length c.args.cells.now) c.args.self.now.bank c.args.self.now.generation c.args.cells.now
    (g.D.FlashDevice.state c.args.device.now).flash (g.D.FlashDevice.state c.renew.new.device).flash refl refl (stage_of c.args.self.now c.args.cells.now) (was_ready c.args.self.now.next refl) c.in-Err.ensures.cut
