use Rattle.std.proofs.Common.{length, subst, ◌∙◌}
use Rattle.basics.specs.FaultCount.{Rose}
use Rattle.flash_places.specs.Places.{SameOthers}
use Rattle.flash_log.proofs.GoingLaws.{OnOk-map, OnErr-map, OnErr-from, renew_done, renew_cut, renew_erase_cut, renew_others, renew_copy, renew_blank, runs_then}
use Rattle.flash_log.proofs.CopyingLaws.{spare_is}
use Rattle.flash_log.proofs.copying.renew.Goals as goal

pub copy_log-requires-clause-blank : goal.copy_log-requires-clause-blank
copy_log-requires-clause-blank g c =
    renew_blank (g.D.FlashDevice.state c.args.device.now).banks _ (length c.args.cells.now) c.args.bank c.args.generation c.args.cells.now _ _ (g.D.FlashDevice.state c.erase.new.self).flash c.next_bank.result
    c.erase.ensures.runs.banks (spare_is c.next_bank.result c.banks.result _ c.args.bank c.next_bank.ensures.is c.banks.ensures) c.in_ok-erase.ensures.done

pub returns-in_err-erase-clause-others : goal.returns-in_err-erase-clause-others
returns-in_err-erase-clause-others g c =
    subst (λ z. SameOthers z (g.D.FlashDevice.state c.args.device.now).flash (g.D.FlashDevice.state c.erase.new.self).flash)
    (spare_is c.next_bank.result c.banks.result _ c.args.bank c.next_bank.ensures.is c.banks.ensures) c.in_err-erase.ensures.cut.others

pub returns-in_err-erase-clause-failed : goal.returns-in_err-erase-clause-failed
returns-in_err-erase-clause-failed g c = OnErr-from c.from_residual.result c.in_err-erase.ensures.failed

pub returns-in_err-erase-clause-cut : goal.returns-in_err-erase-clause-cut
returns-in_err-erase-clause-cut g c = OnErr-from c.from_residual.result
    (renew_erase_cut (g.D.FlashDevice.state c.args.device.now).banks (g.D.FlashDevice.state c.erase.new.self).banks (length c.args.cells.now) c.args.bank c.args.generation c.args.cells.now _ (g.D.FlashDevice.state c.erase.new.self).flash (g.D.FlashDevice.state c.erase.new.self).flash c.next_bank.result
    c.erase.ensures.runs.banks (spare_is c.next_bank.result c.banks.result _ c.args.bank c.next_bank.ensures.is c.banks.ensures) c.in_err-erase.ensures.cut)

pub returns-clause-runs : goal.returns-clause-runs
returns-clause-runs g c = runs_then _ _ _ c.erase.ensures.runs c.copy_log.ensures.runs

pub returns-clause-count : goal.returns-clause-count
returns-clause-count g c = OnOk-map c.copy_log.result (λ p. p ∙ c.in_ok-erase.ensures.count) c.copy_log.ensures.count

pub returns-clause-failed : goal.returns-clause-failed
returns-clause-failed g c = OnErr-map c.copy_log.result (λ p. subst (λ z. Rose z (g.D.FlashDevice.state c.copy_log.new.device).faults) c.in_ok-erase.ensures.count p) c.copy_log.ensures.failed

pub returns-clause-others : goal.returns-clause-others
returns-clause-others g c =
    renew_others (g.D.FlashDevice.state c.args.device.now).banks (g.D.FlashDevice.state c.erase.new.self).banks (length c.args.cells.now) c.args.bank c.args.generation c.args.cells.now _ (g.D.FlashDevice.state c.erase.new.self).flash _ c.next_bank.result
    c.erase.ensures.runs.banks (spare_is c.next_bank.result c.banks.result _ c.args.bank c.next_bank.ensures.is c.banks.ensures) c.in_ok-erase.ensures.done.others c.copy_log.ensures.others

pub returns-clause-copy : goal.returns-clause-copy
returns-clause-copy g c = OnOk-map c.copy_log.result (λ p.
    renew_copy (g.D.FlashDevice.state c.args.device.now).banks (g.D.FlashDevice.state c.erase.new.self).banks (length c.args.cells.now) c.args.bank c.args.generation c.args.cells.now
    (g.D.FlashDevice.state c.args.device.now).flash (g.D.FlashDevice.state c.erase.new.self).flash _ c.next_bank.result
    c.erase.ensures.runs.banks (spare_is c.next_bank.result c.banks.result _ c.args.bank c.next_bank.ensures.is c.banks.ensures) p) c.copy_log.ensures.copy

pub returns-clause-done : goal.returns-clause-done
returns-clause-done g c = OnOk-map c.copy_log.result (λ p.
    renew_done (g.D.FlashDevice.state c.args.device.now).banks (g.D.FlashDevice.state c.erase.new.self).banks (length c.args.cells.now) c.args.bank c.args.generation c.args.cells.now _ (g.D.FlashDevice.state c.erase.new.self).flash _ c.next_bank.result
    c.erase.ensures.runs.banks (spare_is c.next_bank.result c.banks.result _ c.args.bank c.next_bank.ensures.is c.banks.ensures) c.in_ok-erase.ensures.done p) c.copy_log.ensures.done

pub returns-clause-cut : goal.returns-clause-cut
returns-clause-cut g c = OnErr-map c.copy_log.result (λ p.
    renew_cut (g.D.FlashDevice.state c.args.device.now).banks (g.D.FlashDevice.state c.erase.new.self).banks (length c.args.cells.now) c.args.bank c.args.generation c.args.cells.now _ (g.D.FlashDevice.state c.erase.new.self).flash _ c.next_bank.result
    c.erase.ensures.runs.banks (spare_is c.next_bank.result c.banks.result _ c.args.bank c.next_bank.ensures.is c.banks.ensures) c.in_ok-erase.ensures.done p) c.copy_log.ensures.cut
