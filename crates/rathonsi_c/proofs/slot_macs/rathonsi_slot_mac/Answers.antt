use Rattle.std.proofs.Common.{refl, subst, rules}
use Rattle.rathonsi_c.specs.SlotMacs.{NamesKey, SlotMacAnswers}
use Rattle.rathonsi_c.proofs.SlotMacLaws.{refused_mac, done_mac}
use Rattle.rathonsi_c.proofs.slot_macs.rathonsi_slot_mac.Goals as goal

pub returns-in-Ok-clause-answer : goal.returns-in-Ok-clause-answer
returns-in-Ok-clause-answer c =
    let named : NamesKey c.args.slot c.args.booted = record { slot_least = c.if-slot-lt4.false; slot_most = c.if-slot-gt13.false; booted_most = c.if-booted-gt1.false } in
    done_mac c.args.slot c.args.booted c.args.image.now c.in-Ok.key _ named c.in-Ok.ensures.key refl

pub returns-in-Err-clause-answer : goal.returns-in-Err-clause-answer
returns-in-Err-clause-answer c =
    let named : NamesKey c.args.slot c.args.booted = record { slot_least = c.if-slot-lt4.false; slot_most = c.if-slot-gt13.false; booted_most = c.if-booted-gt1.false } in
    subst (λ s. SlotMacAnswers c.args.slot c.args.booted c.args.image.now s) (search rules) (refused_mac c.args.slot c.args.booted c.args.image.now c.in-Err.refusal named c.in-Err.ensures.refused)
