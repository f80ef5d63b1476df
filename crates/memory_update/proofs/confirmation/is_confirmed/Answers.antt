use Rattle.std.proofs.Common.{refl}
use Rattle.std.proofs.lemmas.Slice.Eq.{slice_eq-Decides, bytes_eq-Decides}
use Rattle.memory_update.proofs.AnswerSteps.{confirmed_by}
use Rattle.memory_update.proofs.confirmation.is_confirmed.Goals as goal

pub returns : goal.returns
returns c =
    let r = c.args.reply.now in
    let s = c.confirm_for.result in
    confirmed_by r s c.args.update.now c.args.uid c.eq.result _ _ c.confirm_for.ensures (slice_eq-Decides bytes_eq-Decides r.m4 s.m4 _ refl) (bytes_eq-Decides r.m5 s.m5) c.eq.ensures
