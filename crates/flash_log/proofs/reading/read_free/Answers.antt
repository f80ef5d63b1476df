use Rattle.std.proofs.Common.{◌+◌, refl, ap, ◌∙◌, arith}
use Rattle.flash_places.specs.declared.Answer.{Answer}
use Rattle.flash_places.specs.declared.Answer.TheVariants.{Whole}
use Rattle.flash_places.specs.Places.{line_in}
use Rattle.flash_log.proofs.GoingLaws.{runs_then}
use Rattle.flash_log.proofs.FreeLaws.{as_answer, not_not, one_look, look_others, look_before, look_same, same_part, blank_more, blank_to_end}
use Rattle.flash_log.proofs.HeadLaws.{not_both, seen_blank, told_nothing}
use Rattle.flash_log.proofs.reading.read_free.Goals as goal

pub returns-then-not-end-clause-looks : goal.returns-then-not-end-clause-looks
returns-then-not-end-clause-looks g c = same_part c.args.bank (g.D.FlashDevice.state c.args.device.now).flash (g.D.FlashDevice.state c.args.device.now).flash (λ x k. refl)

pub returns-in_err-look-clause-before : goal.returns-in_err-look-clause-before
returns-in_err-look-clause-before g c k below = c.in_err-look.ensures.same c.args.bank k ∙ c.loop-place.invariant.same c.args.bank k

pub returns-in_err-look-clause-others : goal.returns-in_err-look-clause-others
returns-in_err-look-clause-others g c x ne k = c.in_err-look.ensures.same x k ∙ c.loop-place.invariant.same x k

pub returns-in_err-look-clause-looks : goal.returns-in_err-look-clause-looks
returns-in_err-look-clause-looks g c = same_part c.args.bank (g.D.FlashDevice.state c.args.device.now).flash (g.D.FlashDevice.state c.look.new.self).flash
    (λ x k. c.in_err-look.ensures.same x k ∙ c.loop-place.invariant.same x k)

pub returns-in-Whole-clause-before : goal.returns-in-Whole-clause-before
returns-in-Whole-clause-before g c =
    look_before c.args.bank c.loop-place.place c.in_ok-look.field-0 (g.D.FlashDevice.state c.args.device.now).flash (g.D.FlashDevice.state c.loop-place.device).flash (g.D.FlashDevice.state c.look.new.self).flash
    c.loop-place.invariant.same c.in_ok-look.ensures.looks c.args.end.next (omega arith) (c.requires.blank (not_not c.args.end.is_blank c.if-not-end.false))

pub returns-in-Whole-clause-others : goal.returns-in-Whole-clause-others
returns-in-Whole-clause-others g c =
    look_others c.args.bank c.loop-place.place c.in_ok-look.field-0 (g.D.FlashDevice.state c.args.device.now).flash (g.D.FlashDevice.state c.loop-place.device).flash (g.D.FlashDevice.state c.look.new.self).flash
    c.loop-place.invariant.same c.in_ok-look.ensures.looks

pub returns-in-Whole-clause-looks : goal.returns-in-Whole-clause-looks
returns-in-Whole-clause-looks g c =
    one_look c.args.bank c.loop-place.place c.in_ok-look.field-0 (g.D.FlashDevice.state c.args.device.now).flash (g.D.FlashDevice.state c.loop-place.device).flash (g.D.FlashDevice.state c.look.new.self).flash
    c.loop-place.invariant.same c.in_ok-look.ensures.looks

pub returns-in-Nothing-clause-before : goal.returns-in-Nothing-clause-before
returns-in-Nothing-clause-before g c =
    look_before c.args.bank c.loop-place.place c.in_ok-look.field-0 (g.D.FlashDevice.state c.args.device.now).flash (g.D.FlashDevice.state c.loop-place.device).flash (g.D.FlashDevice.state c.look.new.self).flash
    c.loop-place.invariant.same c.in_ok-look.ensures.looks c.args.end.next (omega arith) (c.requires.blank (not_not c.args.end.is_blank c.if-not-end.false))

pub returns-in-Nothing-clause-others : goal.returns-in-Nothing-clause-others
returns-in-Nothing-clause-others g c =
    look_others c.args.bank c.loop-place.place c.in_ok-look.field-0 (g.D.FlashDevice.state c.args.device.now).flash (g.D.FlashDevice.state c.loop-place.device).flash (g.D.FlashDevice.state c.look.new.self).flash
    c.loop-place.invariant.same c.in_ok-look.ensures.looks

pub returns-in-Nothing-clause-looks : goal.returns-in-Nothing-clause-looks
returns-in-Nothing-clause-looks g c =
    one_look c.args.bank c.loop-place.place c.in_ok-look.field-0 (g.D.FlashDevice.state c.args.device.now).flash (g.D.FlashDevice.state c.loop-place.device).flash (g.D.FlashDevice.state c.look.new.self).flash
    c.loop-place.invariant.same c.in_ok-look.ensures.looks

pub loop-place-preserved : goal.loop-place-preserved
loop-place-preserved g c =
    let d = c.in_ok-look.ensures.looks in
    let v = c.loop-place.invariant in
    let same = look_same c.args.bank c.loop-place.place c.in_ok-look.field-0 (g.D.FlashDevice.state c.args.device.now).flash (g.D.FlashDevice.state c.loop-place.device).flash (g.D.FlashDevice.state c.look.new.self).flash
    v.same d (ap (λ (a : Answer). line_in a) c.in-Blank.is) in
    let here = look_same c.args.bank c.loop-place.place c.in_ok-look.field-0 (g.D.FlashDevice.state c.loop-place.device).flash (g.D.FlashDevice.state c.loop-place.device).flash (g.D.FlashDevice.state c.look.new.self).flash
    (λ x k. refl) d (ap (λ (a : Answer). line_in a) c.in-Blank.is) in
    record {
      runs = runs_then _ _ _ v.runs c.look.ensures.runs;
      count = c.in_ok-look.ensures.count ∙ v.count;
      same = same;
      blank = blank_more (g.D.FlashDevice.state c.loop-place.device).flash (g.D.FlashDevice.state c.look.new.self).flash c.args.bank c.args.end.next c.loop-place.place (c.loop-place.place + 1)
          here (omega arith) (here c.args.bank c.loop-place.place ∙ d.is_blank c.in-Blank.is) v.blank;
    }

pub returns-clause-before : goal.returns-clause-before
returns-clause-before g c k below = c.loop-place.invariant.same c.args.bank k

pub returns-clause-others : goal.returns-clause-others
returns-clause-others g c x ne k = c.loop-place.invariant.same x k

pub returns-clause-looks : goal.returns-clause-looks
returns-clause-looks g c = same_part c.args.bank (g.D.FlashDevice.state c.args.device.now).flash (g.D.FlashDevice.state c.loop-place.device).flash c.loop-place.invariant.same

pub returns-clause-free : goal.returns-clause-free
returns-clause-free g c _ =
    blank_to_end (g.D.FlashDevice.state c.loop-place.device).flash c.args.bank c.args.end.next c.loop-place.place (g.D.FlashDevice.state c.loop-place.device).places
    (g.met.D.FlashDevice.is_flash c.loop-place.device).behind (omega (arith, c.loop-place.invariant.runs.places)) c.loop-place.invariant.blank

pub returns-then-not-end-clause-told : goal.returns-then-not-end-clause-told
returns-then-not-end-clause-told g c tells blank = absurd (not_both c.args.end.is_blank c.if-not-end.true (c.requires.told tells (blank c.args.end.next (omega arith))))

pub returns-in-Whole-clause-told : goal.returns-in-Whole-clause-told
returns-in-Whole-clause-told g c tells blank =
    let looks = as_answer _ _ c.in_ok-look.field-0 (Whole c.in-Whole.field-0) c.in_ok-look.ensures.looks.looks c.in-Whole.is in
    absurd (seen_blank ((g.D.FlashDevice.state c.loop-place.device).flash c.args.bank c.loop-place.place) ((g.D.FlashDevice.state c.look.new.self).flash c.args.bank c.loop-place.place) c.in-Whole.field-0
    looks (blank c.loop-place.place (omega arith)))

pub returns-in-Nothing-clause-told : goal.returns-in-Nothing-clause-told
returns-in-Nothing-clause-told g c tells blank =
    absurd (told_nothing c.in_ok-look.field-0 ((g.D.FlashDevice.state c.loop-place.device).flash c.args.bank c.loop-place.place) ((g.D.FlashDevice.state c.look.new.self).flash c.args.bank c.loop-place.place)
    (c.in_ok-look.ensures.told (c.loop-place.invariant.runs.tells ∙ tells)) c.in_ok-look.ensures.looks.looks c.in-Nothing.is (blank c.loop-place.place (omega arith)))
