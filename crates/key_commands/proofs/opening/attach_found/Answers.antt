use Rattle.std.proofs.lemmas.Result.{IfOk-weaker, IfErr-weaker}
use Rattle.key_commands.proofs.OpeningLaws.{bad_slot_found, few_found, not_attached, opens}
use Rattle.key_commands.proofs.opening.attach_found.Goals as goal

pub returns-then-found-lt14-clause-refused : goal.returns-then-found-lt14-clause-refused
returns-then-found-lt14-clause-refused g c = λ counts. few_found _ c.args.found _ counts c.requires.room c.if-found-lt14.true c.fixed-refusal.ensures

pub returns-in-Ok-clause-opened : goal.returns-in-Ok-clause-opened
returns-in-Ok-clause-opened g c =
    IfOk-weaker c.attach_engine.result _ _
    (λ loader h counts. opens _ c.args.found _ c.args.uid loader counts c.requires.few c.in-Ok.ensures.attached c.if-found-lt14.false h.0 h.1 h.2 h.3)
    c.attach_engine.ensures.opened

pub returns-in-Ok-clause-refused : goal.returns-in-Ok-clause-refused
returns-in-Ok-clause-refused g c =
    IfErr-weaker c.attach_engine.result _ _
    (λ r h counts. bad_slot_found _ _ c.args.found _ r.refusal counts c.requires.few c.if-found-lt14.false c.in-Ok.ensures.attached h.0 h.1)
    c.attach_engine.ensures.refused

pub returns-in-Err-clause-refused : goal.returns-in-Err-clause-refused
returns-in-Err-clause-refused g c = λ counts. not_attached _ _ c.args.found c.in-Err.refused.fault _ counts c.requires.room c.requires.few c.if-found-lt14.false c.in-Err.ensures.refused c.store_refusal.ensures
