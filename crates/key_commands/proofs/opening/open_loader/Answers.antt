use Rattle.std.proofs.lemmas.Result.{IfOk-weaker, IfErr-weaker}
use Rattle.key_commands.proofs.OpeningLaws.{counts_then, none_found, not_looked, not_opened_before, opens_before}
use Rattle.key_commands.proofs.opening.open_loader.Goals as goal

pub returns-in-Err-clause-refused : goal.returns-in-Err-clause-refused
returns-in-Err-clause-refused g c = not_looked _ _ c.in-Err.fault _ c.in-Err.ensures.refused c.store_refusal-refusal.ensures

pub returns-in-Some-clause-opened : goal.returns-in-Some-clause-opened
returns-in-Some-clause-opened g c =
    let read = c.in-Ok.ensures.as_before in
    IfOk-weaker c.attach_found.result _ _
    (λ loader h. opens_before _ _ read c.args.uid loader (h (counts_then _ _ read c.in-Some.found (λ t told. rw c.in-Some.is at c.in-Ok.ensures.found t told))))
    c.attach_found.ensures.opened

pub returns-in-Some-clause-refused : goal.returns-in-Some-clause-refused
returns-in-Some-clause-refused g c =
    let read = c.in-Ok.ensures.as_before in
    IfErr-weaker c.attach_found.result _ _
    (λ r h. not_opened_before _ _ read _ r.refusal (h (counts_then _ _ read c.in-Some.found (λ t told. rw c.in-Some.is at c.in-Ok.ensures.found t told))))
    c.attach_found.ensures.refused

pub returns-in-None-clause-refused : goal.returns-in-None-clause-refused
returns-in-None-clause-refused g c =
    none_found _ _ _ c.in-Ok.ensures.as_before c.in-Ok.ensures.room (λ t told. rw c.in-None.is at c.in-Ok.ensures.found t told) c.store_refusal-refusal-in-None.ensures
