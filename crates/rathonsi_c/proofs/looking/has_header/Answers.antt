use Rattle.std.proofs.Common.{Err, refl, ap}
use Rattle.std.proofs.lemmas.Bool.{false≢true}
use Rattle.rathonsi_c.proofs.looking.has_header.Goals as goal

pub returns-in-Ok : goal.returns-in-Ok
returns-in-Ok c = (λ _. c.in-Ok.ensures.head refl, λ _. refl)

pub returns-in-Err-Damaged : goal.returns-in-Err-Damaged
returns-in-Err-Damaged c = (λ _. (c.in-Err-Damaged.ensures.damaged.0 (ap Err c.in-Err-Damaged.field-0-is)).0, λ _. refl)

pub returns-in-Err-NoStore : goal.returns-in-Err-NoStore
returns-in-Err-NoStore c =
    (λ e. absurd (false≢true e), λ head. absurd (c.in-Err-NoStore.ensures.no_store.0 (ap Err c.in-Err-NoStore.field-0-is) head))
