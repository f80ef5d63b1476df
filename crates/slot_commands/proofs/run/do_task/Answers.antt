use Rattle.std.proofs.lemmas.Result.{err_from_is_err_and}
use Rattle.slot_commands.proofs.Phases.{list_did, list_refused, check_good, check_bad, check_refused, reply_did, reply_refused}
use Rattle.slot_commands.proofs.run.do_task.Goals as goal

pub returns-in_err-text-in-List-clause-refused : goal.returns-in_err-text-in-List-clause-refused
returns-in_err-text-in-List-clause-refused c =
    let p = err_from_is_err_and c.from_residual.result c.from_residual.ensures.1 in
    rw (p.1, p.2) (list_refused _ _ _ c.in-List.is c.in_err-text-in-List.ensures.refused)

pub returns-in_err-text-in-Check-clause-refused : goal.returns-in_err-text-in-Check-clause-refused
returns-in_err-text-in-Check-clause-refused c =
    let p = err_from_is_err_and c.from_residual-in_err-text-in-Check.result c.from_residual-in_err-text-in-Check.ensures.1 in
    rw (p.1, p.2) (check_refused _ _ _ c.in-Check.is c.in_err-text-in-Check.ensures.refused)

pub returns-in_err-text-in-Reply-clause-refused : goal.returns-in_err-text-in-Reply-clause-refused
returns-in_err-text-in-Reply-clause-refused c =
    let p = err_from_is_err_and c.from_residual-in_err-text-in-Reply.result c.from_residual-in_err-text-in-Reply.ensures.1 in
    rw (p.1, p.2) (reply_refused _ _ c.in-Reply.asked _ c.in-Reply.is c.in_err-text-in-Reply.ensures.refused)

pub returns-in_ok-text-in-List-clause-done : goal.returns-in_ok-text-in-List-clause-done
returns-in_ok-text-in-List-clause-done c = list_did _ _ _ c.in-List.is c.in_ok-text-in-List.ensures.listed

pub returns-then-good-clause-done : goal.returns-then-good-clause-done
returns-then-good-clause-done c = check_good _ _ _ _ c.in-Check.is c.in_ok-text-in-Check.ensures.checked c.if-good.true

pub returns-else-good-clause-done : goal.returns-else-good-clause-done
returns-else-good-clause-done c = check_bad _ _ _ _ c.in-Check.is c.in_ok-text-in-Check.ensures.checked c.if-good.false

pub returns-in_ok-text-in-Reply-clause-done : goal.returns-in_ok-text-in-Reply-clause-done
returns-in_ok-text-in-Reply-clause-done c = reply_did _ _ c.in-Reply.asked _ c.in-Reply.is c.in_ok-text-in-Reply.ensures.replied
