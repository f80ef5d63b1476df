use Rattle.std.proofs.Common.{◌≡◌, ◌∙◌, ap, sym, subst, filter}
use Rattle.std.proofs.lemmas.List.Sorted.{IsPermutation-refl}
use Rattle.std.proofs.lemmas.Result.{IfOk-weaker}
use Rattle.ledger_rows.specs.Lists.{is_unconfirmed}
use Rattle.ledger_rows.proofs.lists.listed_rows.Goals as goal

pub returns-in-History : goal.returns-in-History
returns-in-History c = rw c.in-History.is (IsPermutation-refl _)

pub returns-in-Open : goal.returns-in-Open
returns-in-Open c =
    rw c.in-Open.is (IfOk-weaker c.open_rows.result _ _ (λ listed is. (
      c.args.rows.items,
      IsPermutation-refl _,
      is ∙ ap (λ xs. filter (is_unconfirmed xs) xs) c.as_slice.ensures.value,
    )) c.open_rows.ensures)
