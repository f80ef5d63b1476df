use Rattle.std.proofs.Common.{◌≡◌, ◌∙◌, refl, sym, true, false}
use Rattle.slot_commands.proofs.Finds.{layout_as_wanted, layout_another}
use Rattle.slot_commands.proofs.checking.push_if_another.Goals as goal

pub returns-then-have_one_layout-clause-pushed : goal.returns-then-have_one_layout-clause-pushed
returns-then-have_one_layout-clause-pushed c = layout_as_wanted _ _ _ _ (c.have_one_layout.ensures.0 c.if-have_one_layout.true) refl

pub returns-in-Ok-clause-pushed : goal.returns-in-Ok-clause-pushed
returns-in-Ok-clause-pushed c =
    layout_another _ _ _ _
    (λ same. let clash : false ≡ true = sym c.if-have_one_layout.false ∙ c.have_one_layout.ensures.1 same in cc clash) c.in-Ok.ensures
