use Rattle.std.proofs.Common.{◌≡◌, ◌<◌, ℕ, List, length, get_or, sym, ap, subst, ◌∙◌}
use Rattle.seal_parts.specs.declared.mem_part.MemUnit.{MemUnit}
use Rattle.seal_parts.specs.Parts.{PartUnit, MayAnswer, unit_after}
use Rattle.seal_parts.specs.Memory.{unit_in, unit_of}
use Rattle.seal_parts.proofs.ListLaws.{unit_set, unit_other, unit_get}
use Rattle.seal_parts.proofs.mem_part.see.Goals as goal

-- the unit that was read
unit_at : (us : List MemUnit) (i : ℕ) (w : MemUnit) → i < length us → w ≡ get_or us i w → unit_in us i ≡ unit_of w
unit_at us i w below is = unit_get us i w below ∙ ap unit_of (sym is)

pub returns-clause-rest : goal.returns-clause-rest
returns-clause-rest c k ne = unit_other c.args.held.now.items c.args.at k _ ne

pub returns-clause-may : goal.returns-clause-may
returns-clause-may c = subst (λ (u : PartUnit). MayAnswer c.args.class c.args.is_erased u c.answer_of-answer.result)
    (sym (unit_at c.args.held.now.items c.args.at c.index.result.now c.requires c.index.ensures)) c.answer_of-answer.ensures

pub returns-clause-now : goal.returns-clause-now
returns-clause-now c = unit_set c.args.held.now.items c.args.at _ c.requires
    ∙ (c.left_by.ensures ∙ ap (λ (u : PartUnit). unit_after c.args.class c.answer_of-answer.result u) (sym (unit_at c.args.held.now.items c.args.at c.index.result.now c.requires c.index.ensures)))
