-- The first byte of a cell tells whether its place has an entry.
use Rattle.std.proofs.Common.{refl, ap, arith}
use Rattle.std.specs.Prelude.{None, Some}
use Rattle.std.proofs.lemmas.Option.{none-some}
use Rattle.key_campaign.proofs.Parts.{first_is, empty_first}
use Rattle.key_campaign.proofs.cell.parts.Goals as goal

pub returns-in-0-clause-whole : goal.returns-in-0-clause-whole
returns-in-0-clause-whole c None h = refl
returns-in-0-clause-whole c (Some e) h = absurd (omega (arith, first_is _ _ h.cell_is, c.in-0.is))

pub returns-in-Some-clause-whole : goal.returns-in-Some-clause-whole
returns-in-Some-clause-whole c None h = absurd (omega (arith, empty_first _ h.cell_is, c.in-3.is))
returns-in-Some-clause-whole c (Some e) h = ap Some (c.in-Some.ensures.whole e h)

pub returns-in-None-clause-whole : goal.returns-in-None-clause-whole
returns-in-None-clause-whole c None h = absurd (omega (arith, empty_first _ h.cell_is, c.in-3.is))
returns-in-None-clause-whole c (Some e) h = absurd (none-some e (c.in-None.ensures.whole e h))

pub returns-in_default-clause-whole : goal.returns-in_default-clause-whole
returns-in_default-clause-whole c None h = absurd (omega (arith, empty_first _ h.cell_is))
returns-in_default-clause-whole c (Some e) h = absurd (omega (arith, first_is _ _ h.cell_is))
