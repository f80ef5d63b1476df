use Rattle.std.proofs.Common.{sym, ◌∙◌, arith}
use Rattle.std.specs.Prelude.{None}
use Rattle.std.specs.Cmp.Lexicographic.{same_text}
use Rattle.std.proofs.lemmas.Bool.{eqb-true}
use Rattle.std.proofs.lemmas.List.{get_or_default}
use Rattle.key_campaign.proofs.Founds.{found_here, found_nowhere}
use Rattle.key_campaign.proofs.places.find_in.Goals as goal

pub returns-then-eq-2 : goal.returns-then-eq-2
returns-then-eq-2 c =
    found_here c.args.uid.now c.args.id c.args.places.now c.loop-place.place c.loop-place.invariant c.in-Some.entry c.loop-place-test.true
    (get_or_default _ _ None c.index-places-place.result c.loop-place-test.true ∙ sym c.index-places-place.is ∙ c.in-Some.is) (same_text _ _ c.if-eq.ensures) (eqb-true _ _ (sym c.if-eq-2.ensures))

pub returns : goal.returns
returns c =
    found_nowhere c.args.uid.now c.args.id c.args.places.now c.loop-place.place c.loop-place.invariant (omega (arith, c.loop-place-test.false)) c.loop-place.auto.place-end
