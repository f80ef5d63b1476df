use Rattle.std.proofs.Common.{[], map, sym, ap, ◌∙◌, arith}
use Rattle.std.specs.Prelude.{string_bytes}
use Rattle.std.proofs.lemmas.List.{get_or-map, length-set}
use Rattle.gateway_commands.specs.Words.{pair_form}
use Rattle.gateway_commands.proofs.Wording.{room_more}
use Rattle.gateway_commands.proofs.words.read_given.Goals as goal

pub loop-place-preserved : goal.loop-place-preserved
loop-place-preserved c = (
  length-set c.loop-place.room c.loop-place.place c.in-Some.pair ∙ c.loop-place.invariant.0,
  room_more (map string_bytes c.args.given.now) c.loop-place.room c.loop-place.place c.in-Some.pair
      (omega (arith, c.loop-place.invariant.0, c.requires, c.loop-place-test.true)) c.loop-place.invariant.1
      (ap pair_form (get_or-map string_bytes c.args.given.now c.loop-place.place c.index-given-place.result [] (omega (arith, c.loop-place-test.true))
      ∙ ap string_bytes (sym c.index-given-place.is) ∙ sym c.as_str.ensures.value) ∙ sym c.in-Some.ensures),
)
