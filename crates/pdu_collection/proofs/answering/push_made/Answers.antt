use Rattle.std.proofs.Common.{take, refl, subst}
use Rattle.hex.specs.Hex.{encode_lower}
use Rattle.pdu_collection.specs.Collection.{IsPartOf}
use Rattle.pdu_collection.specs.Answering.{made}
use Rattle.pdu_collection.proofs.Saying.{words_added}
use Rattle.pdu_collection.proofs.answering.push_made.Goals as goal

pub returns-in_ok-push-in-Some-2 : goal.returns-in_ok-push-in-Some-2
returns-in_ok-push-in-Some-2 c =
    let part = take c.in-Some.size c.part.new.out in
    let head = c.args.head.now in (
      made c.args.payload.now part,
      (c.in-Some.ensures.some, refl, subst (λ k. IsPartOf k head.id head.place c.args.payload.now c.args.freshness part) c.requires c.in-Some.ensures.part),
      words_added c.args.text.now.items (encode_lower c.args.payload.now) (encode_lower part) _ _ _ _
          c.in_ok-push_digits-in-Some.ensures.digits c.in_ok-push-in-Some.ensures.items c.in_ok-push_digits-in-Some-2.ensures.digits c.in_ok-push-in-Some-2.ensures.items,
    )
