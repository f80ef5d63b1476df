use Rattle.std.proofs.Common.{[], ◌∷◌, ◌++◌, codes, ap, ◌∙◌}
use Rattle.std.specs.Int.{w64}
use Rattle.basics.specs.Numbers.{bytes_of}
use Rattle.basics.proofs.CallerLemmas.{to_be_bytes-is}
use Rattle.hex.specs.Hex.{encode_lower}
use Rattle.secoc_words.proofs.Digits.{five_added}
use Rattle.secoc_words.proofs.verdicts.push_accepted.Goals as goal

pub returns-clause-outcome : goal.returns-clause-outcome
returns-clause-outcome c =
    five_added c.args.text.now.items (codes "VERIFICATIONSUCCESS ") (encode_lower (bytes_of 8 c.args.freshness)) (32 ∷ []) (encode_lower c.args.payload.now) (10 ∷ [])
    _ _ _ _ _ c.in_ok-extend_from_slice.ensures.items
    (c.in_ok-push_digits.ensures.digits ∙ ap (λ b. c.extend_from_slice.new.self.items ++ encode_lower b) (c.to_be_bytes.ensures ∙ to_be_bytes-is w64 c.args.freshness))
    c.in_ok-push.ensures.items c.in_ok-push_digits-2.ensures.digits c.in_ok-push-2.ensures.items
