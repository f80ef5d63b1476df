-- The digits of two blocks
use Rattle.std.proofs.Common.{◌≡◌, ◌∙◌, ℕ, List, ◌++◌, ap, sym, length, get_or, append-nil}
use Rattle.std.specs.List.{flat_map}
use Rattle.hex.specs.Hex.{encode_lower}
use Rattle.memory_update.proofs.CallerLemmas.{list_of_two}

pub two_digits : (blocks : List (List ℕ)) (x y front back : List ℕ) → length blocks ≡ 2
    → front ≡ encode_lower (get_or blocks 0 x) → back ≡ encode_lower (get_or blocks 1 y) → front ++ back ≡ flat_map encode_lower blocks
two_digits blocks x y front back two front_is back_is =
    ap (λ a. a ++ back) front_is ∙ ap (λ b. encode_lower (get_or blocks 0 x) ++ b) (back_is ∙ sym (append-nil (encode_lower (get_or blocks 1 y))))
    ∙ ap (flat_map encode_lower) (sym (list_of_two blocks x y two))
