-- Digits that are added to a text.
use Rattle.std.proofs.Common.{◌≡◌, ℕ, List, ◌++◌, length, take, ◌∙◌, ap, arith}
use Rattle.std.proofs.lemmas.List.{take_all, take-append-le}

-- what is written after a text, over room that was added
pub written_behind : (text room digits : List ℕ) → take (length text) (text ++ room) ++ digits ≡ text ++ digits
written_behind text room digits = ap (λ l. l ++ digits) (take-append-le (length text) text room (omega arith) ∙ take_all (length text) text (omega arith))
