-- Pieces that are added to a text.
use Rattle.std.proofs.Common.{◌≡◌, ℕ, List, ◌++◌, append_assoc}

-- five pieces, added one after the other
pub five_added : (text a b c d e t1 t2 t3 t4 t5 : List ℕ) → t1 ≡ text ++ a → t2 ≡ t1 ++ b → t3 ≡ t2 ++ c → t4 ≡ t3 ++ d → t5 ≡ t4 ++ e
    → t5 ≡ text ++ ((((a ++ b) ++ c) ++ d) ++ e)
five_added text a b c d e t1 t2 t3 t4 t5 p q r s t = rw (t, s, r, q, p) (simp append_assoc)
