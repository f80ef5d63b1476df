-- Pieces that are added to a text one after the other
use Rattle.std.proofs.Common.{◌≡◌, ℕ, List, ◌++◌, append_assoc}

pub six_added : (text a b c d e f t1 t2 t3 t4 t5 t6 : List ℕ) → t1 ≡ text ++ a → t2 ≡ t1 ++ b → t3 ≡ t2 ++ c → t4 ≡ t3 ++ d → t5 ≡ t4 ++ e
    → t6 ≡ t5 ++ f → t6 ≡ text ++ (a ++ (b ++ (c ++ (d ++ (e ++ f)))))
six_added text a b c d e f t1 t2 t3 t4 t5 t6 p q r s t u = rw (u, t, s, r, q, p) (simp append_assoc)
