-- Pieces that are added to a text one after the other
use Rattle.std.proofs.Common.{◌≡◌, ℕ, List, ◌++◌, append_assoc}

pub four_added : (text a b c d t1 t2 t3 t4 : List ℕ) → t1 ≡ text ++ a → t2 ≡ t1 ++ b → t3 ≡ t2 ++ c → t4 ≡ t3 ++ d
    → t4 ≡ text ++ (a ++ (b ++ (c ++ d)))
four_added text a b c d t1 t2 t3 t4 p q r s = rw (s, r, q, p) (simp append_assoc)

pub five_added : (text a b c d e t1 t2 t3 t4 t5 : List ℕ) → t1 ≡ text ++ a → t2 ≡ t1 ++ b → t3 ≡ t2 ++ c → t4 ≡ t3 ++ d → t5 ≡ t4 ++ e
    → t5 ≡ text ++ (a ++ (b ++ (c ++ (d ++ e))))
five_added text a b c d e t1 t2 t3 t4 t5 p q r s t = rw (t, s, r, q, p) (simp append_assoc)
