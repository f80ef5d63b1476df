-- Parts that were added to a text one after the other
use Rattle.std.proofs.Common.{◌≡◌, ℕ, List, ◌++◌, ◌∙◌, ap, append_assoc}

pub three_parts : (o a b c t1 t2 t3 : List ℕ) → t1 ≡ o ++ a → t2 ≡ t1 ++ b → t3 ≡ t2 ++ c → t3 ≡ o ++ ((a ++ b) ++ c)
three_parts o a b c t1 t2 t3 p q r =
    r
    ∙ ap (λ (x : List ℕ). x ++ c) (q ∙ ap (λ (x : List ℕ). x ++ b) p ∙ append_assoc o a b)
    ∙ append_assoc o (a ++ b) c

pub four_parts : (o a b c d t1 t2 t3 t4 : List ℕ) → t1 ≡ o ++ a → t2 ≡ t1 ++ b → t3 ≡ t2 ++ c → t4 ≡ t3 ++ d
    → t4 ≡ o ++ (((a ++ b) ++ c) ++ d)
four_parts o a b c d t1 t2 t3 t4 p q r s =
    s ∙ ap (λ (x : List ℕ). x ++ d) (three_parts o a b c t1 t2 t3 p q r) ∙ append_assoc o ((a ++ b) ++ c) d

pub five_parts : (o a b c d e t1 t2 t3 t4 t5 : List ℕ) → t1 ≡ o ++ a → t2 ≡ t1 ++ b → t3 ≡ t2 ++ c → t4 ≡ t3 ++ d → t5 ≡ t4 ++ e
    → t5 ≡ o ++ ((((a ++ b) ++ c) ++ d) ++ e)
five_parts o a b c d e t1 t2 t3 t4 t5 p q r s t =
    t
    ∙ ap (λ (x : List ℕ). x ++ e) (s ∙ ap (λ (x : List ℕ). x ++ d) (r ∙ ap (λ (x : List ℕ). x ++ c) (q ∙ ap (λ (x : List ℕ). x ++ b) p)))
    ∙ ap (λ (x : List ℕ). ((x ++ c) ++ d) ++ e) (append_assoc o a b)
    ∙ ap (λ (x : List ℕ). (x ++ d) ++ e) (append_assoc o (a ++ b) c)
    ∙ ap (λ (x : List ℕ). x ++ e) (append_assoc o ((a ++ b) ++ c) d)
    ∙ append_assoc o (((a ++ b) ++ c) ++ d) e

pub six_parts : (o a b c d e f t1 t2 t3 t4 t5 t6 : List ℕ) → t1 ≡ o ++ a → t2 ≡ t1 ++ b → t3 ≡ t2 ++ c → t4 ≡ t3 ++ d → t5 ≡ t4 ++ e → t6 ≡ t5 ++ f
    → t6 ≡ o ++ (((((a ++ b) ++ c) ++ d) ++ e) ++ f)
six_parts o a b c d e f t1 t2 t3 t4 t5 t6 p q r s t u =
    u ∙ ap (λ (x : List ℕ). x ++ f) (five_parts o a b c d e t1 t2 t3 t4 t5 p q r s t) ∙ append_assoc o ((((a ++ b) ++ c) ++ d) ++ e) f

pub seven_parts : (o a b c d e f g t1 t2 t3 t4 t5 t6 t7 : List ℕ) → t1 ≡ o ++ a → t2 ≡ t1 ++ b → t3 ≡ t2 ++ c → t4 ≡ t3 ++ d → t5 ≡ t4 ++ e → t6 ≡ t5 ++ f → t7 ≡ t6 ++ g
    → t7 ≡ o ++ ((((((a ++ b) ++ c) ++ d) ++ e) ++ f) ++ g)
seven_parts o a b c d e f g t1 t2 t3 t4 t5 t6 t7 p q r s t u v =
    v ∙ ap (λ (x : List ℕ). x ++ g) (six_parts o a b c d e f t1 t2 t3 t4 t5 t6 p q r s t u) ∙ append_assoc o (((((a ++ b) ++ c) ++ d) ++ e) ++ f) g
