-- Bytes and the zero bytes after them, up to a length of CAN FD
use Rattle.std.proofs.Common.{◌≡◌, ℕ, ◌+◌, ◌-◌, ◌≤◌, Bool, true, false, cond, List, [], ◌∷◌, ◌++◌, length, take, refl, ap, ◌∙◌, arith}
use Rattle.std.specs.Prelude.{replicate, nat_le, find, unwrap_or, Option, None, Some}
use Rattle.std.proofs.lemmas.Bool.Decides.{nat_tests}
use Rattle.std.proofs.lemmas.List.{take-replicate}
use Rattle.std.proofs.Math.Seq.{take-append-add}
use Rattle.endpoint_commands.specs.Lines.{fd_length, padded}

-- a length that was found, or a later one, or the size itself is between the size and the most
abbrev Between : ℕ → ℕ → Option ℕ → Type 0
Between n most found = (n ≤ unwrap_or found n) × (unwrap_or found n ≤ most)

found_or : (b : Bool) (n most x : ℕ) (rest : Option ℕ) → nat_le n x ≡ b → x ≤ most → Between n most rest → Between n most (cond b (Some x) rest)
found_or true n most x rest is within more = ((let above : n ≤ x = grind (arith, nat_tests, is) in above), within)
found_or false n most x rest is within more = more

pub fd_bounds : (n : ℕ) → n ≤ 64 → (n ≤ fd_length n) × (fd_length n ≤ 64)
unfolding fd_length
fd_bounds n within =
    found_or (nat_le n 12) n 64 12 (find (λ k. nat_le n k) (16 ∷ 20 ∷ 24 ∷ 32 ∷ 48 ∷ 64 ∷ [])) refl (omega arith)
    (found_or (nat_le n 16) n 64 16 (find (λ k. nat_le n k) (20 ∷ 24 ∷ 32 ∷ 48 ∷ 64 ∷ [])) refl (omega arith)
    (found_or (nat_le n 20) n 64 20 (find (λ k. nat_le n k) (24 ∷ 32 ∷ 48 ∷ 64 ∷ [])) refl (omega arith)
    (found_or (nat_le n 24) n 64 24 (find (λ k. nat_le n k) (32 ∷ 48 ∷ 64 ∷ [])) refl (omega arith)
    (found_or (nat_le n 32) n 64 32 (find (λ k. nat_le n k) (48 ∷ 64 ∷ [])) refl (omega arith)
    (found_or (nat_le n 48) n 64 48 (find (λ k. nat_le n k) (64 ∷ [])) refl (omega arith)
    (found_or (nat_le n 64) n 64 64 None refl (omega arith)
    (omega arith, within)))))))

-- the first bytes of those that are filled up to 64
front_of : (bytes : List ℕ) (m : ℕ) → length bytes ≤ m → m ≤ 64 → take m (bytes ++ replicate (64 - length bytes) 0) ≡ bytes ++ replicate (m - length bytes) 0
front_of bytes m some most =
    let all : m ≡ length bytes + (m - length bytes) = omega (arith, some) in
    ap (λ n. take n (bytes ++ replicate (64 - length bytes) 0)) all
    ∙ take-append-add bytes (replicate (64 - length bytes) 0) (m - length bytes)
    ∙ ap (λ l. bytes ++ l) (take-replicate (m - length bytes) (64 - length bytes) 0 (omega (arith, some, most)))

pub padded_front : (bytes : List ℕ) → length bytes ≤ 64 → take (fd_length (length bytes)) (bytes ++ replicate (64 - length bytes) 0) ≡ padded bytes
padded_front bytes few = let bounds = fd_bounds (length bytes) few in front_of bytes (fd_length (length bytes)) bounds.0 bounds.1
