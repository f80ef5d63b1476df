-- Bytes written to the beginning of 64 zeros.
use Rattle.std.proofs.Common.{◌≡◌, ◌≤◌, ◌-◌, ◌++◌, ℕ, List, length, take, drop, replicate, sym, ap, subst, ◌∙◌}
use Rattle.std.proofs.Math.Seq.{take-append_seam}
use Rattle.std.proofs.lemmas.List.{drop-replicate, take-replicate}
use Rattle.basics.specs.Padded.{IsPadded}

written : (xs : List ℕ) → IsPadded (xs ++ drop (length xs) (replicate 64 0)) (length xs)
written xs =
    let seam = take-append_seam xs (drop (length xs) (replicate 64 0)) in
    record {
      size = ap length seam;
      zeros = ap (λ t. t ++ replicate (64 - length xs) 0) seam ∙ ap (λ t. xs ++ t) (sym (drop-replicate (length xs) 64 0));
    }

-- what was copied is the bytes
pub padded : (front xs : List ℕ) → front ≡ xs → IsPadded (front ++ drop (length xs) (replicate 64 0)) (length xs)
padded front xs copied =
    subst (λ (t : List ℕ). IsPadded (t ++ drop (length xs) (replicate 64 0)) (length xs)) (sym copied) (written xs)

-- the first of 64 zeros
pub first_zeros : (len : ℕ) → len ≤ 64 → take {A = ℕ} len (replicate 64 0) ≡ replicate len 0
first_zeros len le = take-replicate len 64 0 le

-- what was written over them
pub written_over : (bytes : List ℕ) (len : ℕ) → length bytes ≡ len → IsPadded (bytes ++ drop len (replicate 64 0)) len
written_over bytes len e = subst (λ n. IsPadded (bytes ++ drop n (replicate 64 0)) n) e (written bytes)

pub written_front : (bytes : List ℕ) (len : ℕ) → length bytes ≡ len → take len (bytes ++ drop len (replicate 64 0)) ≡ bytes
written_front bytes len e = subst (λ n. take n (bytes ++ drop n (replicate 64 0)) ≡ bytes) e (take-append_seam bytes (drop (length bytes) (replicate 64 0)))
