-- A line that is written into an array, part by part.
use Rattle.std.proofs.Common.{◌≡◌, ℕ, suc, ◌+◌, ◌-◌, ◌≤◌, List, [], ◌∷◌, ◌++◌, length, get_or, set, drop, drop-cons, sym, ap, ◌∙◌, arith, append_assoc}
use Rattle.std.proofs.lemmas.List.{length-append, take_at, drop_at, drop-drop, drop_all, set_at}
use borrow.Rule.Slice.PartMut.{put_mid}

-- the part after what was written is written
put_after : (front old part : List ℕ) (at n : ℕ) → length front ≡ at
    → put_mid at n (front ++ drop at old) part ≡ (front ++ part) ++ drop (at + n) old
put_after front old part at n count =
    rw (take_at front (drop at old) at count, drop_at front (drop at old) at count, drop-drop n at old)
    (sym (append_assoc front part (drop (at + n) old)))

-- the last byte of a list
last_is : (old : List ℕ) (at : ℕ) → at + 1 ≡ length old → drop at old ≡ get_or old at 0 ∷ []
last_is old at count =
    drop-cons old at 0 (omega arith) ∙ ap (λ rest. get_or old at 0 ∷ rest) (drop_all (suc at) old (omega arith))

-- the body, the check, the zeros and the mark
pub written : (old body check zeros : List ℕ) (mark : ℕ) → 44 ≤ length old → length body ≡ 35 → length check ≡ 8
    → length zeros ≡ length old - 44
    → set (put_mid 43 (length old - 1 - 43) (put_mid 35 8 (body ++ drop 35 old) check) zeros) (length old - 1) mark
    ≡ body ++ check ++ zeros ++ mark ∷ []
written old body check zeros mark room size eight rest =
    let at : ℕ = length old - 1 in
    let front : List ℕ = body ++ check ++ zeros in
    let count : length front ≡ at = omega (arith, length-append (body ++ check) zeros, length-append body check) in
    let end : 43 + (length old - 1 - 43) ≡ at = omega arith in
    ap (λ xs. set (put_mid 43 (at - 43) xs zeros) at mark) (put_after body old check 35 8 size)
    ∙ ap (λ xs. set xs at mark) (put_after (body ++ check) old zeros 43 (at - 43) (omega (arith, length-append body check)))
    ∙ ap (λ k. set (front ++ drop k old) at mark) end
    ∙ ap (λ xs. set (front ++ xs) at mark) (last_is old at (omega arith))
    ∙ set_at front (get_or old at 0) [] mark at count
