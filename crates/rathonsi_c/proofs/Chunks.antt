-- A loop over a text of whole blocks that overwrites each block with what f gives of a state and the rest of the text.
use Rattle.std.proofs.Common.{◌≡◌, ◌<◌, ◌≤◌, ◌+◌, ◌-◌, ◌*◌, ◌/◌, length, ℕ, suc, List, [], ◌∷◌, take, drop, ◌++◌, sym, ap, ◌∙◌, arith}
use Rattle.std.specs.List.{concat}
use Rattle.std.specs.Simd.{first_chunks}
use Rattle.std.proofs.lemmas.List.{append_assoc, append-nil, take_all, drop-drop}

-- one more block: the text is `text` before, and `next` after
pub block_more : {S : Type 0} (f : S → List (List ℕ) → List (List ℕ)) (s t : S) (whole text next y : List ℕ) (i n : ℕ) → i < n → ((rest : List (List ℕ)) → f s (take 16 (drop (16 * i) text) ∷ rest) ≡ y ∷ f t rest) → take (16 * i + 16) next ≡ take (16 * i) text ++ y → drop (16 * i + 16) next ≡ drop (16 * i + 16) text → whole ≡ take (16 * i) text ++ concat (f s (first_chunks 16 (n - i) (drop (16 * i) text))) → whole ≡ take (16 * (i + 1)) next ++ concat (f t (first_chunks 16 (n - (i + 1)) (drop (16 * (i + 1)) next)))
block_more f s t whole text next y i n within step front rest so_far =
    let m : ℕ = n - (i + 1) in
    let back : List ℕ = drop (16 * i) text in
    let more : n - i ≡ suc m = omega (arith, within) in
    let here : 16 * i + 16 ≡ 16 * (i + 1) = omega arith in
    let after : drop 16 back ≡ drop (16 * i + 16) next = drop-drop 16 (16 * i) text ∙ sym rest in
    so_far
    ∙ ap (λ k. take (16 * i) text ++ concat (f s (first_chunks 16 k back))) more
    ∙ ap (λ blocks. take (16 * i) text ++ concat blocks) (step (first_chunks 16 m (drop 16 back)))
    ∙ sym (append_assoc (take (16 * i) text) y (concat (f t (first_chunks 16 m (drop 16 back)))))
    ∙ ap (λ done. done ++ concat (f t (first_chunks 16 m (drop 16 back)))) (sym front)
    ∙ ap (λ left. take (16 * i + 16) next ++ concat (f t (first_chunks 16 m left))) after
    ∙ ap (λ k. take k next ++ concat (f t (first_chunks 16 m (drop k next)))) here

-- all of them
pub blocks_done : {S : Type 0} (f : S → List (List ℕ) → List (List ℕ)) (s : S) (whole text : List ℕ) (i n : ℕ) → n ≤ i → length text ≤ 16 * i → f s [] ≡ [] → whole ≡ take (16 * i) text ++ concat (f s (first_chunks 16 (n - i) (drop (16 * i) text))) → text ≡ whole
blocks_done f s whole text i n past long end so_far =
    let none : n - i ≡ 0 = omega (arith, past) in
    sym (so_far
    ∙ ap (λ k. take (16 * i) text ++ concat (f s (first_chunks 16 k (drop (16 * i) text)))) none
    ∙ ap (λ blocks. take (16 * i) text ++ concat blocks) end
    ∙ append-nil (take (16 * i) text)
    ∙ take_all (16 * i) text long)

-- none of them yet
pub block_first : {S : Type 0} (f : S → List (List ℕ) → List (List ℕ)) (s : S) (text : List ℕ) → concat (f s (first_chunks 16 (length text / 16) text)) ≡ take (16 * 0) text ++ concat (f s (first_chunks 16 (length text / 16 - 0) (drop (16 * 0) text)))
block_first f s text =
    let whole : length text / 16 ≡ length text / 16 - 0 = omega arith in
    ap (λ k. concat (f s (first_chunks 16 k text))) whole
