-- A loop over a text that writes, at each place, the next item of what f gives of a state and the rest of the text.
use Rattle.std.proofs.Common.{◌≡◌, ◌<◌, ◌≤◌, ◌+◌, length, ℕ, List, [], ◌∷◌, take, drop, ◌++◌, set, get_or, sym, ap, ◌∙◌}
use Rattle.std.specs.List.{All}
use Rattle.std.proofs.lemmas.List.Elements.{All-push}
use Rattle.she_aes.specs.Cipher.{IsBlock}
use Rattle.std.proofs.lemmas.List.{take_more_set, append_assoc, append-nil, drop_more, take_all, drop_all}

-- one more item
pub chain_more : {S X : Type 0} (f : S → List X → List X) (s t : S) (whole out text : List X) (i : ℕ) (d y : X) → i < length out → i < length text → ((rest : List X) → f s (get_or text i d ∷ rest) ≡ y ∷ f t rest) → whole ≡ take i out ++ f s (drop i text) → whole ≡ take (i + 1) (set out i y) ++ f t (drop (i + 1) text)
chain_more f s t whole out text i d y in_out in_text step so_far =
    so_far
    ∙ ap (λ rest. take i out ++ f s rest) (drop_more text i d in_text)
    ∙ ap (λ rest. take i out ++ rest) (step (drop (i + 1) text))
    ∙ sym (append_assoc (take i out) (y ∷ []) (f t (drop (i + 1) text)))
    ∙ ap (λ front. front ++ f t (drop (i + 1) text)) (sym (take_more_set out i y in_out))

-- all of them
pub chain_all : {S X : Type 0} (f : S → List X → List X) (s : S) (whole out text : List X) (i : ℕ) → length out ≤ i → length text ≤ i → f s [] ≡ [] → whole ≡ take i out ++ f s (drop i text) → out ≡ whole
chain_all f s whole out text i past_out past_text end so_far =
    sym (so_far ∙ ap (λ rest. take i out ++ f s rest) (drop_all i text past_text) ∙ ap (λ rest. take i out ++ rest) end ∙ append-nil (take i out) ∙ take_all i out past_out)

-- one more block
pub blocks_more : (out : List (List ℕ)) (i : ℕ) (y : List ℕ) → i < length out → IsBlock y → All IsBlock (take i out) → All IsBlock (take (i + 1) (set out i y))
blocks_more out i y within is so_far =
    rw (take_more_set out i y within) (All-push IsBlock (take i out) y so_far is)

-- all of them
pub blocks_all : (out : List (List ℕ)) (i : ℕ) → length out ≤ i → All IsBlock (take i out) → All IsBlock out
blocks_all out i past so_far = rw (take_all i out past) at so_far
